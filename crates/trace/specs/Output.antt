-- The result of an evaluation: "13, 6, 11, 12, changing nothing".
-- Assumes nothing.
use Rattle.std.specs.Prelude.{ℕ, Result, ◌-◌, Bool, cond, ◌&&◌, List, [], ◌∷◌, eqb}
use Rattle.refusal.specs.Told.{Told, accepted, refused}
use Rattle.refusal.specs.Refusal.{told}
use Rattle.refusal.specs.declared.Refusal.{Refusal}
use Rattle.field.specs.Pair.{Pair}
use Rattle.trace.specs.declared.CircuitEvaluation.{CircuitEvaluation}
use Rattle.trace.specs.declared.RecordHeader.{RecordHeader}
use Rattle.trace.specs.Counts.{with_room}
use Rattle.trace.specs.State.{wires_of, made_of, sound, in_turn}
use Rattle.trace.specs.Outcome.{Lent, fits, value_at}

-- "a record header holds ctx, clk, num_read, num_eval (each u32) and id_next"
abbrev pub header_numbers : RecordHeader → List ℕ
header_numbers h = h.ctx ∷ h.clk ∷ h.num_read ∷ h.num_eval ∷ h.id_next ∷ []

abbrev pub header_of : CircuitEvaluation → RecordHeader
header_of s = record {
  ctx = s.ctx;
  clk = s.clk;
  num_read = s.num_read;
  num_eval = s.num_eval;
  id_next = s.id_next;
}

-- each case of an answer, by number, place and values
abbrev pub output_told : Result RecordHeader Refusal → Told
output_told = told header_numbers

abbrev pub is_zero : Pair → Bool
is_zero v = eqb v.c0 0 && eqb v.c1 0

unfoldable pub output_answer : CircuitEvaluation → Lent → Told
output_answer s b =
    in_turn (sound s)
    (with_room (fits s b)
    (cond (eqb (made_of s) (wires_of s))
    (cond (is_zero (value_at b.values (wires_of s - 1)))
    (accepted (header_numbers (header_of s)))
    (refused 12 0))
    (refused 11 0)))
