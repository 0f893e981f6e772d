-- Two accepted evaluations of one shape with different READ cells: `Unseen` is no empty statement.
-- Assumes nothing.
use Prim.Native.Nat.{ℕ, zero, suc, ◌-◌, ◌≤◌}
use mathlib.Core.Path.{◌≡◌, refl}
use mathlib.Core.List.{List, [], ◌∷◌}
use native.Mathlib.Omega.{arith}
use lib.ListN.{get_or}
use Rattle.refusal.specs.Told.{accepted, refused}
use Rattle.field.specs.Field.{p, first_over}
use Rattle.field.specs.Answer.{of_elements}
use Rattle.field.proofs.Over.{over_below}
use Rattle.instruction.specs.Decode.{decode_answer}
use Rattle.trace.specs.Counts.{room}
use Rattle.eval_circuit.specs.Circuit.{value_by, gate_answer, gates_answer}
use Rattle.eval_circuit.specs.Evaluated.{of_region, of_cells, eval_answer, eval_buffers}
use Rattle.field.specs.Lists.{each}
use Rattle.eval_circuit.specs.Listing.{memory, before, answered}
use Rattle.eval_circuit.proofs.Accepted.{header}
use Rattle.eval_circuit.proofs.Shape.{Alike}
use Rattle.eval_circuit.proofs.Secrets.{SameRecord, unseen}

-- document 01's listing with other READ cells; its circuit, ((v0 + v1) - (v0 + v1)) * (v0 * v1), is zero for all
abbrev pub other : List ℕ
other = 5 ∷ 1 ∷ 6 ∷ 2 ∷ 2305843013508661253 ∷ 1152921508901814277 ∷ 3221225475 ∷ 1152921506754330625 ∷ []

pub other_answered : eval_answer 0 7 0 2 4 other before ≡ accepted (0 ∷ 7 ∷ 1 ∷ 4 ∷ (p - 1) ∷ [])
unfolding eval_answer of_region of_cells room first_over gates_answer gate_answer decode_answer of_elements value_by
other_answered = refl

-- the values do tell them apart: the listing has 3 0 4 0 7 0 12 0 (`valued`)
pub other_values : (eval_buffers 0 7 0 2 4 other before).values ≡ 5 ∷ 1 ∷ 6 ∷ 2 ∷ 11 ∷ 3 ∷ 44 ∷ 16 ∷ 0 ∷ 0 ∷ 0 ∷ 0 ∷ 9 ∷ []
unfolding eval_buffers eval_answer of_region of_cells room first_over gates_answer gate_answer decode_answer of_elements value_by each
other_values = refl

-- cells past the fourth are the same
words : (a : ℕ) → 4 ≤ a → get_or memory a 0 ≡ get_or other a 0
words zero h = absurd (omega arith)
words (suc zero) h = absurd (omega arith)
words (suc (suc zero)) h = absurd (omega arith)
words (suc (suc (suc zero))) h = absurd (omega arith)
words (suc (suc (suc (suc a)))) h = refl

-- and all are elements
memory-elements : first_over memory ≡ 8
unfolding first_over
memory-elements = refl

other_elements : first_over other ≡ 8
unfolding first_over
other_elements = refl

pub twins : Alike 0 2 4 memory other
twins = record {
  same_length = refl;
  same_words = (λ a l h. words a (omega arith));
  first_reads = (λ a l h. over_below memory a (omega (arith, memory-elements)));
  second_reads = (λ a l h. over_below other a (omega (arith, other_elements)));
}

pub twins_same : SameRecord 2 4 (header 0 7 2 4) (header 0 7 2 4) (eval_buffers 0 7 0 2 4 memory before) (eval_buffers 0 7 0 2 4 other before)
twins_same = (unseen 0 7 0 2 4 memory other before twins).accepted_alike _ _ answered other_answered

-- a shape that tells its READ cells apart, by 12 alone: (v0 - v1) to the eighth power
abbrev power : List ℕ
power = 4294967301 ∷ 1152921507828072451 ∷ 1152921506754330626 ∷ 1152921505680588801 ∷ []

pub equal_accepted : eval_answer 0 7 0 2 4 (3 ∷ 0 ∷ 3 ∷ 0 ∷ power) before ≡ accepted (header 0 7 2 4)
unfolding eval_answer of_region of_cells room first_over gates_answer gate_answer decode_answer of_elements value_by
equal_accepted = refl

pub unequal_refused : eval_answer 0 7 0 2 4 (3 ∷ 0 ∷ 4 ∷ 0 ∷ power) before ≡ refused 12 0
unfolding eval_answer of_region of_cells room first_over gates_answer gate_answer decode_answer of_elements value_by
unequal_refused = refl
