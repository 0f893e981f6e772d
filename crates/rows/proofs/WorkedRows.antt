-- Two READ rows with unequal multiplicities, worked out: the listing has one READ row, whose m_0 and m_1 are equal.
-- Assumes nothing.
use Prim.Native.Nat.{ℕ, ◌-◌}
use mathlib.Core.Path.{◌≡◌, refl, ◌∙◌}
use mathlib.Core.List.{List, [], ◌∷◌}
use lib.ListN.{replicate}
use Rattle.refusal.specs.Told.{accepted}
use Rattle.field.specs.Lists.{each}
use Rattle.field.specs.Field.{p, first_over}
use Rattle.field.specs.Answer.{of_elements}
use Rattle.instruction.specs.Decode.{decode_answer}
use Rattle.trace.specs.Counts.{room}
use Rattle.trace.specs.Outcome.{Lent, lent}
use Rattle.eval_circuit.specs.Circuit.{value_by, named_by, gate_answer, gates_answer}
use Rattle.eval_circuit.specs.Evaluated.{circuit_at, of_region, of_cells, eval_answer, eval_buffers}
use Rattle.rows.specs.Rows.{record_rows}
use Rattle.rows.specs.ByWire.{circuit_rows}
use Rattle.rows.proofs.AcceptedRecord.{eval_header}
use Rattle.rows.proofs.EvaluatedRows.{rows_by_wire}

-- from address 4 on: v0, v1, v2, v3, then v0 + v0, v1 * v2, their second minus itself, and that times v2
abbrev pub memory : List ℕ
memory = 0 ∷ 0 ∷ 0 ∷ 0 ∷ 3 ∷ 0 ∷ 4 ∷ 0 ∷ 5 ∷ 1 ∷ 6 ∷ 2 ∷ 2305843016729886727 ∷ 1152921509975556102 ∷ 2147483650 ∷ 1152921509975556097 ∷ []

abbrev pub before : Lent
before = lent (replicate 16 9) (replicate 8 9) (replicate 58 9)

abbrev pub worked : List ℕ
worked =
    1 ∷ 0 ∷ 2 ∷ 4 ∷ 9 ∷ 0 ∷ 7 ∷ 3 ∷ 0 ∷ 6 ∷ 4 ∷ 0 ∷ 3 ∷ 0 ∷ 1 ∷ 2
    ∷ 0 ∷ 0 ∷ 2 ∷ 8 ∷ 9 ∷ 0 ∷ 5 ∷ 5 ∷ 1 ∷ 4 ∷ 6 ∷ 2 ∷ 3 ∷ 0 ∷ 0 ∷ 2
    ∷ 0 ∷ 1 ∷ 2 ∷ 12 ∷ 9 ∷ 1 ∷ 3 ∷ 6 ∷ 0 ∷ 7 ∷ 3 ∷ 0 ∷ 7 ∷ 3 ∷ 0 ∷ 0
    ∷ 0 ∷ 1 ∷ 2 ∷ 13 ∷ 9 ∷ 0 ∷ 2 ∷ 20 ∷ 4 ∷ 6 ∷ 4 ∷ 0 ∷ 5 ∷ 5 ∷ 1 ∷ 2
    ∷ 0 ∷ 1 ∷ 2 ∷ 14 ∷ 9 ∷ 18446744069414584320 ∷ 1 ∷ 0 ∷ 0 ∷ 2 ∷ 20 ∷ 4 ∷ 2 ∷ 20 ∷ 4 ∷ 1
    ∷ 0 ∷ 1 ∷ 2 ∷ 15 ∷ 9 ∷ 0 ∷ 0 ∷ 0 ∷ 0 ∷ 1 ∷ 0 ∷ 0 ∷ 5 ∷ 5 ∷ 1 ∷ 0 ∷ []

pub answered : eval_answer 2 9 4 4 4 memory before ≡ accepted (2 ∷ 9 ∷ 2 ∷ 4 ∷ (p - 1) ∷ [])
unfolding eval_answer of_region of_cells room first_over gates_answer gate_answer decode_answer of_elements value_by
answered = refl

-- straight from the circuit
pub by_wire : circuit_rows 2 9 4 (circuit_at memory 4 4 4) ≡ worked
unfolding each value_by named_by
by_wire = refl

-- and of the record that the evaluation leaves
pub by_record : record_rows (eval_header 2 9 4 4) (eval_buffers 2 9 4 4 4 memory before) ≡ worked
by_record = rows_by_wire 2 9 4 4 4 memory before (eval_header 2 9 4 4) answered ∙ by_wire
