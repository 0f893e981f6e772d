-- The rows of document 01's listing, worked out from the definitions.
-- Assumes nothing.
use Rattle.std.specs.Prelude.{ℕ, ◌-◌, ◌≡◌, refl, List, [], ◌∷◌, ◌++◌, replicate}
use Rattle.refusal.specs.Told.{refused}
use Rattle.field.specs.Lists.{each}
use Rattle.field.specs.Field.{p, first_over}
use Rattle.field.specs.Answer.{of_elements}
use Rattle.instruction.specs.Decode.{decode_answer}
use Rattle.trace.specs.declared.RecordHeader.{RecordHeader}
use Rattle.trace.specs.Counts.{room}
use Rattle.trace.specs.Outcome.{Lent}
use Rattle.trace.specs.Record.{elements, in_field, of_record}
use Rattle.eval_circuit.specs.Circuit.{value_by, named_by, gate_answer, gates_answer}
use Rattle.eval_circuit.specs.Evaluated.{circuit_at, of_region, of_cells, eval_answer, eval_buffers}
use Rattle.eval_circuit.specs.Listing.{memory, before}
use Rattle.rows.specs.Fill.{of_rows, fill_answer, filled_rows}
use Rattle.rows.specs.ByWire.{circuit_rows}

abbrev pub listed : List ℕ
listed =
    1 ∷ 0 ∷ 0 ∷ 0 ∷ 7 ∷ 0 ∷ 5 ∷ 3 ∷ 0 ∷ 4 ∷ 4 ∷ 0 ∷ 3 ∷ 0 ∷ 2 ∷ 2
    ∷ 0 ∷ 1 ∷ 0 ∷ 4 ∷ 7 ∷ 1 ∷ 3 ∷ 7 ∷ 0 ∷ 5 ∷ 3 ∷ 0 ∷ 4 ∷ 4 ∷ 0 ∷ 2
    ∷ 0 ∷ 1 ∷ 0 ∷ 5 ∷ 7 ∷ 0 ∷ 2 ∷ 12 ∷ 0 ∷ 5 ∷ 3 ∷ 0 ∷ 4 ∷ 4 ∷ 0 ∷ 1
    ∷ 0 ∷ 1 ∷ 0 ∷ 6 ∷ 7 ∷ 18446744069414584320 ∷ 1 ∷ 0 ∷ 0 ∷ 3 ∷ 7 ∷ 0 ∷ 3 ∷ 7 ∷ 0 ∷ 1
    ∷ 0 ∷ 1 ∷ 0 ∷ 7 ∷ 7 ∷ 0 ∷ 0 ∷ 0 ∷ 0 ∷ 1 ∷ 0 ∷ 0 ∷ 2 ∷ 12 ∷ 0 ∷ 0 ∷ []

-- straight from the circuit
pub by_wire : circuit_rows 0 7 0 (circuit_at memory 0 2 4) ≡ listed
unfolding each value_by named_by
by_wire = refl

abbrev pub header : RecordHeader
header = record { ctx = 0; clk = 7; num_read = 1; num_eval = 4; id_next = p - 1 }

abbrev pub evaluated : Lent
evaluated = eval_buffers 0 7 0 2 4 memory before

-- filled from what the evaluation leaves, at the second row of seven
pub filled : filled_rows header evaluated 1 (replicate 112 9) ≡ replicate 16 9 ++ (listed ++ replicate 16 9)
unfolding fill_answer of_record room in_field elements first_over of_rows
    eval_buffers eval_answer of_region of_cells gates_answer gate_answer decode_answer of_elements value_by named_by each
filled = refl

-- a cell of room less
pub no_room : fill_answer header evaluated 1 (replicate 95 9) ≡ refused 14 0
unfolding fill_answer of_record room in_field elements first_over of_rows
    eval_buffers eval_answer of_region of_cells gates_answer gate_answer decode_answer of_elements value_by named_by each
no_room = refl
