-- Row fill: for every input the answer, and the row buffer after it.
-- Assumes nothing.
use Rattle.std.specs.Prelude.{Result, ℕ, ◌+◌, ◌*◌, cond, List, [], leb, length}
use Rattle.std.proofs.lemmas.List.Edits.{sets}
use Rattle.refusal.specs.Told.{Told, accepted, refused, changed}
use Rattle.refusal.specs.Refusal.{told, nothing}
use Rattle.refusal.specs.declared.Refusal.{Refusal}
use Rattle.trace.specs.declared.CircuitEvaluation.{CircuitEvaluation}
use Rattle.trace.specs.declared.RecordHeader.{RecordHeader}
use Rattle.trace.specs.Outcome.{Lent}
use Rattle.trace.specs.Output.{header_of}
use Rattle.trace.specs.Record.{of_record, of_finalized}
use Rattle.rows.specs.Rows.{record_rows}

-- each case of an answer, by number, place and values
abbrev pub fill_told : Result Unit Refusal → Told
fill_told = told nothing

-- 14: "row buffer shorter than 16·(offset + rows)"
unfoldable pub of_rows : ℕ → ℕ → ℕ → Told → Told
of_rows offset num-rows len t = cond (leb (16 * (offset + num-rows)) len) t (refused 14 0)

abbrev pub num_rows : RecordHeader → ℕ
num_rows h = h.num_read + h.num_eval

-- "21, 19, 6, 17", "then fill 14"
unfoldable pub fill_answer : RecordHeader → Lent → ℕ → List ℕ → Told
fill_answer h b offset rows = of_record h b (of_rows offset (num_rows h) (length rows) (accepted []))

-- "every cell of the named rows is written; other rows stay"
abbrev pub rows_written : RecordHeader → Lent → ℕ → List ℕ → List ℕ
rows_written h b offset rows = sets rows (16 * offset) (record_rows h b)

abbrev pub filled_rows : RecordHeader → Lent → ℕ → List ℕ → List ℕ
filled_rows h b offset rows = changed (fill_answer h b offset rows) (rows_written h b offset rows) rows

-- "given a step state, 13 and 11 come before these"
unfoldable pub fill_state_answer : CircuitEvaluation → Lent → ℕ → List ℕ → Told
fill_state_answer s b offset rows = of_finalized s (fill_answer (header_of s) b offset rows)

abbrev pub state_rows : CircuitEvaluation → Lent → ℕ → List ℕ → List ℕ
state_rows s b offset rows = changed (fill_state_answer s b offset rows) (rows_written (header_of s) b offset rows) rows
