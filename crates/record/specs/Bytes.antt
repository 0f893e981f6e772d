-- The bytes of a record, and its writer: for every input the answer, and the lent bytes after it.
-- Assumes nothing.
use Rattle.std.specs.Prelude.{ℕ, ◌+◌, ◌*◌, cond, List, [], ◌∷◌, ◌++◌, leb, length, get_or, take, drop}
use Rattle.std.proofs.lemmas.List.Edits.{sets}
use Rattle.refusal.specs.Told.{Told, accepted, refused, changed}
use Rattle.field.specs.Lists.{each}
use Rattle.numbers.specs.Form.{bytes_of}
use Rattle.trace.specs.declared.CircuitEvaluation.{CircuitEvaluation}
use Rattle.trace.specs.declared.RecordHeader.{RecordHeader}
use Rattle.trace.specs.Outcome.{Lent}
use Rattle.trace.specs.Output.{header_of}
use Rattle.trace.specs.Record.{record_wires, of_record, of_finalized}

-- "each wire as two elements and its count"
abbrev pub wire_numbers : List ℕ → List ℕ → ℕ → List ℕ
wire_numbers vs cs k = get_or vs (2 * k) 0 ∷ get_or vs (2 * k + 1) 0 ∷ get_or cs k 0 ∷ []

-- the cells of the READ nodes, and of the EVAL nodes behind them
abbrev pub read_cells : RecordHeader → Lent → List ℕ
read_cells h b = take (7 * h.num_read) b.nodes

abbrev pub eval_cells : RecordHeader → Lent → List ℕ
eval_cells h b = take (11 * h.num_eval) (drop (7 * h.num_read) b.nodes)

-- "ctx, clk, id_next; wire list length, each wire as two elements and its count; declared wires; READ list length and nodes; EVAL list length and nodes"
abbrev pub record_numbers : RecordHeader → Lent → List ℕ
record_numbers h b =
    (h.ctx ∷ h.clk ∷ h.id_next ∷ record_wires h ∷ each (wire_numbers b.values b.counts) (record_wires h))
    ++ ((record_wires h ∷ h.num_read ∷ read_cells h b)
    ++ (h.num_eval ∷ eval_cells h b))

-- the bytes of numbers, one after the other
unfoldable pub bytes_of_all : List ℕ → List ℕ
bytes_of_all [] = []
bytes_of_all (v ∷ vs) = bytes_of v ++ bytes_of_all vs

abbrev pub record_bytes : RecordHeader → Lent → List ℕ
record_bytes h b = bytes_of_all (record_numbers h b)

-- 24: "room lent for output too small"; it answers the number of bytes
unfoldable pub of_bytes : List ℕ → List ℕ → Told
of_bytes bytes out = cond (leb (length bytes) (length out)) (accepted (length bytes ∷ [])) (refused 24 0)

-- "21, 19, 6, 17", "then" "writer 24"
unfoldable pub write_into_answer : RecordHeader → Lent → List ℕ → Told
write_into_answer h b out = of_record h b (of_bytes (record_bytes h b) out)

abbrev pub written_into : RecordHeader → Lent → List ℕ → List ℕ
written_into h b out = changed (write_into_answer h b out) (sets out 0 (record_bytes h b)) out

-- "given a step state, 13 and 11 come before these"
unfoldable pub write_state_answer : CircuitEvaluation → Lent → List ℕ → Told
write_state_answer s b out = of_finalized s (write_into_answer (header_of s) b out)

abbrev pub written_state : CircuitEvaluation → Lent → List ℕ → List ℕ
written_state s b out = changed (write_state_answer s b out) (sets out 0 (record_bytes (header_of s) b)) out
