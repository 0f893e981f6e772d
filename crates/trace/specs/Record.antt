-- A record: the header, and the lent buffers that hold its wires and nodes.
-- Assumes nothing.
use Rattle.std.specs.Prelude.{ℕ, Result, ◌*◌, Bool, cond, ◌&&◌, List, ltb, leb, eqb, length, take}
use Rattle.refusal.specs.Told.{Told, accepted, refused}
use Rattle.refusal.specs.Refusal.{told, nothing}
use Rattle.refusal.specs.declared.Refusal.{Refusal}
use Rattle.field.specs.Field.{p, first_over}
use Rattle.trace.specs.declared.CircuitEvaluation.{CircuitEvaluation}
use Rattle.trace.specs.declared.RecordHeader.{RecordHeader}
use Rattle.trace.specs.Counts.{wires, node_cells, room, with_room}
use Rattle.trace.specs.State.{wires_of, made_of, sound, in_turn}
use Rattle.trace.specs.Outcome.{Lent}
use Rattle.trace.specs.Output.{header_numbers, header_of}

-- each case of an answer, by number, place and values
abbrev pub tested_told : Result Unit Refusal → Told
tested_told = told nothing

abbrev pub header_told : Result RecordHeader Refusal → Told
header_told = told header_numbers

-- 19: "over 1,073,741,823 wires"
abbrev pub most_record_wires : ℕ
most_record_wires = 1073741823

abbrev pub record_wires : RecordHeader → ℕ
record_wires h = wires h.num_read h.num_eval

abbrev pub record_cells : RecordHeader → ℕ
record_cells h = node_cells h.num_read h.num_eval

-- whether the first n cells are elements
unfoldable pub elements : ℕ → List ℕ → Bool
elements n xs = leb n (first_over (take n xs))

-- "a used value or node cell, or id_next, p or more", or not
unfoldable pub in_field : RecordHeader → Lent → Bool
in_field h b =
    elements (2 * record_wires h) b.values
    && (elements (record_cells h) b.nodes
    && ltb h.id_next p)

-- "21, 19, 6, 17"; t where none of them is given
unfoldable pub of_record : RecordHeader → Lent → Told → Told
of_record h b t =
    cond (eqb h.num_eval 0) (refused 21 0)
    (cond (ltb most_record_wires (record_wires h)) (refused 19 0)
    (with_room (room h.num_read h.num_eval (length b.values) (length b.counts) (length b.nodes))
    (cond (in_field h b) t (refused 17 0))))

-- "given a step state, 13 and 11 come before these"
unfoldable pub of_finalized : CircuitEvaluation → Told → Told
of_finalized s t = in_turn (sound s) (cond (eqb (made_of s) (wires_of s)) t (refused 11 0))

abbrev pub finalized_answer : CircuitEvaluation → Told
finalized_answer s = of_finalized s (accepted (header_numbers (header_of s)))
