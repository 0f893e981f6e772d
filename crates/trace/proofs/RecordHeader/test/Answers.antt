-- `trace::RecordHeader::test` meets its contract.
-- Assumes nothing.
use Rattle.std.proofs.Common.{sym, ◌∙◌, rules}
use Rattle.trace.proofs.Records.{value_out, node_out, id_out, all_in, no_eval_node, over_wires, record_short, out_of_field, in_order}
use Rattle.trace.proofs.RecordHeader.test.Goals as goal

pub returns-then-self-eq0 : goal.returns-then-self-eq0
returns-then-self-eq0 c = no_eval_node _ _ _ (search rules)

pub returns-then-num_wires : goal.returns-then-num_wires
returns-then-num_wires c = over_wires _ _ _ (search rules) (search rules)

pub returns-then-not-has_room : goal.returns-then-not-has_room
returns-then-not-has_room c = record_short _ _ _ (search rules) (search rules) (sym c.has_room.ensures ∙ c.if-not-has_room.true)

pub returns-then-first_over-num_wires : goal.returns-then-first_over-num_wires
returns-then-first_over-num_wires c = out_of_field _ _ _ (search rules) (search rules) (sym c.has_room.ensures ∙ c.if-not-has_room.false) (value_out _ _ _ c.first_over.ensures (search rules))

pub returns-then-first_over-cells : goal.returns-then-first_over-cells
returns-then-first_over-cells c = out_of_field _ _ _ (search rules) (search rules) (sym c.has_room.ensures ∙ c.if-not-has_room.false) (node_out _ _ _ c.first_over-2.ensures (search rules))

pub returns-then-self-ge-P : goal.returns-then-self-ge-P
returns-then-self-ge-P c = out_of_field _ _ _ (search rules) (search rules) (sym c.has_room.ensures ∙ c.if-not-has_room.false) (id_out _ _ (search rules))

pub returns : goal.returns
returns c =
    in_order _ _ _ (search rules) (search rules) (sym c.has_room.ensures ∙ c.if-not-has_room.false)
    (all_in _ _ _ _ c.first_over.ensures (search rules) c.first_over-2.ensures (search rules) (search rules))
