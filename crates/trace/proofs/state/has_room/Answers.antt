-- `trace::state::has_room` meets its contract.
-- Assumes nothing.
use borrow.Author.Rules.{rules}
use Rattle.trace.proofs.Tests.{short_values, short_counts, room_by_nodes}
use Rattle.trace.proofs.state.has_room.Goals as goal

pub returns-then-values-num_wires : goal.returns-then-values-num_wires
returns-then-values-num_wires c = short_values _ _ _ _ _ (search rules)

pub returns-then-counts-num_wires : goal.returns-then-counts-num_wires
returns-then-counts-num_wires c = short_counts _ _ _ _ _ (search rules)

pub returns : goal.returns
returns c = room_by_nodes _ _ _ _ _ (search rules) (search rules)
