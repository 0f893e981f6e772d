-- `trace::CircuitEvaluation::is_next` meets its contract.
-- Assumes nothing.
use borrow.Author.Rules.{rules}
use Rattle.trace.proofs.Tests.{too_large, by_id}
use Rattle.trace.proofs.CircuitEvaluation.is_next.Goals as goal

pub returns-then-num_wires : goal.returns-then-num_wires
returns-then-num_wires c = too_large c.args.self _ c.num_wires-num_wires.ensures (search rules)

pub returns : goal.returns
returns c = by_id c.args.self _ _ c.num_wires-num_wires.ensures c.made.ensures (search rules) (search rules)
