-- `trace::nodes::EvalNode::put` meets its contract.
-- Assumes nothing.
use mathlib.Core.Path.{◌∙◌}
use borrow.Author.Rules.{rules}
use Rattle.buffer.proofs.Storing.{stored_all}
use Rattle.trace.specs.Inside.{eval_cells}
use Rattle.trace.proofs.nodes.EvalNode.put.Goals as goal

pub returns : goal.returns
returns c =
    let a = c.args in
    c.put.ensures ∙ stored_all (eval_cells a.self) a.at a.nodes.now (search rules)
