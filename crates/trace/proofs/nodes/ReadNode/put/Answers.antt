-- `trace::nodes::ReadNode::put` meets its contract.
-- Assumes nothing.
use mathlib.Core.Path.{◌∙◌}
use borrow.Author.Rules.{rules}
use Rattle.buffer.proofs.Storing.{stored_all}
use Rattle.trace.specs.Inside.{read_cells}
use Rattle.trace.proofs.nodes.ReadNode.put.Goals as goal

pub returns : goal.returns
returns c =
    let a = c.args in
    c.put.ensures ∙ stored_all (read_cells a.self) a.at a.nodes.now (search rules)
