-- `buffer::put` meets its contract.
-- Assumes nothing.
use Rattle.std.proofs.Common.{refl, sym, ◌∙◌, rules, arith}
use native.Mathlib.Nat.{add-zero}
use Rattle.buffer.proofs.Storing.{one_more, none_left, stored_all}
use Rattle.buffer.proofs.put.Goals as goal

pub loop-i-init : goal.loop-i-init
loop-i-init c = (search rules, rw (add-zero c.args.at), refl)

pub loop-i-preserved : goal.loop-i-preserved
loop-i-preserved c =
    let l = c.loop-i in
    let a = c.args in
    (l.invariant.0, one_more a.cells.now l.buffer a.at l.i _ _ (search rules) (omega arith) (omega arith) ∙ l.invariant.1, search rules)

pub returns : goal.returns
returns c =
    let l = c.loop-i in
    let a = c.args in
    sym (none_left a.cells.now _ a.at l.i (search rules)) ∙ l.invariant.1 ∙ sym (stored_all a.cells.now a.at a.buffer.now l.invariant.0)
