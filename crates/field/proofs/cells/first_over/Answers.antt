-- `field::cells::first_over` meets its contract.
-- Assumes nothing.
use Rattle.std.proofs.Common.{◌≡◌, ◌∙◌, arith, rules}
use Rattle.field.proofs.Over.{over_at, over_next, over_end}
use Rattle.field.proofs.cells.first_over.Goals as goal

pub returns-then-cells-at-ge-P : goal.returns-then-cells-at-ge-P
returns-then-cells-at-ge-P c = over_at _ _ _ (search rules) (search rules) (search rules) ∙ c.loop-at.invariant.none_so_far

pub loop-at-preserved : goal.loop-at-preserved
loop-at-preserved c = record {
  none_so_far = over_next _ _ _ (search rules) (search rules) (search rules) ∙ c.loop-at.invariant.none_so_far;
  not_past = omega arith;
}

pub returns : goal.returns
returns c =
    let e : c.max.result ≡ c.loop-at.at = omega arith in
    e ∙ over_end c.args.cells.now c.loop-at.at c.args.end (omega arith) ∙ c.loop-at.invariant.none_so_far
