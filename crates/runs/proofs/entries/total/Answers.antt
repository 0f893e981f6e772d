-- `runs::entries::total` meets its contract.
-- Assumes nothing.
use Rattle.std.proofs.Common.{arith, sym, ap, ◌∙◌, ◌+◌}
use Rattle.runs.proofs.Orders.{total_nil}
use Rattle.runs.proofs.Scans.{total_more}
use Rattle.runs.proofs.entries.total.Goals as goal

pub loop-entry-init : goal.loop-entry-init
loop-entry-init c = (omega arith, sym total_nil)

pub loop-entry-preserved : goal.loop-entry-preserved
loop-entry-preserved c =
    let f = c.rows-rows.ensures.few in
    let i = c.loop-entry.invariant in
    (omega arith, ap (λ n. c.loop-entry.rows + n) c.rows-rows.ensures.value ∙ total_more c.args.entries.now _ _ i.1 c.loop-entry-test.true)
