-- `record::load::load_cells` meets its contract.
-- Assumes nothing.
use Rattle.std.proofs.Common.{sym, arith}
use Rattle.std.proofs.lemmas.Grind.{common_steps}
use Rattle.record.proofs.Places.{after_none, after_next, from_none, from_next}
use Rattle.record.proofs.load.load_cells.Goals as goal

pub loop-cell-init : goal.loop-cell-init
loop-cell-init c = (sym (after_none _ _), sym (from_none _ _))

pub loop-cell-preserved : goal.loop-cell-preserved
loop-cell-preserved c = grind (arith, common_steps, after_next, from_next)
