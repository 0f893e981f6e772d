-- `ace_c::convert::ListNumbersFromAce::from` meets its contract.
-- Assumes nothing.
use Rattle.std.proofs.Common.{refl, arith}
use Rattle.ace_c.proofs.Threes.{written_start, written_next, written_all}
use Rattle.ace_c.proofs.convert.ListNumbersFromAce.from.Goals as goal

pub loop-i-init : goal.loop-i-init
loop-i-init c = written_start _ _ (omega arith)

pub loop-i-preserved : goal.loop-i-preserved
loop-i-preserved c = written_next _ _ _ c.loop-i.invariant (omega arith)

pub returns : goal.returns
returns c = (written_all _ _ _ c.loop-i.invariant (omega arith), refl)
