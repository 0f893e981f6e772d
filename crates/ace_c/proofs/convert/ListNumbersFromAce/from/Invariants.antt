-- `ace_c::convert::ListNumbersFromAce::from` meets its contract.
-- Assumes nothing.
use Rattle.ace_c.proofs.Threes.{Written}
use Rattle.ace_c.proofs.convert.ListNumbersFromAce.from.Given as goal

abbrev pub invariant-loop-i : goal.invariant-loop-i
invariant-loop-i l = Written l.fn.list.entries l.numbers l.i
