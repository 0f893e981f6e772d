-- The bytes from at on are read as far as i.
-- Assumes nothing.
use Prim.Native.Nat.{◌-◌}
use lib.ListN.{drop}
use Rattle.numbers.proofs.Reading.{Reading}
use Rattle.numbers.proofs.read.Given as goal

abbrev pub invariant-loop-i : goal.invariant-loop-i
invariant-loop-i l = Reading (drop l.at l.s) l.value l.scale (l.i - l.at)
