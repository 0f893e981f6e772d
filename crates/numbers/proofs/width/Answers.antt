-- `numbers::width` meets its contract.
-- Assumes nothing.
use mathlib.Core.Path.{sym}
use Prim.Native.Nat.{◌<◌}
use native.Mathlib.Omega.{arith}
use Rattle.numbers.proofs.Groups.{Zeros, width_last, width_from_zeros}
use Rattle.numbers.proofs.width.Goals as goal
use Rattle.numbers.proofs.width.Goals.{Else-v-eq0}

pub returns-then-v-eq0 : goal.returns-then-v-eq0
returns-then-v-eq0 c = sym (width_last _ (omega arith))

zeros : (c : Else-v-eq0) → Zeros c.args.v
zeros c = let h : 0 < c.args.v = omega (arith, c.if-v-eq0.false) in width_from_zeros _ h c.ranges.v.fits

pub overflow_sub-result : goal.overflow_sub-result
overflow_sub-result c = omega (arith, (zeros c).some)

pub returns : goal.returns
returns c = omega (arith, (zeros c).width)
