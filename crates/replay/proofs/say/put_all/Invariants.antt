-- What is written fits.
use Rattle.std.proofs.Common.{◌≤◌, length}
use Rattle.replay.proofs.say.put_all.Given as goal

abbrev pub invariant-loop-number : goal.invariant-loop-number
invariant-loop-number g l = l.used ≤ length l.bytes
