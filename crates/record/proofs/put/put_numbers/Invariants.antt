-- `record::put::put_numbers` meets its contract.
-- Assumes nothing.
use Rattle.std.proofs.Common.{take}
use Rattle.record.proofs.Putting.{Wrote}
use Rattle.record.proofs.put.put_numbers.Given as goal

abbrev pub invariant-loop-v : goal.invariant-loop-v
invariant-loop-v l = Wrote l.initial.out l.at (take l.v-index l.numbers) l.out l.next
