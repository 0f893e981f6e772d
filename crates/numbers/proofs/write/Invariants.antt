-- `numbers::write` meets its contract.
-- Assumes nothing.
use Rattle.numbers.proofs.Writing.{Left}
use Rattle.numbers.proofs.write.Given as goal

abbrev pub invariant-loop-byte : goal.invariant-loop-byte
invariant-loop-byte l = Left l.v l.byte-items l.byte-index l.rest
