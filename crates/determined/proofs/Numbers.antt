-- The contracts of crate `numbers`.
-- Assumes nothing.
use Rattle.determined.specs.Determined.{Determined}
use Rattle.determined.proofs.Same.{same}
use Rattle.numbers.proofs.Answers as answers
use Rattle.numbers.proofs.width.Reads as width
use Rattle.numbers.specs.contracts.width as width-contract
use Rattle.numbers.proofs.write.Reads as write
use Rattle.numbers.specs.contracts.write as write-contract
use Rattle.numbers.proofs.read.Reads as read
use Rattle.numbers.specs.contracts.read as read-contract
use Rattle.numbers.proofs.read_below.Reads as read_below
use Rattle.numbers.specs.contracts.read_below as read_below-contract

pub width_determined : Determined width-contract.ended width.Learnt
width_determined κs a o q e f = λ i. (same e f i, _)

pub write_determined : Determined write-contract.ended write.Learnt
write_determined κs a (r, _) (s, _) e f = λ i. (answers.write_determined r s (same e.0 f.0) i, (_, (same e.1 f.1 i, _)))

pub read_determined : Determined read-contract.ended read.Learnt
read_determined κs a (r, _) (s, _) e f = λ i. (answers.read_determined r s (same e f) i, _)

pub read_below_determined : Determined read_below-contract.ended read_below.Learnt
read_below_determined κs a (r, _) (s, _) e f = λ i. (answers.read_determined r s (same e f) i, _)
