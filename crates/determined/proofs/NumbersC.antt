-- The contracts of crate `numbers_c`.
-- Assumes nothing.
use Rattle.determined.specs.Determined.{Determined}
use Rattle.determined.proofs.Same.{same}
use Rattle.numbers_c.proofs.numbers_width.Reads as numbers-width
use Rattle.numbers_c.specs.contracts.numbers_width as numbers-width-contract
use Rattle.numbers_c.proofs.numbers_write.Reads as numbers-write
use Rattle.numbers_c.specs.contracts.numbers_write as numbers-write-contract
use Rattle.numbers_c.proofs.numbers_read.Reads as numbers-read
use Rattle.numbers_c.specs.contracts.numbers_read as numbers-read-contract
use Rattle.numbers_c.proofs.numbers_read_below.Reads as numbers-read-below
use Rattle.numbers_c.specs.contracts.numbers_read_below as numbers-read-below-contract

pub numbers_width_determined : Determined numbers-width-contract.ended numbers-width.Learnt
numbers_width_determined κs a o q e f = λ i. (same e f i, _)

pub numbers_write_determined : Determined numbers-write-contract.ended numbers-write.Learnt
numbers_write_determined κs a o q e f = λ i. (same e.0 f.0 i, (_, (same e.1.1 f.1.1 i, (_, (same e.1.0 f.1.0 i, _)))))

pub numbers_read_determined : Determined numbers-read-contract.ended numbers-read.Learnt
numbers_read_determined κs a o q e f = λ i. (same e.0 f.0 i, (_, (_, (same e.1.0 f.1.0 i, (same e.1.1 f.1.1 i, _)))))

pub numbers_read_below_determined : Determined numbers-read-below-contract.ended numbers-read-below.Learnt
numbers_read_below_determined κs a o q e f = λ i. (same e.0 f.0 i, (_, (_, (_, (same e.1.0 f.1.0 i, (same e.1.1 f.1.1 i, _))))))
