-- The contract of crate `buffer`.
-- Assumes nothing.
use Rattle.determined.specs.Determined.{Determined}
use Rattle.determined.proofs.Same.{same}
use Rattle.buffer.proofs.put.Reads as put
use Rattle.buffer.specs.contracts.put as put-contract

pub put_determined : Determined put-contract.ended put.Learnt
put_determined κs a o q e f = λ i. (_, (_, (same e f i, _)))
