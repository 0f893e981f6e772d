-- The contracts of crate `refusal`.
-- Assumes nothing.
use Rattle.determined.specs.Determined.{Determined}
use Rattle.determined.proofs.Same.{same}
use Rattle.refusal.proofs.Refusal.number.Reads as number
use Rattle.refusal.specs.contracts.Refusal.number as number-contract
use Rattle.refusal.proofs.Refusal.place.Reads as place
use Rattle.refusal.specs.contracts.Refusal.place as place-contract

pub number_determined : Determined number-contract.ended number.Learnt
number_determined κs a o q e f = λ i. (same e f i, _)

pub place_determined : Determined place-contract.ended place.Learnt
place_determined κs a o q e f = λ i. (same e f i, _)
