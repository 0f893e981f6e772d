-- The contract of crate `words`.
-- Assumes nothing.
use Rattle.determined.specs.Determined.{Determined}
use Rattle.determined.proofs.Same.{same}
use Rattle.words.proofs.encode.Reads as encode
use Rattle.words.specs.contracts.encode as encode-contract

pub encode_determined : Determined encode-contract.ended encode.Learnt
encode_determined κs a o q e f = λ i. (same e.0 f.0 i, (_, (same e.1 f.1 i, _)))
