-- The contract of crate `program`.
-- Assumes nothing.
use Rattle.determined.specs.Determined.{Determined}
use Rattle.determined.proofs.Same.{same}
use Rattle.program.proofs.answer.Reads as answer
use Rattle.program.specs.contracts.answer as answer-contract

pub answer_determined : Determined answer-contract.ended answer.Learnt
answer_determined κs a o q e f = λ i. (same e.0 f.0 i, (_, (same e.1 f.1 i, _)))
