-- The contracts of crate `rows`.
-- Assumes nothing.
use Rattle.determined.specs.Determined.{Determined}
use Rattle.determined.proofs.Same.{same}
use Rattle.rows.proofs.Answers as answers
use Rattle.rows.proofs.fill.Reads as fill
use Rattle.rows.specs.contracts.fill as fill-contract
use Rattle.rows.proofs.fill_state.Reads as fill-state
use Rattle.rows.specs.contracts.fill_state as fill-state-contract

pub fill_determined : Determined fill-contract.ended fill.Learnt
fill_determined κs a (r, _) (s, _) e f = λ i. (answers.fill_determined r s (same e.0 f.0) i, (_, (_, (_, (_, (_, (same e.1 f.1 i, _)))))))

pub fill_state_determined : Determined fill-state-contract.ended fill-state.Learnt
fill_state_determined κs a (r, _) (s, _) e f = λ i. (answers.fill_determined r s (same e.0 f.0) i, (_, (_, (_, (_, (_, (same e.1 f.1 i, _)))))))
