-- The contracts of crate `record`.
-- Assumes nothing.
use Rattle.determined.specs.Determined.{Determined}
use Rattle.determined.proofs.Same.{same}
use Rattle.trace.proofs.Answers.{header_determined}
use Rattle.numbers.proofs.Answers.{write_determined}
use Rattle.record.proofs.write_into.Reads as write-into
use Rattle.record.specs.contracts.write_into as write-into-contract
use Rattle.record.proofs.write_state_into.Reads as write-state-into
use Rattle.record.specs.contracts.write_state_into as write-state-into-contract
use Rattle.record.proofs.read_from.Reads as read-from
use Rattle.record.specs.contracts.read_from as read-from-contract

pub write_into_determined : Determined write-into-contract.ended write-into.Learnt
write_into_determined κs a (r, _) (s, _) e f = λ i. (write_determined r s (same e.0 f.0) i, (_, (_, (_, (_, (same e.1 f.1 i, _))))))

pub write_state_into_determined : Determined write-state-into-contract.ended write-state-into.Learnt
write_state_into_determined κs a (r, _) (s, _) e f = λ i. (write_determined r s (same e.0 f.0) i, (_, (_, (_, (_, (same e.1 f.1 i, _))))))

pub read_from_determined : Determined read-from-contract.ended read-from.Learnt
read_from_determined κs a (r, _) (s, _) e f =
    let h = same e.1 f.1 in
    λ i. (header_determined r s (same e.0 f.0) i, (_, ((h i).values, ((h i).counts, ((h i).nodes, _)))))
