-- The contract of crate `eval_circuit`.
-- Assumes nothing.
use Rattle.determined.specs.Determined.{Determined}
use Rattle.determined.proofs.Same.{same}
use Rattle.trace.proofs.Answers.{output_determined}
use Rattle.eval_circuit.proofs.eval_circuit.Reads as eval-circuit
use Rattle.eval_circuit.specs.contracts.eval_circuit as eval-circuit-contract

pub eval_circuit_determined : Determined eval-circuit-contract.ended eval-circuit.Learnt
eval_circuit_determined κs a (r, _) (s, _) e f =
    let h = same e.1 f.1 in
    λ i. (output_determined r s (same e.0 f.0) i, (_, (_, (_, (_, (_, (_, ((h i).values, ((h i).counts, ((h i).nodes, _))))))))))
