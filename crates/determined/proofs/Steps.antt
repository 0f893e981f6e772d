-- The contracts of crate `trace`.
-- Assumes nothing.
use Rattle.determined.specs.Determined.{Determined}
use Rattle.determined.proofs.Same.{same}
use Rattle.trace.proofs.Answers.{open_determined, step_determined, output_determined, header_determined, tested_determined}
use Rattle.trace.proofs.counts.test_counts.Reads as test-counts
use Rattle.trace.specs.contracts.counts.test_counts as test-counts-contract
use Rattle.trace.proofs.CircuitEvaluation.new.Reads as new
use Rattle.trace.specs.contracts.CircuitEvaluation.new as new-contract
use Rattle.trace.proofs.CircuitEvaluation.do_read.Reads as do-read
use Rattle.trace.specs.contracts.CircuitEvaluation.do_read as do-read-contract
use Rattle.trace.proofs.CircuitEvaluation.do_eval.Reads as do-eval
use Rattle.trace.specs.contracts.CircuitEvaluation.do_eval as do-eval-contract
use Rattle.trace.proofs.CircuitEvaluation.output_value.Reads as output-value
use Rattle.trace.specs.contracts.CircuitEvaluation.output_value as output-value-contract
use Rattle.trace.proofs.CircuitEvaluation.finalized.Reads as finalized
use Rattle.trace.specs.contracts.CircuitEvaluation.finalized as finalized-contract
use Rattle.trace.proofs.RecordHeader.test.Reads as test
use Rattle.trace.specs.contracts.RecordHeader.test as test-contract
use Rattle.trace.proofs.ArrayU647FromCircuitEvaluation.from.Reads as state-numbers
use Rattle.trace.specs.contracts.ArrayU647FromCircuitEvaluation.from as state-numbers-contract
use Rattle.trace.proofs.ArrayU645FromRecordHeader.from.Reads as header-numbers
use Rattle.trace.specs.contracts.ArrayU645FromRecordHeader.from as header-numbers-contract
use Rattle.trace.proofs.RefusalFromRefusedStep.from.Reads as step-refusal
use Rattle.trace.specs.contracts.RefusalFromRefusedStep.from as step-refusal-contract

pub test_counts_determined : Determined test-counts-contract.ended test-counts.Learnt
test_counts_determined κs a (r, _) (s, _) e f = λ i. (tested_determined r s (same e f) i, _)

pub new_determined : Determined new-contract.ended new.Learnt
new_determined κs a (r, _) (s, _) e f = λ i. (open_determined r s (same e f) i, _)

pub do_read_determined : Determined do-read-contract.ended do-read.Learnt
do_read_determined κs a (r, _) (s, _) e f =
    let h = step_determined r s _ _ (same e f) in
    λ i. (h.0 i, (_, (_, (_, ((h.1 i).values, ((h.1 i).counts, ((h.1 i).nodes, _)))))))

pub do_eval_determined : Determined do-eval-contract.ended do-eval.Learnt
do_eval_determined κs a (r, _) (s, _) e f =
    let h = step_determined r s _ _ (same e f) in
    λ i. (h.0 i, (_, (_, (_, ((h.1 i).values, ((h.1 i).counts, ((h.1 i).nodes, _)))))))

pub output_value_determined : Determined output-value-contract.ended output-value.Learnt
output_value_determined κs a (r, _) (s, _) e f = λ i. (output_determined r s (same e f) i, _)

pub finalized_determined : Determined finalized-contract.ended finalized.Learnt
finalized_determined κs a (r, _) (s, _) e f = λ i. (header_determined r s (same e f) i, _)

pub test_determined : Determined test-contract.ended test.Learnt
test_determined κs a (r, _) (s, _) e f = λ i. (tested_determined r s (same e f) i, _)

pub state_numbers_determined : Determined state-numbers-contract.ended state-numbers.Learnt
state_numbers_determined κs a (r, _) (s, _) e f = λ i. (same e f i, _)

pub header_numbers_determined : Determined header-numbers-contract.ended header-numbers.Learnt
header_numbers_determined κs a (r, _) (s, _) e f = λ i. (same e f i, _)

pub step_refusal_determined : Determined step-refusal-contract.ended step-refusal.Learnt
step_refusal_determined κs a (r, _) (s, _) e f = λ i. (same e f i, _)
