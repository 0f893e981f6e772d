-- The contracts of crate `ace_c`.
-- Assumes nothing.
use Rattle.determined.specs.Determined.{Determined}
use Rattle.determined.proofs.Same.{same}
use Rattle.ace_c.proofs.circuits.ace_eval_circuit.Reads as ace-eval-circuit
use Rattle.ace_c.specs.contracts.circuits.ace_eval_circuit as ace-eval-circuit-contract
use Rattle.ace_c.proofs.steps.ace_new.Reads as ace-new
use Rattle.ace_c.specs.contracts.steps.ace_new as ace-new-contract
use Rattle.ace_c.proofs.steps.ace_do_read.Reads as ace-do-read
use Rattle.ace_c.specs.contracts.steps.ace_do_read as ace-do-read-contract
use Rattle.ace_c.proofs.steps.ace_do_eval.Reads as ace-do-eval
use Rattle.ace_c.specs.contracts.steps.ace_do_eval as ace-do-eval-contract
use Rattle.ace_c.proofs.steps.ace_output_value.Reads as ace-output-value
use Rattle.ace_c.specs.contracts.steps.ace_output_value as ace-output-value-contract
use Rattle.ace_c.proofs.fill.ace_fill.Reads as ace-fill
use Rattle.ace_c.specs.contracts.fill.ace_fill as ace-fill-contract
use Rattle.ace_c.proofs.fill.ace_fill_state.Reads as ace-fill-state
use Rattle.ace_c.specs.contracts.fill.ace_fill_state as ace-fill-state-contract
use Rattle.ace_c.proofs.records.ace_write_into.Reads as ace-write-into
use Rattle.ace_c.specs.contracts.records.ace_write_into as ace-write-into-contract
use Rattle.ace_c.proofs.records.ace_write_state_into.Reads as ace-write-state-into
use Rattle.ace_c.specs.contracts.records.ace_write_state_into as ace-write-state-into-contract
use Rattle.ace_c.proofs.records.ace_read_from.Reads as ace-read-from
use Rattle.ace_c.specs.contracts.records.ace_read_from as ace-read-from-contract
use Rattle.ace_c.proofs.lists.ace_add_circuit_evaluation.Reads as ace-add-circuit-evaluation
use Rattle.ace_c.specs.contracts.lists.ace_add_circuit_evaluation as ace-add-circuit-evaluation-contract
use Rattle.ace_c.proofs.lists.ace_trace_len.Reads as ace-trace-len
use Rattle.ace_c.specs.contracts.lists.ace_trace_len as ace-trace-len-contract
use Rattle.ace_c.proofs.lists.ace_first_row.Reads as ace-first-row
use Rattle.ace_c.specs.contracts.lists.ace_first_row as ace-first-row-contract

pub ace_eval_circuit_determined : Determined ace-eval-circuit-contract.ended ace-eval-circuit.Learnt
ace_eval_circuit_determined κs a o q e f =
    let b = same e.1.1.1 f.1.1.1 in
    λ i. (same e.0 f.0 i, (_, (_, (_, (_, (_, (_, ((b i).values, ((b i).counts, ((b i).nodes, (same e.1.0 f.1.0 i, (same e.1.1.0 f.1.1.0 i, _))))))))))))

pub ace_new_determined : Determined ace-new-contract.ended ace-new.Learnt
ace_new_determined κs a o q e f = λ i. (same e.0 f.0 i, (_, (_, (_, (_, (_, (_, (_, (same e.1.0 f.1.0 i, (same e.1.1.0 f.1.1.0 i, (same e.1.1.1 f.1.1.1 i, _)))))))))))

pub ace_do_read_determined : Determined ace-do-read-contract.ended ace-do-read.Learnt
ace_do_read_determined κs a o q e f =
    let b = same e.1.1.1.1 f.1.1.1.1 in
    λ i. (same e.0 f.0 i, (same e.1.0 f.1.0 i, (same e.1.1.0 f.1.1.0 i, (_, (_, (_, (_, (_, ((b i).values, ((b i).counts, ((b i).nodes, (same e.1.1.1.0 f.1.1.1.0 i, _))))))))))))

pub ace_do_eval_determined : Determined ace-do-eval-contract.ended ace-do-eval.Learnt
ace_do_eval_determined κs a o q e f =
    let b = same e.1.1.1.1 f.1.1.1.1 in
    λ i. (same e.0 f.0 i, (same e.1.0 f.1.0 i, (same e.1.1.0 f.1.1.0 i, (_, (_, ((b i).values, ((b i).counts, ((b i).nodes, (same e.1.1.1.0 f.1.1.1.0 i, _)))))))))

pub ace_output_value_determined : Determined ace-output-value-contract.ended ace-output-value.Learnt
ace_output_value_determined κs a o q e f = λ i. (same e.0 f.0 i, (_, (_, (_, (_, (_, (same e.1.0 f.1.0 i, (same e.1.1 f.1.1 i, _))))))))

pub ace_fill_determined : Determined ace-fill-contract.ended ace-fill.Learnt
ace_fill_determined κs a o q e f = λ i. (same e.0 f.0 i, (_, (_, (_, (_, (_, (_, (_, (_, (_, (same e.1.1 f.1.1 i, (same e.1.0 f.1.0 i, _))))))))))))

pub ace_fill_state_determined : Determined ace-fill-state-contract.ended ace-fill-state.Learnt
ace_fill_state_determined κs a o q e f = λ i. (same e.0 f.0 i, (_, (_, (_, (_, (_, (_, (same e.1.1 f.1.1 i, (same e.1.0 f.1.0 i, _)))))))))

pub ace_write_into_determined : Determined ace-write-into-contract.ended ace-write-into.Learnt
ace_write_into_determined κs a o q e f = λ i. (same e.0 f.0 i, (_, (_, (_, (_, (_, (_, (_, (_, (same e.1.1.1 f.1.1.1 i, (same e.1.0 f.1.0 i, (same e.1.1.0 f.1.1.0 i, _))))))))))))

pub ace_write_state_into_determined : Determined ace-write-state-into-contract.ended ace-write-state-into.Learnt
ace_write_state_into_determined κs a o q e f = λ i. (same e.0 f.0 i, (_, (_, (_, (_, (_, (same e.1.1.1 f.1.1.1 i, (same e.1.0 f.1.0 i, (same e.1.1.0 f.1.1.0 i, _)))))))))

pub ace_read_from_determined : Determined ace-read-from-contract.ended ace-read-from.Learnt
ace_read_from_determined κs a o q e f =
    let b = same e.1.1.1 f.1.1.1 in
    λ i. (same e.0 f.0 i, (_, ((b i).values, ((b i).counts, ((b i).nodes, (same e.1.0 f.1.0 i, (same e.1.1.0 f.1.1.0 i, _)))))))

pub ace_add_circuit_evaluation_determined : Determined ace-add-circuit-evaluation-contract.ended ace-add-circuit-evaluation.Learnt
ace_add_circuit_evaluation_determined κs a o q e f = λ i. (same e.0 f.0 i, (same e.1.0 f.1.0 i, (same e.1.1.0 f.1.1.0 i, (_, (_, (_, (same e.1.1.1 f.1.1.1 i, _)))))))

pub ace_trace_len_determined : Determined ace-trace-len-contract.ended ace-trace-len.Learnt
ace_trace_len_determined κs a o q e f = λ i. (same e.0 f.0 i, (_, (_, (same e.1.0 f.1.0 i, (same e.1.1 f.1.1 i, _)))))

pub ace_first_row_determined : Determined ace-first-row-contract.ended ace-first-row.Learnt
ace_first_row_determined κs a o q e f = λ i. (same e.0 f.0 i, (_, (_, (_, (same e.1.0 f.1.0 i, (same e.1.1 f.1.1 i, _))))))
