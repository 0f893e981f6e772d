-- The contracts of crate `runs`.
-- Assumes nothing.
use Rattle.determined.specs.Determined.{Determined}
use Rattle.determined.proofs.Same.{same}
use Rattle.runs.proofs.Answers.{rows_determined, add_determined}
use Rattle.runs.proofs.Ace.trace_len.Reads as trace-len
use Rattle.runs.specs.contracts.Ace.trace_len as trace-len-contract
use Rattle.runs.proofs.Ace.first_row.Reads as first-row
use Rattle.runs.specs.contracts.Ace.first_row as first-row-contract
use Rattle.runs.proofs.Ace.add_circuit_evaluation.Reads as add-circuit-evaluation
use Rattle.runs.specs.contracts.Ace.add_circuit_evaluation as add-circuit-evaluation-contract

pub trace_len_determined : Determined trace-len-contract.ended trace-len.Learnt
trace_len_determined κs a (r, _) (s, _) e f = λ i. (rows_determined r s (same e f) i, _)

pub first_row_determined : Determined first-row-contract.ended first-row.Learnt
first_row_determined κs a (r, _) (s, _) e f = λ i. (rows_determined r s (same e f) i, _)

pub add_circuit_evaluation_determined : Determined add-circuit-evaluation-contract.ended add-circuit-evaluation.Learnt
add_circuit_evaluation_determined κs a (r, _) (s, _) e f = λ i. (add_determined r s (same e.0 f.0) i, (same e.1 f.1 i, _))
