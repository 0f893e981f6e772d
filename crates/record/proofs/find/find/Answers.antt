-- `record::find::find` meets its contract.
-- Assumes nothing.
use Rattle.std.proofs.Common.{sym, ◌∙◌, arith}
use Rattle.refusal.specs.Refusal.{nothing}
use Rattle.refusal.proofs.Passing.{told_up}
use Rattle.record.specs.Reading.{fields_answer, declared_at, declared_in, read_list_at, reads_in, reads_at, eval_list_at, evals_in, evals_at, end_at}
use Rattle.record.proofs.Ways.{goes_on, stops}
use Rattle.record.proofs.Heads.{length_is, list_at, list_end}
use Rattle.record.proofs.Tests.{declared_accepted, nodes_of, nodes_accepted}
use Rattle.record.proofs.find.find.Goals as goal

pub returns-in_err-declared_at : goal.returns-in_err-declared_at
unfolding fields_answer
returns-in_err-declared_at c = told_up nothing _ _ c.from_residual-in_err-declared_at.ensures ∙ grind (arith, goes_on, stops, length_is, list_at)

pub returns-in_err-declared : goal.returns-in_err-declared
unfolding fields_answer declared_at
returns-in_err-declared c = told_up nothing _ _ c.from_residual-in_err-declared.ensures ∙ grind (arith, goes_on, stops, length_is, list_at, list_end)

pub returns-in_err-num_read : goal.returns-in_err-num_read
unfolding fields_answer declared_at read_list_at
returns-in_err-num_read c = told_up nothing _ _ c.from_residual-in_err-num_read.ensures ∙ grind (arith, goes_on, stops, length_is, list_at, list_end, declared_accepted)

pub overflow_mul-used : goal.overflow_mul-used
overflow_mul-used c =
    let e = sym c.in_ok-num_read.ensures in
    omega (arith, (nodes_accepted _ _ _ _ _ _ _ e).0, (nodes_of _ _ _ _ _ _ e).room)

pub find_nodes-requires-2 : goal.find_nodes-requires-2
find_nodes-requires-2 c =
    let e = sym c.in_ok-num_read.ensures in
    (omega (arith, (nodes_accepted _ _ _ _ _ _ _ e).0, (nodes_of _ _ _ _ _ _ e).room), omega arith)

pub returns-in_err-num_eval : goal.returns-in_err-num_eval
unfolding fields_answer declared_at read_list_at reads_in reads_at eval_list_at
returns-in_err-num_eval c = told_up nothing _ _ c.from_residual-in_err-num_eval.ensures ∙ grind (arith, goes_on, stops, length_is, list_at, list_end, declared_accepted, nodes_accepted)

pub returns : goal.returns
unfolding fields_answer declared_at declared_in read_list_at reads_in reads_at eval_list_at evals_in evals_at end_at
returns c = grind (arith, goes_on, stops, length_is, list_at, list_end, declared_accepted, nodes_accepted)
