-- `eval_circuit::eval_circuit` meets its contract.
-- Assumes nothing.
use Rattle.std.proofs.Common.{sym, ◌∙◌, arith, rules}
use Rattle.refusal.proofs.Passing.{told_up}
use Rattle.trace.specs.Output.{header_numbers}
use Rattle.trace.specs.Outcome.{lent}
use Rattle.eval_circuit.proofs.Whole.{stops_early, region_end, short_refused, over_refused, run_prepared, run_accepted, run_refused, room_after}
use Rattle.eval_circuit.proofs.RegionTests.{region_tested}
use Rattle.eval_circuit.proofs.eval_circuit.Goals as goal

pub returns-in_err-test_region-clause-result_value : goal.returns-in_err-test_region-clause-result_value
returns-in_err-test_region-clause-result_value c =
    let a = c.args in
    told_up header_numbers _ _ c.from_residual.ensures ∙ (stops_early a.ctx a.clk a.ptr a.num_vars a.num_eval a.memory.now (lent a.values.now a.counts.now a.nodes.now) _ _ c.in_err-test_region.ensures).0

pub returns-in_err-test_region-clause-nodes_after : goal.returns-in_err-test_region-clause-nodes_after
returns-in_err-test_region-clause-nodes_after c =
    let a = c.args in
    (stops_early a.ctx a.clk a.ptr a.num_vars a.num_eval a.memory.now (lent a.values.now a.counts.now a.nodes.now) _ _ c.in_err-test_region.ensures).1

pub overflow_cast-num_read : goal.overflow_cast-num_read
overflow_cast-num_read c = let r = region_tested _ _ _ _ c.in_ok-test_region.ensures in omega arith

pub overflow_cast-num_eval : goal.overflow_cast-num_eval
overflow_cast-num_eval c = let r = region_tested _ _ _ _ c.in_ok-test_region.ensures in omega arith

pub returns-in_err-state-clause-result_value : goal.returns-in_err-state-clause-result_value
returns-in_err-state-clause-result_value c = told_up header_numbers _ _ c.from_residual-in_err-state.ensures ∙ (short_refused _ _ _ _ _ _ _ c.in_ok-test_region.ensures c.in_err-state.ensures).0

pub returns-in_err-state-clause-nodes_after : goal.returns-in_err-state-clause-nodes_after
returns-in_err-state-clause-nodes_after c = (short_refused _ _ _ _ _ _ _ c.in_ok-test_region.ensures c.in_err-state.ensures).1

pub overflow_mul-end : goal.overflow_mul-end
overflow_mul-end c = let r = region_tested _ _ _ _ c.in_ok-test_region.ensures in omega arith

pub overflow_add-end : goal.overflow_add-end
overflow_add-end c = omega (arith, region_end _ _ _ _ c.in_ok-test_region.ensures)

pub overflow_add-end-2 : goal.overflow_add-end-2
overflow_add-end-2 c = omega (arith, region_end _ _ _ _ c.in_ok-test_region.ensures)

pub returns-then-over-end-clause-result_value : goal.returns-then-over-end-clause-result_value
returns-then-over-end-clause-result_value c = (over_refused _ _ _ _ _ _ _ c.in_ok-test_region.ensures _ _ _ c.in_ok-state.ensures c.first_over-over.ensures (omega arith) (search rules)).0

pub returns-then-over-end-clause-nodes_after : goal.returns-then-over-end-clause-nodes_after
returns-then-over-end-clause-nodes_after c = (over_refused _ _ _ _ _ _ _ c.in_ok-test_region.ensures _ _ _ c.in_ok-state.ensures c.first_over-over.ensures (omega arith) (search rules)).1

pub run-answer-requires : goal.run-answer-requires
run-answer-requires c = run_prepared _ _ _ _ _ _ _ c.in_ok-test_region.ensures _ _ _ c.in_ok-state.ensures c.first_over-over.ensures (omega arith) (search rules)

pub clear-requires : goal.clear-requires
clear-requires c =
    room_after _ _ _ _ _ _ _ (run_prepared _ _ _ _ _ _ _ c.in_ok-test_region.ensures _ _ _ c.in_ok-state.ensures c.first_over-over.ensures (omega arith) (search rules)).0 c.run-answer.auto.values c.run-answer.auto.counts c.run-answer.auto.nodes

pub returns-then-is_err-clause-result_value : goal.returns-then-is_err-clause-result_value
returns-then-is_err-clause-result_value c =
    (run_refused _ _ _ _ _ _ _ c.in_ok-test_region.ensures _ _ _ c.in_ok-state.ensures c.first_over-over.ensures (omega arith) (search rules) _ _ c.run-answer.ensures.result_value c.run-answer.ensures.ran (sym c.is_err.ensures.value ∙ c.if-is_err.true) c.clear.ensures.values_after c.clear.ensures.counts_after c.clear.ensures.nodes_after).0

pub returns-then-is_err-clause-nodes_after : goal.returns-then-is_err-clause-nodes_after
returns-then-is_err-clause-nodes_after c =
    (run_refused _ _ _ _ _ _ _ c.in_ok-test_region.ensures _ _ _ c.in_ok-state.ensures c.first_over-over.ensures (omega arith) (search rules) _ _ c.run-answer.ensures.result_value c.run-answer.ensures.ran (sym c.is_err.ensures.value ∙ c.if-is_err.true) c.clear.ensures.values_after c.clear.ensures.counts_after c.clear.ensures.nodes_after).1

pub returns-else-is_err-clause-result_value : goal.returns-else-is_err-clause-result_value
returns-else-is_err-clause-result_value c =
    (run_accepted _ _ _ _ _ _ _ c.in_ok-test_region.ensures _ _ _ c.in_ok-state.ensures c.first_over-over.ensures (omega arith) (search rules) _ _ c.run-answer.ensures.result_value c.run-answer.ensures.ran (sym c.is_err.ensures.value ∙ c.if-is_err.false)).0

pub returns-else-is_err-clause-nodes_after : goal.returns-else-is_err-clause-nodes_after
returns-else-is_err-clause-nodes_after c =
    (run_accepted _ _ _ _ _ _ _ c.in_ok-test_region.ensures _ _ _ c.in_ok-state.ensures c.first_over-over.ensures (omega arith) (search rules) _ _ c.run-answer.ensures.result_value c.run-answer.ensures.ran (sym c.is_err.ensures.value ∙ c.if-is_err.false)).1
