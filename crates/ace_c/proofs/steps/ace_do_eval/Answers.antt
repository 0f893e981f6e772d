-- `ace_c::steps::ace_do_eval` meets its contract.
-- Assumes nothing.
use Rattle.std.proofs.Common.{ap, ◌∙◌}
use Rattle.trace.specs.declared.CircuitEvaluation.{CircuitEvaluation}
use Rattle.trace.specs.Outcome.{lent, Outcome}
use Rattle.trace.specs.Eval.{eval_step}
use Rattle.ace_c.proofs.steps.ace_do_eval.Goals as goal

-- answered, so that other buffers are seen here: `search` would give up on them
pub returns-clause-nodes_after : goal.returns-clause-nodes_after
returns-clause-nodes_after c =
    let a = c.args in
    let step = λ (s : CircuitEvaluation). eval_step s a.ptr a.instruction (lent a.values.now a.counts.now a.nodes.now) in
    ap (λ (o : Outcome). o.buffers) (c.eval_in_place-told.ensures ∙ ap step c.from-circuit.ensures)
