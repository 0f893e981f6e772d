-- `ace_c::steps::ace_do_read` meets its contract.
-- Assumes nothing.
use Rattle.std.proofs.Common.{ap, ◌∙◌}
use Rattle.trace.specs.declared.CircuitEvaluation.{CircuitEvaluation}
use Rattle.trace.specs.Outcome.{lent, Outcome}
use Rattle.trace.specs.Read.{read_step}
use Rattle.ace_c.specs.States.{word_by}
use Rattle.ace_c.proofs.steps.ace_do_read.Goals as goal

-- answered, so that other buffers are seen here: `search` would give up on them
pub returns-clause-nodes_after : goal.returns-clause-nodes_after
returns-clause-nodes_after c =
    let a = c.args in
    let step = λ (s : CircuitEvaluation). read_step s a.ptr (word_by a.c0 a.c1 a.c2 a.c3) (lent a.values.now a.counts.now a.nodes.now) in
    ap (λ (o : Outcome). o.buffers) (c.read_in_place-told.ensures ∙ ap step c.from-circuit.ensures)
