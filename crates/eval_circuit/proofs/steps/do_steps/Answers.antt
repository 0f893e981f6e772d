-- `eval_circuit::steps::do_steps` meets its contract.
-- Assumes nothing.
use Rattle.trace.specs.Outcome.{lent}
use Rattle.eval_circuit.proofs.Runs.{both_runs}
use Rattle.eval_circuit.proofs.Turns.{done_is}
use Rattle.eval_circuit.proofs.steps.do_steps.Goals as goal

pub returns-clause-left : goal.returns-clause-left
returns-clause-left c =
    let d = done_is _ _ _ (lent c.do_reads.new.values c.do_reads.new.counts c.do_reads.new.nodes) _ c.do_reads.ensures c.in_ok-read.was in
    both_runs _ _ _ _ c.requires.0 c.do_evals.result _ (lent c.do_evals.new.values c.do_evals.new.counts c.do_evals.new.nodes) _ d.0 d.1 c.do_evals.ensures.left
