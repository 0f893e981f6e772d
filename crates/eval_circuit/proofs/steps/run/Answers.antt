-- `eval_circuit::steps::run` meets its contract.
-- Assumes nothing.
use Rattle.std.proofs.Common.{◌∙◌}
use Rattle.refusal.proofs.Passing.{told_up}
use Rattle.trace.specs.Outcome.{lent}
use Rattle.trace.specs.Output.{header_numbers}
use Rattle.eval_circuit.proofs.Runs.{run_done, run_refused}
use Rattle.eval_circuit.proofs.steps.run.Goals as goal

pub returns-in_err-done-clause-result_value : goal.returns-in_err-done-clause-result_value
returns-in_err-done-clause-result_value c =
    let steps = c.do_steps in
    told_up header_numbers _ _ c.from_residual.ensures
    ∙ run_refused _ _ _ _ c.requires.0 _ (lent steps.new.values steps.new.counts steps.new.nodes) steps.ensures.result_value steps.ensures.left _ c.in_err-done.was

pub returns-clause-result_value : goal.returns-clause-result_value
returns-clause-result_value c =
    let steps = c.do_steps in
    run_done _ _ _ _ c.requires.0 _ (lent steps.new.values steps.new.counts steps.new.nodes) steps.ensures.result_value steps.ensures.left _ _ c.in_ok-done.was c.output_value.ensures
