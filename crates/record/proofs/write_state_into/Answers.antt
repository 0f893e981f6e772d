-- `record::write_state_into` meets its contract.
-- Assumes nothing.
use Rattle.std.proofs.Common.{◌∙◌}
use Rattle.refusal.specs.Refusal.{number_alone}
use Rattle.refusal.proofs.Passing.{told_up}
use Rattle.trace.specs.Outcome.{lent}
use Rattle.record.proofs.RecordWriting.{state_left, state_stops, state_answer, state_leaves}
use Rattle.record.proofs.write_state_into.Goals as goal

pub returns-in_err-header : goal.returns-in_err-header
returns-in_err-header c =
    let a = c.args in
    let e = state_stops a.state (lent a.values.now a.counts.now a.nodes.now) a.out.now _ _ c.in_err-header.ensures in
    record { result_value = told_up number_alone _ _ c.from_residual.ensures ∙ e; out_after = state_left _ _ _ _ e }

pub returns : goal.returns
returns c =
    let a = c.args in
    let b = (lent a.values.now a.counts.now a.nodes.now) in
    let e = c.in_ok-header.ensures in
    let w = c.write_into.ensures in
    record {
      result_value = state_answer a.state b a.out.now _ e _ w.result_value;
      out_after = state_leaves a.state b a.out.now _ e _ w.out_after;
    }
