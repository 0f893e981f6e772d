-- `record::write_into` meets its contract.
-- Assumes nothing.
use Rattle.std.proofs.Common.{◌∙◌, arith}
use Rattle.refusal.specs.Refusal.{number_alone}
use Rattle.refusal.proofs.Passing.{told_up}
use Rattle.trace.specs.Outcome.{lent}
use Rattle.record.proofs.RecordWriting.{held, write_left, write_stops, write_over, write_goes, write_leaves}
use Rattle.record.proofs.write_into.Goals as goal

pub returns-in_err-test : goal.returns-in_err-test
returns-in_err-test c =
    let e = write_stops _ _ c.args.out.now _ _ c.in_err-test.ensures in
    record { result_value = told_up number_alone _ _ c.from_residual.ensures ∙ e; out_after = write_left _ _ _ _ e }

pub record_width-width-requires : goal.record_width-width-requires
record_width-width-requires c = held _ _ c.in_ok-test.ensures

pub returns-then-out-width : goal.returns-then-out-width
returns-then-out-width c =
    let e = write_over _ _ c.args.out.now c.in_ok-test.ensures _ c.record_width-width.ensures c.if-out-width.true in
    record { result_value = e; out_after = write_left _ _ _ _ e }

pub put_record-requires : goal.put_record-requires
put_record-requires c = (held _ _ c.in_ok-test.ensures, omega (arith, c.record_width-width.ensures, c.if-out-width.false))

pub returns : goal.returns
returns c =
    let a = c.args in
    let b = (lent a.values.now a.counts.now a.nodes.now) in
    let w = c.record_width-width.ensures in
    let l = c.if-out-width.false in
    record {
      result_value = write_goes a.header b a.out.now c.in_ok-test.ensures _ w l;
      out_after = write_leaves a.header b a.out.now c.in_ok-test.ensures _ w l _ c.put_record.ensures;
    }
