-- `eval_circuit::steps::do_evals` meets its contract.
-- Assumes nothing.
use Rattle.std.proofs.Common.{refl, arith}
use Rattle.refusal.proofs.Passing.{err_up}
use Rattle.eval_circuit.proofs.Turns.{eval_on, eval_off, gone_more, evals_end}
use Rattle.eval_circuit.proofs.steps.do_evals.Goals as goal

pub returns-in_err-next : goal.returns-in_err-next
returns-in_err-next c =
    let l = c.loop-i in
    let off = eval_off _ _ _ _ c.requires.0 _ _ _ _ _ _ _ (omega arith) c.do_eval.ensures l.invariant.0 refl refl l.invariant.1 l.invariant.2 _ c.in_err-next.was _ (err_up _ _ c.from_residual.ensures) in
    record { result_value = off.0; left = off.1 }

pub loop-i-preserved : goal.loop-i-preserved
loop-i-preserved c =
    let l = c.loop-i in
    let d = eval_on _ _ _ _ c.requires.0 _ _ _ _ _ _ _ (omega arith) c.do_eval.ensures l.invariant.0 refl refl l.invariant.1 l.invariant.2 _ c.in_ok-next.was in
    (d.1, d.2, gone_more _ _ _ _ c.requires.0 _ l.invariant.2 d.0)

pub returns-clause-result_value : goal.returns-clause-result_value
returns-clause-result_value c = evals_end _ _ _ _ c.requires.0 _ (omega arith) c.loop-i.invariant.2
