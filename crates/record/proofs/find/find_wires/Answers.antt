-- `record::find::find_wires` meets its contract.
-- Assumes nothing.
use Rattle.std.proofs.Common.{[], ◌∷◌, sym, ◌∙◌, arith}
use Rattle.refusal.proofs.Passing.{told_up}
use Rattle.record.proofs.Wires.{wires_on, value_off, count_off, wires_end}
use Rattle.record.proofs.find.find_wires.Goals as goal

pub returns-in_err-count_at : goal.returns-in_err-count_at
returns-in_err-count_at c =
    told_up (λ at. 0 ∷ at ∷ []) _ _ c.from_residual.ensures
    ∙ value_off _ _ _ _ _ _ _ (sym c.in_err-count_at.ensures) c.loop.invariant c.loop-test.true

pub returns-in_err-next : goal.returns-in_err-next
returns-in_err-next c =
    told_up (λ at. 0 ∷ at ∷ []) _ _ c.from_residual-in_err-next.ensures
    ∙ count_off _ _ _ _ _ _ _ _ _ (sym c.in_ok-count_at.ensures) (sym c.in_err-next.ensures) c.loop.invariant c.loop-test.true

pub loop-preserved : goal.loop-preserved
loop-preserved c = wires_on _ _ _ _ _ _ _ _ _ (sym c.in_ok-count_at.ensures) (sym c.in_ok-next.ensures) c.loop.invariant c.loop-test.true

pub returns : goal.returns
returns c = wires_end _ _ _ _ _ c.loop.invariant (omega arith)
