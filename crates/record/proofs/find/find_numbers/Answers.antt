-- `record::find::find_numbers` meets its contract.
-- Assumes nothing.
use Rattle.std.proofs.Common.{[], ◌∷◌, sym, ◌∙◌, arith}
use Rattle.refusal.proofs.Passing.{told_up}
use Rattle.record.proofs.Numbers.{numbers_on, numbers_off, numbers_end}
use Rattle.record.proofs.find.find_numbers.Goals as goal

pub returns-in_err-next : goal.returns-in_err-next
returns-in_err-next c =
    told_up (λ at. 0 ∷ at ∷ []) _ _ c.from_residual.ensures
    ∙ numbers_off _ _ _ _ _ _ _ _ (sym c.in_err-next.ensures) c.loop.invariant c.loop-test.true

pub loop-preserved : goal.loop-preserved
loop-preserved c = numbers_on _ _ _ _ _ _ _ _ (sym c.in_ok-next.ensures) c.loop.invariant c.loop-test.true

pub returns : goal.returns
returns c = numbers_end _ _ _ _ _ _ c.loop.invariant (omega arith)
