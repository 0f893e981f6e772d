-- `numbers::read_below` meets its contract.
-- Assumes nothing.
use Rattle.std.proofs.Common.{[], ◌∷◌, sym, ◌∙◌, arith}
use Rattle.refusal.proofs.Passing.{told_up}
use Rattle.numbers.proofs.Below.{below_accepted, below_over, below_refused}
use Rattle.numbers.proofs.read_below.Goals as goal

pub returns-in_err-value : goal.returns-in_err-value
returns-in_err-value c =
    told_up (λ number. number.0 ∷ number.1 ∷ []) _ _ c.from_residual.ensures ∙ sym (below_refused _ _ _ _ _ (sym c.in_err-value.ensures))

pub returns-then-value-bound : goal.returns-then-value-bound
returns-then-value-bound c = sym (below_accepted _ _ _ _ _ (sym c.in_ok-value.ensures) (omega arith))

pub returns : goal.returns
returns c = sym (below_over _ _ _ _ _ (sym c.in_ok-value.ensures) (omega arith))
