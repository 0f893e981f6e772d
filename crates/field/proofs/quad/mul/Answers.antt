-- `field::quad::mul` meets its contract.
-- Assumes nothing.
use Rattle.std.proofs.Common.{ℕ, [], ◌∷◌, ap₂, ◌∙◌}
use Rattle.field.specs.Pair.{mul_pair}
use Rattle.field.proofs.Over.{elements_refused, pairs_passed}
use Rattle.field.proofs.Remainders.{sum_with}
use Rattle.field.proofs.quad.mul.Goals as goal

pub returns-in_err-a0 : goal.returns-in_err-a0
returns-in_err-a0 c = elements_refused (λ a. a) _ _ _ _ _ c.from_residual.ensures c.in_err-a0.ensures

pub returns : goal.returns
returns c =
    pairs_passed mul_pair c.args.a c.args.b _ _ _ _ _ _ c.in_ok-a0.ensures
    (ap₂ (λ (v w : ℕ). v ∷ w ∷ []) (c.result.view_is ∙ sum_with _ _ _ _ _ _ c.sum_of_products.ensures c.mul.ensures) (c.result-2.view_is ∙ c.sum_of_products-2.ensures))
