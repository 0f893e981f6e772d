-- `field::quad::add_or_sub` meets its contract.
-- Assumes nothing.
use Rattle.std.proofs.Common.{cond, ◌∙◌}
use Rattle.field.specs.Pair.{add_pair, sub_pair}
use Rattle.field.proofs.Over.{elements_refused, pairs_passed}
use Rattle.field.proofs.PairLaws.{pair_chosen}
use Rattle.field.proofs.quad.add_or_sub.Goals as goal

pub returns-in_err-a0 : goal.returns-in_err-a0
returns-in_err-a0 c = elements_refused (λ a. a) _ _ _ _ _ c.from_residual.ensures c.in_err-a0.ensures

pub returns : goal.returns
returns c =
    pairs_passed (cond c.args.less sub_pair add_pair) c.args.a c.args.b _ _ _ _ _ _ c.in_ok-a0.ensures
    (pair_chosen c.args.less _ _ _ _ (c.result.view_is ∙ c.add_or_sub.ensures) (c.result-2.view_is ∙ c.add_or_sub-2.ensures))
