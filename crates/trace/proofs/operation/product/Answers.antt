-- `trace::operation::product` meets its contract.
-- Assumes nothing.
use Rattle.std.proofs.Common.{sym, ap, ◌∙◌}
use Rattle.refusal.proofs.Passing.{told_is_ok}
use Rattle.refusal.proofs.Tellings.{same_values}
use Rattle.field.specs.Answer.{quad_told}
use Rattle.field.specs.Pair.{mul_pair}
use Rattle.field.proofs.Answers.{quad_value}
use Rattle.trace.proofs.operation.product.Goals as goal

pub unwrap-requires : goal.unwrap-requires
unwrap-requires c = told_is_ok (λ a. a) _ _ (c.mul.ensures ∙ quad_value mul_pair c.args.v_l c.args.v_r c.requires.0 c.requires.1)

pub returns : goal.returns
returns c = same_values (ap quad_told (sym c.unwrap.ensures) ∙ c.mul.ensures ∙ quad_value mul_pair c.args.v_l c.args.v_r c.requires.0 c.requires.1)
