-- `trace::operation::sum_or_difference` meets its contract.
-- Assumes nothing.
use Rattle.std.proofs.Common.{sym, ap, ◌∙◌}
use Rattle.std.specs.Bool.{if◌then◌else◌}
use Rattle.refusal.proofs.Passing.{told_is_ok}
use Rattle.refusal.proofs.Tellings.{same_values}
use Rattle.field.specs.Answer.{quad_told}
use Rattle.field.specs.Pair.{add_pair, sub_pair}
use Rattle.field.proofs.Answers.{quad_value}
use Rattle.trace.proofs.operation.sum_or_difference.Goals as goal

pub unwrap-requires : goal.unwrap-requires
unwrap-requires c = told_is_ok (λ a. a) _ _ (c.add_or_sub.ensures ∙ quad_value (if c.args.less then sub_pair else add_pair) c.args.v_l c.args.v_r c.requires.0 c.requires.1)

pub returns : goal.returns
returns c =
    same_values (ap quad_told (sym c.unwrap.ensures) ∙ c.add_or_sub.ensures ∙ quad_value (if c.args.less then sub_pair else add_pair) c.args.v_l c.args.v_r c.requires.0 c.requires.1)
