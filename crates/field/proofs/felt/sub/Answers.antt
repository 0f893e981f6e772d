-- `field::felt::sub` meets its contract.
-- Assumes nothing.
use Rattle.std.proofs.Common.{◌∙◌}
use Rattle.refusal.specs.Refusal.{number_alone}
use Rattle.field.specs.Field.{sub_f}
use Rattle.field.proofs.Over.{elements_refused, felts_passed}
use Rattle.field.proofs.felt.sub.Goals as goal

pub returns-in_err-a : goal.returns-in_err-a
returns-in_err-a c = elements_refused number_alone _ _ _ _ _ c.from_residual.ensures c.in_err-a.ensures

pub returns : goal.returns
returns c = felts_passed sub_f c.args.a c.args.b _ _ _ _ c.in_ok-a.ensures (c.result.view_is ∙ c.sub.ensures)
