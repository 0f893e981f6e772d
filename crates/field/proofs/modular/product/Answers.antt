-- `field::modular::product` meets its contract: the four products of halves, added by columns.
-- Assumes nothing.
use Rattle.std.proofs.Common.{arith}
use Rattle.field.proofs.Halves.{halves}
use Rattle.field.proofs.modular.product.Goals as goal

pub returns : goal.returns
returns c = omega (arith, halves c.args.a c.args.b)
