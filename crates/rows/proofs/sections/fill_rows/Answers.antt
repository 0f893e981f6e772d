-- `rows::sections::fill_rows` meets its contract.
-- Assumes nothing.
use Rattle.std.proofs.Common.{arith, refl}
use Rattle.field.proofs.Each.{each_none}
use Rattle.rows.proofs.Filling.{row_next, all_rows}
use Rattle.rows.proofs.sections.fill_rows.Goals as goal

pub loop-i-init : goal.loop-i-init
loop-i-init g c = λ row m. rw (each_none row) refl

pub loop-i-preserved : goal.loop-i-preserved
loop-i-preserved g c = λ row m.
    row_next row m.1 c.args.first c.loop-i.i c.args.rows.now (m.0 _ _ c.loop-i-test.true c.cols.ensures) c.put.ensures (c.loop-i.invariant row m)

pub returns : goal.returns
returns g c = λ row m. all_rows row c.args.first _ c.loop-i.i c.args.rows.now _ (c.loop-i.invariant row m) (omega arith)
