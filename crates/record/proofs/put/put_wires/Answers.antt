-- `record::put::put_wires` meets its contract.
-- Assumes nothing.
use Rattle.std.proofs.Common.{ap, arith}
use Rattle.record.proofs.Widths.{taken}
use Rattle.record.proofs.Putting.{wires_none, wire_room, wire_wrote}
use Rattle.record.proofs.put.put_wires.Goals as goal

pub loop-k-init : goal.loop-k-init
loop-k-init c = wires_none c.args.values.now c.args.counts.now _ _

pub put_numbers-next-requires : goal.put_numbers-next-requires
put_numbers-next-requires c =
    let a = c.args in
    omega (arith, ap taken c.wire.ensures, wire_room a.values.now a.counts.now c.loop-k.k c.loop-k.invariant _ c.loop-k-test.true c.requires.1)

pub loop-k-preserved : goal.loop-k-preserved
loop-k-preserved c =
    let p = c.put_numbers-next.ensures in
    wire_wrote c.args.values.now c.args.counts.now c.loop-k.k c.loop-k.invariant _ _ (rw (← c.wire.ensures) (record { place = p.value; bytes = p.out_after }))
