-- `record::width::wires_width` meets its contract.
-- Assumes nothing.
use Rattle.std.proofs.Common.{◌+◌, sym, ap, arith}
use Rattle.record.proofs.Widths.{taken, wires_taken_none, wires_taken_next, wires_most}
use Rattle.record.proofs.width.wires_width.Goals as goal

pub loop-k-init : goal.loop-k-init
loop-k-init c = sym (wires_taken_none c.args.values.now c.args.counts.now)

pub overflow_add-total : goal.overflow_add-total
overflow_add-total c =
    let a = c.args in
    omega (arith, ap taken c.wire.ensures, wires_taken_next a.values.now a.counts.now c.loop-k.k, wires_most a.values.now a.counts.now (c.loop-k.k + 1))

pub loop-k-preserved : goal.loop-k-preserved
loop-k-preserved c = omega (arith, ap taken c.wire.ensures, wires_taken_next c.args.values.now c.args.counts.now c.loop-k.k)
