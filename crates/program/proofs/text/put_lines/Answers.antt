-- `program::text::put_lines` meets its contract.
-- Assumes nothing.
use native.Mathlib.Omega.{arith}
use Rattle.std.proofs.Common.{◌≡◌, length}
use Rattle.program.proofs.Texts.{lines_none, number_room, byte_room, line_next}
use Rattle.program.proofs.text.put_lines.Goals as goal

pub loop-i-init : goal.loop-i-init
loop-i-init c = lines_none c.args.width c.args.cells.now _ _

pub put_decimal-end-requires : goal.put_decimal-end-requires
put_decimal-end-requires c =
    let l = c.loop-i in
    let a = c.args in
    number_room a.width a.cells.now l.i l.invariant _ c.loop-i-test.true c.requires.1

pub bounds-out-end : goal.bounds-out-end
bounds-out-end c =
    let l = c.loop-i in
    let a = c.args in
    let p = c.put_decimal-end in
    omega (arith, byte_room a.width a.cells.now l.i l.invariant _ c.loop-i-test.true c.requires.1 _ p.ensures.value, p.auto.out)

pub overflow_add-next : goal.overflow_add-next
overflow_add-next c =
    let l = c.loop-i in
    let a = c.args in
    record { fits = omega (arith, byte_room a.width a.cells.now l.i l.invariant _ c.loop-i-test.true c.requires.1 _ c.put_decimal-end.ensures.value) }

pub loop-i-preserved : goal.loop-i-preserved
loop-i-preserved c =
    let l = c.loop-i in
    let p = c.put_decimal-end in
    line_next c.args.width c.args.cells.now l.i l.invariant _ _ _ p.ensures.value p.ensures.out_after c.end_of.ensures

pub returns : goal.returns
returns c =
    let l = c.loop-i in
    let e : l.i ≡ length c.args.cells.now = omega arith in
    let w = rw e at l.invariant in
    record { value = w.place; out_after = w.bytes }
