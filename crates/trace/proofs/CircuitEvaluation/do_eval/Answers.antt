-- `trace::CircuitEvaluation::do_eval` meets its contract.
-- Assumes nothing.
use Rattle.std.proofs.Common.{arith, ◌∙◌, refl}
use Rattle.instruction.specs.Decode.{op_number}
use Rattle.trace.specs.Outcome.{lent}
use Rattle.trace.proofs.Ways.{room_kept, bus-room, eval_refused, eval_ready, eval_undecoded, eval_operands, left_refused, left_taken, right_refused, right_taken, both_taken}
use Rattle.trace.proofs.CircuitEvaluation.do_eval.Goals as goal

pub returns-in-Err : goal.returns-in-Err
returns-in-Err c = rw (c.refused.ensures, eval_refused _ _ _ _ _ _ c.in-Err.ensures)

pub returns-in_default-decode_instruction : goal.returns-in_default-decode_instruction
returns-in_default-decode_instruction c = rw (c.refused-in_default-decode_instruction.ensures, eval_undecoded _ _ _ _ c.in_default.ensures refl c.in_default-decode_instruction.ensures)

pub read_value-left-requires : goal.read_value-left-requires
read_value-left-requires c =
    let h = eval_ready _ _ _ _ c.in_default.ensures refl in
    bus-room _ _ _ _ _ c.wire_bus-bus.ensures h.0 h.1

pub returns-in-Err-left : goal.returns-in-Err-left
returns-in-Err-left c =
    rw (
      c.refused-in-Err-left.ensures,
      left_refused c.args.self c.args.ptr c.in-Ok.id_l c.in-Ok.id_r (op_number c.in-Ok.op) (lent c.args.values.now c.args.counts.now c.args.nodes.now)
          _ c.wire_bus-bus.ensures _ _ c.read_value-left.ensures.result_value c.read_value-left.ensures.counts_after _ c.in-Err-left.is
          ∙ eval_operands _ _ _ _ c.in_default.ensures refl c.in-Ok.ensures,
    )

pub read_value-right-requires : goal.read_value-right-requires
read_value-right-requires c =
    let h = eval_ready _ _ _ _ c.in_default.ensures refl in
    bus-room _ _ _ _ _ c.wire_bus-bus.ensures (room_kept _ _ _ _ _ c.read_value-left.auto.counts h.0) h.1

pub returns-in-Err-right : goal.returns-in-Err-right
returns-in-Err-right c =
    rw (
      c.refused-in-Err-right.ensures,
      right_refused c.args.self c.args.ptr c.in-Ok.id_l c.in-Ok.id_r (op_number c.in-Ok.op) (lent c.args.values.now c.args.counts.now c.args.nodes.now)
          _ c.wire_bus-bus.ensures _ _ c.read_value-left.ensures.result_value c.read_value-left.ensures.counts_after _ c.in-Ok-left.is
          _ _ c.read_value-right.ensures.result_value c.read_value-right.ensures.counts_after _ c.in-Err-right.is
          ∙ eval_operands _ _ _ _ c.in_default.ensures refl c.in-Ok.ensures,
    )

pub gate-requires : goal.gate-requires
gate-requires c =
    let h = eval_ready _ _ _ _ c.in_default.ensures refl in (
      room_kept _ _ _ _ _ c.read_value-right.auto.counts (room_kept _ _ _ _ _ c.read_value-left.auto.counts h.0),
      h.1,
      (left_taken c.args.self c.args.ptr c.in-Ok.id_l c.in-Ok.id_r (op_number c.in-Ok.op) (lent c.args.values.now c.args.counts.now c.args.nodes.now)
          _ c.wire_bus-bus.ensures _ _ c.read_value-left.ensures.result_value c.read_value-left.ensures.counts_after _ c.in-Ok-left.is).elements,
      (right_taken c.args.self c.args.ptr c.in-Ok.id_l c.in-Ok.id_r (op_number c.in-Ok.op) (lent c.args.values.now c.args.counts.now c.args.nodes.now)
          _ c.wire_bus-bus.ensures _ _ c.read_value-left.ensures.result_value c.read_value-left.ensures.counts_after _ c.in-Ok-left.is
          _ _ c.read_value-right.ensures.result_value c.read_value-right.ensures.counts_after _ c.in-Ok-right.is).elements,
    )

pub overflow_add-self : goal.overflow_add-self
overflow_add-self c = let h = eval_ready _ _ _ _ c.in_default.ensures refl in omega arith

pub before-requires : goal.before-requires
before-requires c = let h = eval_ready _ _ _ _ c.in_default.ensures refl in omega arith

pub returns : goal.returns
returns c =
    both_taken c.args.self c.args.ptr c.in-Ok.id_l c.in-Ok.id_r (op_number c.in-Ok.op) (lent c.args.values.now c.args.counts.now c.args.nodes.now)
    _ c.wire_bus-bus.ensures _ _ c.read_value-left.ensures.result_value c.read_value-left.ensures.counts_after _ c.in-Ok-left.is
    _ _ c.read_value-right.ensures.result_value c.read_value-right.ensures.counts_after _ c.in-Ok-right.is _ _ c.before-2.ensures c.gate.ensures
    ∙ eval_operands _ _ _ _ c.in_default.ensures refl c.in-Ok.ensures
