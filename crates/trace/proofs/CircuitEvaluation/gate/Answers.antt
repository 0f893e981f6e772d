-- `trace::CircuitEvaluation::gate` meets its contract.
-- Assumes nothing.
use mathlib.Core.Path.{ap}
use native.Mathlib.Omega.{arith}
use Rattle.instruction.specs.Decode.{op_number}
use Rattle.trace.specs.declared.wire_bus.WireBus.{WireBus}
use Rattle.trace.proofs.Writes.{gate_made}
use Rattle.trace.proofs.CircuitEvaluation.gate.Goals as goal

pub insert-requires : goal.insert-requires
insert-requires c = let h = c.requires in let m = (ap (λ (w : WireBus). w.made) c.wire_bus-bus.ensures) in (omega arith, omega arith)

pub returns : goal.returns
returns c =
    let a = c.args in
    gate_made
    a.self
    a.ptr
    a.values.now
    a.counts.now
    a.nodes.now
    c.wire_bus-bus.ensures
    a.id_l
    a.id_r
    (op_number a.op)
    a.v_l
    a.v_r
    _
    _
    c.apply-v_0.ensures
    c.eval_op.ensures
    c.insert.ensures.values_after
    c.insert.ensures.counts_after
    c.put.ensures
