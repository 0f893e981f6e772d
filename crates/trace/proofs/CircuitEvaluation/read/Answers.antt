-- `trace::CircuitEvaluation::read` meets its contract.
-- Assumes nothing.
use mathlib.Core.Path.{ap}
use native.Mathlib.Omega.{arith}
use Rattle.trace.specs.declared.wire_bus.WireBus.{WireBus}
use Rattle.trace.proofs.Writes.{read_made_lem}
use Rattle.trace.proofs.CircuitEvaluation.read.Goals as goal

pub insert-next-requires : goal.insert-next-requires
insert-next-requires c = let h = c.requires in let m = (ap (λ (w : WireBus). w.made) c.wire_bus-bus.ensures) in (omega arith, omega arith)

pub insert-requires : goal.insert-requires
insert-requires c = let h = c.requires in let m = (ap (λ (w : WireBus). w.made) c.wire_bus-bus.ensures) in let n = ap (λ (w : WireBus). w.made) c.insert-next.ensures.value in let k = c.insert-next.auto in (omega arith, omega arith)

pub returns : goal.returns
returns c =
    let a = c.args in
    let i = c.insert-next.ensures in
    let j = c.insert.ensures in
    read_made_lem
    a.self
    a.ptr
    a.values.now
    a.counts.now
    a.nodes.now
    c.wire_bus-bus.ensures
    a.v_0
    a.v_1
    i.value
    i.values_after
    i.counts_after
    j.values_after
    j.counts_after
    c.put.ensures
