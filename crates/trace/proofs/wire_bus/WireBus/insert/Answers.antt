-- `trace::wire_bus::WireBus::insert` meets its contract.
-- Assumes nothing.
use mathlib.Core.Path.{refl}
use native.Mathlib.Numerals.{add-one}
use native.Mathlib.Omega.{arith}
use lib.ListN.{length-set}
use Rattle.trace.proofs.wire_bus.WireBus.insert.Goals as goal

pub bounds-values-at-2 : goal.bounds-values-at-2
bounds-values-at-2 c = simp length-set (omega arith)

pub returns : goal.returns
returns c = record { value = refl; values_after = simp add-one; counts_after = refl }
