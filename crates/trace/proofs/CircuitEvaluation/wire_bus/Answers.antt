-- `trace::CircuitEvaluation::wire_bus` meets its contract.
-- Assumes nothing.
use mathlib.Core.Path.{ap₂}
use Rattle.trace.specs.Inside.{bus}
use Rattle.trace.proofs.CircuitEvaluation.wire_bus.Goals as goal

pub returns : goal.returns
returns c = ap₂ bus c.num_wires.ensures c.made.ensures
