-- `record::load::load_wires` meets its contract.
-- Assumes nothing.
use Rattle.record.proofs.WireLoads.{WiresLoaded}
use Rattle.record.proofs.load.load_wires.Given as goal

abbrev pub invariant-loop-k : goal.invariant-loop-k
invariant-loop-k l = WiresLoaded l.source l.at l.values l.counts l.next l.k
