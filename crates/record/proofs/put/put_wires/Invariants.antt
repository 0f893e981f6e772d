-- `record::put::put_wires` meets its contract.
-- Assumes nothing.
use Rattle.field.specs.Lists.{each}
use Rattle.record.specs.Bytes.{wire_numbers}
use Rattle.record.proofs.Putting.{Wrote}
use Rattle.record.proofs.put.put_wires.Given as goal

abbrev pub invariant-loop-k : goal.invariant-loop-k
invariant-loop-k l = Wrote l.initial.out l.at (each (wire_numbers l.values l.counts) l.k) l.out l.next
