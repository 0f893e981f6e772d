-- `record::find::find_wires` meets its contract.
-- Assumes nothing.
use Rattle.std.proofs.Common.{◌≡◌, ◌-◌}
use Rattle.record.specs.Reading.{wires_answer}
use Rattle.record.proofs.find.find_wires.Given as goal

abbrev pub invariant-loop : goal.invariant-loop
invariant-loop l = wires_answer (l.n - l.counter) l.source l.next ≡ wires_answer l.n l.source l.at
