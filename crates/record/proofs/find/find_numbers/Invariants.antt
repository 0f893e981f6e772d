-- `record::find::find_numbers` meets its contract.
-- Assumes nothing.
use Rattle.std.proofs.Common.{◌≡◌, ◌-◌}
use Rattle.record.specs.Numbers.{numbers_answer}
use Rattle.record.proofs.find.find_numbers.Given as goal

abbrev pub invariant-loop : goal.invariant-loop
invariant-loop l = numbers_answer l.bound (l.n - l.counter) l.source l.next ≡ numbers_answer l.bound l.n l.source l.at
