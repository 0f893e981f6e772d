-- `field::cells::first_over` meets its contract.
-- Assumes nothing.
use Rattle.std.proofs.Common.{◌≡◌, ◌+◌, ◌-◌, ◌≤◌, max, take, drop}
use Rattle.field.specs.Field.{first_over}
use Rattle.field.proofs.cells.first_over.Given as goal

abbrev pub invariant-loop-at : goal.invariant-loop-at
invariant-loop-at l = record {
  none_so_far : l.at + first_over (take (l.end - l.at) (drop l.at l.cells)) ≡ l.start + first_over (take (l.end - l.start) (drop l.start l.cells));
  not_past : l.at ≤ max l.start l.stop;
}
