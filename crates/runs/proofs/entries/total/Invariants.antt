-- `runs::entries::total` meets its contract.
-- Assumes nothing.
use Rattle.std.proofs.Common.{◌≡◌, ◌*◌, ◌^◌, ◌≤◌, take}
use Rattle.runs.specs.Entries.{total}
use Rattle.runs.proofs.entries.total.Given as goal

abbrev pub invariant-loop-entry : goal.invariant-loop-entry
invariant-loop-entry l = (l.rows ≤ 2 ^ 33 * l.entry-index) × (l.rows ≡ total (take l.entry-index l.entries))
