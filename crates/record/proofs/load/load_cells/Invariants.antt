-- `record::load::load_cells` meets its contract.
-- Assumes nothing.
use Rattle.std.proofs.Common.{◌≡◌, take}
use Rattle.record.specs.Numbers.{after, numbers_from}
use Rattle.record.proofs.load.load_cells.Given as goal

abbrev pub invariant-loop-cell : goal.invariant-loop-cell
invariant-loop-cell l =
    (l.next ≡ after l.cell-index l.source l.at) × (take l.cell-index l.cell-items ≡ numbers_from l.cell-index l.source l.at)
