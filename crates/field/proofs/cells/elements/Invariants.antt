-- `field::cells::elements` meets its contract.
-- Assumes nothing.
use Rattle.std.proofs.Common.{◌≡◌, ℕ, ◌<◌, length, get_or}
use Rattle.field.proofs.cells.elements.Given as goal

abbrev pub invariant-loop-at : goal.invariant-loop-at
invariant-loop-at g l = record {
  long : length l.felts ≡ length l.numbers;
  same : (k : ℕ) → k < l.at → get_or l.felts k 0 ≡ get_or l.numbers k 0;
}
