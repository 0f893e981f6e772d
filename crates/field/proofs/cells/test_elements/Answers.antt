-- `field::cells::test_elements` meets its contract.
-- Assumes nothing.
use Rattle.std.proofs.Common.{sym, arith}
use Rattle.field.proofs.Over.{refused_at, of_elements_lem, over_whole}
use Rattle.field.proofs.cells.test_elements.Goals as goal

pub returns-then-place-numbers : goal.returns-then-place-numbers
returns-then-place-numbers c = let e = over_whole _ _ c.first_over-place.ensures in refused_at _ _ _ (omega arith) (omega arith)

pub returns : goal.returns
returns c = let e = over_whole _ _ c.first_over-place.ensures in sym (of_elements_lem _ _ (omega arith))
