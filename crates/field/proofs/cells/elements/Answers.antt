-- `field::cells::elements` meets its contract.
-- Assumes nothing.
use Rattle.std.proofs.Common.{sym, rules}
use Rattle.std.proofs.lemmas.List.{ext_get_or}
use Rattle.field.proofs.Over.{elements_refused, elements_passed, elements_of}
use Rattle.field.proofs.cells.elements.Goals as goal

pub returns-in_err-test_elements : goal.returns-in_err-test_elements
returns-in_err-test_elements g c = elements_refused _ _ _ _ _ _ c.from_residual.ensures c.in_err-test_elements.ensures

pub invariant_of-felts-in-loop-at : goal.invariant_of-felts-in-loop-at
invariant_of-felts-in-loop-at g c = elements_of _ _ _ (sym c.in_ok-test_elements.ensures) c.loop-at.at (search rules)

pub returns : goal.returns
returns g c =
    elements_passed (λ _. c.args.numbers) _ _ _ _ c.in_ok-test_elements.ensures
    (ext_get_or 0 _ _ c.loop-at.invariant.long (λ k h. c.loop-at.invariant.same k (search rules)))
