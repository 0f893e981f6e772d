-- `record::find::find_declared` meets its contract.
-- Assumes nothing.
use Rattle.std.proofs.Common.{sym, arith}
use Rattle.std.proofs.lemmas.Bool.Decides.{nat_tests}
use Rattle.record.specs.Reading.{declared_answer}
use Rattle.record.proofs.Ways.{goes_on}
use Rattle.record.proofs.Places.{below_found}
use Rattle.record.proofs.find.find_declared.Goals as goal

pub returns-then-declared-eq0 : goal.returns-then-declared-eq0
unfolding declared_answer
returns-then-declared-eq0 c = let f = below_found _ _ _ _ _ (sym c.in_ok-declared.ensures) in grind (arith, nat_tests, goes_on)

pub returns-then-declared : goal.returns-then-declared
unfolding declared_answer
returns-then-declared c = let f = below_found _ _ _ _ _ (sym c.in_ok-declared.ensures) in grind (arith, nat_tests, goes_on)

pub returns-then-n-declared : goal.returns-then-n-declared
unfolding declared_answer
returns-then-n-declared c = let f = below_found _ _ _ _ _ (sym c.in_ok-declared.ensures) in grind (arith, nat_tests, goes_on)

pub returns : goal.returns
unfolding declared_answer
returns c = let f = below_found _ _ _ _ _ (sym c.in_ok-declared.ensures) in grind (arith, nat_tests, goes_on)
