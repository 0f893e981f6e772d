-- `rows::sections::fill_rows` meets its contract.
-- Assumes nothing.
use Rattle.std.proofs.Common.{◌≡◌, ℕ, ◌*◌, List}
use Rattle.std.proofs.lemmas.List.Edits.{sets}
use Rattle.field.specs.Lists.{each}
use Rattle.rows.specs.Inside.{MakesRows}
use Rattle.rows.proofs.sections.fill_rows.Given as goal

abbrev pub invariant-loop-i : goal.invariant-loop-i
invariant-loop-i g l = (row : ℕ → List ℕ) → MakesRows (goal.F-post g l.cols) l.num row → l.rows ≡ sets l.initial.rows (16 * l.first) (each row l.i)
