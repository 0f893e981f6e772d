-- `trace::CircuitEvaluation::in_read_turn` meets its contract.
-- Assumes nothing.
use mathlib.Core.Path.{◌∙◌}
use borrow.Author.Rules.{rules}
use Rattle.trace.proofs.Tests.{read_late, read_begun, read_no_evals, read_by_next}
use Rattle.trace.proofs.CircuitEvaluation.in_read_turn.Goals as goal

pub returns-then-self : goal.returns-then-self
returns-then-self c = read_late _ (search rules)

pub returns-then-self-ne0 : goal.returns-then-self-ne0
returns-then-self-ne0 c = read_begun _ (search rules)

pub returns-then-self-eq0 : goal.returns-then-self-eq0
returns-then-self-eq0 c = read_no_evals _ (search rules)

pub returns : goal.returns
returns c = c.is_next.ensures ∙ read_by_next _ (search rules) (search rules) (search rules)
