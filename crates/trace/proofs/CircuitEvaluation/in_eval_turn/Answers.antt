-- `trace::CircuitEvaluation::in_eval_turn` meets its contract.
-- Assumes nothing.
use mathlib.Core.Path.{◌∙◌}
use borrow.Author.Rules.{rules}
use Rattle.trace.proofs.Tests.{eval_early, eval_late, eval_no_reads, eval_by_next}
use Rattle.trace.proofs.CircuitEvaluation.in_eval_turn.Goals as goal

pub returns-then-self : goal.returns-then-self
returns-then-self c = eval_early _ (search rules)

pub returns-then-self-2 : goal.returns-then-self-2
returns-then-self-2 c = eval_late _ (search rules)

pub returns-then-self-eq0 : goal.returns-then-self-eq0
returns-then-self-eq0 c = eval_no_reads _ (search rules)

pub returns : goal.returns
returns c = c.is_next.ensures ∙ eval_by_next _ (search rules) (search rules) (search rules)
