-- `trace::CircuitEvaluation::test_eval` meets its contract.
-- Assumes nothing.
use Rattle.std.proofs.Common.{◌≡◌, ℕ, Bool, [], ◌∷◌, arith}
use Rattle.refusal.specs.Told.{Told, accepted}
use Rattle.field.specs.Answer.{of_elements}
use Rattle.trace.specs.Counts.{with_room}
use Rattle.trace.specs.State.{in_turn}
use Rattle.trace.specs.Eval.{eval_tests}
use Rattle.trace.proofs.CircuitEvaluation.test_eval.Goals as goal

-- what is handed on is the word, whatever text makes it
of_word : (turn fit : Bool) (handed word ptr : ℕ) (t : Told) → handed ≡ word → t ≡ in_turn turn (with_room fit (of_elements (handed ∷ ptr ∷ []) (accepted [])))
    → t ≡ in_turn turn (with_room fit (of_elements (word ∷ ptr ∷ []) (accepted [])))
of_word turn fit handed word ptr t e is = rw (← e) is

pub returns : goal.returns
unfolding eval_tests
returns c = rw (← c.in_eval_turn.ensures) (of_word _ _ _ _ _ _ (omega arith) c.test_step.ensures)
