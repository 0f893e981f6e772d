-- Opening: "takes ctx, clk, num_read and num_eval (u32) and refuses" 1, 2, 3 and 6, "changing nothing".
-- Assumes nothing.
use Rattle.std.specs.Prelude.{ℕ, Result, List, [], ◌∷◌}
use Rattle.refusal.specs.Told.{Told, accepted}
use Rattle.refusal.specs.Refusal.{told}
use Rattle.refusal.specs.declared.Refusal.{Refusal}
use Rattle.trace.specs.declared.CircuitEvaluation.{CircuitEvaluation}
use Rattle.trace.specs.Counts.{most_wires, wires, of_counts, with_room}
use Rattle.trace.specs.State.{next_id}
use Rattle.trace.specs.Outcome.{Lent, fits}

-- a state's seven numbers
abbrev pub numbers_of : CircuitEvaluation → List ℕ
numbers_of s = s.ctx ∷ s.clk ∷ s.num_read ∷ s.num_eval ∷ s.reads_done ∷ s.evals_done ∷ s.id_next ∷ []

-- each case of an answer, by number, place and values
abbrev pub open_told : Result CircuitEvaluation Refusal → Told
open_told = told numbers_of

-- the state before the first step
abbrev pub opened : ℕ → ℕ → ℕ → ℕ → CircuitEvaluation
opened ctx₀ clk₀ num-read num-eval = record {
  ctx = ctx₀;
  clk = clk₀;
  num_read = num-read;
  num_eval = num-eval;
  reads_done = 0;
  evals_done = 0;
  id_next = next_id (wires num-read num-eval) 0;
}

unfoldable pub open_answer : ℕ → ℕ → ℕ → ℕ → Lent → Told
open_answer ctx clk num-read num-eval b =
    of_counts most_wires num-read num-eval
    (with_room (fits (opened ctx clk num-read num-eval) b)
    (accepted (numbers_of (opened ctx clk num-read num-eval))))
