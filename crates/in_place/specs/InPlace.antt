-- The calls in place, by the definitions of the calls by value.
-- Assumes nothing.
use Rattle.std.specs.Prelude.{ℕ, []}
use Rattle.refusal.specs.Told.{accepted}
use Rattle.trace.specs.declared.CircuitEvaluation.{CircuitEvaluation}
use Rattle.trace.specs.Outcome.{Lent, Outcome, outcome, unless_refused}
use Rattle.trace.specs.Open.{opened, open_answer}

-- opening over a state that is there: a refusal leaves it
abbrev pub open_step : CircuitEvaluation → ℕ → ℕ → ℕ → ℕ → Lent → Outcome
open_step s ctx clk num-read num-eval b =
    unless_refused (open_answer ctx clk num-read num-eval b) s b
    (outcome (accepted []) (opened ctx clk num-read num-eval) b)
