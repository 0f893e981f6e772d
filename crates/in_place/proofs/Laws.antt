-- Opening in place tells and leaves what the definition says.
-- Assumes nothing.
use Rattle.std.proofs.Common.{◌≡◌, ◌∙◌, sym, ap, ℕ, [], Result, Ok, Err}
use Rattle.refusal.specs.Told.{Told, accepted}
use Rattle.refusal.specs.declared.Refusal.{Refusal}
use Rattle.trace.specs.declared.CircuitEvaluation.{CircuitEvaluation}
use Rattle.trace.specs.Counts.{most_wires}
use Rattle.trace.specs.Outcome.{Lent, Outcome, outcome, unless_refused, fits}
use Rattle.trace.specs.Open.{opened, open_told, open_answer}
use Rattle.trace.specs.Record.{tested_told}
use Rattle.trace.proofs.Answers.{open_determined}
use Rattle.trace.proofs.Choices.{passes}
use Rattle.trace.proofs.Tests.{counts_of}
use Rattle.in_place.specs.InPlace.{open_step}

-- what opening by value tells, and the state that there is after it where t was before
abbrev pub opened_told : Result CircuitEvaluation Refusal → Result Unit Refusal
opened_told (Ok s) = Ok tt
opened_told (Err e) = Err e

abbrev pub opened_state : Result CircuitEvaluation Refusal → CircuitEvaluation → CircuitEvaluation
opened_state (Ok s) t = s
opened_state (Err e) t = t

module _ (ctx clk num-read num-eval : ℕ) (b : Lent) (t : CircuitEvaluation) where
  abbrev new : CircuitEvaluation
  new = opened ctx clk num-read num-eval

  abbrev goes : Told → Outcome
  goes told = unless_refused told t b (outcome (accepted []) new b)

  opened_is : (s : CircuitEvaluation) → open_told (Ok s) ≡ open_answer ctx clk num-read num-eval b → s ≡ new
  unfolding open_answer
  opened_is s e =
      let room = (counts_of most_wires num-read num-eval _ _ (sym e)).1 in
      let same = open_determined (Ok s) (Ok new) (sym (passes (fits new b) _ 6 0 _ room).1) in
      cc

  pub opens_in_place : (a : Result CircuitEvaluation Refusal) → open_told a ≡ open_answer ctx clk num-read num-eval b → outcome (tested_told (opened_told a)) (opened_state a t) b ≡ open_step t ctx clk num-read num-eval b
  opens_in_place (Ok s) e = ap (λ (u : CircuitEvaluation). outcome (accepted []) u b) (opened_is s e) ∙ ap goes e
  opens_in_place (Err refusal) e = ap goes e
