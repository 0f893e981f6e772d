-- Both surfaces: whatever the contract of a call in place and the contract of the call by value allow, answer, state and lent buffers are the same, on every input.
-- Assumes nothing.
use Rattle.std.proofs.Common.{◌≡◌, ◌∙◌, refl, sym, ap, ℕ, List, Result, Ok, Err}
use Rattle.refusal.specs.declared.Refusal.{Refusal}
use Rattle.trace.specs.declared.CircuitEvaluation.{CircuitEvaluation}
use Rattle.trace.specs.declared.RecordHeader.{RecordHeader}
use Rattle.trace.specs.declared.RefusedStep.{RefusedStep}
use Rattle.trace.specs.Outcome.{Lent, Outcome, outcome, step_outcome}
use Rattle.trace.specs.Open.{open_told, open_answer}
use Rattle.trace.specs.Output.{output_told, output_answer}
use Rattle.trace.specs.Read.{read_step}
use Rattle.trace.specs.Eval.{eval_step}
use Rattle.trace.specs.Record.{tested_told}
use Rattle.trace.proofs.Answers.{step_determined, output_determined, tested_determined}
use Rattle.in_place.specs.InPlace.{open_step}
use Rattle.in_place.proofs.Laws.{opened_told, opened_state, opens_in_place}

-- "any two outcomes it allows are the same one", of the calls in place that change the state
pub in_place_determined : (r r' : Result Unit Refusal) (s s' : CircuitEvaluation) (b b' : Lent) → outcome (tested_told r) s b ≡ outcome (tested_told r') s' b' → (r ≡ r') × (s ≡ s') × (b ≡ b')
in_place_determined r r' s s' b b' e = (
  tested_determined r r' (ap (λ (o : Outcome). o.told) e),
  ap (λ (o : Outcome). o.state) e,
  ap (λ (o : Outcome). o.buffers) e,
)

-- a step's answer, from what the step in place tells and the state that it leaves
abbrev pub stepped : Result Unit Refusal → CircuitEvaluation → Result CircuitEvaluation RefusedStep
stepped (Ok u) s = Ok s
stepped (Err e) s = Err (record { state = s; refusal = e })

stepped_outcome : (r : Result Unit Refusal) (s : CircuitEvaluation) (b : Lent) → step_outcome (stepped r s) b ≡ outcome (tested_told r) s b
stepped_outcome (Ok u) s b = refl
stepped_outcome (Err e) s b = refl

alike : (o : Outcome) (a : Result CircuitEvaluation RefusedStep) (b : Lent) (r : Result Unit Refusal) (s : CircuitEvaluation) (d : Lent) → step_outcome a b ≡ o → outcome (tested_told r) s d ≡ o → (a ≡ stepped r s) × (b ≡ d)
alike o a b r s d by_value in_place = step_determined a (stepped r s) b d (by_value ∙ sym in_place ∙ sym (stepped_outcome r s d))

-- t, w and so on are handed to both; a and b are what the step by value answers and leaves; r, s and d what the step in place tells and leaves
pub reads_alike : (t : CircuitEvaluation) (ptr : ℕ) (word : List (List ℕ)) (lent₀ : Lent) (a : Result CircuitEvaluation RefusedStep) (b : Lent) (r : Result Unit Refusal) (s : CircuitEvaluation) (d : Lent)
    → step_outcome a b ≡ read_step t ptr word lent₀ → outcome (tested_told r) s d ≡ read_step t ptr word lent₀ → (a ≡ stepped r s) × (b ≡ d)
reads_alike t ptr word lent₀ = alike (read_step t ptr word lent₀)

pub evals_alike : (t : CircuitEvaluation) (ptr word : ℕ) (lent₀ : Lent) (a : Result CircuitEvaluation RefusedStep) (b : Lent) (r : Result Unit Refusal) (s : CircuitEvaluation) (d : Lent)
    → step_outcome a b ≡ eval_step t ptr word lent₀ → outcome (tested_told r) s d ≡ eval_step t ptr word lent₀ → (a ≡ stepped r s) × (b ≡ d)
evals_alike t ptr word lent₀ = alike (eval_step t ptr word lent₀)

pub opens_alike : (t : CircuitEvaluation) (ctx clk num-read num-eval : ℕ) (b : Lent) (a : Result CircuitEvaluation Refusal) (r : Result Unit Refusal) (s : CircuitEvaluation)
    → open_told a ≡ open_answer ctx clk num-read num-eval b → outcome (tested_told r) s b ≡ open_step t ctx clk num-read num-eval b → (r ≡ opened_told a) × (s ≡ opened_state a t)
opens_alike t ctx clk num-read num-eval b a r s by_value in_place =
    let both = in_place_determined r (opened_told a) s (opened_state a t) b b (in_place ∙ sym (opens_in_place ctx clk num-read num-eval b t a by_value)) in
    (both.0, both.1)

pub results_alike : (t : CircuitEvaluation) (b : Lent) (a r : Result RecordHeader Refusal) → output_told a ≡ output_answer t b → output_told r ≡ output_answer t b → a ≡ r
results_alike t b a r by_value in_place = output_determined a r (by_value ∙ sym in_place)
