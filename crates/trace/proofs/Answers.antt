-- What the public contracts determine: an answer is known from what it tells, and so are a step's answer and the buffers beside it.
-- Assumes nothing.
use Rattle.std.proofs.Common.{◌≡◌, ℕ, List, Result, Ok, Err, sym, ap, ap₂, get_or}
use Rattle.refusal.specs.Told.{accepted}
use Rattle.refusal.specs.declared.Refusal.{Refusal}
use Rattle.refusal.proofs.Tellings.{clash, same_values, same_refusal}
use Rattle.refusal.proofs.Known.{told_determined, nothing_determined}
use Rattle.refusal.proofs.Known as refusals
use Rattle.trace.specs.declared.CircuitEvaluation.{CircuitEvaluation}
use Rattle.trace.specs.declared.RecordHeader.{RecordHeader}
use Rattle.trace.specs.declared.RefusedStep.{RefusedStep}
use Rattle.trace.specs.Outcome.{Lent, Outcome, lent, step_outcome}
use Rattle.trace.specs.Open.{numbers_of, open_told}
use Rattle.trace.specs.Output.{output_told, header_numbers, header_of}
use Rattle.trace.specs.Record.{tested_told, header_told, finalized_answer}
use Rattle.trace.proofs.Records.{finalized_of}

-- a state is known from its numbers
abbrev state_by : List ℕ → CircuitEvaluation
state_by vs = record {
  ctx = get_or vs 0 0;
  clk = get_or vs 1 0;
  num_read = get_or vs 2 0;
  num_eval = get_or vs 3 0;
  reads_done = get_or vs 4 0;
  evals_done = get_or vs 5 0;
  id_next = get_or vs 6 0;
}

same_state : (s t : CircuitEvaluation) → numbers_of s ≡ numbers_of t → s ≡ t
same_state s t e = ap state_by e

-- a header is known from its numbers
abbrev headed : List ℕ → RecordHeader
headed vs = record {
  ctx = get_or vs 0 0;
  clk = get_or vs 1 0;
  num_read = get_or vs 2 0;
  num_eval = get_or vs 3 0;
  id_next = get_or vs 4 0;
}

pub same_header : (h k : RecordHeader) → header_numbers h ≡ header_numbers k → h ≡ k
same_header h k e = ap headed e

-- "any two outcomes it allows are the same one", of each contract
pub open_determined : (r s : Result CircuitEvaluation Refusal) → open_told r ≡ open_told s → r ≡ s
open_determined = told_determined numbers_of same_state

pub output_determined : (r s : Result RecordHeader Refusal) → output_told r ≡ output_told s → r ≡ s
output_determined = told_determined header_numbers same_header

pub header_determined : (r s : Result RecordHeader Refusal) → header_told r ≡ header_told s → r ≡ s
header_determined = told_determined header_numbers same_header

pub tested_determined : (r s : Result Unit Refusal) → tested_told r ≡ tested_told s → r ≡ s
tested_determined = nothing_determined

same_refused : (d e : RefusedStep) → d.state ≡ e.state → d.refusal ≡ e.refusal → d ≡ e
same_refused d e = ap₂ (λ (s : CircuitEvaluation) (r : Refusal). record { state = s; refusal = r })

-- the answer of a step by its state and what is told of it
pub step_determined : (r s : Result CircuitEvaluation RefusedStep) (b d : Lent) → step_outcome r b ≡ step_outcome s d → (r ≡ s) × (b ≡ d)
step_determined (Ok s) (Ok t) b d e = (ap Ok (ap (λ (o : Outcome). o.state) e), ap (λ (o : Outcome). o.buffers) e)
step_determined (Ok s) (Err f) b d e = clash (sym (ap (λ (o : Outcome). o.told) e))
step_determined (Err f) (Ok t) b d e = clash (ap (λ (o : Outcome). o.told) e)
step_determined (Err f) (Err g) b d e =
    let h = same_refusal (ap (λ (o : Outcome). o.told) e) in (
      ap Err (same_refused f g (ap (λ (o : Outcome). o.state) e) (refusals.same_refused f.refusal g.refusal h.0 h.1)),
      ap (λ (o : Outcome). o.buffers) e,
    )

-- lent buffers are known from their cells
pub lent_equal : {vs us cs ds ns ms : List ℕ} → vs ≡ us → cs ≡ ds → ns ≡ ms → lent vs cs ns ≡ lent us ds ms
lent_equal e f g = cc

-- the header of a finished state is known from what is told of it
pub finalized_header : (h : RecordHeader) (s : CircuitEvaluation) → accepted (header_numbers h) ≡ finalized_answer s → h ≡ header_of s
finalized_header h s e =
    same_header h (header_of s) (same_values (sym (finalized_of s (accepted (header_numbers (header_of s))) (header_numbers h) (sym e)).2))
