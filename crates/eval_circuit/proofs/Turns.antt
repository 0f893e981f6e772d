-- One turn of each loop, and what a run of steps leaves.
-- Assumes nothing.
use mathlib.Core.Path.{◌≡◌, sym, ap, ap₂, ◌∙◌, subst}
use mathlib.Core.List.{List, []}
use mathlib.Core.Logic.{◌⊎◌, ⊎_elim}
use Prim.Native.Nat.{ℕ, ◌+◌, ◌*◌, ◌≤◌, ◌<◌}
use native.Mathlib.Omega.{arith}
use lib.ListN.{get_or}
use Rattle.refusal.specs.Told.{accepted, refused}
use Rattle.field.proofs.Cases.{below?}
use Rattle.refusal.proofs.Tellings.{clash}
use Rattle.trace.specs.declared.CircuitEvaluation.{CircuitEvaluation}
use Rattle.std.proofs.Common.{Result, Ok, Err}
use Rattle.refusal.specs.Refusal.{number_of, place_of}
use Rattle.trace.specs.declared.RefusedStep.{RefusedStep}
use Rattle.trace.specs.Counts.{node_cells}
use Rattle.trace.specs.Outcome.{Lent, Outcome, outcome, step_outcome}
use Rattle.trace.specs.Read.{read_step}
use Rattle.trace.specs.Eval.{eval_step}
use Rattle.eval_circuit.specs.Circuit.{Circuit, word, gate_answer, gates_answer}
use Rattle.eval_circuit.specs.Inside.{circuit_of, word_at, after, stage, Past, Prepared, step_told, Left}
use Rattle.eval_circuit.proofs.RegionCells.{region_word}
use Rattle.eval_circuit.proofs.Gates.{First, gate_early, gates_pass, gates_stop}
use Rattle.eval_circuit.proofs.Stages.{read_next}
use Rattle.eval_circuit.proofs.GateSteps.{Next, Stop, eval_next}

-- what an accepted step and a refused one say of the answer
pub done_is : (r : Result CircuitEvaluation RefusedStep) (t u : CircuitEvaluation) (d e : Lent) → step_outcome r d ≡ outcome (accepted []) u e → r ≡ Ok t → (t ≡ u) × (d ≡ e)
done_is r t u d e q h =
    let o : outcome (accepted []) t d ≡ outcome (accepted []) u e = rw h at q in
    (ap (λ (x : Outcome). x.state) o, ap (λ (x : Outcome). x.buffers) o)

pub not_refused : {A : Type 0} (r : Result CircuitEvaluation RefusedStep) (t : RefusedStep) (u : CircuitEvaluation) (d e : Lent) → step_outcome r d ≡ outcome (accepted []) u e → r ≡ Err t → A
not_refused r t u d e q h =
    let o : refused (number_of t.refusal) (place_of t.refusal) ≡ accepted [] = ap (λ (x : Outcome). x.told) (rw h at q) in
    clash o

pub stop_left : (r : Result CircuitEvaluation RefusedStep) (s u : CircuitEvaluation) (c : Circuit) (ptr n k : ℕ) (a e b : Lent) → step_outcome r a ≡ outcome (refused n k) u e
    → Past c (node_cells s.num_read s.num_eval) e b → (step_told r ≡ refused n k) × Left r s c ptr a b
stop_left (Ok t) s u c ptr n k a e b q h =
    clash (sym (ap (λ (x : Outcome). x.told) q))
stop_left (Err t) s u c ptr n k a e b q h =
    (ap (λ (x : Outcome). x.told) q, subst (λ (x : Lent). Past c (node_cells s.num_read s.num_eval) x b) (sym (ap (λ (x : Outcome). x.buffers) q)) h)

-- a state with the steps done, and the next id, of another
abbrev pub reads_of : CircuitEvaluation → CircuitEvaluation → CircuitEvaluation
reads_of s t = record { ctx = s.ctx; clk = s.clk; num_read = s.num_read; num_eval = s.num_eval; reads_done = t.reads_done; evals_done = s.evals_done; id_next = t.id_next }

abbrev pub evals_of : CircuitEvaluation → CircuitEvaluation → CircuitEvaluation
evals_of s t = record { ctx = s.ctx; clk = s.clk; num_read = s.num_read; num_eval = s.num_eval; reads_done = s.reads_done; evals_done = t.evals_done; id_next = t.id_next }

module _ (s : CircuitEvaluation) (memory : List ℕ) (ptr : ℕ) (b : Lent) (ok : Prepared s memory ptr b) where
  abbrev c : Circuit
  c = circuit_of s memory ptr

  module _ (r : Result CircuitEvaluation RefusedStep) (left : Lent) (i at : ℕ) (t : CircuitEvaluation) (w : List (List ℕ)) (here : Lent) (h : i < s.num_read)
      (q : step_outcome r left ≡ read_step t at w here) (et : t ≡ after s i 0) (ea : at ≡ ptr + 4 * i) (ew : w ≡ word_at memory at) (eh : here ≡ stage c ptr i 0 b) where
    read_is : step_outcome r left ≡ outcome (accepted []) (after s (i + 1) 0) (stage c ptr (i + 1) 0 b)
    read_is = q ∙ rw (et, ew, ea, eh) (read_next s memory ptr b ok i h)

    pub read_on : (u : CircuitEvaluation) → r ≡ Ok u → (reads_of t u ≡ after s (i + 1) 0) × (left ≡ stage c ptr (i + 1) 0 b)
    read_on u d = let e = done_is r u _ left _ read_is d in (ap₂ reads_of et e.0, e.1)

    pub read_off : (e : RefusedStep) → r ≡ Err e → ⊥
    read_off e d = not_refused r e _ left _ read_is d

  -- what the gates before gate k say
  abbrev pub Gone : ℕ → Type 0
  Gone k = (j : ℕ) → j < k → gate_answer c j ≡ accepted []

  module _ (r : Result CircuitEvaluation RefusedStep) (left : Lent) (k at : ℕ) (t : CircuitEvaluation) (v : ℕ) (here : Lent) (h : k < s.num_eval)
      (q : step_outcome r left ≡ eval_step t at v here) (et : t ≡ after s s.num_read k) (ea : at ≡ ptr + 4 * s.num_read + k) (ev : v ≡ get_or memory at 0)
      (eh : here ≡ stage c ptr s.num_read k b) (gone : Gone k) where
    step_is : step_outcome r left ≡ eval_step (after s s.num_read k) at (word c k) (stage c ptr s.num_read k b)
    step_is =
        let e : ptr + 4 * s.num_read + k ≡ ptr + (2 * (2 * s.num_read) + k) = omega arith in
        let w : v ≡ word c k = ev ∙ ap (λ (x : ℕ). get_or memory x 0) (ea ∙ e) ∙ sym (region_word memory ptr (2 * s.num_read) s.num_eval k h) in
        q ∙ rw (et, w, eh)

    cases : Next c s ptr at k b ⊎ Stop c s ptr at k b
    cases = eval_next s memory ptr b ok k h at (omega arith) (λ j l. (gate_early c j [] (gone j l)).0)

    pub eval_on : (u : CircuitEvaluation) → r ≡ Ok u → (gate_answer c k ≡ accepted []) × (evals_of t u ≡ after s s.num_read (k + 1)) × (left ≡ stage c ptr s.num_read (k + 1) b)
    eval_on u d =
        ⊎_elim
        (λ (n : Next c s ptr at k b). let i = done_is r u _ left _ (step_is ∙ n.leads) d in (n.passed, ap₂ evals_of et i.0, i.1))
        (λ (n : Stop c s ptr at k b). clash (sym (ap (λ (x : Outcome). x.told) (rw d at (step_is ∙ n.ends)))))
        cases

    pub eval_off : (e : RefusedStep) → r ≡ Err e → (o : Result CircuitEvaluation RefusedStep) → o ≡ Err e → (step_told o ≡ gates_answer s.num_eval 0 c (accepted [])) × Left o s c ptr left b
    eval_off e d o z =
        subst (λ (x : Result CircuitEvaluation RefusedStep). (step_told x ≡ gates_answer s.num_eval 0 c (accepted [])) × Left x s c ptr left b) (d ∙ sym z)
        (⊎_elim
        (λ (m : Next c s ptr at k b). not_refused r e _ left _ (step_is ∙ m.leads) d)
        (λ (m : Stop c s ptr at k b).
        let l = stop_left r s _ c ptr m.number k left m.left b (step_is ∙ m.ends) m.past in
        let f : First c 0 s.num_eval m.number k = record { gate = k; from = omega arith; to = omega arith; before = λ i _ u. gone i u; here = m.stopped } in
        (l.0 ∙ sym (gates_stop c (accepted []) s.num_eval 0 m.number k f), l.1))
        cases)

  pub gone_more : (k : ℕ) → Gone k → gate_answer c k ≡ accepted [] → Gone (k + 1)
  gone_more k g e j h =
      ⊎_elim
      (λ (l : j < k). g j l)
      (λ (l : k ≤ j). let q : k ≡ j = omega arith in subst (λ (i : ℕ). gate_answer c i ≡ accepted []) q e)
      (below? j k)

  pub evals_end : (k : ℕ) → k ≡ s.num_eval → Gone k → accepted [] ≡ gates_answer s.num_eval 0 c (accepted [])
  evals_end k e g = sym (gates_pass c (accepted []) s.num_eval 0 (λ j _ h. g j (omega arith)))
