-- All READ steps, then all EVAL steps, then the result: what they come to together.
-- Assumes nothing.
use mathlib.Core.Path.{◌≡◌, refl, sym, ap, ap₂, ◌∙◌}
use mathlib.Core.Bool.{cond}
use mathlib.Core.List.{List, [], ◌∷◌, ◌++◌}
use mathlib.Core.Logic.{⊎_elim, inr}
use Prim.Native.Nat.{ℕ, ◌+◌, ◌-◌, ◌*◌, ◌/◌, ◌≤◌, ◌<◌}
use native.Mathlib.Omega.{arith}
use lib.ListN.{get_or, drop}
use borrow.Author.Tests.{eq-eqb}
use Rattle.refusal.specs.Told.{accepted, refused}
use Rattle.field.specs.Field.{p}
use Rattle.field.specs.Pair.{Pair, pair}
use Rattle.refusal.proofs.Tellings.{clash}
use Rattle.trace.specs.declared.CircuitEvaluation.{CircuitEvaluation}
use Rattle.std.proofs.Common.{Result, Ok, Err}
use Rattle.refusal.specs.Refusal.{number_of, place_of}
use Rattle.refusal.specs.declared.Refusal.{Refusal}
use Rattle.trace.specs.declared.RecordHeader.{RecordHeader}
use Rattle.trace.specs.declared.RefusedStep.{RefusedStep}
use Rattle.trace.specs.Counts.{wires, node_cells}
use Rattle.trace.specs.State.{wires_of, made_of, next_id}
use Rattle.trace.specs.Outcome.{Lent, value_at}
use Rattle.trace.specs.Output.{header_numbers, header_of, is_zero, output_told, output_answer}
use Rattle.trace.proofs.NextId.{next_none}
use Rattle.trace.proofs.Answers.{lent_equal}
use Rattle.eval_circuit.specs.Circuit.{Circuit, num_wires, value, gates_answer}
use Rattle.eval_circuit.specs.Evaluated.{circuit_answer, id_at, value_cells, read_cells, eval_cells}
use Rattle.field.specs.Lists.{each}
use Rattle.eval_circuit.specs.Inside.{circuit_of, after, named_cell, stage, Past, Prepared, step_told, Left}
use Rattle.field.proofs.Each.{each_then}
use Rattle.eval_circuit.proofs.Gates.{Passed, First, gates_pass, gates_stop, gates_accepted, gates_refused}
use Rattle.eval_circuit.proofs.Stages.{nodes-length, values_length, counts-length, after-sound, stage-fits}
use Rattle.eval_circuit.proofs.GateSteps.{past_front}

-- a stage on top of an earlier one
pub stage_over : (c : Circuit) (ptr reads evals : ℕ) (b : Lent) → stage c ptr reads evals (stage c ptr reads 0 b) ≡ stage c ptr reads evals b
stage_over c ptr i k b =
    lent_equal
    (ap (λ (x : List ℕ). each (value_cells c) (wires i k) ++ x) (past_front (each (value_cells c) (wires i 0)) b.values (2 * wires i 0) (2 * wires i k) (values_length c (wires i 0)) (omega arith)))
    (ap (λ (x : List ℕ). each (named_cell c k) (wires i k) ++ x) (past_front (each (named_cell c 0) (wires i 0)) b.counts (wires i 0) (wires i k) (counts-length c 0 (wires i 0)) (omega arith)))
    (ap (λ (x : List ℕ). each (read_cells c ptr) i ++ each (eval_cells c ptr) k ++ x)
    (past_front (each (read_cells c ptr) i ++ each (eval_cells c ptr) 0) b.nodes (node_cells i 0) (node_cells i k) (nodes-length c ptr i 0) (omega arith)))

pub stage_past : (c : Circuit) (ptr reads evals n : ℕ) (b : Lent) → wires reads evals ≤ num_wires c → node_cells reads evals ≤ n → Past c n (stage c ptr reads evals b) b
stage_past c ptr i k n b h l = record {
  past_values = past_front (each (value_cells c) (wires i k)) b.values (2 * wires i k) (2 * num_wires c) (values_length c (wires i k)) (omega arith);
  past_counts = past_front (each (named_cell c k) (wires i k)) b.counts (wires i k) (num_wires c) (counts-length c k (wires i k)) h;
  past_nodes = past_front (each (read_cells c ptr) i ++ each (eval_cells c ptr) k) b.nodes (node_cells i k) n (nodes-length c ptr i k) l;
}

past_over : (c : Circuit) (n : ℕ) (x y z : Lent) → Past c n x y → Past c n y z → Past c n x z
past_over c n x y z f g = record {
  past_values = f.past_values ∙ g.past_values;
  past_counts = f.past_counts ∙ g.past_counts;
  past_nodes = f.past_nodes ∙ g.past_nodes;
}

module _ (s : CircuitEvaluation) (memory : List ℕ) (ptr : ℕ) (b : Lent) (ok : Prepared s memory ptr b) where
  abbrev c : Circuit
  c = circuit_of s memory ptr

  abbrev reads : ℕ
  reads = s.num_read

  left_over : (r : Result CircuitEvaluation RefusedStep) (d : Lent) → Left r (after s reads 0) c ptr d (stage c ptr reads 0 b) → Left r s c ptr d b
  left_over (Ok u) d l = (l.0, l.1 ∙ stage_over c ptr reads s.num_eval b)
  left_over (Err e) d l = past_over c _ d (stage c ptr reads 0 b) b l (stage_past c ptr reads 0 _ b (omega arith) (omega arith))

  pub both_runs : (r : Result CircuitEvaluation RefusedStep) (t : CircuitEvaluation) (d e : Lent) → t ≡ after s reads 0 → e ≡ stage c ptr reads 0 b
      → Left r t (circuit_of t memory ptr) ptr d e → Left r s c ptr d b
  both_runs r t d e et ee h =
      let l : Left r (after s reads 0) c ptr d (stage c ptr reads 0 b) = rw (et, ee) at h in
      left_over r d l

  -- the last wire has id 0
  last-value : value_at (stage c ptr reads s.num_eval b).values (wires_of s - 1) ≡ value c 0
  last-value =
      let w = num_wires c in
      let l : num_wires c - 1 < wires reads s.num_eval = (let h = ok.some_evals in omega arith) in
      let z : id_at c (num_wires c - 1) ≡ 0 = omega arith in
      let n : 2 * (wires_of s - 1) ≡ 2 * (num_wires c - 1) + 0 = omega arith in
      ap₂ pair
      (ap (λ (x : ℕ). get_or (stage c ptr reads s.num_eval b).values x 0) n
      ∙ each_then (value_cells c) 2 (λ j. refl) (wires reads s.num_eval) (num_wires c - 1) 0 (drop (2 * wires reads s.num_eval) b.values) l (omega arith))
      (each_then (value_cells c) 2 (λ j. refl) (wires reads s.num_eval) (num_wires c - 1) 1 (drop (2 * wires reads s.num_eval) b.values) l (omega arith))
      ∙ ap (λ (x : ℕ). value c x) z

  output-is : output_answer (after s reads s.num_eval) (stage c ptr reads s.num_eval b)
      ≡ cond (is_zero (value c 0)) (accepted (s.ctx ∷ s.clk ∷ c.vars / 2 ∷ c.gates ∷ (p - 1) ∷ [])) (refused 12 0)
  unfolding output_answer
  output-is =
      let h : c.vars / 2 ≡ reads = omega arith in
      let i : next_id (wires_of s) (wires reads s.num_eval) ≡ p - 1 = next_none (wires_of s) ok.few in
      rw (
        after-sound s memory ptr b ok reads s.num_eval (omega arith) (omega arith) (inr refl),
        stage-fits s memory ptr b ok reads s.num_eval (omega arith) (omega arith),
        eq-eqb (made_of (after s reads s.num_eval)) (wires_of s) refl,
      )
      (ap (λ (v : Pair). cond (is_zero v) (accepted (header_numbers (header_of (after s reads s.num_eval)))) (refused 12 0)) last-value
      ∙ ap₂ (λ (x y : ℕ). cond (is_zero (value c 0)) (accepted (s.ctx ∷ s.clk ∷ x ∷ s.num_eval ∷ y ∷ [])) (refused 12 0)) (sym h) i)

  module _ (q : Result CircuitEvaluation RefusedStep) (d : Lent) (g : step_told q ≡ gates_answer s.num_eval 0 c (accepted [])) (l : Left q s c ptr d b) where
    -- all steps accepted: the answer is the result's
    pub run_done : (t : CircuitEvaluation) (r : Result RecordHeader Refusal) → q ≡ Ok t → output_told r ≡ output_answer t d → output_told r ≡ circuit_answer s.ctx s.clk c
    run_done t r e o =
        let g' : accepted [] ≡ gates_answer s.num_eval 0 c (accepted []) = rw e at g in
        let l' : Left (Ok t) s c ptr d b = rw e at l in
        let a = gates_accepted c (accepted []) s.num_eval 0 [] (sym g') in
        let i : output_told r ≡ output_answer (after s reads s.num_eval) (stage c ptr reads s.num_eval b) = o ∙ ap₂ output_answer l'.0 l'.1 in
        i ∙ output-is ∙ sym (gates_pass c _ s.num_eval 0 a.0)

    -- a gate refused: so is the evaluation
    pub run_refused : (t : RefusedStep) → q ≡ Err t → refused (number_of t.refusal) (place_of t.refusal) ≡ circuit_answer s.ctx s.clk c
    run_refused t e =
        let n = number_of t.refusal in
        let k = place_of t.refusal in
        let g' : refused n k ≡ gates_answer s.num_eval 0 c (accepted []) = rw e at g in
        ⊎_elim
        (λ (f : First c 0 s.num_eval n k). sym (gates_stop c _ s.num_eval 0 n k f))
        (λ (a : Passed c 0 s.num_eval × (accepted [] ≡ refused n k)). clash (sym a.1))
        (gates_refused c (accepted []) s.num_eval 0 n k (sym g'))
