-- What an evaluation shows does not depend on the READ cells: two memories of one shape are refused alike, and accepted with the same record but for values.
-- Assumes nothing.
use mathlib.Core.Path.{◌≡◌, sym, ap, ap₂, ◌∙◌, subst}
use mathlib.Core.Bool.{cond}
use mathlib.Core.List.{List, [], ◌∷◌, ◌++◌}
use mathlib.Core.Logic.{◌⊎◌, ⊎_elim, inl, inr}
use Prim.Native.Nat.{ℕ, ◌+◌, ◌*◌, ◌/◌, ◌≤◌, ◌<◌}
use native.Mathlib.Omega.{arith}
use lib.Dec.{leb}
use lib.ListN.{length, get_or, drop}
use Rattle.refusal.specs.Told.{Told, accepted, refused}
use Rattle.refusal.proofs.Tellings.{clash, same_refusal}
use Rattle.instruction.specs.Decode.{left_id, right_id, opcode}
use Rattle.trace.specs.Counts.{node_cells, room, with_room}
use Rattle.trace.specs.Outcome.{Lent}
use Rattle.trace.specs.Eval.{eval_op}
use Rattle.trace.specs.Output.{is_zero}
use Rattle.eval_circuit.specs.Circuit.{Circuit, value}
use Rattle.eval_circuit.specs.Evaluated.{memory_cells, circuit_at, of_region, eval_answer, id_at, count_cell, cleared, eval_buffers}
use Rattle.eval_circuit.proofs.Cases.{true_or_false}
use Rattle.field.proofs.Each.{each_equal}
use Rattle.eval_circuit.proofs.Accepted.{header, accepted_header}
use Rattle.eval_circuit.proofs.Wires.{accepted_filled, node_read, node_eval, kept_values, kept_nodes, length-values, length-nodes}
use Rattle.eval_circuit.proofs.Shape.{Alike, same_word, same_memory, same_cells_gates, same_multiplicity}
use Rattle.eval_circuit.proofs.Passage.{output, tests, tested, passage}

-- the same refusal from 1 to 10 at the same place
pub record SameRefusal (first second : Told) : Type 0 where
  pub number : ℕ
  pub place : ℕ
  pub least : 1 ≤ number
  pub most : number ≤ 10
  pub first_refused : first ≡ refused number place
  pub second_refused : second ≡ refused number place

-- none of these: accepted with the header, or 12
abbrev pub Through : List ℕ → Told → Type 0
Through h t = (t ≡ accepted h) ⊎ (t ≡ refused 12 0)

-- the same refusal from 1 to 10 at the same place, or neither has one and then each is accepted or refused 12
abbrev pub Answered : List ℕ → Told → Told → Type 0
Answered h first second = SameRefusal first second ⊎ (Through h first × Through h second)

-- the headers of two accepted evaluations and what they leave are equal, but for the used value cells and the values in the node cells
pub record SameRecord (num-vars num-eval : ℕ) (first-header second-header : List ℕ) (first second : Lent) : Type 0 where
  pub headers : first-header ≡ second-header
  pub counts_same : first.counts ≡ second.counts
  -- a READ node's ptr, id_0 and id_1
  pub read_ptr : (i : ℕ) → i < num-vars / 2 → get_or first.nodes (7 * i + 0) 0 ≡ get_or second.nodes (7 * i + 0) 0
  pub read_id₀ : (i : ℕ) → i < num-vars / 2 → get_or first.nodes (7 * i + 1) 0 ≡ get_or second.nodes (7 * i + 1) 0
  pub read_id₁ : (i : ℕ) → i < num-vars / 2 → get_or first.nodes (7 * i + 4) 0 ≡ get_or second.nodes (7 * i + 4) 0
  -- an EVAL node's ptr, eval_op, id_0, id_1 and id_2
  pub eval_ptr : (k : ℕ) → k < num-eval → get_or first.nodes (7 * (num-vars / 2) + 11 * k + 0) 0 ≡ get_or second.nodes (7 * (num-vars / 2) + 11 * k + 0) 0
  pub eval_op_lem : (k : ℕ) → k < num-eval → get_or first.nodes (7 * (num-vars / 2) + 11 * k + 1) 0 ≡ get_or second.nodes (7 * (num-vars / 2) + 11 * k + 1) 0
  pub eval_id₀ : (k : ℕ) → k < num-eval → get_or first.nodes (7 * (num-vars / 2) + 11 * k + 2) 0 ≡ get_or second.nodes (7 * (num-vars / 2) + 11 * k + 2) 0
  pub eval_id₁ : (k : ℕ) → k < num-eval → get_or first.nodes (7 * (num-vars / 2) + 11 * k + 5) 0 ≡ get_or second.nodes (7 * (num-vars / 2) + 11 * k + 5) 0
  pub eval_id₂ : (k : ℕ) → k < num-eval → get_or first.nodes (7 * (num-vars / 2) + 11 * k + 8) 0 ≡ get_or second.nodes (7 * (num-vars / 2) + 11 * k + 8) 0
  -- cells past those used
  pub past_nodes : (i : ℕ) → node_cells (num-vars / 2) num-eval ≤ i → get_or first.nodes i 0 ≡ get_or second.nodes i 0
  pub past_values : (i : ℕ) → 2 * (num-vars + num-eval) ≤ i → get_or first.values i 0 ≡ get_or second.values i 0
  pub node_lengths : length first.nodes ≡ length second.nodes
  pub value_lengths : length first.values ≡ length second.values

-- what two memories of one shape come to, all else being equal
pub record Unseen (ctx clk ptr num-vars num-eval : ℕ) (first second : List ℕ) (b : Lent) : Type 0 where
  pub answers : Answered (header ctx clk num-vars num-eval) (eval_answer ctx clk ptr num-vars num-eval first b) (eval_answer ctx clk ptr num-vars num-eval second b)
  -- where both are refused, all lent buffers end equal
  pub refused_alike : (n k m l : ℕ) → eval_answer ctx clk ptr num-vars num-eval first b ≡ refused n k → eval_answer ctx clk ptr num-vars num-eval second b ≡ refused m l
      → eval_buffers ctx clk ptr num-vars num-eval first b ≡ eval_buffers ctx clk ptr num-vars num-eval second b
  -- where both are accepted, headers, counts and all node cells but the values are equal
  pub accepted_alike : (vs ws : List ℕ) → eval_answer ctx clk ptr num-vars num-eval first b ≡ accepted vs → eval_answer ctx clk ptr num-vars num-eval second b ≡ accepted ws
      → SameRecord num-vars num-eval vs ws (eval_buffers ctx clk ptr num-vars num-eval first b) (eval_buffers ctx clk ptr num-vars num-eval second b)

-- "1 to 7 change nothing. 8, 9, 10 and 12 leave the used value cells, counts and node cells zero"
refused_buffers : (ctx clk ptr num-vars num-eval : ℕ) (memory : List ℕ) (b : Lent) (n k : ℕ) → eval_answer ctx clk ptr num-vars num-eval memory b ≡ refused n k
    → eval_buffers ctx clk ptr num-vars num-eval memory b ≡ cond (leb n 7) b (cleared (circuit_at memory ptr num-vars num-eval) b)
unfolding eval_buffers
refused_buffers ctx clk ptr num-vars num-eval memory b n k e = rw e

twelve : (h : List ℕ) (t : Told) (n k : ℕ) → Through h t → t ≡ refused n k → n ≡ 12
twelve h t n k th e = ⊎_elim (λ q. clash (sym e ∙ q)) (λ q. (same_refusal (sym e ∙ q)).0) th

same_number : (h : List ℕ) (s t : Told) (n k m l : ℕ) → Answered h s t → s ≡ refused n k → t ≡ refused m l → n ≡ m
same_number h s t n k m l a e f =
    ⊎_elim
    (λ r. (same_refusal (sym e ∙ r.first_refused)).0 ∙ (same_refusal (sym r.second_refused ∙ f)).0)
    (λ r. twelve h s n k r.0 e ∙ sym (twelve h t m l r.1 f))
    a

module _ (ctx clk ptr num-vars num-eval : ℕ) (first second : List ℕ) (b : Lent) (alike : Alike ptr num-vars num-eval first second) where
  abbrev one : Circuit
  one = circuit_at first ptr num-vars num-eval

  abbrev two : Circuit
  two = circuit_at second ptr num-vars num-eval

  -- both go through the tests of the first
  first-tested : eval_answer ctx clk ptr num-vars num-eval first b ≡ tests ptr b (memory_cells first) one (output ctx clk one)
  first-tested = tested ptr b ctx clk num-vars num-eval first

  second-tested : eval_answer ctx clk ptr num-vars num-eval second b ≡ tests ptr b (memory_cells first) one (output ctx clk two)
  second-tested =
      tested ptr b ctx clk num-vars num-eval second
      ∙ ap₂ (λ (n : ℕ) (t : Told). of_region ptr num-vars num-eval n (with_room (room (num-vars / 2) num-eval (length b.values) (length b.counts) (length b.nodes)) t))
      (sym (same_memory ptr num-vars num-eval first second alike))
      (sym (same_cells_gates ptr num-vars num-eval first second alike (output ctx clk two)))

  through : (c : Circuit) → Through (header ctx clk c.vars c.gates) (output ctx clk c)
  through c =
      ⊎_elim
      (λ z. inl (rw z))
      (λ z. inr (rw z))
      (true_or_false (is_zero (value c 0)))

  same-answers : Answered (header ctx clk num-vars num-eval) (eval_answer ctx clk ptr num-vars num-eval first b) (eval_answer ctx clk ptr num-vars num-eval second b)
  same-answers =
      ⊎_elim
      (λ h. inr (
        subst (Through (header ctx clk num-vars num-eval)) (sym (first-tested ∙ h (output ctx clk one))) (through one),
        subst (Through (header ctx clk num-vars num-eval)) (sym (second-tested ∙ h (output ctx clk two))) (through two),
      ))
      (λ s. inl (record {
        number = s.number;
        place = s.place;
        least = s.least;
        most = s.most;
        first_refused = first-tested ∙ s.always (output ctx clk one);
        second_refused = second-tested ∙ s.always (output ctx clk two);
      }))
      (passage ptr b (memory_cells first) one)

  same-record : (vs ws : List ℕ) → eval_answer ctx clk ptr num-vars num-eval first b ≡ accepted vs → eval_answer ctx clk ptr num-vars num-eval second b ≡ accepted ws
      → SameRecord num-vars num-eval vs ws (eval_buffers ctx clk ptr num-vars num-eval first b) (eval_buffers ctx clk ptr num-vars num-eval second b)
  same-record vs ws e f =
      let words = same_word ptr num-vars num-eval first second alike in
      let of-read = node_read ctx clk ptr num-vars num-eval first b vs e in
      let to_read = node_read ctx clk ptr num-vars num-eval second b ws f in
      let of-eval = node_eval ctx clk ptr num-vars num-eval first b vs e in
      let to_eval = node_eval ctx clk ptr num-vars num-eval second b ws f in
      record {
        headers = accepted_header ctx clk ptr num-vars num-eval first b vs e ∙ sym (accepted_header ctx clk ptr num-vars num-eval second b ws f);
        counts_same =
            ap (λ (x : Lent). x.counts) (accepted_filled ctx clk ptr num-vars num-eval first b vs e)
            ∙ ap (λ (xs : List ℕ). xs ++ drop (num-vars + num-eval) b.counts)
            (each_equal (count_cell one) (count_cell two) (num-vars + num-eval) (λ k h. ap (λ (i : ℕ). i ∷ []) (same_multiplicity ptr num-vars num-eval first second alike (id_at one k))))
            ∙ ap (λ (x : Lent). x.counts) (sym (accepted_filled ctx clk ptr num-vars num-eval second b ws f));
        read_ptr = (λ i h. of-read i 0 h (omega arith) ∙ sym (to_read i 0 h (omega arith)));
        read_id₀ = (λ i h. of-read i 1 h (omega arith) ∙ sym (to_read i 1 h (omega arith)));
        read_id₁ = (λ i h. of-read i 4 h (omega arith) ∙ sym (to_read i 4 h (omega arith)));
        eval_ptr = (λ k h. of-eval k 0 h (omega arith) ∙ sym (to_eval k 0 h (omega arith)));
        eval_op_lem = (λ k h. of-eval k 1 h (omega arith) ∙ ap (λ (w : ℕ). eval_op (opcode w)) (words k h) ∙ sym (to_eval k 1 h (omega arith)));
        eval_id₀ = (λ k h. of-eval k 2 h (omega arith) ∙ sym (to_eval k 2 h (omega arith)));
        eval_id₁ = (λ k h. of-eval k 5 h (omega arith) ∙ ap left_id (words k h) ∙ sym (to_eval k 5 h (omega arith)));
        eval_id₂ = (λ k h. of-eval k 8 h (omega arith) ∙ ap right_id (words k h) ∙ sym (to_eval k 8 h (omega arith)));
        past_nodes = (λ i h. kept_nodes ctx clk ptr num-vars num-eval first b vs e i h ∙ sym (kept_nodes ctx clk ptr num-vars num-eval second b ws f i h));
        past_values = (λ i h. kept_values ctx clk ptr num-vars num-eval first b vs e i h ∙ sym (kept_values ctx clk ptr num-vars num-eval second b ws f i h));
        node_lengths = length-nodes ctx clk ptr num-vars num-eval first b vs e ∙ sym (length-nodes ctx clk ptr num-vars num-eval second b ws f);
        value_lengths = length-values ctx clk ptr num-vars num-eval first b vs e ∙ sym (length-values ctx clk ptr num-vars num-eval second b ws f);
      }

  -- nothing but values tells the READ cells of one from those of the other, unless one is refused 12 and the other is not
  pub unseen : Unseen ctx clk ptr num-vars num-eval first second b
  unseen = record {
    answers = same-answers;
    refused_alike = (λ n k m l e f.
        refused_buffers ctx clk ptr num-vars num-eval first b n k e
        ∙ ap (λ (i : ℕ). cond (leb i 7) b (cleared one b)) (same_number _ _ _ n k m l same-answers e f)
        ∙ sym (refused_buffers ctx clk ptr num-vars num-eval second b m l f));
    accepted_alike = same-record;
  }
