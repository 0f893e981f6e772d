-- The buffers after so many steps, and the READ step that leads from one stage to the next.
-- Assumes nothing.
use mathlib.Core.Path.{◌≡◌, refl, sym, ap, ap₂, ◌∙◌}
use mathlib.Core.Bool.{true}
use mathlib.Core.List.{List, [], ◌++◌, append-nil}
use mathlib.Core.Logic.{◌⊎◌, inl}
use Prim.Native.Nat.{ℕ, zero, suc, ◌+◌, ◌-◌, ◌*◌, ◌≤◌, ◌<◌}
use native.Mathlib.Omega.{arith}
use lib.ListN.{length, get_or, set, drop, length-append}
use lib.Seq.{sets}
use borrow.Author.Tests.{le-leb}
use Rattle.refusal.specs.Told.{accepted}
use Rattle.field.specs.Field.{p, first_over}
use Rattle.field.specs.Pair.{Pair, pair}
use Rattle.field.proofs.Over.{over_all, of_elements_lem}
use Rattle.trace.specs.declared.CircuitEvaluation.{CircuitEvaluation}
use Rattle.trace.specs.Counts.{wires, node_cells}
use Rattle.trace.specs.State.{wires_of, next_id, sound}
use Rattle.trace.specs.Outcome.{Lent, outcome, fits, value_at}
use Rattle.trace.specs.Read.{read_node, read_handed, read_tests, read_made, read_step}
use Rattle.trace.specs.Eval.{position}
use Rattle.trace.proofs.Tests.{sound_is, read_turn_is, room_by_nodes}
use Rattle.trace.proofs.StepTests.{read-cells}
use Rattle.trace.proofs.Ways.{read_accepted}
use Rattle.trace.proofs.Answers.{lent_equal}
use Rattle.trace.proofs.NextId.{next_lacking, next_later}
use Rattle.eval_circuit.specs.Circuit.{Circuit, num_wires, value, named_by}
use Rattle.eval_circuit.specs.Evaluated.{id_at, value_cells, read_cells, eval_cells}
use Rattle.field.specs.Lists.{each}
use Rattle.eval_circuit.specs.Inside.{circuit_of, word_at, after, named_cell, stage, Prepared}
use Rattle.field.proofs.Each.{each_none, each_more, each-length, front_length}
use Rattle.eval_circuit.proofs.Fills.{fills, each_fills}
use Rattle.eval_circuit.proofs.RegionCells.{region_at}
use Rattle.eval_circuit.proofs.Values.{value_read}

-- the node cells of so many steps
pub nodes-length : (c : Circuit) (ptr reads evals : ℕ) → length (each (read_cells c ptr) reads ++ each (eval_cells c ptr) evals) ≡ node_cells reads evals
nodes-length c ptr i k =
    length-append (each (read_cells c ptr) i) (each (eval_cells c ptr) k)
    ∙ ap₂ (λ (x y : ℕ). x + y) (each-length (read_cells c ptr) 7 (λ j. refl) i) (each-length (eval_cells c ptr) 11 (λ j. refl) k)

pub values_length : (c : Circuit) (n : ℕ) → length (each (value_cells c) n) ≡ 2 * n
values_length c n = each-length (value_cells c) 2 (λ j. refl) n

pub counts-length : (c : Circuit) (k n : ℕ) → length (each (named_cell c k) n) ≡ n
counts-length c k n = let e = each-length (named_cell c k) 1 (λ j. refl) n in omega arith

one_less : (w k : ℕ) → w - 1 - k - 1 ≡ w - 1 - (k + 1)
one_less w k = omega arith

module _ (s : CircuitEvaluation) (memory : List ℕ) (ptr : ℕ) (b : Lent) (ok : Prepared s memory ptr b) where
  abbrev c : Circuit
  c = circuit_of s memory ptr

  pub after-sound : (reads evals : ℕ) → reads ≤ s.num_read → evals ≤ s.num_eval → (evals ≡ 0) ⊎ (reads ≡ s.num_read) → sound (after s reads evals) ≡ true
  after-sound i k hi hk o =
      sound_is (after s i k) (record {
        counts = record { few = ok.few; reads = ok.some_reads; evals = ok.some_evals };
        reads_end = hi;
        evals_end = hk;
        order = o;
        next = refl;
      })

  module _ (i k : ℕ) (hi : i ≤ s.num_read) (hk : k ≤ s.num_eval) where
    pub stage-values : length (stage c ptr i k b).values ≡ length b.values
    stage-values =
        let h = ok.for_values in
        front_length (each (value_cells c) (wires i k)) b.values (2 * wires i k) (values_length c (wires i k)) (omega arith)

    pub stage-counts : length (stage c ptr i k b).counts ≡ length b.counts
    stage-counts =
        let h = ok.for_counts in
        front_length (each (named_cell c k) (wires i k)) b.counts (wires i k) (counts-length c k (wires i k)) (omega arith)

    pub stage-nodes : length (stage c ptr i k b).nodes ≡ length b.nodes
    stage-nodes =
        let h = ok.for_nodes in
        front_length (each (read_cells c ptr) i ++ each (eval_cells c ptr) k) b.nodes (node_cells i k) (nodes-length c ptr i k) (omega arith)

    pub stage-fits : fits (after s i k) (stage c ptr i k b) ≡ true
    stage-fits =
        let v = stage-values in
        let d = stage-counts in
        let n = stage-nodes in
        let hv = ok.for_values in
        let hc = ok.for_counts in
        let hn = ok.for_nodes in
        let lv : 2 * wires s.num_read s.num_eval ≤ length (stage c ptr i k b).values = omega arith in
        let lc : wires s.num_read s.num_eval ≤ length (stage c ptr i k b).counts = omega arith in
        let ln : node_cells s.num_read s.num_eval ≤ length (stage c ptr i k b).nodes = omega arith in
        sym (room_by_nodes s.num_read s.num_eval _ _ _ lv lc) ∙ le-leb _ _ ln

  pub first_stage : stage c ptr 0 0 b ≡ b
  first_stage = rw (each_none (value_cells c), each_none (named_cell c 0), each_none (read_cells c ptr), each_none (eval_cells c ptr))

  -- the value of a variable's wire is its two cells in memory
  read-value : (k : ℕ) → k < 2 * s.num_read → value c (id_at c k) ≡ pair (get_or memory (ptr + 2 * k) 0) (get_or memory (ptr + (2 * k + 1)) 0)
  read-value k h =
      let q : position (num_wires c) (id_at c k) ≡ k = omega arith in
      value_read c (id_at c k) (omega arith)
      ∙ ap (λ (j : ℕ). value_at c.cells j) q
      ∙ ap₂ pair (region_at memory ptr (2 * s.num_read) s.num_eval (2 * k) (omega arith)) (region_at memory ptr (2 * s.num_read) s.num_eval (2 * k + 1) (omega arith))

  module _ (i : ℕ) (hi : i < s.num_read) where
    abbrev at : ℕ
    at = ptr + 4 * i

    first : value c (id_at c (wires i 0)) ≡ pair (get_or memory at 0) (get_or memory (at + 1) 0)
    first =
        let e₀ : ptr + 2 * wires i 0 ≡ ptr + 4 * i = omega arith in
        let e₁ : ptr + (2 * wires i 0 + 1) ≡ ptr + 4 * i + 1 = omega arith in
        read-value (wires i 0) (omega arith) ∙ ap₂ (λ (x y : ℕ). pair (get_or memory x 0) (get_or memory y 0)) e₀ e₁

    second : value c (id_at c (wires i 0 + 1)) ≡ pair (get_or memory (at + 2) 0) (get_or memory (at + 3) 0)
    second =
        let e₀ : ptr + 2 * (wires i 0 + 1) ≡ ptr + 4 * i + 2 = omega arith in
        let e₁ : ptr + (2 * (wires i 0 + 1) + 1) ≡ ptr + 4 * i + 3 = omega arith in
        read-value (wires i 0 + 1) (omega arith) ∙ ap₂ (λ (x y : ℕ). pair (get_or memory x 0) (get_or memory y 0)) e₀ e₁

    cell_below : (j : ℕ) → j < 4 → get_or memory (at + j) 0 < p
    cell_below j h =
        let e : ptr + 4 * i + j ≡ ptr + (4 * i + j) = omega arith in
        rw e (ok.elements (4 * i + j) (omega arith))

    read-elements : (k : ℕ) → k < 5 → get_or (read_handed at (word_at memory at)) k 0 < p
    read-elements zero h = let e : ptr + 4 * i + 0 ≡ ptr + 4 * i = omega arith in rw e at (cell_below 0 (omega arith))
    read-elements (suc zero) h = cell_below 1 (omega arith)
    read-elements (suc (suc zero)) h = cell_below 2 (omega arith)
    read-elements (suc (suc (suc zero))) h = cell_below 3 (omega arith)
    read-elements (suc (suc (suc (suc zero)))) h = let l = ok.addresses in omega arith
    read-elements (suc (suc (suc (suc (suc k))))) h = absurd (omega arith)

    read-passes : accepted [] ≡ read_tests (after s i 0) (fits (after s i 0) (stage c ptr i 0 b)) at (word_at memory at)
    read-passes =
        let l : 5 ≤ first_over (read_handed (ptr + 4 * i) (word_at memory (ptr + 4 * i))) = omega (arith, over_all (read_handed (ptr + 4 * i) (word_at memory (ptr + 4 * i))) read-elements) in
        read-cells _ _ _ _ (read_turn_is _ (after-sound i 0 (omega arith) (omega arith) (inl refl)) hi) _ (stage-fits i 0 (omega arith) (omega arith))
        (sym (of_elements_lem (read_handed at (word_at memory at)) (accepted []) l))

    abbrev m : ℕ
    m = wires i 0

    values-next : sets (sets (each (value_cells c) m ++ drop (2 * m) b.values) (2 * m) (value_cells c m)) (2 * (m + 1)) (value_cells c (m + 1))
        ≡ each (value_cells c) (wires (i + 1) 0) ++ drop (2 * wires (i + 1) 0) b.values
    values-next =
        let h = ok.for_values in
        let e : wires i 0 + 1 ≡ suc (wires i 0) = omega arith in
        let f : wires (i + 1) 0 ≡ suc (suc (wires i 0)) = omega arith in
        rw (e, f)
        (ap (λ (x : List ℕ). sets x (2 * suc m) (value_cells c (suc m))) (each_fills (value_cells c) 2 (λ j. refl) m b.values (omega arith))
        ∙ each_fills (value_cells c) 2 (λ j. refl) (suc m) b.values (omega arith))

    one-count : (n : ℕ) → n < wires s.num_read 0 → set (each (named_cell c 0) n ++ drop n b.counts) n 0 ≡ each (named_cell c 0) (suc n) ++ drop (suc n) b.counts
    unfolding named_by
    one-count n l =
        let h = ok.for_counts in
        let e : 1 * n ≡ n = omega arith in
        let f : 1 * suc n ≡ suc n = omega arith in
        rw (e, f) at (each_fills (named_cell c 0) 1 (λ j. refl) n b.counts (omega arith))

    counts-next : set (set (each (named_cell c 0) m ++ drop m b.counts) m 0) (m + 1) 0 ≡ each (named_cell c 0) (wires (i + 1) 0) ++ drop (wires (i + 1) 0) b.counts
    counts-next =
        let e : wires i 0 + 1 ≡ suc (wires i 0) = omega arith in
        let f : wires (i + 1) 0 ≡ suc (suc (wires i 0)) = omega arith in
        rw (e, f) (ap (λ (x : List ℕ). set x (suc m) 0) (one-count m (omega arith)) ∙ one-count (suc m) (omega arith))

    nodes-next : sets (each (read_cells c ptr) i ++ each (eval_cells c ptr) 0 ++ drop (node_cells i 0) b.nodes) (node_cells i 0) (read_cells c ptr i)
        ≡ each (read_cells c ptr) (i + 1) ++ each (eval_cells c ptr) 0 ++ drop (node_cells (i + 1) 0) b.nodes
    nodes-next =
        let h = ok.for_nodes in
        let e : i + 1 ≡ suc i = omega arith in
        let f : node_cells i 0 + 7 ≡ node_cells (suc i) 0 = omega arith in
        fills (each (read_cells c ptr) i ++ each (eval_cells c ptr) 0) b.nodes (read_cells c ptr i) (node_cells i 0) (nodes-length c ptr i 0) (omega arith)
        ∙ rw (each_none (eval_cells c ptr), append-nil (each (read_cells c ptr) i), f, e, each_more (read_cells c ptr) i, append-nil (each (read_cells c ptr) i ++ read_cells c ptr i))

    node-is : read_node at (after s i 0).id_next (value c (id_at c m)) ((after s i 0).id_next - 1) (value c (id_at c (m + 1))) ≡ read_cells c ptr i
    node-is =
        let q : wires i 0 ≡ 2 * i = omega arith in
        let e : next_id (wires_of s) (2 * i) ≡ id_at c (2 * i) = next_lacking (wires_of s) (2 * i) ok.few (omega arith) in
        ap (λ (k : ℕ). read_node at (next_id (wires_of s) k) (value c (id_at c k)) (next_id (wires_of s) k - 1) (value c (id_at c (k + 1)))) q
        ∙ ap₂ (λ (x y : ℕ). read_node at x (value c (id_at c (2 * i))) y (value c (id_at c (2 * i + 1)))) e (ap (λ (x : ℕ). x - 1) e ∙ one_less (num_wires c) (2 * i))

    made-next : stage c ptr (i + 1) 0 b ≡ read_made (after s i 0) at (pair (get_or memory at 0) (get_or memory (at + 1) 0)) (pair (get_or memory (at + 2) 0) (get_or memory (at + 3) 0)) (stage c ptr i 0 b)
    made-next =
        lent_equal (sym values-next) (sym counts-next)
        (sym (ap (λ (x : List ℕ). sets (each (read_cells c ptr) i ++ each (eval_cells c ptr) 0 ++ drop (node_cells i 0) b.nodes) (node_cells i 0) x) node-is ∙ nodes-next))
        ∙ ap₂ (λ (v w : Pair). read_made (after s i 0) at v w (stage c ptr i 0 b)) first second

    -- a READ step leads to the next stage
    pub read_next : read_step (after s i 0) at (word_at memory at) (stage c ptr i 0 b) ≡ outcome (accepted []) (after s (i + 1) 0) (stage c ptr (i + 1) 0 b)
    read_next =
        let e : wires i 0 + 2 ≡ wires (i + 1) 0 = omega arith in
        let id = sym (next_later (wires_of s) (wires i 0) 2 ok.few (omega arith) (omega arith) ∙ ap (λ (k : ℕ). next_id (wires_of s) k) e) in
        sym (read_accepted (after s i 0) at (word_at memory at) (stage c ptr i 0 b) read-passes refl id made-next)
