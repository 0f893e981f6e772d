-- The buffers of an accepted evaluation, cell by cell.
-- Assumes nothing.
use mathlib.Core.Path.{◌≡◌, refl, ap, ap₂, ◌∙◌}
use mathlib.Core.List.{List, ◌++◌, append_assoc}
use Prim.Native.Nat.{ℕ, ◌+◌, ◌*◌, ◌/◌, ◌≤◌, ◌<◌}
use native.Mathlib.Omega.{arith}
use lib.ListN.{length, get_or, drop}
use Rattle.field.specs.Pair.{pair}
use Rattle.trace.specs.Counts.{node_cells}
use Rattle.trace.specs.Outcome.{Lent, value_at}
use Rattle.eval_circuit.specs.Circuit.{Circuit, num_wires, value, multiplicity}
use Rattle.eval_circuit.specs.Evaluated.{id_at, value_cells, count_cell, read_cells, eval_cells, filled}
use Rattle.field.specs.Lists.{each}
use Rattle.eval_circuit.proofs.Stages.{values_length, counts-length, nodes-length}
use Rattle.field.proofs.Each.{each_then, each_rest, front_kept, front_length}

module _ (c : Circuit) (ptr : ℕ) (b : Lent) where
  value_cell : (k j : ℕ) → k < num_wires c → j < 2 → get_or (filled c ptr b).values (2 * k + j) 0 ≡ get_or (value_cells c k) j 0
  value_cell k j h l = each_then (value_cells c) 2 (λ i. refl) (num_wires c) k j _ h l

  -- the wire at a position
  pub filled-value : (k : ℕ) → k < num_wires c → value_at (filled c ptr b).values k ≡ value c (id_at c k)
  filled-value k h =
      let e : 2 * k ≡ 2 * k + 0 = omega arith in
      ap₂ pair
      (ap (λ (i : ℕ). get_or (filled c ptr b).values i 0) e ∙ value_cell k 0 h (omega arith))
      (value_cell k 1 h (omega arith))

  pub filled_count : (k : ℕ) → k < num_wires c → get_or (filled c ptr b).counts k 0 ≡ multiplicity c (id_at c k)
  filled_count k h =
      let e : k ≡ 1 * k + 0 = omega arith in
      ap (λ (i : ℕ). get_or (filled c ptr b).counts i 0) e ∙ each_then (count_cell c) 1 (λ i. refl) (num_wires c) k 0 _ h (omega arith)

  -- READ node i and EVAL node k
  abbrev reads : List ℕ
  reads = each (read_cells c ptr) (c.vars / 2)

  abbrev evals : List ℕ
  evals = each (eval_cells c ptr) c.gates

  abbrev rest : List ℕ
  rest = drop (node_cells (c.vars / 2) c.gates) b.nodes

  pub filled-read : (i j : ℕ) → i < c.vars / 2 → j < 7 → get_or (filled c ptr b).nodes (7 * i + j) 0 ≡ get_or (read_cells c ptr i) j 0
  filled-read i j h l =
      ap (λ (xs : List ℕ). get_or xs (7 * i + j) 0) (append_assoc reads evals rest)
      ∙ each_then (read_cells c ptr) 7 (λ k. refl) (c.vars / 2) i j (evals ++ rest) h l

  pub filled_eval : (k j : ℕ) → k < c.gates → j < 11 → get_or (filled c ptr b).nodes (7 * (c.vars / 2) + 11 * k + j) 0 ≡ get_or (eval_cells c ptr k) j 0
  filled_eval k j h l =
      let e : 7 * (c.vars / 2) + 11 * k + j ≡ 7 * (c.vars / 2) + (11 * k + j) = omega arith in
      ap₂ (λ (xs : List ℕ) (i : ℕ). get_or xs i 0) (append_assoc reads evals rest) e
      ∙ each_rest (read_cells c ptr) 7 (λ i. refl) (c.vars / 2) (11 * k + j) (evals ++ rest)
      ∙ each_then (eval_cells c ptr) 11 (λ i. refl) c.gates k j rest h l

  -- the used cells of the values and of the counts
  abbrev values-made : List ℕ
  values-made = each (value_cells c) (num_wires c)

  abbrev counts-made : List ℕ
  counts-made = each (count_cell c) (num_wires c)

  -- "cells past those used never change"
  pub values_kept : (i : ℕ) → 2 * num_wires c ≤ i → get_or (filled c ptr b).values i 0 ≡ get_or b.values i 0
  values_kept i h = front_kept values-made b.values _ (values_length c (num_wires c)) i h

  pub counts_kept : (i : ℕ) → num_wires c ≤ i → get_or (filled c ptr b).counts i 0 ≡ get_or b.counts i 0
  counts_kept i h = front_kept counts-made b.counts _ (counts-length c c.gates (num_wires c)) i h

  pub nodes_kept : (i : ℕ) → node_cells (c.vars / 2) c.gates ≤ i → get_or (filled c ptr b).nodes i 0 ≡ get_or b.nodes i 0
  nodes_kept i h = front_kept (reads ++ evals) b.nodes _ (nodes-length c ptr (c.vars / 2) c.gates) i h

  pub length-values-filled : 2 * num_wires c ≤ length b.values → length (filled c ptr b).values ≡ length b.values
  length-values-filled h = front_length values-made b.values _ (values_length c (num_wires c)) h

  pub length-counts-filled : num_wires c ≤ length b.counts → length (filled c ptr b).counts ≡ length b.counts
  length-counts-filled h = front_length counts-made b.counts _ (counts-length c c.gates (num_wires c)) h

  pub length-nodes-filled : node_cells (c.vars / 2) c.gates ≤ length b.nodes → length (filled c ptr b).nodes ≡ length b.nodes
  length-nodes-filled h = front_length (reads ++ evals) b.nodes _ (nodes-length c ptr (c.vars / 2) c.gates) h
