-- What an accepted evaluation leaves: each wire's value and count by its id, each node by its number, all other cells as they were.
-- Assumes nothing.
use mathlib.Core.Path.{◌≡◌, sym, ap, ap₂, ◌∙◌}
use mathlib.Core.List.{List}
use Prim.Native.Nat.{ℕ, ◌+◌, ◌-◌, ◌*◌, ◌/◌, ◌≤◌, ◌<◌}
use native.Mathlib.Omega.{arith}
use lib.ListN.{length, get_or}
use Rattle.refusal.specs.Told.{accepted}
use Rattle.field.specs.Pair.{pair}
use Rattle.instruction.specs.Decode.{left_id, right_id, opcode}
use Rattle.trace.specs.Counts.{node_cells}
use Rattle.trace.specs.Outcome.{Lent, value_at}
use Rattle.trace.specs.Read.{read_node}
use Rattle.trace.specs.Eval.{position, combine, eval_op, eval_node}
use Rattle.eval_circuit.specs.Circuit.{Circuit, word, value, multiplicity}
use Rattle.eval_circuit.specs.Evaluated.{circuit_at, eval_answer, id_at, filled, eval_buffers}
use Rattle.eval_circuit.proofs.Values.{value_read, value_gate}
use Rattle.eval_circuit.proofs.RegionCells.{region_at, region_word}
use Rattle.eval_circuit.proofs.Accepted.{Valid, accepted_valid}
use Rattle.eval_circuit.proofs.Totals.{total, total_same, total_back, multiplicity-total}
use Rattle.eval_circuit.proofs.Filled.{filled-value, filled_count, filled-read, filled_eval, values_kept, counts_kept, nodes_kept, length-values-filled, length-counts-filled, length-nodes-filled}

module _ (ctx clk ptr num-vars num-eval : ℕ) (memory : List ℕ) (b : Lent) where
  abbrev circuit : Circuit
  circuit = circuit_at memory ptr num-vars num-eval

  abbrev num-wires : ℕ
  num-wires = num-vars + num-eval

  abbrev after : Lent
  after = eval_buffers ctx clk ptr num-vars num-eval memory b

  module _ (vs : List ℕ) (e : eval_answer ctx clk ptr num-vars num-eval memory b ≡ accepted vs) where
    valid : Valid ptr num-vars num-eval memory b
    valid = accepted_valid ctx clk ptr num-vars num-eval memory b vs e

    pub accepted_filled : after ≡ filled circuit ptr b
    unfolding eval_buffers
    accepted_filled = rw e

    -- a READ wire's value is its pair of cells in memory
    pub wire_read : (id : ℕ) → position num-wires id < num-vars
        → value circuit id ≡ pair (get_or memory (ptr + 2 * position num-wires id) 0) (get_or memory (ptr + (2 * position num-wires id + 1)) 0)
    wire_read id h =
        value_read circuit id h
        ∙ ap₂ pair
        (region_at memory ptr num-vars num-eval (2 * position num-wires id) (omega arith))
        (region_at memory ptr num-vars num-eval (2 * position num-wires id + 1) (omega arith))

    -- a gate's wire has what the operation in its word makes of the values of the two ids in it; its word lies behind the variables' cells, as many places as its position lies behind theirs
    pub wire_gate : (id w : ℕ) → id < num-wires → num-vars ≤ position num-wires id
        → w ≡ get_or memory (ptr + (2 * num-vars + (position num-wires id - num-vars))) 0
        → value circuit id ≡ combine (opcode w) (value circuit (left_id w)) (value circuit (right_id w))
    wire_gate id w l h q =
        let k = position num-wires id - num-vars in
        let i : id_at circuit (num-vars + k) ≡ id = omega arith in
        let u : word circuit k ≡ w = region_word memory ptr num-vars num-eval k (omega arith) ∙ sym q in
        ap (value circuit) (sym i)
        ∙ value_gate circuit k (omega arith) (λ j m. valid.early j (omega arith))
        ∙ ap (λ (x : ℕ). combine (opcode x) (value circuit (left_id x)) (value circuit (right_id x))) u

    -- its value stands in the two value cells of its position
    pub wire_stored : (id : ℕ) → id < num-wires → value_at after.values (position num-wires id) ≡ value circuit id
    wire_stored id h =
        let i : id_at circuit (position num-wires id) ≡ id = omega arith in
        ap (λ (x : Lent). value_at x.values (position num-wires id)) accepted_filled
        ∙ filled-value circuit ptr b (position num-wires id) (omega arith)
        ∙ ap (value circuit) i

    -- its count is the number of operands that name it
    pub wire_count : (id : ℕ) → id < num-wires → get_or after.counts (position num-wires id) 0 ≡ multiplicity circuit id
    wire_count id h =
        let i : id_at circuit (position num-wires id) ≡ id = omega arith in
        ap (λ (x : Lent). get_or x.counts (position num-wires id) 0) accepted_filled
        ∙ filled_count circuit ptr b (position num-wires id) (omega arith)
        ∙ ap (multiplicity circuit) i

    -- multiplicities, and so the counts, total 2 · num_eval
    pub multiplicities_total : total (multiplicity circuit) num-wires ≡ 2 * num-eval
    multiplicities_total = multiplicity-total circuit valid.early

    pub counts-total : total (λ k. get_or after.counts k 0) num-wires ≡ 2 * num-eval
    counts-total =
        total_same _ _ num-wires (λ k h. ap (λ (x : Lent). get_or x.counts k 0) accepted_filled ∙ filled_count circuit ptr b k h)
        ∙ total_back (multiplicity circuit) num-wires
        ∙ multiplicities_total

    -- READ node i, seven cells: the wires of variables 2i and 2i + 1
    pub node_read : (i j : ℕ) → i < num-vars / 2 → j < 7
        → get_or after.nodes (7 * i + j) 0
        ≡ get_or (read_node (ptr + 4 * i) (id_at circuit (2 * i)) (value circuit (id_at circuit (2 * i))) (id_at circuit (2 * i + 1)) (value circuit (id_at circuit (2 * i + 1)))) j 0
    node_read i j h l = ap (λ (x : Lent). get_or x.nodes (7 * i + j) 0) accepted_filled ∙ filled-read circuit ptr b i j h l

    -- EVAL node k, eleven cells behind those of the READ nodes: the gate's wire and its operands
    pub node_eval : (k j : ℕ) → k < num-eval → j < 11
        → get_or after.nodes (7 * (num-vars / 2) + 11 * k + j) 0
        ≡ get_or (eval_node (ptr + (2 * num-vars + k)) (eval_op (opcode (word circuit k))) (id_at circuit (num-vars + k)) (value circuit (id_at circuit (num-vars + k)))
        (left_id (word circuit k)) (value circuit (left_id (word circuit k))) (right_id (word circuit k)) (value circuit (right_id (word circuit k)))) j 0
    node_eval k j h l = ap (λ (x : Lent). get_or x.nodes (7 * (num-vars / 2) + 11 * k + j) 0) accepted_filled ∙ filled_eval circuit ptr b k j h l

    -- "cells past those used never change"
    pub kept_values : (i : ℕ) → 2 * num-wires ≤ i → get_or after.values i 0 ≡ get_or b.values i 0
    kept_values i h = ap (λ (x : Lent). get_or x.values i 0) accepted_filled ∙ values_kept circuit ptr b i h

    pub kept_counts : (i : ℕ) → num-wires ≤ i → get_or after.counts i 0 ≡ get_or b.counts i 0
    kept_counts i h = ap (λ (x : Lent). get_or x.counts i 0) accepted_filled ∙ counts_kept circuit ptr b i h

    pub kept_nodes : (i : ℕ) → node_cells (num-vars / 2) num-eval ≤ i → get_or after.nodes i 0 ≡ get_or b.nodes i 0
    kept_nodes i h = ap (λ (x : Lent). get_or x.nodes i 0) accepted_filled ∙ nodes_kept circuit ptr b i h

    -- nor do the lengths
    pub length-values : length after.values ≡ length b.values
    length-values = ap (λ (x : Lent). length x.values) accepted_filled ∙ length-values-filled circuit ptr b valid.room-values

    pub length-counts : length after.counts ≡ length b.counts
    length-counts = ap (λ (x : Lent). length x.counts) accepted_filled ∙ length-counts-filled circuit ptr b valid.room-counts

    pub length-nodes : length after.nodes ≡ length b.nodes
    length-nodes = ap (λ (x : Lent). length x.nodes) accepted_filled ∙ length-nodes-filled circuit ptr b valid.room-nodes
