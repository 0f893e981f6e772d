-- The record that an accepted evaluation leaves: which header it has, and that none of 21, 19, 6 and 17 refuses it.
-- Assumes nothing.
use mathlib.Core.Path.{◌≡◌, sym, ap, ◌∙◌}
use mathlib.Core.Bool.{true}
use mathlib.Core.List.{List, [], ◌∷◌, ◌++◌}
use Prim.Native.Nat.{ℕ, zero, suc, ◌+◌, ◌-◌, ◌*◌, ◌/◌, ◌≤◌, ◌<◌}
use native.Mathlib.Omega.{arith}
use lib.ListN.{length, get_or, take}
use lib.Seq.{take_at}
use borrow.Author.Tests.{le-leb, lt-ltb}
use Rattle.refusal.specs.Told.{Told, accepted}
use Rattle.field.specs.Lists.{each}
use Rattle.field.specs.Field.{p, first_over}
use Rattle.field.specs.Pair.{Pair, Elements}
use Rattle.field.proofs.Over.{over_all}
use Rattle.field.proofs.Each.{each_none, each_more}
use Rattle.instruction.specs.Decode.{left_id, right_id, opcode}
use Rattle.trace.specs.declared.RecordHeader.{RecordHeader}
use Rattle.trace.specs.Counts.{node_cells, room}
use Rattle.trace.specs.Outcome.{Lent}
use Rattle.trace.specs.Eval.{eval_op}
use Rattle.trace.specs.Output.{header_numbers}
use Rattle.trace.specs.Record.{record_wires, elements, in_field, of_record}
use Rattle.trace.proofs.Choices.{both_hold}
use Rattle.trace.proofs.Tests.{room_by_nodes}
use Rattle.trace.proofs.Records.{in_order}
use Rattle.eval_circuit.specs.Circuit.{Circuit, num_wires, word, value}
use Rattle.eval_circuit.specs.Evaluated.{circuit_at, eval_answer, id_at, value_cells, read_cells, eval_cells, filled, eval_buffers}
use Rattle.eval_circuit.proofs.Values.{value-elements}
use Rattle.eval_circuit.proofs.RegionCells.{region_by_cell}
use Rattle.eval_circuit.proofs.Stages.{values_length, nodes-length}
use Rattle.eval_circuit.proofs.Accepted.{Valid, accepted_valid, accepted_header}
use Rattle.eval_circuit.proofs.Wires.{accepted_filled, length-values, length-counts, length-nodes}

-- the header of an accepted evaluation: "after evaluation id_next is p - 1"
abbrev pub eval_header : ℕ → ℕ → ℕ → ℕ → RecordHeader
eval_header ctx clk num-vars num-eval = record { ctx = ctx; clk = clk; num_read = num-vars / 2; num_eval = num-eval; id_next = p - 1 }

abbrev from_numbers : List ℕ → RecordHeader
from_numbers xs = record { ctx = get_or xs 0 0; clk = get_or xs 1 0; num_read = get_or xs 2 0; num_eval = get_or xs 3 0; id_next = get_or xs 4 0 }

-- every cell of a list is an element
record Below (xs : List ℕ) : Type 0 where
  cell : (j : ℕ) → get_or xs j 0 < p

below_none : Below []
below_none = record { cell = (λ j. omega arith) }

below_more : (x : ℕ) (xs : List ℕ) → x < p → Below xs → Below (x ∷ xs)
below_more x xs h b = record { cell = at }
  where
    at : (j : ℕ) → get_or (x ∷ xs) j 0 < p
    at zero = h
    at (suc j) = b.cell j

below_both : (xs ys : List ℕ) → Below xs → Below ys → Below (xs ++ ys)
below_both [] ys a b = b
below_both (x ∷ xs) ys a b = below_more x (xs ++ ys) (a.cell 0) (below_both xs ys (record { cell = (λ j. a.cell (suc j)) }) b)

below_each : (f : ℕ → List ℕ) (n : ℕ) → ((k : ℕ) → k < n → Below (f k)) → Below (each f n)
below_each f zero h = rw (each_none f) below_none
below_each f (suc n) h = rw (each_more f n) (below_both (each f n) (f n) (below_each f n (λ k l. h k (omega arith))) (h n (omega arith)))

front_elements : (front rest : List ℕ) (n : ℕ) → length front ≡ n → Below front → elements n (front ++ rest) ≡ true
unfolding elements
front_elements front rest n e b =
    let t : take n (front ++ rest) ≡ front = take_at front rest n e in
    rw t (le-leb n (first_over front) (omega (arith, over_all front (λ k h. b.cell k))))

op_below : (op : ℕ) → eval_op op < p
op_below zero = omega arith
op_below (suc zero) = omega arith
op_below (suc (suc op)) = omega arith

left_below : (w : ℕ) → left_id w < p
left_below w = omega arith

right_below : (w : ℕ) → right_id w < p
right_below w = omega arith

pair_below : (v : Pair) (xs : List ℕ) → Elements v → Below xs → Below (v.c0 ∷ v.c1 ∷ xs)
pair_below v xs e b = below_more v.c0 (v.c1 ∷ xs) e.low (below_more v.c1 xs e.high b)

-- a circuit of values, ids and addresses that are elements
module _ (c : Circuit) (ptr : ℕ) (values : (id : ℕ) → Elements (value c id)) (few : num_wires c < p) (near : ptr + (2 * c.vars + c.gates) ≤ p) where
  value_below : (k : ℕ) → Below (value_cells c k)
  value_below k = pair_below (value c (id_at c k)) [] (values (id_at c k)) below_none

  read_below : (i : ℕ) → i < c.vars / 2 → Below (read_cells c ptr i)
  read_below i h =
      below_more _ _ (omega arith)
      (below_more _ _ (omega arith)
      (pair_below _ _ (values (id_at c (2 * i)))
      (below_more _ _ (omega arith)
      (pair_below _ _ (values (id_at c (2 * i + 1)))
      below_none))))

  eval-below : (k : ℕ) → k < c.gates → Below (eval_cells c ptr k)
  eval-below k h =
      below_more _ _ (omega arith)
      (below_more _ _ (op_below (opcode (word c k)))
      (below_more _ _ (omega arith)
      (pair_below _ _ (values (id_at c (c.vars + k)))
      (below_more _ _ (left_below (word c k))
      (pair_below _ _ (values (left_id (word c k)))
      (below_more _ _ (right_below (word c k))
      (pair_below _ _ (values (right_id (word c k)))
      below_none)))))))

  filled-values-in : (b : Lent) → elements (2 * num_wires c) (filled c ptr b).values ≡ true
  filled-values-in b = front_elements (each (value_cells c) (num_wires c)) _ _ (values_length c (num_wires c)) (below_each (value_cells c) (num_wires c) (λ k h. value_below k))

  filled-nodes-in : (b : Lent) → elements (node_cells (c.vars / 2) c.gates) (filled c ptr b).nodes ≡ true
  filled-nodes-in b =
      front_elements (each (read_cells c ptr) (c.vars / 2) ++ each (eval_cells c ptr) c.gates) _ _ (nodes-length c ptr (c.vars / 2) c.gates)
      (below_both (each (read_cells c ptr) (c.vars / 2)) (each (eval_cells c ptr) c.gates)
      (below_each (read_cells c ptr) (c.vars / 2) read_below)
      (below_each (eval_cells c ptr) c.gates eval-below))

module _ (ctx clk ptr num-vars num-eval : ℕ) (memory : List ℕ) (b : Lent) (h : RecordHeader)
    (e : eval_answer ctx clk ptr num-vars num-eval memory b ≡ accepted (header_numbers h)) where
  abbrev circuit : Circuit
  circuit = circuit_at memory ptr num-vars num-eval

  abbrev after : Lent
  after = eval_buffers ctx clk ptr num-vars num-eval memory b

  valid : Valid ptr num-vars num-eval memory b
  valid = accepted_valid ctx clk ptr num-vars num-eval memory b (header_numbers h) e

  -- the header that is answered is this one
  pub answered-header : h ≡ eval_header ctx clk num-vars num-eval
  answered-header = ap from_numbers (accepted_header ctx clk ptr num-vars num-eval memory b (header_numbers h) e)

  -- variables come in twos
  wires-same : record_wires (eval_header ctx clk num-vars num-eval) ≡ num-vars + num-eval
  wires-same = let v = valid.even_vars in omega arith

  held : room (num-vars / 2) num-eval (length after.values) (length after.counts) (length after.nodes) ≡ true
  held =
      let v = valid.room-values in
      let k = valid.room-counts in
      let n = valid.room-nodes in
      let l = length-values ctx clk ptr num-vars num-eval memory b (header_numbers h) e in
      let m = length-counts ctx clk ptr num-vars num-eval memory b (header_numbers h) e in
      let o = length-nodes ctx clk ptr num-vars num-eval memory b (header_numbers h) e in
      sym (room_by_nodes (num-vars / 2) num-eval (length after.values) (length after.counts) (length after.nodes) (omega (arith, wires-same)) (omega (arith, wires-same))) ∙ le-leb (node_cells (num-vars / 2) num-eval) (length after.nodes) (omega arith)

  values-elements : (id : ℕ) → Elements (value circuit id)
  values-elements = value-elements circuit (region_by_cell memory ptr num-vars num-eval valid.elements valid.in_memory)

  few-wires : num-vars + num-eval < p
  few-wires = let f = valid.few in omega arith

  near-pointer : ptr + (2 * num-vars + num-eval) ≤ p
  near-pointer = let a = valid.addressed in omega arith

  in_field_lem : in_field (eval_header ctx clk num-vars num-eval) after ≡ true
  unfolding in_field
  in_field_lem =
      let f = accepted_filled ctx clk ptr num-vars num-eval memory b (header_numbers h) e in
      rw (f, wires-same)
      (both_hold _ _ (filled-values-in circuit ptr values-elements few-wires near-pointer b)
      (both_hold _ _ (filled-nodes-in circuit ptr values-elements few-wires near-pointer b)
      (lt-ltb (p - 1) p (omega arith))))

  -- "21, 19, 6, 17" are never given: what comes after these tests is answered
  pub record_passes : (t : Told) → of_record h after t ≡ t
  record_passes t =
      let n : (num-eval ≡ 0 → ⊥) = λ z. let s = valid.some_evals in omega arith in
      let f = valid.few in
      ap (λ (x : RecordHeader). of_record x after t) answered-header
      ∙ sym (in_order (eval_header ctx clk num-vars num-eval) after t n (omega (arith, wires-same)) held in_field_lem)
