-- Laws of a wire's value by its id.
-- Assumes nothing.
use mathlib.Core.Path.{◌≡◌, sym, ap, ap₂, ◌∙◌}
use mathlib.Core.Logic.{⊎_elim}
use Prim.Native.Nat.{ℕ, zero, suc, ◌+◌, ◌-◌, ◌≤◌, ◌<◌}
use native.Mathlib.Omega.{arith}
use lib.ListN.{length, get_or, get_or-eq_default}
use borrow.Author.Tests.{lt-ltb, le-ltb}
use Rattle.field.specs.Field.{p}
use Rattle.field.specs.Pair.{Pair, Elements}
use Rattle.field.proofs.Cases.{below?}
use Rattle.field.proofs.PairLaws.{add_elements, sub_elements, mul_elements}
use Rattle.instruction.specs.Decode.{left_id, right_id, opcode}
use Rattle.trace.specs.Outcome.{value_at}
use Rattle.trace.specs.Eval.{position, combine}
use Rattle.eval_circuit.specs.Circuit.{Circuit, num_wires, word, gate_of, value_by, value}
use Rattle.eval_circuit.specs.Evaluated.{id_at}

-- both operands of a gate name a wire made before it: one of the variables, or one of an earlier gate
pub record Early (c : Circuit) (k : ℕ) : Type 0 where
  pub left_wire : left_id (word c k) < num_wires c
  pub left_early : position (num_wires c) (left_id (word c k)) < c.vars + k
  pub right_wire : right_id (word c k) < num_wires c
  pub right_early : position (num_wires c) (right_id (word c k)) < c.vars + k

-- what gate k makes of the values of two ids
abbrev gate_value : Circuit → ℕ → (ℕ → Pair) → Pair
gate_value c k v = combine (opcode (word c k)) (v (left_id (word c k))) (v (right_id (word c k)))

-- of positions: a gate's number by its wire's; an operand's, made before its gate, below what the gate's wire is below, and below the last wire
of_gate : (at vars n : ℕ) → vars ≤ at → at < vars + n → at - vars < n
of_gate at vars n g h = omega arith

nearer : (at q vars n most more : ℕ) → vars ≤ at → q < vars + (at - vars) → at < vars + n → at < suc most → at < suc more → (q < vars + n) × (q < most) × (q < more)
nearer at q vars n most more g e h l m = (omega arith, omega arith, omega arith)

before_last : (q vars gates k : ℕ) → k < gates → q < vars + k → (q < vars + gates - 1) × (q < vars + gates)
before_last q vars gates k h e = (omega arith, omega arith)

module _ (c : Circuit) where
  by_read : (most id : ℕ) → 0 < most → position (num_wires c) id < c.vars → value_by most c id ≡ value_at c.cells (position (num_wires c) id)
  unfolding value_by
  by_read zero id l h = absurd (omega arith)
  by_read (suc most) id l h = rw (lt-ltb (position (num_wires c) id) c.vars h)

  by-gate : (most id : ℕ) → c.vars ≤ position (num_wires c) id → value_by (suc most) c id ≡ gate_value c (gate_of c id) (value_by most c)
  unfolding value_by
  by-gate most id h = rw (le-ltb (position (num_wires c) id) c.vars h)

  -- a READ wire's value is its pair of cells
  pub value_read : (id : ℕ) → position (num_wires c) id < c.vars → value c id ≡ value_at c.cells (position (num_wires c) id)
  value_read id h = by_read (num_wires c) id (omega arith) h

  -- the operands of the first n gates are made before them; then it makes no difference to these gates' wires, nor to the variables', how many gates are gone through
  pub value_stable : (n : ℕ) → ((j : ℕ) → j < n → Early c j) → (most more id : ℕ) → position (num_wires c) id < c.vars + n
      → position (num_wires c) id < most → position (num_wires c) id < more → value_by most c id ≡ value_by more c id
  value_stable n early zero more id h l m = absurd (omega arith)
  value_stable n early (suc most) zero id h l m = absurd (omega arith)
  value_stable n early (suc most) (suc more) id h l m =
      let at = position (num_wires c) id in
      ⊎_elim
      (λ r. by_read (suc most) id (omega arith) r ∙ sym (by_read (suc more) id (omega arith) r))
      (λ g.
      let e = early (gate_of c id) (of_gate at c.vars n g h) in
      let left = nearer at _ c.vars n most more g e.left_early h l m in
      let right = nearer at _ c.vars n most more g e.right_early h l m in
      by-gate most id g
      ∙ ap₂ (combine (opcode (word c (gate_of c id))))
      (value_stable n early most more (left_id (word c (gate_of c id))) left.0 left.1 left.2)
      (value_stable n early most more (right_id (word c (gate_of c id))) right.0 right.1 right.2)
      ∙ sym (by-gate more id g))
      (below? (position (num_wires c) id) c.vars)

  -- a gate's is its left operand's value minus, times or plus its right's
  pub value_gate : (k : ℕ) → k < c.gates → ((j : ℕ) → j ≤ k → Early c j)
      → value c (id_at c (c.vars + k)) ≡ combine (opcode (word c k)) (value c (left_id (word c k))) (value c (right_id (word c k)))
  value_gate k h early =
      let before : ((j : ℕ) → j < k → Early c j) = λ j l. early j (omega arith) in
      let g : gate_of c (id_at c (c.vars + k)) ≡ k = omega arith in
      let one_more : num_wires c ≡ suc (num_wires c - 1) = omega arith in
      let made : c.vars ≤ position (num_wires c) (id_at c (c.vars + k)) = omega arith in
      let e = early k (omega arith) in
      let l = before_last _ c.vars c.gates k h e.left_early in
      let r = before_last _ c.vars c.gates k h e.right_early in
      ap (λ (most : ℕ). value_by most c (id_at c (c.vars + k))) one_more
      ∙ by-gate (num_wires c - 1) (id_at c (c.vars + k)) made
      ∙ ap (λ (i : ℕ). gate_value c i (value_by (num_wires c - 1) c)) g
      ∙ ap₂ (combine (opcode (word c k)))
      (value_stable k before (num_wires c - 1) (num_wires c) (left_id (word c k)) e.left_early l.0 l.1)
      (value_stable k before (num_wires c - 1) (num_wires c) (right_id (word c k)) e.right_early r.0 r.1)

combine-elements : (op : ℕ) (l r : Pair) → Elements (combine op l r)
combine-elements zero l r = sub_elements l r
combine-elements (suc zero) l r = mul_elements l r
combine-elements (suc (suc op)) l r = add_elements l r

module _ (c : Circuit) (cells : (k : ℕ) → k < length c.cells → get_or c.cells k 0 < p) where
  cell_below : (k : ℕ) → get_or c.cells k 0 < p
  cell_below k =
      ⊎_elim
      (λ l. cells k l)
      (λ l. omega (arith, get_or-eq_default c.cells 0 l))
      (below? k (length c.cells))

  by-elements : (most id : ℕ) → Elements (value_by most c id)
  unfolding value_by
  by-elements zero id = record { low = omega arith; high = omega arith }
  by-elements (suc most) id =
      ⊎_elim
      (λ l. rw (lt-ltb (position (num_wires c) id) c.vars l) (record { low = cell_below _; high = cell_below _ }))
      (λ l. rw (le-ltb (position (num_wires c) id) c.vars l) (combine-elements (opcode (word c (gate_of c id))) _ _))
      (below? (position (num_wires c) id) c.vars)

  -- of cells below p every id has a pair of elements, whatever the gates say
  pub value-elements : (id : ℕ) → Elements (value c id)
  value-elements id = by-elements (num_wires c) id
