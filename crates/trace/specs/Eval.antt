-- An EVAL step: a gate's wire from the wires of its two operands.
-- Assumes nothing.
use Rattle.std.specs.Prelude.{ℕ, zero, suc, ◌+◌, ◌-◌, ◌*◌, ◌^◌, Bool, cond, ◌&&◌, List, [], ◌∷◌, ltb, get_or, set}
use Rattle.refusal.specs.Told.{Told, accepted, refused}
use Rattle.field.specs.Field.{p, sub_f}
use Rattle.field.specs.Pair.{Pair, cells, add_pair, sub_pair, mul_pair}
use Rattle.field.specs.Answer.{of_elements}
use Rattle.instruction.specs.Decode.{left_id, right_id, opcode, decode_answer}
use Rattle.trace.specs.declared.CircuitEvaluation.{CircuitEvaluation}
use Rattle.trace.specs.Counts.{with_room, node_cells}
use Rattle.trace.specs.State.{wires_of, made_of, eval_turn, in_turn}
use Rattle.trace.specs.Outcome.{Lent, lent, Outcome, outcome, fits, unless_refused, value_at, make_wire, write_node}

-- "a step refuses in the order 13, 6, 7"
unfoldable pub eval_tests : CircuitEvaluation → Bool → ℕ → ℕ → Told
eval_tests s fit ptr word =
    in_turn (eval_turn s)
    (with_room fit
    (of_elements (word ∷ ptr ∷ [])
    (accepted [])))

-- 8: "gate word doesn't decode", with the "gate, from 0"
abbrev pub at_gate : ℕ → Told → Told
at_gate gate (accepted vs) = accepted vs
at_gate gate (refused number place) = refused number gate

-- "the wire with an id lies at position num_wires - 1 - id"
abbrev pub position : ℕ → ℕ → ℕ
position num-wires id = num-wires - 1 - id

-- "not yet made, or id at least num_wires"
abbrev pub is_made : ℕ → ℕ → ℕ → Bool
is_made num-wires made id = ltb id num-wires && ltb (position num-wires id) made

-- "7 (a stored value p or more; returns its value cell), 13 (count at 4294967295)", of the wire at a position; then its value
unfoldable pub stored_answer : ℕ → List ℕ → List ℕ → Told
stored_answer k vs cs =
    cond (ltb (get_or vs (2 * k) 0) p)
    (cond (ltb (get_or vs (2 * k + 1) 0) p)
    (cond (ltb (get_or cs k 0) (2 ^ 32 - 1))
    (accepted (cells (value_at vs k)))
    (refused 13 0))
    (refused 7 (2 * k + 1)))
    (refused 7 (2 * k))

-- 9, 10: "left, right operand not yet made, or id at least num_wires", with the gate
unfoldable pub operand_answer : ℕ → ℕ → ℕ → ℕ → ℕ → List ℕ → List ℕ → Told
operand_answer number gate num-wires made id vs cs =
    cond (is_made num-wires made id) (stored_answer (position num-wires id) vs cs) (refused number gate)

-- the counts with the one at a position raised
abbrev pub raised : ℕ → List ℕ → List ℕ
raised k cs = set cs k (get_or cs k 0 + 1)

-- the operand with an id, in a state
abbrev pub operand : ℕ → CircuitEvaluation → ℕ → Lent → Told
operand number s id b = operand_answer number s.evals_done (wires_of s) (made_of s) id b.values b.counts

abbrev pub counted : CircuitEvaluation → ℕ → Lent → Lent
counted s id b = lent b.values (raised (position (wires_of s) id) b.counts) b.nodes

abbrev pub value_of : CircuitEvaluation → ℕ → Lent → Pair
value_of s id b = value_at b.values (position (wires_of s) id)

-- "0 Sub, 1 Mul, 2 Add"
abbrev pub combine : ℕ → Pair → Pair → Pair
combine zero l r = sub_pair l r
combine (suc zero) l r = mul_pair l r
combine (suc (suc op)) l r = add_pair l r

-- "eval_op is p - 1 for Sub, 0 for Mul, 1 for Add"
abbrev pub eval_op : ℕ → ℕ
eval_op zero = p - 1
eval_op (suc zero) = 0
eval_op (suc (suc op)) = 1

-- "an EVAL node (ptr, eval_op, id_0, v_0, id_1, v_1, id_2, v_2)"
abbrev pub eval_node : ℕ → ℕ → ℕ → Pair → ℕ → Pair → ℕ → Pair → List ℕ
eval_node ptr op id₀ v₀ id₁ v₁ id₂ v₂ =
    ptr ∷ op ∷ id₀ ∷ v₀.c0 ∷ v₀.c1 ∷ id₁ ∷ v₁.c0 ∷ v₁.c1 ∷ id₂ ∷ v₂.c0 ∷ v₂.c1 ∷ []

-- the state after the step
abbrev pub eval_done : CircuitEvaluation → CircuitEvaluation
eval_done s = record {
  ctx = s.ctx;
  clk = s.clk;
  num_read = s.num_read;
  num_eval = s.num_eval;
  reads_done = s.reads_done;
  evals_done = s.evals_done + 1;
  id_next = sub_f s.id_next 1;
}

-- the wire of a gate whose operands have the values l and r, and its node
abbrev pub eval_made : CircuitEvaluation → ℕ → ℕ → ℕ → ℕ → Pair → Pair → Lent → Lent
eval_made s ptr left right op l r b =
    write_node (node_cells s.num_read s.evals_done) (eval_node ptr (eval_op op) s.id_next (combine op l r) left l right r)
    (make_wire (made_of s) (combine op l r) b)

abbrev pub gate_step : CircuitEvaluation → ℕ → ℕ → ℕ → ℕ → Lent → Outcome
gate_step s ptr left right op b =
    outcome (accepted []) (eval_done s) (eval_made s ptr left right op (value_of s left b) (value_of s right b) b)

-- the left operand with 9, 7, 13, "then the right with 10 likewise"; "the left count is raised before the right operand is looked at, and stays raised where the right is refused"
unfoldable pub operands_step : CircuitEvaluation → ℕ → ℕ → ℕ → ℕ → Lent → Outcome
operands_step s ptr left right op b =
    unless_refused (operand 9 s left b) s b
    (unless_refused (operand 10 s right (counted s left b)) s (counted s left b)
    (gate_step s ptr left right op (counted s right (counted s left b))))

unfoldable pub eval_step : CircuitEvaluation → ℕ → ℕ → Lent → Outcome
eval_step s ptr word b =
    unless_refused (eval_tests s (fits s b) ptr word) s b
    (unless_refused (at_gate s.evals_done (decode_answer word)) s b
    (operands_step s ptr (left_id word) (right_id word) (opcode word) b))
