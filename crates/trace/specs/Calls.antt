-- Steps one after the other, each on the state and the buffers that the one before left.
-- Assumes nothing.
use Rattle.std.specs.Prelude.{ℕ, ◌+◌, Bool, true, false, cond, ◌&&◌, List, [], ◌∷◌, eqb}
use Rattle.instruction.specs.Decode.{left_id, right_id, decode_answer}
use Rattle.trace.specs.declared.CircuitEvaluation.{CircuitEvaluation}
use Rattle.trace.specs.State.{is_accepted}
use Rattle.trace.specs.Outcome.{Lent, Outcome, fits}
use Rattle.trace.specs.Read.{read_step}
use Rattle.trace.specs.Eval.{eval_tests, operand, eval_step}

-- a READ step with its pointer and word, or an EVAL step with its pointer and gate word
pub data Call : Type 0 where
  read : ℕ → List (List ℕ) → Call
  eval : ℕ → ℕ → Call

abbrev pub called : Call → Outcome → Outcome
called (read ptr word) o = read_step o.state ptr word o.buffers
called (eval ptr word) o = eval_step o.state ptr word o.buffers

-- whatever each answers
unfoldable pub calls : List Call → Outcome → Outcome
calls [] o = o
calls (c ∷ cs) o = calls cs (called c o)

-- 1 where an operand names the wire with an id
abbrev pub names : ℕ → ℕ → ℕ
names operand-id id = cond (eqb operand-id id) 1 0

-- how many of the two operands of a gate that is accepted name it
abbrev pub gate_names : Bool → ℕ → ℕ → ℕ
gate_names true word id = names (left_id word) id + names (right_id word) id
gate_names false word id = 0

abbrev pub call_names : Call → Outcome → ℕ → ℕ
call_names (read ptr word) o id = 0
call_names (eval ptr word) o id = gate_names (is_accepted (called (eval ptr word) o).told) word id

-- how many operands of accepted gates name it
unfoldable pub accepteds : List Call → Outcome → ℕ → ℕ
accepteds [] o id = 0
accepteds (c ∷ cs) o id = call_names c o id + accepteds cs (called c o) id

-- whether an EVAL step comes to its right operand, with the left one counted
unfoldable pub left_counted : CircuitEvaluation → ℕ → ℕ → Lent → Bool
left_counted s ptr word b =
    is_accepted (eval_tests s (fits s b) ptr word)
    && (is_accepted (decode_answer word)
    && is_accepted (operand 9 s (left_id word) b))

-- the left operands naming the wire with an id, counted by steps that were then refused at their right one
abbrev pub left_name : Bool → Bool → ℕ → ℕ → ℕ
left_name true came word id = 0
left_name false true word id = names (left_id word) id
left_name false false word id = 0

abbrev pub call_leaves : Call → Outcome → ℕ → ℕ
call_leaves (read ptr word) o id = 0
call_leaves (eval ptr word) o id = left_name (is_accepted (called (eval ptr word) o).told) (left_counted o.state ptr word o.buffers) word id

unfoldable pub left_raised : List Call → Outcome → ℕ → ℕ
left_raised [] o id = 0
left_raised (c ∷ cs) o id = call_leaves c o id + left_raised cs (called c o) id
