-- A circuit by its wires' ids: the value of each, which gate is refused first, and how often each is named.
-- Assumes nothing.
use Rattle.std.specs.Prelude.{ℕ, zero, suc, ◌+◌, ◌-◌, ◌*◌, cond, List, [], ltb, get_or}
use Rattle.refusal.specs.Told.{Told, accepted, refused, or_else}
use Rattle.field.specs.Pair.{Pair, pair}
use Rattle.instruction.specs.Decode.{left_id, right_id, opcode, decode_answer}
use Rattle.trace.specs.Outcome.{value_at}
use Rattle.trace.specs.Eval.{at_gate, position, is_made, combine}
use Rattle.trace.specs.Calls.{names}

-- the cells of its region, in their order: two of each variable, then the word of each gate
pub record Circuit : Type 0 where
  pub cells : List ℕ
  pub vars : ℕ
  pub gates : ℕ

abbrev pub num_wires : Circuit → ℕ
num_wires c = c.vars + c.gates

abbrev pub word : Circuit → ℕ → ℕ
word c k = get_or c.cells (2 * c.vars + k) 0

-- the gate that makes the wire with an id, where no variable does
abbrev pub gate_of : Circuit → ℕ → ℕ
gate_of c id = position (num_wires c) id - c.vars

-- a READ wire's value is its pair of cells, a gate's is its left operand's value minus, times or plus its right's;
-- through at most so many gates, one behind the other
unfoldable pub value_by : ℕ → Circuit → ℕ → Pair
value_by zero c id = pair 0 0
value_by (suc most) c id =
    cond (ltb (position (num_wires c) id) c.vars)
    (value_at c.cells (position (num_wires c) id))
    (combine (opcode (word c (gate_of c id))) (value_by most c (left_id (word c (gate_of c id)))) (value_by most c (right_id (word c (gate_of c id)))))

-- where each operand is made earlier, no more gates than wires stand one behind the other
abbrev pub value : Circuit → ℕ → Pair
value c id = value_by (num_wires c) c id

-- how often the first n gates name the wire with an id
unfoldable pub named_by : ℕ → Circuit → ℕ → ℕ
named_by zero c id = 0
named_by (suc n) c id = named_by n c id + (names (left_id (word c n)) id + names (right_id (word c n)) id)

abbrev pub multiplicity : Circuit → ℕ → ℕ
multiplicity c id = named_by c.gates c id

-- "gate by gate 8, 9, 10"; before gate k there are the variables' wires and those of k gates
unfoldable pub gate_answer : Circuit → ℕ → Told
gate_answer c k =
    or_else (at_gate k (decode_answer (word c k)))
    (cond (is_made (num_wires c) (c.vars + k) (left_id (word c k)))
    (cond (is_made (num_wires c) (c.vars + k) (right_id (word c k)))
    (accepted [])
    (refused 10 k))
    (refused 9 k))

-- the first refused of n gates from gate k on; t where none is
unfoldable pub gates_answer : ℕ → ℕ → Circuit → Told → Told
gates_answer zero k c t = t
gates_answer (suc n) k c t = or_else (gate_answer c k) (gates_answer n (suc k) c t)
