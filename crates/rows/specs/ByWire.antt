-- The rows of an accepted evaluation, straight from the circuit by its wires' ids.
-- Assumes nothing.
use Rattle.std.specs.Prelude.{ℕ, ◌+◌, ◌*◌, ◌/◌, ◌%◌, Bool, ◌&&◌, ◌||◌, List, ◌++◌, leb, eqb}
use Rattle.field.specs.Lists.{each}
use Rattle.instruction.specs.Decode.{left_id, right_id, opcode}
use Rattle.trace.specs.Eval.{eval_op}
use Rattle.eval_circuit.specs.Circuit.{Circuit, word, value, multiplicity}
use Rattle.eval_circuit.specs.Evaluated.{id_at}
use Rattle.rows.specs.Rows.{read_row, eval_row}

-- READ row i has the wires of variables 2i and 2i + 1
abbrev pub wire_read_row : ℕ → ℕ → ℕ → Circuit → ℕ → List ℕ
wire_read_row ctx clk ptr c i =
    read_row ctx clk c.gates i (ptr + 4 * i)
    (id_at c (2 * i)) (value c (id_at c (2 * i)))
    (id_at c (2 * i + 1)) (value c (id_at c (2 * i + 1)))
    (multiplicity c (id_at c (2 * i))) (multiplicity c (id_at c (2 * i + 1)))

-- EVAL row k has the wire of gate k and its two operands
abbrev pub wire_eval_row : ℕ → ℕ → ℕ → Circuit → ℕ → List ℕ
wire_eval_row ctx clk ptr c k =
    eval_row ctx clk (ptr + (2 * c.vars + k)) (eval_op (opcode (word c k)))
    (id_at c (c.vars + k)) (value c (id_at c (c.vars + k)))
    (left_id (word c k)) (value c (left_id (word c k)))
    (right_id (word c k)) (value c (right_id (word c k)))
    (multiplicity c (id_at c (c.vars + k)))

abbrev pub circuit_rows : ℕ → ℕ → ℕ → Circuit → List ℕ
circuit_rows ctx clk ptr c = each (wire_read_row ctx clk ptr c) (c.vars / 2) ++ each (wire_eval_row ctx clk ptr c) c.gates

-- which cells of the rows are wire values: the two of v_0 and the two of v_1 on every row, and on EVAL rows the two of v_2
abbrev pub is_wire_value : ℕ → ℕ → Bool
is_wire_value num-read k =
    (eqb (k % 16) 7 || eqb (k % 16) 8)
    || ((eqb (k % 16) 10 || eqb (k % 16) 11)
    || (leb (16 * num-read) k && (eqb (k % 16) 13 || eqb (k % 16) 14)))
