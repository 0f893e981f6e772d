-- Whole evaluation: for every input the answer, and all three lent buffers after it.
-- Assumes nothing.
use Rattle.std.specs.Prelude.{ℕ, ◌+◌, ◌-◌, ◌*◌, ◌/◌, ◌%◌, ◌^◌, cond, ◌||◌, List, [], ◌∷◌, ◌++◌, ltb, leb, eqb, length, take, drop, replicate}
use Rattle.refusal.specs.Told.{Told, accepted, refused}
use Rattle.field.specs.Lists.{each}
use Rattle.field.specs.Field.{p, first_over}
use Rattle.field.specs.Pair.{cells}
use Rattle.instruction.specs.Decode.{left_id, right_id, opcode}
use Rattle.trace.specs.Counts.{most_wires, node_cells, room, with_room}
use Rattle.trace.specs.Outcome.{Lent, lent}
use Rattle.trace.specs.Read.{read_node}
use Rattle.trace.specs.Eval.{eval_op, eval_node}
use Rattle.trace.specs.Output.{is_zero}
use Rattle.eval_circuit.specs.Circuit.{Circuit, num_wires, word, value, multiplicity, gates_answer}

-- "a slice longer than 2^32 counts as 2^32 cells"
abbrev pub cells_counted : ℕ → ℕ
cells_counted len = cond (ltb (2 ^ 32) len) (2 ^ 32) len

abbrev pub memory_cells : List ℕ → ℕ
memory_cells memory = cells_counted (length memory)

-- the region's length, and the circuit in it
abbrev pub region_cells : ℕ → ℕ → ℕ
region_cells num-vars num-eval = 2 * num-vars + num-eval

abbrev pub circuit_at : List ℕ → ℕ → ℕ → ℕ → Circuit
circuit_at memory ptr num-vars num-eval = record {
  cells = take (region_cells num-vars num-eval) (drop ptr memory);
  vars = num-vars;
  gates = num-eval;
}

-- 7: "a cell is p or more", with the "first such address"
unfoldable pub of_cells : ℕ → List ℕ → Told → Told
of_cells ptr xs t = cond (ltb (first_over xs) (length xs)) (refused 7 (ptr + first_over xs)) t

-- "8, 9, 10, then 12"; the answer is the record's header, "after evaluation id_next is p - 1"
abbrev pub circuit_answer : ℕ → ℕ → Circuit → Told
circuit_answer ctx clk c =
    gates_answer c.gates 0 c
    (cond (is_zero (value c 0))
    (accepted (ctx ∷ clk ∷ c.vars / 2 ∷ c.gates ∷ (p - 1) ∷ []))
    (refused 12 0))

-- 1 to 5, of a memory of so many cells; t where none of them is given
unfoldable pub of_region : ℕ → ℕ → ℕ → ℕ → Told → Told
of_region ptr num-vars num-eval memory-cells t =
    cond (ltb most_wires (num-vars + num-eval)) (refused 1 0)
    (cond (eqb num-vars 0 || eqb (num-vars % 2) 1) (refused 2 0)
    (cond (eqb num-eval 0 || ltb 0 (num-eval % 4)) (refused 3 0)
    (cond (ltb 0 (ptr % 4)) (refused 4 0)
    (cond (ltb memory-cells (ptr + region_cells num-vars num-eval)) (refused 5 0)
    t))))

-- "order 1 to 7, then gate by gate 8, 9, 10, then 12"
unfoldable pub eval_answer : ℕ → ℕ → ℕ → ℕ → ℕ → List ℕ → Lent → Told
eval_answer ctx clk ptr num-vars num-eval memory b =
    of_region ptr num-vars num-eval (memory_cells memory)
    (with_room (room (num-vars / 2) num-eval (length b.values) (length b.counts) (length b.nodes))
    (of_cells ptr (circuit_at memory ptr num-vars num-eval).cells
    (circuit_answer ctx clk (circuit_at memory ptr num-vars num-eval))))

-- the id of the wire at a position: ids go down
abbrev pub id_at : Circuit → ℕ → ℕ
id_at c k = num_wires c - 1 - k

abbrev pub value_cells : Circuit → ℕ → List ℕ
value_cells c k = cells (value c (id_at c k))

abbrev pub count_cell : Circuit → ℕ → List ℕ
count_cell c k = multiplicity c (id_at c k) ∷ []

abbrev pub read_cells : Circuit → ℕ → ℕ → List ℕ
read_cells c ptr i = read_node (ptr + 4 * i) (id_at c (2 * i)) (value c (id_at c (2 * i))) (id_at c (2 * i + 1)) (value c (id_at c (2 * i + 1)))

abbrev pub eval_cells : Circuit → ℕ → ℕ → List ℕ
eval_cells c ptr k =
    eval_node (ptr + (2 * c.vars + k)) (eval_op (opcode (word c k))) (id_at c (c.vars + k)) (value c (id_at c (c.vars + k)))
    (left_id (word c k)) (value c (left_id (word c k)))
    (right_id (word c k)) (value c (right_id (word c k)))

-- the buffers of an accepted evaluation: the used cells by id, and the rest as it was
abbrev pub filled : Circuit → ℕ → Lent → Lent
filled c ptr b =
    lent
    (each (value_cells c) (num_wires c) ++ drop (2 * num_wires c) b.values)
    (each (count_cell c) (num_wires c) ++ drop (num_wires c) b.counts)
    (each (read_cells c ptr) (c.vars / 2) ++ each (eval_cells c ptr) c.gates ++ drop (node_cells (c.vars / 2) c.gates) b.nodes)

-- the first n cells zero, and the rest as it was
abbrev pub zeroed : ℕ → List ℕ → List ℕ
zeroed n xs = replicate n 0 ++ drop n xs

abbrev pub cleared : Circuit → Lent → Lent
cleared c b =
    lent (zeroed (2 * num_wires c) b.values) (zeroed (num_wires c) b.counts) (zeroed (node_cells (c.vars / 2) c.gates) b.nodes)

-- "1 to 7 change nothing. 8, 9, 10 and 12 leave the used value cells, counts and node cells zero"
abbrev pub buffers_after : Told → Circuit → ℕ → Lent → Lent
buffers_after (accepted vs) c ptr b = filled c ptr b
buffers_after (refused number place) c ptr b = cond (leb number 7) b (cleared c b)

unfoldable pub eval_buffers : ℕ → ℕ → ℕ → ℕ → ℕ → List ℕ → Lent → Lent
eval_buffers ctx clk ptr num-vars num-eval memory b =
    buffers_after (eval_answer ctx clk ptr num-vars num-eval memory b) (circuit_at memory ptr num-vars num-eval) ptr b
