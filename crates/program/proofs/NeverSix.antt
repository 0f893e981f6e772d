-- The program never answers 6: it has room for every circuit that comes to its evaluation.
-- Assumes nothing.
use Prim.Native.Nat.{ℕ, zero, suc, ◌+◌, ◌-◌, ◌/◌, ◌%◌, ◌^◌, ◌≤◌}
use mathlib.Core.Path.{◌≡◌, refl, sym, ap, ◌∙◌}
use mathlib.Core.Bool.{Bool, true, false, cond, ◌||◌}
use mathlib.Core.List.{List, [], ◌∷◌}
use native.Mathlib.Omega.{arith}
use lib.Dec.{ltb, eqb}
use lib.ListN.{length, drop}
use borrow.Author.Tests.{ltb-false, eqb-false, le-leb}
use Rattle.refusal.specs.Told.{Told, accepted, refused, or_else}
use Rattle.field.specs.Field.{p, first_over}
use Rattle.field.specs.Answer.{of_elements}
use Rattle.refusal.proofs.Tellings.{true_not_false}
use Rattle.instruction.specs.Decode.{left_id, right_id, opcode, decode_answer}
use Rattle.numbers.specs.Form.{Found, found, cut_off, not_shortest, find_from}
use Rattle.numbers.specs.Answer.{found_at, within, read_answer, read_below_answer}
use Rattle.trace.specs.Counts.{most_wires, node_cells, room}
use Rattle.trace.specs.Eval.{at_gate, is_made}
use Rattle.trace.specs.Output.{is_zero}
use Rattle.trace.proofs.Tests.{room_by_nodes}
use Rattle.eval_circuit.specs.Circuit.{Circuit, num_wires, word, value, gate_answer, gates_answer}
use Rattle.eval_circuit.specs.Evaluated.{memory_cells, region_cells, circuit_at, of_cells, circuit_answer, of_region, eval_answer}
use Rattle.record.specs.Numbers.{next_at, after, numbers_answer}
use Rattle.program.specs.Input.{ctx_in, clk_in, ptr_in, vars_in, evals_in, memory_in, cells_in, cells_at, head_answer, most_cells, cells_answer, over_room, input_answer}
use Rattle.program.specs.Answer.{here, program_answer}
use Rattle.program.proofs.Inputs.{input_good, room_enough}

-- the number of a refusal
abbrev number : Told → ℕ
number (accepted vs) = 0
number (refused n k) = n

abbrev Other : Told → Type 0
Other t = number t ≡ 6 → ⊥

other : (n k : ℕ) → (n ≡ 6 → ⊥) → Other (refused n k)
other n k h = h

-- one answer before another, and a test before one
either_other : (t u : Told) → Other t → ((vs : List ℕ) → t ≡ accepted vs → Other u) → Other (or_else t u)
either_other (accepted vs) u h k = k vs refl
either_other (refused n m) u h k = h

stop_other : (b : Bool) (n k : ℕ) (t : Told) → (n ≡ 6 → ⊥) → (b ≡ false → Other t) → Other (cond b (refused n k) t)
stop_other true n k t h f = h
stop_other false n k t h f = f refl

pass_other : (b : Bool) (n k : ℕ) (t : Told) → (n ≡ 6 → ⊥) → Other t → Other (cond b t (refused n k))
pass_other true n k t h f = f
pass_other false n k t h f = h

-- numbers that are read
within_other : (bound at : ℕ) (g : Found) → Other (within bound at (found_at at g))
within_other bound at (found v n) = pass_other (ltb v bound) 17 at (accepted (v ∷ (at + n) ∷ [])) (λ e. omega arith) (λ e. omega arith)
within_other bound at cut_off = λ e. omega arith
within_other bound at not_shortest = λ e. omega arith

numbers_other : (bound n : ℕ) (s : List ℕ) (at : ℕ) → Other (numbers_answer bound n s at)
unfolding numbers_answer read_below_answer read_answer
numbers_other bound zero s at = λ e. omega arith
numbers_other bound (suc n) s at =
    either_other (read_below_answer bound s at) (numbers_answer bound n s (next_at s at))
    (within_other bound at (find_from 0 (drop at s)))
    (λ vs e. numbers_other bound n s (next_at s at))

cells_other : (n : ℕ) (s : List ℕ) (at : ℕ) → Other (cells_answer n s at)
unfolding cells_answer
cells_other n s at =
    stop_other (ltb most_cells n) 24 0 _ (λ e. omega arith)
    (λ _. either_other (numbers_answer (2 ^ 64) n s at) _ (numbers_other (2 ^ 64) n s at)
    (λ vs e. stop_other (ltb (after n s at) (length s)) 23 0 _ (λ q. omega arith) (λ _ q. omega arith)))

input_other : (s : List ℕ) → Other (input_answer s)
unfolding input_answer head_answer
input_other s =
    either_other (head_answer s) _
    (either_other (numbers_answer (2 ^ 32) 2 s 0) _ (numbers_other (2 ^ 32) 2 s 0) (λ vs e. numbers_other (2 ^ 64) 4 s (after 2 s 0)))
    (λ vs e. either_other (cells_answer (cells_in s) s (cells_at s)) _ (cells_other (cells_in s) s (cells_at s))
    (λ ws f. stop_other (over_room (vars_in s + evals_in s)) 24 0 _ (λ q. omega arith) (λ _ q. omega arith)))

-- gates
decode_other : (v k : ℕ) → Other (at_gate k (decode_answer v))
unfolding decode_answer of_elements
decode_other v k = at_gate_lem (ltb (first_over (v ∷ [])) 1) (ltb (opcode v) 3)
  where
    at_gate_lem : (a b : Bool) → Other (at_gate k (cond a (refused 7 (first_over (v ∷ []))) (cond b (accepted (left_id v ∷ right_id v ∷ opcode v ∷ [])) (refused 8 0))))
    at_gate_lem true b = λ e. omega arith
    at_gate_lem false true = λ e. omega arith
    at_gate_lem false false = λ e. omega arith

gate_other : (c : Circuit) (k : ℕ) → Other (gate_answer c k)
unfolding gate_answer
gate_other c k =
    either_other (at_gate k (decode_answer (word c k))) _ (decode_other (word c k) k)
    (λ vs e. pass_other (is_made (num_wires c) (c.vars + k) (left_id (word c k))) 9 k _ (λ q. omega arith)
    (pass_other (is_made (num_wires c) (c.vars + k) (right_id (word c k))) 10 k _ (λ q. omega arith) (λ q. omega arith)))

gates_other : (n k : ℕ) (c : Circuit) (t : Told) → Other t → Other (gates_answer n k c t)
unfolding gates_answer
gates_other zero k c t h = h
gates_other (suc n) k c t h = either_other (gate_answer c k) _ (gate_other c k) (λ vs e. gates_other n (suc k) c t h)

circuit_other : (ctx clk : ℕ) (c : Circuit) → Other (circuit_answer ctx clk c)
circuit_other ctx clk c =
    gates_other c.gates 0 c
    (cond (is_zero (value c 0)) (accepted (ctx ∷ clk ∷ c.vars / 2 ∷ c.gates ∷ (p - 1) ∷ [])) (refused 12 0))
    (pass_other (is_zero (value c 0)) 12 0 (accepted (ctx ∷ clk ∷ c.vars / 2 ∷ c.gates ∷ (p - 1) ∷ [])) (λ q. omega arith) (λ q. omega arith))

-- an evaluation of at most 128 wires has room here
either_false : (a b : Bool) → (a || b) ≡ false → b ≡ false
either_false true b e = true_not_false e
either_false false b e = e

region_other : (ptr num-vars num-eval cells : ℕ) (t : Told) → (num-vars + num-eval ≤ most_wires → num-vars % 2 ≡ 0 → Other t) → Other (of_region ptr num-vars num-eval cells t)
unfolding of_region
region_other ptr num-vars num-eval cells t h =
    stop_other (ltb most_wires (num-vars + num-eval)) 1 0 _ (λ q. omega arith)
    (λ few. stop_other (eqb num-vars 0 || eqb (num-vars % 2) 1) 2 0 _ (λ q. omega arith)
    (λ even. stop_other (eqb num-eval 0 || ltb 0 (num-eval % 4)) 3 0 _ (λ q. omega arith)
    (λ _. stop_other (ltb 0 (ptr % 4)) 4 0 _ (λ q. omega arith)
    (λ _. stop_other (ltb cells (ptr + region_cells num-vars num-eval)) 5 0 _ (λ q. omega arith)
    (λ _. h (ltb-false most_wires (num-vars + num-eval) few) (halves (eqb-false (num-vars % 2) 1 (either_false (eqb num-vars 0) (eqb (num-vars % 2) 1) even))))))))
  where
    halves : (num-vars % 2 ≡ 1 → ⊥) → num-vars % 2 ≡ 0
    halves n = omega arith

room-here : (num-vars num-eval : ℕ) → num-vars + num-eval ≤ 128 → num-vars % 2 ≡ 0 → room (num-vars / 2) num-eval (length here.values) (length here.counts) (length here.nodes) ≡ true
room-here num-vars num-eval h e =
    sym (room_by_nodes (num-vars / 2) num-eval 256 128 1408 (omega arith) (omega arith)) ∙ le-leb (node_cells (num-vars / 2) num-eval) 1408 (omega arith)

evaluation_other : (ctx clk ptr num-vars num-eval : ℕ) (memory : List ℕ) → over_room (num-vars + num-eval) ≡ false → Other (eval_answer ctx clk ptr num-vars num-eval memory here)
unfolding eval_answer of_cells
evaluation_other ctx clk ptr num-vars num-eval memory r =
    region_other ptr num-vars num-eval (memory_cells memory) _
    (λ few even. rw (room-here num-vars num-eval (room_enough (num-vars + num-eval) r few) even)
    (stop_other (ltb (first_over c.cells) (length c.cells)) 7 (ptr + first_over c.cells) (circuit_answer ctx clk c) (λ q. omega arith) (λ _. circuit_other ctx clk c)))
  where
    c : Circuit
    c = circuit_at memory ptr num-vars num-eval

pub never_six : (s : List ℕ) (place : ℕ) → program_answer s ≡ refused 6 place → ⊥
unfolding program_answer
never_six s place e = all (ap number e)
  where
    all : Other (program_answer s)
    all =
        either_other (input_answer s) (eval_answer (ctx_in s) (clk_in s) (ptr_in s) (vars_in s) (evals_in s) (memory_in s) here)
        (input_other s)
        (λ vs f. evaluation_other (ctx_in s) (clk_in s) (ptr_in s) (vars_in s) (evals_in s) (memory_in s) (input_good s vs f).room)
