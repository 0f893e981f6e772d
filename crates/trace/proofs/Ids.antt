-- Ids: which one the next wire gets, where its wire lies, and what the step that makes it writes.
-- Assumes nothing.
use mathlib.Core.Path.{◌≡◌, ◌∙◌}
use mathlib.Core.List.{List}
use Prim.Native.Nat.{ℕ, ◌+◌, ◌-◌, ◌*◌, ◌≤◌, ◌<◌}
use native.Mathlib.Omega.{arith}
use lib.ListN.{length, get_or}
use lib.Seq.{sets}
use Rattle.refusal.specs.Told.{accepted}
use Rattle.field.specs.Field.{p}
use Rattle.field.specs.Answer.{pair_of}
use Rattle.instruction.specs.Decode.{left_id, right_id, opcode}
use Rattle.trace.specs.declared.CircuitEvaluation.{CircuitEvaluation}
use Rattle.trace.specs.Counts.{most_wires, wires, node_cells}
use Rattle.trace.specs.State.{wires_of, made_of}
use Rattle.trace.specs.Outcome.{Lent}
use Rattle.trace.specs.Open.{opened}
use Rattle.trace.specs.Read.{first_pair, second_pair, read_node, read_done, read_step}
use Rattle.trace.specs.Eval.{position, value_of, combine, eval_op, eval_node, eval_done, eval_step}
use Rattle.trace.proofs.Tests.{Sound}
use Rattle.trace.proofs.NextId.{next_lacking, next_none}
use Rattle.trace.proofs.Stores.{sets_below, sets_above, sets_in}
use Rattle.trace.proofs.Accepted.{read_accepted, eval_accepted}
use Rattle.trace.proofs.Reached.{no_gate_yet}

-- ---- "ids are given downwards from num_wires - 1 to 0", on every state that opening and calls give (`reached_ready`)

pub id_lacking : (s : CircuitEvaluation) → Sound s → made_of s < wires_of s → s.id_next ≡ wires_of s - 1 - made_of s
id_lacking s h l = h.next ∙ next_lacking (wires_of s) (made_of s) h.counts.few l

-- "after evaluation id_next is p - 1"
pub id_none : (s : CircuitEvaluation) → Sound s → made_of s ≡ wires_of s → s.id_next ≡ p - 1
id_none s h e = h.next ∙ rw e (next_none (wires_of s) h.counts.few)

pub first_id : (ctx clk num-read num-eval : ℕ) → wires num-read num-eval ≤ most_wires → 0 < num-eval → (opened ctx clk num-read num-eval).id_next ≡ wires num-read num-eval - 1
first_id ctx clk num-read num-eval few h = let x = next_lacking (wires num-read num-eval) 0 few (omega arith) in omega arith

pub read_next : (s : CircuitEvaluation) → Sound s → s.reads_done < s.num_read → (read_done s).id_next ≡ s.id_next - 2
read_next s h turn =
    let z = no_gate_yet s h turn in
    omega arith

pub eval_next : (s : CircuitEvaluation) → Sound s → s.reads_done ≡ s.num_read → s.evals_done + 1 < s.num_eval → (eval_done s).id_next ≡ s.id_next - 1
eval_next s h all_read turn =
    omega arith

-- "the wire with an id lies at position num_wires - 1 - id": the next one after those that are made
pub next_position : (s : CircuitEvaluation) → Sound s → made_of s < wires_of s → position (wires_of s) s.id_next ≡ made_of s
next_position s h l = let x = id_lacking s h l in omega arith

pub second_position : (s : CircuitEvaluation) → Sound s → made_of s + 1 < wires_of s → position (wires_of s) (s.id_next - 1) ≡ made_of s + 1
second_position s h l = let x = id_lacking s h (omega arith) in omega arith

-- a node's cells from a cell on, and all others as they were
pub record Written (old new : List ℕ) (at : ℕ) (node : List ℕ) : Type 0 where
  pub inside : (k : ℕ) → k < length node → get_or new (at + k) 0 ≡ get_or node k 0
  pub before : (j : ℕ) → j < at → get_or new j 0 ≡ get_or old j 0
  pub after : (j : ℕ) → at + length node ≤ j → get_or new j 0 ≡ get_or old j 0

written : (old : List ℕ) (at : ℕ) (node : List ℕ) → at + length node ≤ length old → Written old (sets old at node) at node
written old at node h = record {
  inside = λ k l. sets_in node old at k h l;
  before = λ j l. sets_below node old at j l;
  after = λ j l. sets_above node old at j l;
}

-- "7 a READ node (ptr, id_0, v_0, id_1, v_1)": the first pair is the wire id_next, the second the wire id_next - 1
pub read_node_lem : (s : CircuitEvaluation) (ptr : ℕ) (w : List (List ℕ)) (b : Lent) (vs : List ℕ) → (read_step s ptr w b).told ≡ accepted vs
    → Written b.nodes (read_step s ptr w b).buffers.nodes (7 * s.reads_done)
    (read_node ptr s.id_next (pair_of (first_pair w)) (s.id_next - 1) (pair_of (second_pair w)))
read_node_lem s ptr w b vs e =
    let a = read_accepted s ptr w b vs e in
    let c : node_cells s.reads_done 0 ≡ 7 * s.reads_done = omega arith in
    rw (a.leaves, c) (written b.nodes (7 * s.reads_done) (read_node ptr s.id_next (pair_of (first_pair w)) (s.id_next - 1) (pair_of (second_pair w))) (omega arith))

-- "then 11 an EVAL node (ptr, eval_op, id_0, v_0, id_1, v_1, id_2, v_2)": the gate's wire is id_next, its operands those of the word
pub eval_node_lem : (s : CircuitEvaluation) (ptr word : ℕ) (b : Lent) (vs : List ℕ) → (eval_step s ptr word b).told ≡ accepted vs
    → Written b.nodes (eval_step s ptr word b).buffers.nodes (7 * s.num_read + 11 * s.evals_done)
    (eval_node ptr (eval_op (opcode word)) s.id_next (combine (opcode word) (value_of s (left_id word) b) (value_of s (right_id word) b)) (left_id word) (value_of s (left_id word) b) (right_id word) (value_of s (right_id word) b))
eval_node_lem s ptr word b vs e =
    let a = eval_accepted s ptr word b vs e in
    let vl = value_of s (left_id word) b in
    let vr = value_of s (right_id word) b in
    rw a.leaves (written b.nodes (7 * s.num_read + 11 * s.evals_done) (eval_node ptr (eval_op (opcode word)) s.id_next (combine (opcode word) vl vr) (left_id word) vl (right_id word) vr) (omega arith))
