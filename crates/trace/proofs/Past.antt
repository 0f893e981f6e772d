-- Cells past those that the circuit uses.
-- Assumes nothing.
use mathlib.Core.Path.{◌≡◌, refl, ◌∙◌}
use mathlib.Core.List.{List, [], ◌∷◌}
use Prim.Native.Nat.{ℕ, ◌+◌, ◌-◌, ◌*◌, ◌≤◌, ◌<◌}
use native.Mathlib.Omega.{arith}
use lib.ListN.{length, get_or, set}
use lib.Seq.{sets, get_or-set_other}
use Rattle.field.specs.Pair.{Pair, cells}
use Rattle.field.specs.Answer.{pair_of}
use Rattle.instruction.specs.Decode.{left_id, right_id, opcode}
use Rattle.trace.specs.Counts.{node_cells}
use Rattle.trace.specs.State.{wires_of, made_of}
use Rattle.trace.specs.Outcome.{Outcome}
use Rattle.trace.specs.Read.{first_pair, second_pair, read_node}
use Rattle.trace.specs.Eval.{position, raised, value_of, combine, eval_op, eval_node}
use Rattle.trace.specs.Calls.{Call, called, calls}
use Rattle.trace.proofs.Stores.{sets_above}
use Rattle.trace.proofs.Runs.{each_call}
use Rattle.trace.proofs.Reached.{call_follows}

-- "cells past those used never change"
pub record Past (o q : Outcome) : Type 0 where
  pub values_past : (j : ℕ) → 2 * wires_of o.state ≤ j → get_or q.buffers.values j 0 ≡ get_or o.buffers.values j 0
  pub counts_past : (j : ℕ) → wires_of o.state ≤ j → get_or q.buffers.counts j 0 ≡ get_or o.buffers.counts j 0
  pub nodes_past : (j : ℕ) → node_cells o.state.num_read o.state.num_eval ≤ j → get_or q.buffers.nodes j 0 ≡ get_or o.buffers.nodes j 0

-- one wire or count below a bound leaves what is past the bound
wire_past : (vs : List ℕ) (k w : ℕ) (v : Pair) (j : ℕ) → k < w → 2 * w ≤ j → get_or (sets vs (2 * k) (cells v)) j 0 ≡ get_or vs j 0
wire_past vs k w v j h l = sets_above (cells v) vs (2 * k) j (omega arith)

count_past : (cs : List ℕ) (k w n j : ℕ) → k < w → w ≤ j → get_or (set cs k n) j 0 ≡ get_or cs j 0
count_past cs k w n j h l = get_or-set_other cs k j n 0 (λ e. omega arith)

node_past : (ns node : List ℕ) (at n j : ℕ) → at + length node ≤ n → n ≤ j → get_or (sets ns at node) j 0 ≡ get_or ns j 0
node_past ns node at n j h l = sets_above node ns at j (omega arith)

pub call_past : (c : Call) (o : Outcome) → Past o (called c o)
call_past =
    each_call (λ c o q. Past o q)
    (λ o ptr w a.
    let m = made_of o.state in
    let v₀ = pair_of (first_pair w) in
    let v₁ = pair_of (second_pair w) in
    record {
      values_past = λ j h. wire_past (sets o.buffers.values (2 * m) (cells v₀)) (m + 1) (wires_of o.state) v₁ j (omega arith) h ∙ wire_past o.buffers.values m (wires_of o.state) v₀ j (omega arith) h;
      counts_past = λ j h. count_past (set o.buffers.counts m 0) (m + 1) (wires_of o.state) 0 j (omega arith) h ∙ count_past o.buffers.counts m (wires_of o.state) 0 j (omega arith) h;
      nodes_past = λ j h. node_past o.buffers.nodes (read_node ptr o.state.id_next v₀ (o.state.id_next - 1) v₁) _ _ j (omega arith) h;
    })
    (λ o ptr w n k. record { values_past = λ j h. refl; counts_past = λ j h. refl; nodes_past = λ j h. refl })
    (λ o ptr word a.
    let m = made_of o.state in
    let w = wires_of o.state in
    let i = position (wires_of o.state) (left_id word) in
    let k = position (wires_of o.state) (right_id word) in
    let cs = o.buffers.counts in
    let vl = value_of o.state (left_id word) o.buffers in
    let vr = value_of o.state (right_id word) o.buffers in
    record {
      values_past = λ j h. wire_past o.buffers.values m w (combine (opcode word) vl vr) j (omega arith) h;
      counts_past = λ j h.
          count_past (raised k (raised i cs)) m w 0 j (omega arith) h
          ∙ count_past (raised i cs) k w (get_or (raised i cs) k 0 + 1) j (omega arith) h
          ∙ count_past cs i w (get_or cs i 0 + 1) j (omega arith) h;
      nodes_past = λ j h. node_past o.buffers.nodes (eval_node ptr (eval_op (opcode word)) o.state.id_next (combine (opcode word) vl vr) (left_id word) vl (right_id word) vr) _ _ j (omega arith) h;
    })
    (λ o ptr word n k e. record { values_past = λ j h. refl; counts_past = λ j h. refl; nodes_past = λ j h. refl })
    (λ o ptr word n k e t.
    record {
      values_past = λ j h. refl;
      counts_past = λ j h. count_past o.buffers.counts (position (wires_of o.state) (left_id word)) (wires_of o.state) _ j (omega arith) h;
      nodes_past = λ j h. refl;
    })

-- for every list of calls, accepted or refused, from every state and buffers
pub calls_past : (cs : List Call) (o : Outcome) → Past o (calls cs o)
unfolding calls
calls_past [] o = record { values_past = λ j h. refl; counts_past = λ j h. refl; nodes_past = λ j h. refl }
calls_past (c ∷ cs) o =
    let f = call_follows c o in
    let x = call_past c o in
    let y = calls_past cs (called c o) in
    record {
      values_past = λ j h. y.values_past j (omega arith) ∙ x.values_past j h;
      counts_past = λ j h. y.counts_past j (omega arith) ∙ x.counts_past j h;
      nodes_past = λ j h. y.nodes_past j (omega arith) ∙ x.nodes_past j h;
    }
