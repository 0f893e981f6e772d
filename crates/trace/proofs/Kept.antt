-- What is made stays: no call changes the value of a wire that is made, or a cell of a node that is written.
-- Assumes nothing.
use mathlib.Core.Path.{◌≡◌, refl, ◌∙◌}
use mathlib.Core.List.{List}
use Prim.Native.Nat.{ℕ, ◌+◌, ◌-◌, ◌*◌, ◌≤◌, ◌<◌}
use native.Mathlib.Omega.{arith}
use lib.ListN.{get_or}
use lib.Seq.{sets}
use Rattle.field.specs.Pair.{cells}
use Rattle.field.specs.Answer.{pair_of}
use Rattle.instruction.specs.Decode.{left_id, right_id, opcode}
use Rattle.trace.specs.declared.CircuitEvaluation.{CircuitEvaluation}
use Rattle.trace.specs.Counts.{node_cells}
use Rattle.trace.specs.State.{wires_of, made_of}
use Rattle.trace.specs.Outcome.{Outcome, value_at}
use Rattle.trace.specs.Read.{first_pair, second_pair, read_node}
use Rattle.trace.specs.Eval.{position, value_of, combine, eval_op, eval_node}
use Rattle.trace.specs.Calls.{Call, called, calls}
use Rattle.trace.proofs.Stores.{sets_below, value_below}
use Rattle.trace.proofs.Runs.{each_call, each-list}
use Rattle.trace.proofs.Reached.{no_gate_yet}

-- the node cells that the steps done have written
abbrev written_of : CircuitEvaluation → ℕ
written_of s = node_cells s.reads_done s.evals_done

record Kept (o q : Outcome) : Type 0 where
  same_wires : wires_of q.state ≡ wires_of o.state
  more_made : made_of o.state ≤ made_of q.state
  more_written : written_of o.state ≤ written_of q.state
  same_value : (k : ℕ) → k < made_of o.state → value_at q.buffers.values k ≡ value_at o.buffers.values k
  same_node : (j : ℕ) → j < written_of o.state → get_or q.buffers.nodes j 0 ≡ get_or o.buffers.nodes j 0

-- a call that stores no value and no node
none_stored : (o q : Outcome) → q.state ≡ o.state → q.buffers.values ≡ o.buffers.values → q.buffers.nodes ≡ o.buffers.nodes → Kept o q
none_stored o q s v n = rw (s, v, n) (record { same_wires = refl; more_made = omega arith; more_written = omega arith; same_value = λ k h. refl; same_node = λ j h. refl })

call_kept : (c : Call) (o : Outcome) → Kept o (called c o)
call_kept =
    each_call (λ c o q. Kept o q)
    (λ o ptr w a.
    let m = made_of o.state in
    let v₀ = pair_of (first_pair w) in
    let v₁ = pair_of (second_pair w) in
    let vs = o.buffers.values in
    let z = no_gate_yet o.state a.is_sound a.turn in
    record {
      same_wires = refl;
      more_made = omega arith;
      more_written = omega arith;
      same_value = λ k h. value_below (sets vs (2 * m) (cells v₀)) (m + 1) k v₁ (omega arith) ∙ value_below vs m k v₀ h;
      same_node = λ j h. sets_below (read_node ptr o.state.id_next v₀ (o.state.id_next - 1) v₁) o.buffers.nodes (node_cells o.state.reads_done 0) j (omega arith);
    })
    (λ o ptr w n k. none_stored o _ refl refl refl)
    (λ o ptr word a.
    let vl = value_of o.state (left_id word) o.buffers in
    let vr = value_of o.state (right_id word) o.buffers in
    record {
      same_wires = refl;
      more_made = omega arith;
      more_written = omega arith;
      same_value = λ k h. value_below o.buffers.values (made_of o.state) k (combine (opcode word) vl vr) h;
      same_node = λ j h.
          sets_below (eval_node ptr (eval_op (opcode word)) o.state.id_next (combine (opcode word) vl vr) (left_id word) vl (right_id word) vr) o.buffers.nodes
          (node_cells o.state.num_read o.state.evals_done) j (omega arith);
    })
    (λ o ptr word n k e. none_stored o _ refl refl refl)
    (λ o ptr word n k e t. none_stored o _ refl refl refl)

calls_kept : (cs : List Call) (o : Outcome) → Kept o (calls cs o)
calls_kept cs o =
    each-list (Kept o)
    (λ c q h.
    let x = call_kept c q in
    record {
      same_wires = x.same_wires ∙ h.same_wires;
      more_made = omega arith;
      more_written = omega arith;
      same_value = λ k l. x.same_value k (omega arith) ∙ h.same_value k l;
      same_node = λ j l. x.same_node j (omega arith) ∙ h.same_node j l;
    })
    cs o (none_stored o o refl refl refl)

-- every wire made before keeps its value, after any calls, accepted or refused, from any state and buffers
pub values_kept : (cs : List Call) (o : Outcome) (id : ℕ) → position (wires_of o.state) id < made_of o.state
    → value_of (calls cs o).state id (calls cs o).buffers ≡ value_of o.state id o.buffers
values_kept cs o id h = let x = calls_kept cs o in rw x.same_wires (x.same_value (position (wires_of o.state) id) h)

-- and so does every node cell of the steps done
pub nodes_kept : (cs : List Call) (o : Outcome) (j : ℕ) → j < node_cells o.state.reads_done o.state.evals_done → get_or (calls cs o).buffers.nodes j 0 ≡ get_or o.buffers.nodes j 0
nodes_kept cs o j h = (calls_kept cs o).same_node j h
