-- Values by id: what an accepted step gives its wires, at once and after any calls that follow.
-- Assumes nothing.
use mathlib.Core.Path.{◌≡◌, sym, ap₂, ◌∙◌}
use mathlib.Core.List.{List, ◌∷◌}
use Prim.Native.Nat.{ℕ, ◌+◌, ◌-◌, ◌*◌, ◌<◌}
use native.Mathlib.Omega.{arith}
use lib.Seq.{sets, length-sets}
use Rattle.refusal.specs.Told.{accepted}
use Rattle.field.specs.Pair.{cells}
use Rattle.field.specs.Answer.{pair_of}
use Rattle.instruction.specs.Decode.{left_id, right_id, opcode}
use Rattle.trace.specs.declared.CircuitEvaluation.{CircuitEvaluation}
use Rattle.trace.specs.State.{wires_of, made_of}
use Rattle.trace.specs.Outcome.{Lent, Outcome}
use Rattle.trace.specs.Read.{first_pair, second_pair, read_step}
use Rattle.trace.specs.Eval.{position, value_of, combine, eval_step}
use Rattle.trace.specs.Calls.{Call, read, eval, called, calls}
use Rattle.trace.proofs.Stores.{value-stored, value_below}
use Rattle.trace.proofs.Accepted.{read_accepted, eval_accepted}
use Rattle.trace.proofs.Kept.{values_kept}
use Rattle.trace.proofs.Ids.{next_position, second_position}

-- "a memory word is two pairs, first cells first": an accepted READ step stores them at the positions of the ids id_next and id_next - 1
pub record ReadValues (s : CircuitEvaluation) (w : List (List ℕ)) (o : Outcome) : Type 0 where
  pub first : value_of o.state s.id_next o.buffers ≡ pair_of (first_pair w)
  pub second : value_of o.state (s.id_next - 1) o.buffers ≡ pair_of (second_pair w)

pub read-values : (s : CircuitEvaluation) (ptr : ℕ) (w : List (List ℕ)) (b : Lent) (us : List ℕ) → (read_step s ptr w b).told ≡ accepted us → ReadValues s w (read_step s ptr w b)
read-values s ptr w b us e =
    let a = read_accepted s ptr w b us e in
    let h = a.is_sound in
    let m = made_of s in
    let v₀ = pair_of (first_pair w) in
    let v₁ = pair_of (second_pair w) in
    let vs = b.values in
    rw a.leaves
    (record {
      first = rw (next_position s h (omega arith)) (value_below (sets vs (2 * m) (cells v₀)) (m + 1) m v₁ (omega arith) ∙ value-stored vs m v₀ (omega arith));
      second = rw (second_position s h (omega arith)) (value-stored (sets vs (2 * m) (cells v₀)) (m + 1) v₁ (simp length-sets (omega arith)));
    })

-- an accepted EVAL step's value is its operands' values taken together as the opcode says, at the position of the id id_next
pub gate_value_lem : (s : CircuitEvaluation) (ptr word : ℕ) (b : Lent) (us : List ℕ) → (eval_step s ptr word b).told ≡ accepted us
    → value_of (eval_step s ptr word b).state s.id_next (eval_step s ptr word b).buffers ≡ combine (opcode word) (value_of s (left_id word) b) (value_of s (right_id word) b)
gate_value_lem s ptr word b us e =
    let a = eval_accepted s ptr word b us e in
    let h = a.taken.is_sound in
    rw (a.leaves, next_position s h (omega arith)) (value-stored b.values (made_of s) (combine (opcode word) (value_of s (left_id word) b) (value_of s (right_id word) b)) (omega arith))

-- whatever calls follow, each READ wire has its pair, and each gate's wire what its operands' wires give
pub read_values_stay : (o : Outcome) (ptr : ℕ) (w : List (List ℕ)) (us : List ℕ) → (called (read ptr w) o).told ≡ accepted us → (cs : List Call) → ReadValues o.state w (calls cs (called (read ptr w) o))
read_values_stay o ptr w us e cs =
    let s = o.state in
    let q = called (read ptr w) o in
    let a = read_accepted o.state ptr w o.buffers us e in
    let h = a.is_sound in
    let t = a.turn in
    let m₀ : position (wires_of (called (read ptr w) o).state) o.state.id_next < made_of (called (read ptr w) o).state = rw a.leaves (omega arith) in
    let m₁ : position (wires_of (called (read ptr w) o).state) (o.state.id_next - 1) < made_of (called (read ptr w) o).state = rw a.leaves (omega arith) in
    let v = read-values o.state ptr w o.buffers us e in
    record { first = values_kept cs q s.id_next m₀ ∙ v.first; second = values_kept cs q (s.id_next - 1) m₁ ∙ v.second }

pub gate_value_stays : (o : Outcome) (ptr word : ℕ) (us : List ℕ) → (called (eval ptr word) o).told ≡ accepted us → (cs : List Call)
    → value_of (calls cs (called (eval ptr word) o)).state o.state.id_next (calls cs (called (eval ptr word) o)).buffers
    ≡ combine (opcode word) (value_of (calls cs (called (eval ptr word) o)).state (left_id word) (calls cs (called (eval ptr word) o)).buffers)
    (value_of (calls cs (called (eval ptr word) o)).state (right_id word) (calls cs (called (eval ptr word) o)).buffers)
unfolding calls
gate_value_stays o ptr word us e cs =
    let q = called (eval ptr word) o in
    let a = eval_accepted o.state ptr word o.buffers us e in
    let h = a.taken.is_sound in
    let x = next_position o.state h (omega arith) in
    let m : position (wires_of (called (eval ptr word) o).state) o.state.id_next < made_of (called (eval ptr word) o).state = rw a.leaves (omega arith) in
    values_kept cs q o.state.id_next m
    ∙ gate_value_lem o.state ptr word o.buffers us e
    ∙ sym (ap₂ (combine (opcode word)) (values_kept (eval ptr word ∷ cs) o (left_id word) a.taken.left.made) (values_kept (eval ptr word ∷ cs) o (right_id word) a.right.made))
