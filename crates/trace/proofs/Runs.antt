-- What holds of every call, by the five ways in which one ends, and of every list of calls.
-- Assumes nothing.
use mathlib.Core.Path.{◌≡◌, refl, sym, subst}
use mathlib.Core.Bool.{Bool, true, false, cond}
use mathlib.Core.List.{List, [], ◌∷◌}
use mathlib.Core.Logic.{⊎_elim}
use Prim.Native.Nat.{ℕ}
use Rattle.refusal.specs.Told.{accepted, refused}
use Rattle.field.specs.Answer.{pair_of}
use Rattle.instruction.specs.Decode.{left_id, right_id, opcode}
use Rattle.trace.specs.Outcome.{Outcome, outcome}
use Rattle.trace.specs.Read.{first_pair, second_pair, read_done, read_made}
use Rattle.trace.specs.Eval.{counted, gate_step}
use Rattle.trace.specs.Calls.{Call, read, eval, called, calls, left_counted}
use Rattle.trace.proofs.Accepted.{ReadAccepted, ReadRefused, read-cases, LeftTaken, EvalAccepted, EvalRefused, left_taken, eval_cases}

-- P of a call, of what it was handed, and of what it leaves
module _ (P : Call → Outcome → Outcome → Type 0)
    (reads : (o : Outcome) (ptr : ℕ) (w : List (List ℕ)) → ReadAccepted o.state ptr w o.buffers
    → P (read ptr w) o (outcome (accepted []) (read_done o.state) (read_made o.state ptr (pair_of (first_pair w)) (pair_of (second_pair w)) o.buffers)))
    (read_stays : (o : Outcome) (ptr : ℕ) (w : List (List ℕ)) (n k : ℕ) → P (read ptr w) o (outcome (refused n k) o.state o.buffers))
    (evals : (o : Outcome) (ptr word : ℕ) → EvalAccepted o.state ptr word o.buffers
    → P (eval ptr word) o (gate_step o.state ptr (left_id word) (right_id word) (opcode word) (counted o.state (right_id word) (counted o.state (left_id word) o.buffers))))
    (eval-stays : (o : Outcome) (ptr word n k : ℕ) → left_counted o.state ptr word o.buffers ≡ false
    → P (eval ptr word) o (outcome (refused n k) o.state o.buffers))
    (left-stays : (o : Outcome) (ptr word n k : ℕ) → left_counted o.state ptr word o.buffers ≡ true → LeftTaken o.state ptr word o.buffers
    → P (eval ptr word) o (outcome (refused n k) o.state (counted o.state (left_id word) o.buffers))) where
  refusals : (o : Outcome) (ptr word n k : ℕ) (left : Bool) → left_counted o.state ptr word o.buffers ≡ left
      → P (eval ptr word) o (outcome (refused n k) o.state (cond left (counted o.state (left_id word) o.buffers) o.buffers))
  refusals o ptr word n k true e = left-stays o ptr word n k e (left_taken o.state ptr word o.buffers e)
  refusals o ptr word n k false e = eval-stays o ptr word n k e

  pub each_call : (c : Call) (o : Outcome) → P c o (called c o)
  each_call (read ptr w) o =
      ⊎_elim
      (λ (a : ReadAccepted o.state ptr w o.buffers). subst (P (read ptr w) o) (sym a.leaves) (reads o ptr w a))
      (λ (r : ReadRefused o.state ptr w o.buffers). subst (P (read ptr w) o) (sym r.leaves) (read_stays o ptr w r.number r.place))
      (read-cases o.state ptr w o.buffers)
  each_call (eval ptr word) o =
      ⊎_elim
      (λ (a : EvalAccepted o.state ptr word o.buffers). subst (P (eval ptr word) o) (sym a.leaves) (evals o ptr word a))
      (λ (r : EvalRefused o.state ptr word o.buffers). subst (P (eval ptr word) o) (sym r.leaves) (refusals o ptr word r.number r.place _ refl))
      (eval_cases o.state ptr word o.buffers)

-- what each call keeps, every list of calls keeps
pub each-list : (P : Outcome → Type 0) → ((c : Call) (o : Outcome) → P o → P (called c o)) → (cs : List Call) (o : Outcome) → P o → P (calls cs o)
unfolding calls
each-list P keeps [] o h = h
each-list P keeps (c ∷ cs) o h = each-list P keeps cs (called c o) (keeps c o h)
