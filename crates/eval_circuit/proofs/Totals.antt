-- How often all wires of a circuit are named: each gate names two.
-- Assumes nothing.
use mathlib.Core.Path.{◌≡◌, refl, ap, ap₂, ◌∙◌}
use mathlib.Core.Logic.{⊎_elim}
use Prim.Native.Nat.{ℕ, zero, suc, ◌+◌, ◌-◌, ◌*◌, ◌≤◌, ◌<◌}
use native.Mathlib.Omega.{arith}
use Rattle.field.proofs.Cases.{below?}
use Rattle.instruction.specs.Decode.{left_id, right_id}
use Rattle.trace.specs.Calls.{names}
use Rattle.trace.proofs.Stores.{names_same, names_other}
use Rattle.eval_circuit.specs.Circuit.{Circuit, num_wires, word, named_by, multiplicity}
use Rattle.eval_circuit.proofs.Values.{Early}

-- f 0 + f 1 + .. + f (n - 1)
unfoldable pub total : (ℕ → ℕ) → ℕ → ℕ
total f zero = 0
total f (suc n) = total f n + f n

pub total_same : (f g : ℕ → ℕ) (n : ℕ) → ((k : ℕ) → k < n → f k ≡ g k) → total f n ≡ total g n
unfolding total
total_same f g zero h = refl
total_same f g (suc n) h = ap₂ (λ (x y : ℕ). x + y) (total_same f g n (λ k l. h k (omega arith))) (h n (omega arith))

-- the first may be added last
total_first : (f : ℕ → ℕ) (n : ℕ) → total f (suc n) ≡ total (λ k. f (suc k)) n + f 0
unfolding total
total_first f zero = refl
total_first f (suc n) = let e = total_first f n in omega arith

-- from the last to the first
pub total_back : (f : ℕ → ℕ) (n : ℕ) → total (λ k. f (n - 1 - k)) n ≡ total f n
unfolding total
total_back f zero = refl
total_back f (suc n) =
    total_first (λ k. f (suc n - 1 - k)) n
    ∙ ap₂ (λ (x y : ℕ). x + y)
    (total_same _ _ n (λ k h. ap f (omega arith)) ∙ total_back f n)
    (ap f (omega arith))

total-sum : (f g : ℕ → ℕ) (n : ℕ) → total (λ k. f k + g k) n ≡ total f n + total g n
unfolding total
total-sum f g zero = refl
total-sum f g (suc n) = let e = total-sum f g n in omega arith

total_none : (n : ℕ) → total (λ k. 0) n ≡ 0
unfolding total
total_none zero = refl
total_none (suc n) = let e = total_none n in omega arith

-- an id is named once among all ids below a number over it, and not at all among those below itself
total_past : (x n : ℕ) → n ≤ x → total (names x) n ≡ 0
unfolding total
total_past x zero h = refl
total_past x (suc n) h = ap₂ (λ (i j : ℕ). i + j) (total_past x n (omega arith)) (names_other x n (λ e. omega arith))

total_named : (x n : ℕ) → x < n → total (names x) n ≡ 1
unfolding total
total_named x zero h = absurd (omega arith)
total_named x (suc n) h =
    ⊎_elim
    (λ l. ap₂ (λ (i j : ℕ). i + j) (total_named x n l) (names_other x n (λ e. omega arith)))
    (λ l. ap₂ (λ (i j : ℕ). i + j) (total_past x n l) (names_same x n (omega arith)))
    (below? x n)

module _ (c : Circuit) where
  named_none : (id : ℕ) → named_by 0 c id ≡ 0
  unfolding named_by
  named_none id = refl

  named_more : (n id : ℕ) → named_by (suc n) c id ≡ named_by n c id + (names (left_id (word c n)) id + names (right_id (word c n)) id)
  unfolding named_by
  named_more n id = refl

  named-total : (n : ℕ) → ((k : ℕ) → k < n → Early c k) → total (named_by n c) (num_wires c) ≡ 2 * n
  named-total zero h = total_same _ _ (num_wires c) (λ id l. named_none id) ∙ total_none (num_wires c)
  named-total (suc n) h =
      let e = h n (omega arith) in
      let left : total (names (left_id (word c n))) (num_wires c) ≡ 1 = total_named _ _ e.left_wire in
      let right : total (names (right_id (word c n))) (num_wires c) ≡ 1 = total_named _ _ e.right_wire in
      let two : 2 * n + (1 + 1) ≡ 2 * suc n = omega arith in
      total_same _ _ (num_wires c) (λ id l. named_more n id)
      ∙ total-sum (named_by n c) (λ id. names (left_id (word c n)) id + names (right_id (word c n)) id) (num_wires c)
      ∙ ap₂ (λ (i j : ℕ). i + j)
      (named-total n (λ k l. h k (omega arith)))
      (total-sum (names (left_id (word c n))) (names (right_id (word c n))) (num_wires c) ∙ ap₂ (λ (i j : ℕ). i + j) left right)
      ∙ two

  -- counts are multiplicities, and they total 2 · num_eval, where each operand names a wire
  pub multiplicity-total : ((k : ℕ) → k < c.gates → Early c k) → total (multiplicity c) (num_wires c) ≡ 2 * c.gates
  multiplicity-total h = named-total c.gates h
