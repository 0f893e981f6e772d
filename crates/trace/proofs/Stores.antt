-- Stores, element by element: of a run of cells, of the two cells of a wire, and of a count.
-- Assumes nothing.
use mathlib.Core.Path.{◌≡◌, refl, sym, ap, ap₂, ◌∙◌}
use mathlib.Core.Bool.{Bool, true, false}
use mathlib.Core.List.{List, [], ◌∷◌, ◌++◌}
use mathlib.Core.Logic.{◌⊎◌, ⊎_elim, inl, inr}
use Prim.Native.Nat.{ℕ, zero, suc, ◌+◌, ◌*◌, ◌≤◌, ◌<◌}
use native.Mathlib.Nat.{add-zero}
use native.Mathlib.Omega.{arith}
use lib.Dec.{eqb}
use borrow.Author.Tests.{eqb-true, eqb-false, eq-eqb, ne_eqb}
use lib.ListN.{length, get_or, set, length-set}
use lib.Seq.{sets, get_or-set_same, get_or-set_other}
use Rattle.field.specs.Pair.{Pair, pair, cells}
use Rattle.trace.specs.Outcome.{value_at}
use Rattle.trace.specs.Eval.{raised}
use Rattle.trace.specs.Calls.{names}

-- a run of stores
pub sets_below : (ws l : List ℕ) (i j : ℕ) → j < i → get_or (sets l i ws) j 0 ≡ get_or l j 0
sets_below [] l i j h = refl
sets_below (w ∷ ws) l i j h = sets_below ws (set l i w) (suc i) j (omega arith) ∙ get_or-set_other l i j w 0 (λ e. omega arith)

pub sets_above : (ws l : List ℕ) (i j : ℕ) → i + length ws ≤ j → get_or (sets l i ws) j 0 ≡ get_or l j 0
sets_above [] l i j h = refl
sets_above (w ∷ ws) l i j h = sets_above ws (set l i w) (suc i) j (omega arith) ∙ get_or-set_other l i j w 0 (λ e. omega arith)

pub sets_in : (ws l : List ℕ) (i k : ℕ) → i + length ws ≤ length l → k < length ws → get_or (sets l i ws) (i + k) 0 ≡ get_or ws k 0
sets_in [] l i k h b = absurd (omega arith)
sets_in (w ∷ ws) l i zero h b =
    let e : i + 0 ≡ i = omega arith in
    rw e (sets_below ws (set l i w) (suc i) i (omega arith) ∙ get_or-set_same l i w 0 (omega arith))
sets_in (w ∷ ws) l i (suc k) h b =
    let e : i + suc k ≡ suc i + k = omega arith in
    rw e (sets_in ws (set l i w) (suc i) k (simp length-set (omega arith)) (omega arith))

-- stores that go on where others ended
pub sets_append : (xs ys l : List ℕ) (i : ℕ) → sets (sets l i xs) (i + length xs) ys ≡ sets l i (xs ++ ys)
sets_append [] ys l i = ap (λ (k : ℕ). sets l k ys) (add-zero i)
sets_append (x ∷ xs) ys l i =
    let e : i + suc (length xs) ≡ suc i + length xs = omega arith in
    ap (λ (k : ℕ). sets (sets (set l i x) (suc i) xs) k ys) e ∙ sets_append xs ys (set l i x) (suc i)

-- the value of a wire that is stored, and of every other wire
pub value-stored : (vs : List ℕ) (k : ℕ) (v : Pair) → 2 * k + 2 ≤ length vs → value_at (sets vs (2 * k) (cells v)) k ≡ v
value-stored vs k v h =
    let z : 2 * k ≡ 2 * k + 0 = omega arith in
    ap₂ pair
    (ap (λ (i : ℕ). get_or (sets vs (2 * k) (cells v)) i 0) z ∙ sets_in (cells v) vs (2 * k) 0 h (omega arith))
    (sets_in (cells v) vs (2 * k) 1 h (omega arith))

pub value_below : (vs : List ℕ) (k j : ℕ) (v : Pair) → j < k → value_at (sets vs (2 * k) (cells v)) j ≡ value_at vs j
value_below vs k j v h = ap₂ pair (sets_below (cells v) vs (2 * k) (2 * j) (omega arith)) (sets_below (cells v) vs (2 * k) (2 * j + 1) (omega arith))

-- two cases of equality
by_test : (b : Bool) (x y : ℕ) → eqb x y ≡ b → (x ≡ y) ⊎ (x ≡ y → ⊥)
by_test true x y e = inl (eqb-true x y e)
by_test false x y e = inr (eqb-false x y e)

pub same? : (x y : ℕ) → (x ≡ y) ⊎ (x ≡ y → ⊥)
same? x y = by_test (eqb x y) x y refl

-- `names x y` is 1 where x is y, else 0
pub names_same : (x y : ℕ) → x ≡ y → names x y ≡ 1
names_same x y e = rw (eq-eqb x y e)

pub names_other : (x y : ℕ) → (x ≡ y → ⊥) → names x y ≡ 0
names_other x y n = rw (ne_eqb x y n)

-- every count after one was raised
pub raised_at : (cs : List ℕ) (k j : ℕ) → k < length cs → get_or (raised k cs) j 0 ≡ get_or cs j 0 + names k j
raised_at cs k j h =
    ⊎_elim
    (λ (e : k ≡ j). rw (← e, names_same k k refl) (get_or-set_same cs k (get_or cs k 0 + 1) 0 h))
    (λ (n : k ≡ j → ⊥).
    let z = names_other k j n in
    let o = get_or-set_other cs k j (get_or cs k 0 + 1) 0 (λ e. n (sym e)) in
    omega arith)
    (same? k j)
