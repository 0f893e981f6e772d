-- Lists whose numbers are all below a bound.
-- Assumes nothing.
use Prim.Native.Nat.{ℕ, zero, suc, ◌+◌, ◌≤◌, ◌<◌}
use mathlib.Core.Path.{◌≡◌, sym, ap, ◌∙◌, subst}
use mathlib.Core.List.{List, [], ◌∷◌, ◌++◌}
use native.Mathlib.Omega.{arith}
use lib.ListN.{length, get_or, take, drop, length-drop}
use lib.Seq.{get_or-take, get_or-drop, length-take-le}
use Rattle.field.specs.Lists.{each}
use Rattle.field.proofs.Each.{each_none, each_more}

-- every number of a list is below a bound
abbrev pub AllBelow : ℕ → List ℕ → Type 0
AllBelow bound [] = Unit {0}
AllBelow bound (x ∷ xs) = (x < bound) × AllBelow bound xs

pub below_wider : (low high : ℕ) (xs : List ℕ) → low ≤ high → AllBelow low xs → AllBelow high xs
below_wider low high [] h b = tt
below_wider low high (x ∷ xs) h b = let l = b.0 in (omega arith, below_wider low high xs h b.1)

pub below_append : (bound : ℕ) (xs ys : List ℕ) → AllBelow bound xs → AllBelow bound ys → AllBelow bound (xs ++ ys)
below_append bound [] ys h k = k
below_append bound (x ∷ xs) ys h k = (h.0, below_append bound xs ys h.1 k)

pub below_at : (bound : ℕ) (xs : List ℕ) → AllBelow bound xs → (k : ℕ) → k < length xs → get_or xs k 0 < bound
below_at bound [] h k l = absurd (omega arith)
below_at bound (x ∷ xs) h zero l = h.0
below_at bound (x ∷ xs) h (suc k) l = below_at bound xs h.1 k (omega arith)

all_below : (bound : ℕ) (xs : List ℕ) → ((k : ℕ) → k < length xs → get_or xs k 0 < bound) → AllBelow bound xs
all_below bound [] h = tt
all_below bound (x ∷ xs) h = (h 0 (omega arith), all_below bound xs (λ k l. h (suc k) (omega arith)))

-- parts that are below a bound, one after the other
pub each_below : (bound : ℕ) (f : ℕ → List ℕ) (n : ℕ) → ((k : ℕ) → k < n → AllBelow bound (f k)) → AllBelow bound (each f n)
each_below bound f zero h = subst (AllBelow bound) (sym (each_none f)) tt
each_below bound f (suc n) h =
    subst (AllBelow bound) (sym (each_more f n)) (below_append bound (each f n) (f n) (each_below bound f n (λ k l. h k (omega arith))) (h n (omega arith)))

-- cells behind others that are below a bound
pub part_below : (bound from n : ℕ) (xs : List ℕ) → from + n ≤ length xs → ((k : ℕ) → k < from + n → get_or xs k 0 < bound) → AllBelow bound (take n (drop from xs))
part_below bound from n xs l h =
    let d = length-drop from xs in
    let m = length-take-le n (drop from xs) (omega arith) in
    all_below bound (take n (drop from xs))
    (λ k i.
    let j : k < n = omega arith in
    subst (λ (v : ℕ). v < bound) (sym (get_or-take n (drop from xs) k 0 j ∙ get_or-drop from xs k 0)) (h (from + k) (omega arith)))

-- cells of which the first n are known
pub first_below : (bound n : ℕ) (xs ys : List ℕ) → take n xs ≡ ys → length ys ≡ n → AllBelow bound ys → (k : ℕ) → k < n → get_or xs k 0 < bound
first_below bound n xs ys e l b k h =
    subst (λ (v : ℕ). v < bound) (sym (ap (λ (ws : List ℕ). get_or ws k 0) e) ∙ get_or-take n xs k 0 h) (below_at bound ys b k (omega arith))
