-- Laws of `each`: lists of one width, one after the other.
-- Assumes nothing.
use Rattle.std.proofs.Common.{◌≡◌, ℕ, zero, suc, ◌+◌, ◌-◌, ◌*◌, ◌<◌, ◌≤◌, List, [], ◌++◌, length, get_or, drop, sym, refl, ap, ◌∙◌, ap₂, ⊎_elim, mul-le-mul_left, mul-zero, mul-suc, arith, length-append, length-drop, get_or-drop, get_or-append-add}
use lib.ListN.{get_or-append}
use Rattle.field.proofs.Cases.{below?}
use Rattle.field.specs.Lists.{each}

pub each_none : (f : ℕ → List ℕ) → each f 0 ≡ []
unfolding each
each_none f = refl

pub each_more : (f : ℕ → List ℕ) (n : ℕ) → each f (suc n) ≡ each f n ++ f n
unfolding each
each_more f n = refl

-- equal parts make equal lists
pub each_equal : (f g : ℕ → List ℕ) (n : ℕ) → ((k : ℕ) → k < n → f k ≡ g k) → each f n ≡ each g n
each_equal f g zero h = each_none f ∙ sym (each_none g)
each_equal f g (suc n) h =
    each_more f n
    ∙ ap₂ (λ (x y : List ℕ). x ++ y) (each_equal f g n (λ k l. h k (omega arith))) (h n (omega arith))
    ∙ sym (each_more g n)

module _ (f : ℕ → List ℕ) (width : ℕ) (wide : (k : ℕ) → length (f k) ≡ width) where
  pub each-length : (n : ℕ) → length (each f n) ≡ width * n
  each-length zero = ap length (each_none f) ∙ sym (mul-zero width)
  each-length (suc n) =
      ap length (each_more f n)
      ∙ length-append (each f n) (f n)
      ∙ ap₂ (λ (x y : ℕ). x + y) (each-length n) (wide n)
      ∙ sym (mul-suc width n)

  inside : (n k j : ℕ) → k < n → j < width → width * k + j < length (each f n)
  inside n k j h l = omega (arith, each-length n, mul-le-mul_left {m = suc k} {n = n} width h, mul-suc width k)

  -- cell j of part k
  pub each_at : (n k j : ℕ) → k < n → j < width → get_or (each f n) (width * k + j) 0 ≡ get_or (f k) j 0
  each_at zero k j h l = absurd (omega arith)
  each_at (suc n) k j h l =
      ap (λ (xs : List ℕ). get_or xs (width * k + j) 0) (each_more f n)
      ∙ ⊎_elim
      (λ m. get_or-append (each f n) (f n) 0 (width * k + j) (inside n k j m l) ∙ each_at n k j m l)
      (λ m.
      let e : k ≡ n = omega arith in
      rw (e, ← each-length n) (get_or-append-add (each f n) (f n) j 0))
      (below? k n)

  -- with a rest after them, and the cells of that
  pub each_then : (n k j : ℕ) (rest : List ℕ) → k < n → j < width → get_or (each f n ++ rest) (width * k + j) 0 ≡ get_or (f k) j 0
  each_then n k j rest h l = get_or-append (each f n) rest 0 (width * k + j) (inside n k j h l) ∙ each_at n k j h l

  pub each_rest : (n i : ℕ) (rest : List ℕ) → get_or (each f n ++ rest) (width * n + i) 0 ≡ get_or rest i 0
  each_rest n i rest = rw (← each-length n) (get_or-append-add (each f n) rest i 0)

-- n cells put in the place of a list's first n: the cells after them stay, and so does the length
module _ (front xs : List ℕ) (n : ℕ) (e : length front ≡ n) where
  pub front_kept : (i : ℕ) → n ≤ i → get_or (front ++ drop n xs) i 0 ≡ get_or xs i 0
  front_kept i h =
      let q : i ≡ length front + (i - n) = omega arith in
      let r : n + (i - n) ≡ i = omega arith in
      ap (λ (j : ℕ). get_or (front ++ drop n xs) j 0) q
      ∙ get_or-append-add front (drop n xs) (i - n) 0
      ∙ get_or-drop n xs (i - n) 0
      ∙ ap (λ (j : ℕ). get_or xs j 0) r

  pub front_length : n ≤ length xs → length (front ++ drop n xs) ≡ length xs
  front_length h = omega (arith, length-append front (drop n xs), length-drop n xs)
