-- The equations of `ill_formed` and `find_from`.
-- Assumes nothing.
use Prim.Native.Nat.{ℕ, suc, ◌≤◌, ◌<◌}
use mathlib.Core.Path.{◌≡◌, refl}
use mathlib.Core.Bool.{Bool, true, false, ◌&&◌, ◌||◌}
use mathlib.Core.List.{List, [], ◌∷◌}
use native.Mathlib.Omega.{arith}
use lib.Dec.{ltb, eqb}
use borrow.Author.Tests.{lt-ltb, le-ltb, eq-eqb, ne_eqb, ltb-true, ltb-false, eqb-true, eqb-false}
use Rattle.numbers.specs.Form.{found, cut_off, not_shortest, under, ill_formed, find_from}

-- what a byte in good form is, and that nothing else is asked of it
pub record WellFormed (n b : ℕ) : Type 0 where
  pub shortest : 0 < n → 0 < b
  pub tenth : n ≡ 9 → b ≤ 1

neither : (w x y z : Bool) → (w ≡ true → x ≡ false) → (y ≡ true → z ≡ false) → (w && x) || (y && z) ≡ false
neither true true y z f g = f refl
neither true false true z f g = g refl
neither true false false z f g = refl
neither false x true z f g = g refl
neither false x false z f g = refl

not_first : (w x y : Bool) → (w && x) || y ≡ false → w ≡ true → x ≡ false
not_first true true y e q = e
not_first true false y e q = refl
not_first false x y e q = cc

not_second : (y z x : Bool) → x || (y && z) ≡ false → y ≡ true → z ≡ false
not_second true z true e q = cc
not_second true z false e q = e
not_second false z x e q = cc

pub good_form : (n b : ℕ) → WellFormed n b → ill_formed n b ≡ false
unfolding ill_formed
good_form n b w =
    neither (ltb 0 n) (eqb b 0) (eqb n 9) (ltb 1 b)
    (λ e. ne_eqb b 0 (λ z. omega (arith, w.shortest (ltb-true 0 n e))))
    (λ e. le-ltb 1 b (w.tenth (eqb-true n 9 e)))

pub in_good_form : (n b : ℕ) → ill_formed n b ≡ false → WellFormed n b
unfolding ill_formed
in_good_form n b e =
    record {
      shortest = λ h. some (eqb-false b 0 (not_first (ltb 0 n) (eqb b 0) (eqb n 9 && ltb 1 b) e (lt-ltb 0 n h)));
      tenth = λ h. ltb-false 1 b (not_second (eqb n 9) (ltb 1 b) (ltb 0 n && eqb b 0) e (eq-eqb n 9 h));
    }
  where
    some : (b ≡ 0 → ⊥) → 0 < b
    some h = omega arith

-- the four ways of finding
pub find_end : (n : ℕ) → find_from n [] ≡ cut_off
unfolding find_from
find_end n = refl

pub find_ill : (n b : ℕ) (s : List ℕ) → ill_formed n b ≡ true → find_from n (b ∷ s) ≡ not_shortest
unfolding find_from
find_ill n b s e = rw e

pub find_last : (n b : ℕ) (s : List ℕ) → ill_formed n b ≡ false → b < 128 → find_from n (b ∷ s) ≡ found b 1
unfolding find_from
find_last n b s e h = rw (e, lt-ltb b 128 h)

pub find_more : (n b : ℕ) (s : List ℕ) → ill_formed n b ≡ false → 128 ≤ b → find_from n (b ∷ s) ≡ under b (find_from (suc n) s)
unfolding find_from
find_more n b s e h = rw (e, le-ltb b 128 h)
