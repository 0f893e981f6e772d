-- The digits of a word, one by one, and what a word is judged to be.
-- Assumes nothing.
use Prim.Native.Nat.{ℕ, ◌+◌, ◌-◌, ◌*◌, ◌^◌, ◌≤◌, ◌<◌}
use mathlib.Core.Path.{◌≡◌, refl, ap, ap₂, ◌∙◌}
use mathlib.Core.Bool.{Bool, true, false, cond, ◌&&◌}
use mathlib.Core.List.{List, [], ◌∷◌}
use native.Mathlib.Numerals.{add-one}
use native.Mathlib.Omega.{arith}
use lib.ListN.{length, get_or, drop, drop_of_length-le}
use lib.Seq.{drop-cons}
use borrow.Author.Tests.{lt-ltb, le-ltb}
use Rattle.std.specs.Char.{is_ascii_digit}
use Rattle.std.specs.List.{list_all}
use Rattle.std.specs.Prelude.{Result, Ok, Err}
use Rattle.words.specs.Text.{digit, digits, value_after, value_of}
use Rattle.words.specs.Inside.{judged}
use Rattle.words.specs.declared.EncodeError.{EncodeError}
use Rattle.words.specs.declared.EncodeError.TheVariants.{NotANumber, TooLarge}

pub digits_tested : (w : List ℕ) → list_all is_ascii_digit w ≡ digits w
unfolding digits digit
digits_tested [] = refl
digits_tested (c ∷ w) = ap₂ (λ p q. p && q) refl (digits_tested w)

pub digit_tested : (c : ℕ) → is_ascii_digit c ≡ digit c
unfolding digit
digit_tested c = refl

-- a turn over the digits
module _ (w : List ℕ) (i : ℕ) (h : i < length w) where
  next : drop i w ≡ get_or w i 0 ∷ drop (i + 1) w
  next = rw (add-one i) (drop-cons w i 0 h)

  pub digits_next : digit (get_or w i 0) ≡ true → digits (drop i w) ≡ digits (drop (i + 1) w)
  unfolding digits
  digits_next e = ap digits next ∙ rw e

  pub digits_stop : digit (get_or w i 0) ≡ false → digits (drop i w) ≡ false
  unfolding digits
  digits_stop e = ap digits next ∙ rw e

  pub value_next : (v : ℕ) → value_after v (drop i w) ≡ value_after (v * 10 + (get_or w i 0 - 48)) (drop (i + 1) w)
  unfolding value_after
  value_next v = ap (value_after v) next

module _ (w : List ℕ) (i : ℕ) (h : length w ≤ i) where
  pub digits_end : digits (drop i w) ≡ true
  unfolding digits
  digits_end = ap digits (drop_of_length-le w h)

  pub value_end : (v : ℕ) → value_after v (drop i w) ≡ v
  unfolding value_after
  value_end v = ap (value_after v) (drop_of_length-le w h)

-- further digits make a number no smaller
pub value_least : (w : List ℕ) (v : ℕ) → v ≤ value_after v w
unfolding value_after
value_least [] v = omega arith
value_least (c ∷ w) v = omega (arith, value_least w (v * 10 + (c - 48)))

module _ (w : List ℕ) (k : ℕ) where
  pub judged_not : digits w ≡ false → Err (NotANumber k) ≡ judged w k
  unfolding judged
  judged_not e = rw e refl

  pub judged_number : (v : ℕ) → digits w ≡ true → value_of w ≡ v → v < 2 ^ 64 → Ok v ≡ judged w k
  unfolding judged
  judged_number v e q l = rw (e, q, lt-ltb v (2 ^ 64) l) refl

  pub judged_large : 2 ^ 64 ≤ value_of w → Err (cond (digits w) (TooLarge k) (NotANumber k)) ≡ judged w k
  unfolding judged
  judged_large l = rw (le-ltb (value_of w) (2 ^ 64) l) (go (digits w))
    where
      go : (b : Bool) → ◌≡◌ {A = Result ℕ EncodeError} (Err (cond b (TooLarge k) (NotANumber k))) (cond b (Err (TooLarge k)) (Err (NotANumber k)))
      go true = refl
      go false = refl
