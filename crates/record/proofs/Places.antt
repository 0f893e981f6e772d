-- The number at a place, the place after it and after n numbers, and the numbers from a place on.
-- Assumes nothing.
use Prim.Native.Nat.{ℕ, zero, suc, ◌+◌, ◌<◌}
use mathlib.Core.Path.{◌≡◌, refl, sym, ap, ◌∙◌}
use mathlib.Core.List.{List, [], ◌∷◌, ◌++◌}
use native.Mathlib.Nat.{zero-add, suc-add}
use native.Mathlib.Numerals.{add-one}
use lib.Dec.{ltb}
use lib.ListN.{length, drop}
use borrow.Author.Tests.{ltb-true}
use Rattle.refusal.specs.Told.{accepted}
use Rattle.refusal.proofs.Tellings.{clash}
use Rattle.numbers.specs.Form.{Found, found, cut_off, not_shortest, find_from}
use Rattle.numbers.specs.Answer.{found_at, within, read_answer, read_below_answer}
use Rattle.numbers.proofs.Below.{below_is_read}
use Rattle.trace.proofs.Choices.{passes}
use Rattle.record.specs.Numbers.{number_told, next_told, number_at, next_at, after, numbers_from}

module _ (s : List ℕ) (at : ℕ) where
  -- what an answer tells of a place
  pub number_is : (v next : ℕ) → read_answer s at ≡ accepted (v ∷ next ∷ []) → v ≡ number_at s at
  unfolding number_at
  number_is v next e = ap number_told (sym e)

  pub next_is : (v next : ℕ) → read_answer s at ≡ accepted (v ∷ next ∷ []) → next ≡ next_at s at
  unfolding next_at
  next_is v next e = ap (next_told at) (sym e)

  pub below_found : (bound v next : ℕ) → read_below_answer bound s at ≡ accepted (v ∷ next ∷ []) → (v ≡ number_at s at) × (next ≡ next_at s at)
  below_found bound v next e = let r = (below_is_read bound s at v next e).read in (number_is v next r, next_is v next r)

  -- a number that is accepted, and one that is accepted below a bound
  pub read_of : (vs : List ℕ) → read_answer s at ≡ accepted vs → read_answer s at ≡ accepted (number_at s at ∷ next_at s at ∷ [])
  unfolding read_answer number_at next_at
  read_of vs e = go (find_from 0 (drop at s)) e
    where
      go : (f : Found) → found_at at f ≡ accepted vs → found_at at f ≡ accepted (number_told (found_at at f) ∷ next_told at (found_at at f) ∷ [])
      go (found v n) q = refl
      go cut_off q = clash q
      go not_shortest q = clash q

  pub below_of : (bound : ℕ) (vs : List ℕ) → read_below_answer bound s at ≡ accepted vs → (read_answer s at ≡ accepted (number_at s at ∷ next_at s at ∷ [])) × (number_at s at < bound)
  unfolding read_answer read_below_answer number_at next_at
  below_of bound vs e = go (find_from 0 (drop at s)) e
    where
      go : (f : Found) → within bound at (found_at at f) ≡ accepted vs
          → (found_at at f ≡ accepted (number_told (found_at at f) ∷ next_told at (found_at at f) ∷ [])) × (number_told (found_at at f) < bound)
      go (found v n) q = (refl, ltb-true v bound (passes (ltb v bound) _ 17 at vs q).0)
      go cut_off q = clash q
      go not_shortest q = clash q

-- the places after n numbers
pub after_none : (s : List ℕ) (at : ℕ) → after 0 s at ≡ at
unfolding after
after_none s at = refl

pub after_more : (n : ℕ) (s : List ℕ) (at : ℕ) → after (suc n) s at ≡ after n s (next_at s at)
unfolding after
after_more n s at = refl

pub after_last : (n : ℕ) (s : List ℕ) (at : ℕ) → after (suc n) s at ≡ next_at s (after n s at)
unfolding after
after_last zero s at = refl
after_last (suc n) s at = after_last n s (next_at s at)

pub after_next : (n : ℕ) (s : List ℕ) (at : ℕ) → after (n + 1) s at ≡ next_at s (after n s at)
after_next n s at = rw (add-one n) (after_last n s at)

pub after_two : (s : List ℕ) (at : ℕ) → after 2 s at ≡ next_at s (next_at s at)
unfolding after
after_two s at = refl

pub after_add : (m n : ℕ) (s : List ℕ) (at : ℕ) → after (m + n) s at ≡ after n s (after m s at)
unfolding after
after_add zero n s at = ap (λ (k : ℕ). after k s at) (zero-add n)
after_add (suc m) n s at = ap (λ (k : ℕ). after k s at) (suc-add m n) ∙ after_add m n s (next_at s at)

-- the numbers from a place on
pub from_none : (s : List ℕ) (at : ℕ) → numbers_from 0 s at ≡ []
unfolding numbers_from
from_none s at = refl

pub from_more : (n : ℕ) (s : List ℕ) (at : ℕ) → numbers_from (suc n) s at ≡ number_at s at ∷ numbers_from n s (next_at s at)
unfolding numbers_from
from_more n s at = refl

from_last : (n : ℕ) (s : List ℕ) (at : ℕ) → numbers_from (suc n) s at ≡ numbers_from n s at ++ (number_at s (after n s at) ∷ [])
unfolding after numbers_from
from_last zero s at = refl
from_last (suc n) s at = ap (λ (l : List ℕ). number_at s at ∷ l) (from_last n s (next_at s at))

pub from_next : (n : ℕ) (s : List ℕ) (at : ℕ) → numbers_from (n + 1) s at ≡ numbers_from n s at ++ (number_at s (after n s at) ∷ [])
from_next n s at = rw (add-one n) (from_last n s at)

pub length_from : (n : ℕ) (s : List ℕ) (at : ℕ) → length (numbers_from n s at) ≡ n
unfolding numbers_from
length_from zero s at = refl
length_from (suc n) s at = ap suc (length_from n s (next_at s at))
