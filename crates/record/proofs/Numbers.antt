-- Looking at n numbers below a bound: what is left to look at, from here, is the whole; and what the answer says of the numbers, both ways.
-- Assumes nothing.
use Prim.Native.Nat.{ℕ, zero, suc, ◌+◌, ◌-◌, ◌≤◌, ◌<◌}
use mathlib.Core.Path.{◌≡◌, refl, sym, ap, ◌∙◌}
use mathlib.Core.List.{List, [], ◌∷◌}
use native.Mathlib.Omega.{arith}
use lib.ListN.{length}
use Rattle.refusal.specs.Told.{Told, accepted, refused, or_else}
use Rattle.numbers.specs.Answer.{read_below_answer}
use Rattle.numbers.proofs.Below.{below_accepted, below_is_read}
use Rattle.record.specs.Numbers.{next_at, after, numbers_from, numbers_answer}
use Rattle.record.proofs.Ways.{values_are, goes_on, stops, passed}
use Rattle.record.proofs.Places.{next_is, below_of, after_add, length_from}
use Rattle.record.proofs.Bounds.{AllBelow}
use Rattle.record.proofs.Sequence.{Stand}

-- n numbers from a place on are read one after the other, and are below a bound
abbrev pub FoundBelow : ℕ → ℕ → List ℕ → ℕ → Type 0
FoundBelow bound n s at = Stand (numbers_from n s at) s at (after n s at) × AllBelow bound (numbers_from n s at)

module _ (bound : ℕ) (s : List ℕ) where
  none : (at : ℕ) → numbers_answer bound 0 s at ≡ accepted (0 ∷ at ∷ [])
  unfolding numbers_answer
  none at = refl

  more : (n at : ℕ) → numbers_answer bound (suc n) s at ≡ or_else (read_below_answer bound s at) (numbers_answer bound n s (next_at s at))
  unfolding numbers_answer
  more n at = refl

  one_more : (n at v next : ℕ) → read_below_answer bound s at ≡ accepted (v ∷ next ∷ []) → numbers_answer bound (suc n) s at ≡ numbers_answer bound n s next
  one_more n at v next e =
      more n at
      ∙ goes_on _ (numbers_answer bound n s (next_at s at)) (v ∷ next ∷ []) e
      ∙ ap (numbers_answer bound n s) (sym (next_is s at v next (below_is_read bound s at v next e).read))

  one-refused : (n at number place : ℕ) → read_below_answer bound s at ≡ refused number place → numbers_answer bound (suc n) s at ≡ refused number place
  one-refused n at number place e = more n at ∙ stops _ (numbers_answer bound n s (next_at s at)) number place e

  module _ (n i next : ℕ) (t : Told) where
    pub numbers_on : (v place : ℕ) → read_below_answer bound s next ≡ accepted (v ∷ place ∷ []) → numbers_answer bound (n - i) s next ≡ t → i < n
        → numbers_answer bound (n - (i + 1)) s place ≡ t
    numbers_on v place e q h =
        let k : n - i ≡ suc (n - (i + 1)) = omega arith in
        sym (one_more (n - (i + 1)) next v place e) ∙ ap (λ (m : ℕ). numbers_answer bound m s next) (sym k) ∙ q

    pub numbers_off : (number place : ℕ) → read_below_answer bound s next ≡ refused number place → numbers_answer bound (n - i) s next ≡ t → i < n → refused number place ≡ t
    numbers_off number place e q h =
        let k : n - i ≡ suc (n - (i + 1)) = omega arith in
        sym (one-refused (n - (i + 1)) next number place e) ∙ ap (λ (m : ℕ). numbers_answer bound m s next) (sym k) ∙ q

    pub numbers_end : numbers_answer bound (n - i) s next ≡ t → n ≤ i → accepted (0 ∷ next ∷ []) ≡ t
    numbers_end q h =
        let k : n - i ≡ 0 = omega arith in
        sym (none next) ∙ ap (λ (m : ℕ). numbers_answer bound m s next) (sym k) ∙ q

  -- numbers that are accepted are read one after the other, and are below the bound
  pub numbers_of : (n at : ℕ) (vs : List ℕ) → numbers_answer bound n s at ≡ accepted vs → FoundBelow bound n s at
  unfolding after numbers_from
  numbers_of zero at vs e = (refl, tt)
  numbers_of (suc n) at vs e =
      let a = passed _ _ vs (sym (more n at) ∙ e) in
      let f = below_of s at bound a.values a.first in
      let r = numbers_of n (next_at s at) vs a.then in
      ((f.0, r.0), (f.1, r.1))

  -- and numbers of which that is known are accepted
  pub numbers_pass : (xs : List ℕ) (at end : ℕ) → Stand xs s at end → AllBelow bound xs → numbers_answer bound (length xs) s at ≡ accepted (0 ∷ end ∷ [])
  numbers_pass [] at end h b = none at ∙ ap (λ (k : ℕ). accepted (0 ∷ k ∷ [])) h
  numbers_pass (x ∷ xs) at end h b =
      one_more (length xs) at x (next_at s at) (below_accepted bound s at x (next_at s at) h.0 b.0)
      ∙ numbers_pass xs (next_at s at) end h.1 b.1

  pub place_after : (n at v next : ℕ) → numbers_answer bound n s at ≡ accepted (v ∷ next ∷ []) → next ≡ after n s at
  place_after n at v next e =
      let f = numbers_of n at (v ∷ next ∷ []) e in
      let q = ap (λ (k : ℕ). numbers_answer bound k s at) (sym (length_from n s at)) ∙ numbers_pass (numbers_from n s at) at (after n s at) f.0 f.1 in
      (values_are 0 (after n s at) v next (sym q ∙ e)).1

-- numbers behind numbers end where all of them end
pub place_behind : (low high : ℕ) (s : List ℕ) (m n at v mid w next : ℕ) → numbers_answer low m s at ≡ accepted (v ∷ mid ∷ []) → numbers_answer high n s mid ≡ accepted (w ∷ next ∷ [])
    → next ≡ after (m + n) s at
place_behind low high s m n at v mid w next e f = place_after high s n mid w next f ∙ ap (after n s) (place_after low s m at v mid e) ∙ sym (after_add m n s at)
