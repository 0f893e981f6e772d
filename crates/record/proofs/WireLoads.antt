-- Loading the values and counts of wires: what is there after k of them.
-- Assumes nothing.
use Rattle.std.proofs.Common.{◌≡◌, ℕ, zero, suc, ◌+◌, ◌*◌, ◌<◌, ◌≤◌, List, [], ◌∷◌, ◌++◌, length, get_or, take, set, refl, sym, ap, ap₂, ◌∙◌, subst, add-one, mul-suc, arith}
use Rattle.std.proofs.lemmas.List.{take_more_set}
use Rattle.std.proofs.lemmas.Slice.{take-put_mid}
use borrow.Rule.Slice.PartMut.{put_mid}
use Rattle.record.specs.Numbers.{number_at, next_at, after, numbers_from}
use Rattle.record.specs.Reading.{u32, values_from, counts_from}
use Rattle.record.specs.Inside.{Wires}
use Rattle.record.proofs.Places.{after_next, after_add, length_from}
use Rattle.record.proofs.Bounds.{below_at}
use Rattle.record.proofs.WireList.{after_wire, wires_of_lem, counts-length}

-- the numbers of one wire more
values_last : (k : ℕ) (s : List ℕ) (at : ℕ) → values_from (suc k) s at ≡ values_from k s at ++ numbers_from 2 s (after (3 * k) s at)
unfolding values_from numbers_from after
values_last zero s at = refl
values_last (suc k) s at =
    ap (λ (l : List ℕ). number_at s at ∷ number_at s (next_at s at) ∷ l) (values_last k s (after 3 s at) ∙ ap (λ (j : ℕ). values_from k s (after 3 s at) ++ numbers_from 2 s j) (sym (after_wire k s at)))

counts_last : (k : ℕ) (s : List ℕ) (at : ℕ) → counts_from (suc k) s at ≡ counts_from k s at ++ (number_at s (after 2 s (after (3 * k) s at)) ∷ [])
unfolding counts_from after
counts_last zero s at = refl
counts_last (suc k) s at =
    ap (λ (l : List ℕ). number_at s (after 2 s at) ∷ l) (counts_last k s (after 3 s at) ∙ ap (λ (j : ℕ). counts_from k s (after 3 s at) ++ (number_at s (after 2 s j) ∷ [])) (sym (after_wire k s at)))

-- wire k's count is in its range
count_at : (n k : ℕ) (s : List ℕ) (at : ℕ) → k < n → get_or (counts_from n s at) k 0 ≡ number_at s (after 2 s (after (3 * k) s at))
unfolding counts_from after
count_at zero k s at h = absurd (omega arith)
count_at (suc n) zero s at h = refl
count_at (suc n) (suc k) s at h = count_at n k s (after 3 s at) (omega arith) ∙ ap (λ (j : ℕ). number_at s (after 2 s j)) (sym (after_wire k s at))

pub count_is_u32 : (s : List ℕ) (at n k : ℕ) → Wires n s at → k < n → number_at s (after 2 s (after (3 * k) s at)) < u32
count_is_u32 s at n k w h =
    subst (λ (v : ℕ). v < u32) (count_at n k s at h) (below_at u32 (counts_from n s at) (wires_of_lem n s at _ w).counts k (omega (arith, counts-length n s at)))

pub record WiresLoaded (s : List ℕ) (at : ℕ) (values counts : List ℕ) (next k : ℕ) : Type 0 where
  pub place : next ≡ after (3 * k) s at
  pub values_are : take (2 * k) values ≡ values_from k s at
  pub counts_are : take k counts ≡ counts_from k s at

pub loaded_none : (s : List ℕ) (at : ℕ) (values counts : List ℕ) → WiresLoaded s at values counts at 0
unfolding values_from counts_from after
loaded_none s at values counts = record { place = refl; values_are = refl; counts_are = refl }

-- one more: len cells are written over m of the values, and then a count
pub loaded_next : {s : List ℕ} {at : ℕ} {values counts : List ℕ} {next k : ℕ} → WiresLoaded s at values counts next k
    → (len m : ℕ) (cells : List ℕ) (count_at count place : ℕ) → len ≡ 2 → count_at ≡ after len s next → cells ≡ numbers_from len s next → count ≡ number_at s count_at → place ≡ next_at s count_at
    → 2 * k + 2 ≤ length values → k < length counts → WiresLoaded s at (put_mid (2 * k) m values cells) (set counts k count) place (k + 1)
loaded_next {s} {at} {values} {counts} {next} {k} w len m cells count_at count place two e f g h room_values room_counts =
    let q : count_at ≡ after 2 s (after (3 * k) s at) = e ∙ ap₂ (λ (i j : ℕ). after i s j) two w.place in
    let x : cells ≡ numbers_from 2 s (after (3 * k) s at) = f ∙ ap₂ (λ (i j : ℕ). numbers_from i s j) two w.place in
    record {
      place = cc (after_next 2 s (after (3 * k) s at), after_add (3 * k) 3 s at, mul-suc 3 k, add-one k);
      values_are =
          take-put_mid (2 * k) m values cells (2 * (k + 1)) (omega (arith, ap length x, length_from 2 s (after (3 * k) s at))) (omega arith)
          ∙ ap₂ (λ (xs ys : List ℕ). xs ++ ys) w.values_are x
          ∙ sym (rw (add-one k) (values_last k s at));
      counts_are =
          take_more_set counts k count room_counts
          ∙ ap₂ (λ (xs : List ℕ) (v : ℕ). xs ++ (v ∷ [])) w.counts_are (g ∙ ap (number_at s) q)
          ∙ sym (rw (add-one k) (counts_last k s at));
    }
