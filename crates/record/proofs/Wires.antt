-- Looking at n wires, "each wire as two elements and its count": what is left to look at, from here, is the whole.
-- Assumes nothing.
use Prim.Native.Nat.{ℕ, suc, ◌+◌, ◌-◌, ◌≤◌, ◌<◌}
use mathlib.Core.Path.{◌≡◌, refl, sym, ap, ◌∙◌}
use mathlib.Core.List.{List, [], ◌∷◌}
use native.Mathlib.Omega.{arith}
use Rattle.refusal.specs.Told.{Told, accepted, refused, or_else}
use Rattle.field.specs.Field.{p}
use Rattle.record.specs.Numbers.{after, numbers_answer}
use Rattle.record.specs.Reading.{u32, wire_answer, wires_answer}
use Rattle.record.proofs.Ways.{goes_on, stops}
use Rattle.record.proofs.Numbers.{place_after, place_behind}

module _ (s : List ℕ) where
  pub wires_none : (at : ℕ) → wires_answer 0 s at ≡ accepted (0 ∷ at ∷ [])
  unfolding wires_answer
  wires_none at = refl

  pub wires_more : (n at : ℕ) → wires_answer (suc n) s at ≡ or_else (wire_answer s at) (wires_answer n s (after 3 s at))
  unfolding wires_answer
  wires_more n at = refl

  pub wire_on : (n at : ℕ) (vs : List ℕ) → wire_answer s at ≡ accepted vs → wires_answer (suc n) s at ≡ wires_answer n s (after 3 s at)
  wire_on n at vs e = wires_more n at ∙ goes_on _ (wires_answer n s (after 3 s at)) vs e

  wire-off : (n at number place : ℕ) → wire_answer s at ≡ refused number place → wires_answer (suc n) s at ≡ refused number place
  wire-off n at number place e = wires_more n at ∙ stops _ (wires_answer n s (after 3 s at)) number place e

  -- one wire, by its value and its count
  value-refused : (at number place : ℕ) → numbers_answer p 2 s at ≡ refused number place → wire_answer s at ≡ refused number place
  unfolding wire_answer
  value-refused at number place e = stops _ (numbers_answer u32 1 s (after 2 s at)) number place e

  pub counted : (at v count_at : ℕ) (t : Told) → numbers_answer p 2 s at ≡ accepted (v ∷ count_at ∷ []) → numbers_answer u32 1 s count_at ≡ t → wire_answer s at ≡ t
  unfolding wire_answer
  counted at v count_at t e f =
      goes_on _ (numbers_answer u32 1 s (after 2 s at)) (v ∷ count_at ∷ []) e
      ∙ ap (numbers_answer u32 1 s) (sym (place_after p s 2 at v count_at e))
      ∙ f

  module _ (n i next : ℕ) (t : Told) where
    left : (u : Told) → i < n → wires_answer (suc (n - (i + 1))) s next ≡ u → wires_answer (n - i) s next ≡ t → u ≡ t
    left u h e q =
        let k : n - i ≡ suc (n - (i + 1)) = omega arith in
        sym e ∙ ap (λ (m : ℕ). wires_answer m s next) (sym k) ∙ q

    pub wires_on : (v count_at w place : ℕ) → numbers_answer p 2 s next ≡ accepted (v ∷ count_at ∷ []) → numbers_answer u32 1 s count_at ≡ accepted (w ∷ place ∷ [])
        → wires_answer (n - i) s next ≡ t → i < n → wires_answer (n - (i + 1)) s place ≡ t
    wires_on v count_at w place e f q h =
        ap (wires_answer (n - (i + 1)) s) (place_behind p u32 s 2 1 next v count_at w place e f)
        ∙ left (wires_answer (n - (i + 1)) s (after 3 s next)) h (wire_on (n - (i + 1)) next (w ∷ place ∷ []) (counted next v count_at _ e f)) q

    pub value_off : (number place : ℕ) → numbers_answer p 2 s next ≡ refused number place → wires_answer (n - i) s next ≡ t → i < n → refused number place ≡ t
    value_off number place e q h = left (refused number place) h (wire-off (n - (i + 1)) next number place (value-refused next number place e)) q

    pub count_off : (v count_at number place : ℕ) → numbers_answer p 2 s next ≡ accepted (v ∷ count_at ∷ []) → numbers_answer u32 1 s count_at ≡ refused number place
        → wires_answer (n - i) s next ≡ t → i < n → refused number place ≡ t
    count_off v count_at number place e f q h = left (refused number place) h (wire-off (n - (i + 1)) next number place (counted next v count_at _ e f)) q

    pub wires_end : wires_answer (n - i) s next ≡ t → n ≤ i → accepted (0 ∷ next ∷ []) ≡ t
    wires_end q h =
        let k : n - i ≡ 0 = omega arith in
        sym (wires_none next) ∙ ap (λ (m : ℕ). wires_answer m s next) (sym k) ∙ q
