-- Laws of `read_below_answer`: it is what `read_answer` is, but for a number that is not below the bound.
-- Assumes nothing.
use Prim.Native.Nat.{ℕ, ◌≤◌, ◌<◌}
use mathlib.Core.Path.{◌≡◌, refl, ap, ◌∙◌}
use mathlib.Core.List.{List, [], ◌∷◌}
use mathlib.Core.Logic.{⊎_elim}
use native.Mathlib.Omega.{arith}
use borrow.Author.Tests.{lt-ltb, le-ltb}
use Rattle.refusal.specs.Told.{Told, accepted, refused}
use Rattle.field.proofs.Cases.{below?}
use Rattle.refusal.proofs.Tellings.{clash}
use Rattle.numbers.specs.Answer.{within, read_answer, read_below_answer}

module _ (bound : ℕ) (s : List ℕ) (at : ℕ) where
  pub below_accepted : (v next : ℕ) → read_answer s at ≡ accepted (v ∷ next ∷ []) → v < bound → read_below_answer bound s at ≡ accepted (v ∷ next ∷ [])
  unfolding read_below_answer
  below_accepted v next e h = ap (within bound at) e ∙ rw (lt-ltb v bound h)

  pub below_over : (v next : ℕ) → read_answer s at ≡ accepted (v ∷ next ∷ []) → bound ≤ v → read_below_answer bound s at ≡ refused 17 at
  unfolding read_below_answer
  below_over v next e h = ap (within bound at) e ∙ rw (le-ltb v bound h)

  pub below_refused : (number place : ℕ) → read_answer s at ≡ refused number place → read_below_answer bound s at ≡ refused number place
  unfolding read_below_answer
  below_refused number place e = ap (within bound at) e

-- what is read below the bound is read, and is below it
pub record Below (bound : ℕ) (s : List ℕ) (at v next : ℕ) : Type 0 where
  pub read : read_answer s at ≡ accepted (v ∷ next ∷ [])
  pub below : v < bound

pub below_is_read : (bound : ℕ) (s : List ℕ) (at v next : ℕ) → read_below_answer bound s at ≡ accepted (v ∷ next ∷ []) → Below bound s at v next
unfolding read_below_answer
below_is_read bound s at v next e = go (read_answer s at) refl e
  where
    go : (t : Told) → read_answer s at ≡ t → within bound at t ≡ accepted (v ∷ next ∷ []) → Below bound s at v next
    go (accepted []) r q = let z : ◌≡◌ {A = ℕ} 0 1 = cc in absurd (omega arith)
    go (accepted (w ∷ ws)) r q =
        ⊎_elim
        (λ l.
        let f : accepted (w ∷ ws) ≡ accepted (v ∷ next ∷ []) = rw (lt-ltb w bound l) at q in
        let x : w ≡ v = cc in
        record { read = r ∙ f; below = omega arith })
        (λ l. clash (rw (le-ltb w bound l) at q))
        (below? w bound)
    go (refused n k) r q = clash q
