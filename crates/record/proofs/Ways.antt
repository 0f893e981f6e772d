-- One answer before another: the first refusal, or what comes after.
-- Assumes nothing.
use Prim.Native.Nat.{ℕ}
use mathlib.Core.Path.{◌≡◌, refl, sym, ap}
use mathlib.Core.List.{List, [], ◌∷◌}
use Rattle.refusal.specs.Told.{Told, accepted, refused, or_else}
use Rattle.refusal.proofs.Tellings.{clash}

pub values_are : (v next w place : ℕ) → accepted (v ∷ next ∷ []) ≡ accepted (w ∷ place ∷ []) → (w ≡ v) × (place ≡ next)
values_are v next w place e = (cc, cc)

pub goes_on : (t u : Told) (vs : List ℕ) → t ≡ accepted vs → or_else t u ≡ u
goes_on t u vs e = ap (λ (x : Told). or_else x u) e

pub stops : (t u : Told) (number place : ℕ) → t ≡ refused number place → or_else t u ≡ refused number place
stops t u n k e = ap (λ (x : Told). or_else x u) e

-- where nothing is refused, the first is accepted, and so is what comes after
pub record Passed (t u : Told) (vs : List ℕ) : Type 0 where
  pub values : List ℕ
  pub first : t ≡ accepted values
  pub then : u ≡ accepted vs

pub passed : (t u : Told) (vs : List ℕ) → or_else t u ≡ accepted vs → Passed t u vs
passed (accepted ws) u vs e = record { values = ws; first = refl; then = e }
passed (refused n k) u vs e = clash e

-- and where something is refused, though not by what comes after, it is the first
pub refused_first : (t : Told) (vs : List ℕ) (number place : ℕ) → refused number place ≡ or_else t (accepted vs) → t ≡ refused number place
refused_first (accepted ws) vs n k e = clash e
refused_first (refused m l) vs n k e = sym e
