-- Tests one after the other: what `&&` and `cond` come to.
-- Assumes nothing.
use mathlib.Core.Path.{◌≡◌, refl, sym}
use mathlib.Core.Bool.{Bool, true, false, cond, ◌&&◌, ◌||◌}
use mathlib.Core.List.{List}
use mathlib.Core.Logic.{◌⊎◌, ⊎_elim, inl, inr}
use Prim.Native.Nat.{ℕ}
use Rattle.refusal.specs.Told.{Told, accepted, refused, or_else}
use Rattle.refusal.proofs.Tellings.{clash, true_not_false}

pub both : (a b : Bool) → (a && b) ≡ true → (a ≡ true) × (b ≡ true)
both true b e = (refl, e)
both false b e = (e, true_not_false (sym e))

pub both_hold : (a b : Bool) → a ≡ true → b ≡ true → (a && b) ≡ true
both_hold true b e f = f
both_hold false b e f = e

pub first_fails : (a b : Bool) → a ≡ false → (a && b) ≡ false
first_fails true b e = true_not_false e
first_fails false b e = refl

pub second_fails : (a b : Bool) → b ≡ false → (a && b) ≡ false
second_fails true b e = e
second_fails false b e = refl

pub first_holds : (a b : Bool) → a ≡ true → (a && b) ≡ b
first_holds true b e = refl
first_holds false b e = true_not_false (sym e)

pub second_holds : (a b : Bool) → b ≡ true → a ≡ (a && b)
second_holds true b e = sym e
second_holds false b e = refl

pub not_holds : (b : Bool) → (b ≡ true → ⊥) → false ≡ b
not_holds true h = absurd (h refl)
not_holds false h = refl

pub either : (a b : Bool) → (a || b) ≡ true → (a ≡ true) ⊎ (b ≡ true)
either true b e = inl refl
either false b e = inr e

pub either_holds : (a b : Bool) → (a ≡ true) ⊎ (b ≡ true) → (a || b) ≡ true
either_holds true b e = refl
either_holds false b e = ⊎_elim (λ f. cc) (λ f. f) e

-- a test that lets pass, and one that stops, where the answer is no refusal
pub passes : (b : Bool) (t : Told) (number place : ℕ) (vs : List ℕ) → cond b t (refused number place) ≡ accepted vs → (b ≡ true) × (t ≡ accepted vs)
passes true t n k vs e = (refl, e)
passes false t n k vs e = clash e

pub not_stopped : (b : Bool) (t : Told) (number place : ℕ) (vs : List ℕ) → cond b (refused number place) t ≡ accepted vs → (b ≡ false) × (t ≡ accepted vs)
not_stopped false t n k vs e = (refl, e)
not_stopped true t n k vs e = clash e

-- tests before an answer: the first refusal, or what comes after them
pub stopped_else : (b : Bool) (number place : ℕ) (x y t : Told) → y ≡ or_else x t → cond b (refused number place) y ≡ or_else (cond b (refused number place) x) t
stopped_else true n k x y t e = refl
stopped_else false n k x y t e = e

pub passed_else : (b : Bool) (number place : ℕ) (x y t : Told) → y ≡ or_else x t → cond b y (refused number place) ≡ or_else (cond b x (refused number place)) t
passed_else true n k x y t e = e
passed_else false n k x y t e = refl
