-- Two cases of numbers.
-- Assumes nothing.
use Rattle.std.proofs.Common.{◌≡◌, ℕ, ◌<◌, ◌≤◌, Bool, true, false, ltb, ◌⊎◌, refl, inl, inr, ltb-false, ltb-true}

by_test : (b : Bool) (x y : ℕ) → ltb x y ≡ b → (x < y) ⊎ (y ≤ x)
by_test true x y e = inl (ltb-true x y e)
by_test false x y e = inr (ltb-false x y e)

pub below? : (x y : ℕ) → (x < y) ⊎ (y ≤ x)
below? x y = by_test (ltb x y) x y refl
