-- Products of halves of 32 bits, which are unknowns to omega.
-- Assumes nothing.
use Rattle.std.proofs.Common.{◌≡◌, ℕ, ◌+◌, ◌*◌, ◌/◌, ◌%◌, ◌^◌, sym, ◌∙◌, ap₂, div-add-mod'}
use Rattle.field.proofs.Ring.{ring}

expand : (P a₀ a₁ b₀ b₁ : ℕ) → (a₁ * P + a₀) * (b₁ * P + b₀) ≡ a₁ * b₁ * (P * P) + (a₁ * b₀ + a₀ * b₁) * P + a₀ * b₀
expand P a₀ a₁ b₀ b₁ = simp ring

pub halves : (a b : ℕ) → a * b ≡ a / 2 ^ 32 * (b / 2 ^ 32) * 2 ^ 64 + (a / 2 ^ 32 * (b % 2 ^ 32) + a % 2 ^ 32 * (b / 2 ^ 32)) * 2 ^ 32 + a % 2 ^ 32 * (b % 2 ^ 32)
halves a b =
    ap₂ (λ (x y : ℕ). x * y) (sym (div-add-mod' a (2 ^ 32))) (sym (div-add-mod' b (2 ^ 32)))
    ∙ expand (2 ^ 32) (a % 2 ^ 32) (a / 2 ^ 32) (b % 2 ^ 32) (b / 2 ^ 32)
