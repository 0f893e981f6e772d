-- Remainders under sums and products.
-- Assumes nothing.
use Rattle.std.proofs.Common.{◌≡◌, ℕ, ◌+◌, ◌*◌, ◌/◌, ◌%◌, ◌<◌, sym, ap, ◌∙◌, mul_assoc, mul_comm, div-add-mod', mul-add, arith}
use native.Mathlib.Nat.{mul-add-mod_self_right, add-mod}
use Rattle.field.specs.Field.{p}

pub mul_mod_mod : (a b m : ℕ) → a * (b % m) % m ≡ a * b % m
mul_mod_mod a b m =
    sym (mul-add-mod_self_right (a * (b / m)) m (a * (b % m)))
    ∙ ap (λ (x : ℕ). (x + a * (b % m)) % m) (mul_assoc a (b / m) m)
    ∙ ap (λ (x : ℕ). x % m) (sym (mul-add a (b / m * m) (b % m)))
    ∙ ap (λ (x : ℕ). a * x % m) (div-add-mod' b m)

pub mod_mul_mod : (a b m : ℕ) → a % m * b % m ≡ a * b % m
mod_mul_mod a b m = ap (λ (x : ℕ). x % m) (mul_comm (a % m) b) ∙ mul_mod_mod b a m ∙ ap (λ (x : ℕ). x % m) (mul_comm b a)

pub mod_below : (x : ℕ) → x % p < p
mod_below x = omega arith

-- a sum with a multiple of a remainder
pub sum_with : (x a y b u r : ℕ) → r ≡ (x + u * b) % p → u ≡ a * y % p → r ≡ (x + a * (y * b)) % p
sum_with x a y b u r e eu =
    e
    ∙ ap (λ (i : ℕ). (x + i * b) % p) eu
    ∙ add-mod x (a * y % p * b) p
    ∙ ap (λ (i : ℕ). (x % p + i) % p) (mod_mul_mod (a * y) b p)
    ∙ sym (add-mod x (a * y * b) p)
    ∙ ap (λ (i : ℕ). (x + i) % p) (mul_assoc a y b)
