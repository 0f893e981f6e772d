-- Laws of the field's sum, difference and product.
-- Assumes nothing.
use Rattle.std.proofs.Common.{◌≡◌, ℕ, ◌+◌, ◌*◌, ◌%◌, ◌<◌, sym, ap, ◌∙◌, add_assoc, mul_assoc, mul_comm, add_comm, mul-add, arith}
use native.Mathlib.Nat.{add-mod, mod-add-mod, add-mod-mod}
use Rattle.field.specs.Field.{p, add_f, sub_f, mul_f}
use Rattle.field.proofs.Remainders.{mul_mod_mod, mod_mul_mod, mod_below}

pub add_below : (a b : ℕ) → add_f a b < p
add_below a b = mod_below _

pub sub_below : (a b : ℕ) → sub_f a b < p
sub_below a b = mod_below _

pub mul_below : (a b : ℕ) → mul_f a b < p
mul_below a b = mod_below _

pub add_commutes : (a b : ℕ) → add_f a b ≡ add_f b a
add_commutes a b = ap (λ (x : ℕ). x % p) (add_comm a b)

pub add_associates : (a b c : ℕ) → add_f (add_f a b) c ≡ add_f a (add_f b c)
add_associates a b c = mod-add-mod (a + b) p c ∙ ap (λ (x : ℕ). x % p) (add_assoc a b c) ∙ sym (add-mod-mod a (b + c) p)

pub mul_commutes : (a b : ℕ) → mul_f a b ≡ mul_f b a
mul_commutes a b = ap (λ (x : ℕ). x % p) (mul_comm a b)

pub mul_associates : (a b c : ℕ) → mul_f (mul_f a b) c ≡ mul_f a (mul_f b c)
mul_associates a b c = mod_mul_mod (a * b) c p ∙ ap (λ (x : ℕ). x % p) (mul_assoc a b c) ∙ sym (mul_mod_mod a (b * c) p)

pub distributes : (a b c : ℕ) → mul_f a (add_f b c) ≡ add_f (mul_f a b) (mul_f a c)
distributes a b c = mul_mod_mod a (b + c) p ∙ ap (λ (x : ℕ). x % p) (mul-add a b c) ∙ add-mod (a * b) (a * c) p

-- a difference is what must be added to get back
pub sub_restores : (a b : ℕ) → a < p → b < p → add_f (sub_f a b) b ≡ a
sub_restores a b ha hb = omega arith
