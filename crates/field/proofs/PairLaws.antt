-- Laws of the sum, difference and product of pairs.
-- Assumes nothing.
use Rattle.std.proofs.Common.{◌≡◌, ℕ, ◌+◌, ◌*◌, ◌%◌, Bool, true, false, cond, [], ◌∷◌, sym, ap, ◌∙◌, ap₂, mul_assoc, mul_left_comm}
use native.Mathlib.Nat.{add-mod}
use Rattle.field.specs.Field.{p, add_f, sub_f}
use Rattle.field.specs.Pair.{Pair, pair, Elements, cells, square, add_pair, sub_pair, mul_pair}
use Rattle.field.proofs.Ring.{ring}
use Rattle.field.proofs.Remainders.{mul_mod_mod, mod_mul_mod, mod_below}
use Rattle.field.proofs.Laws.{add_below, sub_below, add_commutes, add_associates, sub_restores}

pub add_elements : (a b : Pair) → Elements (add_pair a b)
add_elements a b = record { low = add_below a.c0 b.c0; high = add_below a.c1 b.c1 }

pub sub_elements : (a b : Pair) → Elements (sub_pair a b)
sub_elements a b = record { low = sub_below a.c0 b.c0; high = sub_below a.c1 b.c1 }

pub mul_elements : (a b : Pair) → Elements (mul_pair a b)
mul_elements a b = record { low = mod_below _; high = mod_below _ }

-- a sum or a difference, cell by cell
pub pair_chosen : (less : Bool) (a b : Pair) (v w : ℕ) → v ≡ cond less (sub_f a.c0 b.c0) (add_f a.c0 b.c0) → w ≡ cond less (sub_f a.c1 b.c1) (add_f a.c1 b.c1)
    → v ∷ w ∷ [] ≡ cells (cond less sub_pair add_pair a b)
pair_chosen true a b v w e f = ap₂ (λ (x y : ℕ). x ∷ y ∷ []) e f
pair_chosen false a b v w e f = ap₂ (λ (x y : ℕ). x ∷ y ∷ []) e f

pub pair_add_commutes : (a b : Pair) → add_pair a b ≡ add_pair b a
pair_add_commutes a b = ap₂ pair (add_commutes a.c0 b.c0) (add_commutes a.c1 b.c1)

pub pair_add_associates : (a b c : Pair) → add_pair (add_pair a b) c ≡ add_pair a (add_pair b c)
pair_add_associates a b c = ap₂ pair (add_associates a.c0 b.c0 c.c0) (add_associates a.c1 b.c1 c.c1)

pub pair_sub_restores : (a b : Pair) → Elements a → Elements b → add_pair (sub_pair a b) b ≡ a
pair_sub_restores a b ea eb = ap₂ pair (sub_restores a.c0 b.c0 ea.low eb.low) (sub_restores a.c1 b.c1 ea.high eb.high)

-- remainders in a sum of two products may be dropped, on either side
left : (x y c d : ℕ) → (x % p * c + y % p * d) % p ≡ (x * c + y * d) % p
left x y c d = add-mod _ _ p ∙ ap₂ (λ (u v : ℕ). (u + v) % p) (mod_mul_mod x c p) (mod_mul_mod y d p) ∙ sym (add-mod _ _ p)

right : (c d x y : ℕ) → (c * (x % p) + d * (y % p)) % p ≡ (c * x + d * y) % p
right c d x y = add-mod _ _ p ∙ ap₂ (λ (u v : ℕ). (u + v) % p) (mul_mod_mod c x p) (mul_mod_mod d y p) ∙ sym (add-mod _ _ p)

pub pair_mul_commutes : (a b : Pair) → mul_pair a b ≡ mul_pair b a
pair_mul_commutes a b = ap₂ pair (ap (λ (x : ℕ). x % p) (simp ring)) (ap (λ (x : ℕ). x % p) (simp ring))

-- the parts of a product before their remainders are taken
abbrev low : Pair → Pair → ℕ
low a b = a.c0 * b.c0 + square * (a.c1 * b.c1)

abbrev high : Pair → Pair → ℕ
high a b = a.c0 * b.c1 + a.c1 * b.c0

associates_low : (a b c : Pair) → (mul_pair (mul_pair a b) c).c0 ≡ (mul_pair a (mul_pair b c)).c0
associates_low a b c =
    ap (λ (x : ℕ). (low a b % p * c.c0 + x) % p) (mul_left_comm square (high a b % p) c.c1)
    ∙ left (low a b) (high a b) c.c0 (square * c.c1)
    ∙ ap (λ (x : ℕ). x % p) group
    ∙ sym (right a.c0 (square * a.c1) (low b c) (high b c))
    ∙ ap (λ (x : ℕ). (a.c0 * (low b c % p) + x) % p) (mul_assoc square a.c1 (high b c % p))
  where
    group : low a b * c.c0 + high a b * (square * c.c1) ≡ a.c0 * low b c + square * a.c1 * high b c
    group = simp ring

associates_high : (a b c : Pair) → (mul_pair (mul_pair a b) c).c1 ≡ (mul_pair a (mul_pair b c)).c1
associates_high a b c =
    left (low a b) (high a b) c.c1 c.c0
    ∙ ap (λ (x : ℕ). x % p) group
    ∙ sym (right a.c0 a.c1 (high b c) (low b c))
  where
    group : low a b * c.c1 + high a b * c.c0 ≡ a.c0 * high b c + a.c1 * low b c
    group = simp ring

pub pair_mul_associates : (a b c : Pair) → mul_pair (mul_pair a b) c ≡ mul_pair a (mul_pair b c)
pair_mul_associates a b c = ap₂ pair (associates_low a b c) (associates_high a b c)

distributes_low : (a b c : Pair) → (mul_pair a (add_pair b c)).c0 ≡ (add_pair (mul_pair a b) (mul_pair a c)).c0
distributes_low a b c =
    ap (λ (x : ℕ). (a.c0 * ((b.c0 + c.c0) % p) + x) % p) (sym (mul_assoc square a.c1 ((b.c1 + c.c1) % p)))
    ∙ right a.c0 (square * a.c1) (b.c0 + c.c0) (b.c1 + c.c1)
    ∙ ap (λ (x : ℕ). x % p) group
    ∙ add-mod (low a b) (low a c) p
  where
    group : a.c0 * (b.c0 + c.c0) + square * a.c1 * (b.c1 + c.c1) ≡ low a b + low a c
    group = simp ring

distributes_high : (a b c : Pair) → (mul_pair a (add_pair b c)).c1 ≡ (add_pair (mul_pair a b) (mul_pair a c)).c1
distributes_high a b c =
    right a.c0 a.c1 (b.c1 + c.c1) (b.c0 + c.c0)
    ∙ ap (λ (x : ℕ). x % p) group
    ∙ add-mod (high a b) (high a c) p
  where
    group : a.c0 * (b.c1 + c.c1) + a.c1 * (b.c0 + c.c0) ≡ high a b + high a c
    group = simp ring

pub pair_distributes : (a b c : Pair) → mul_pair a (add_pair b c) ≡ add_pair (mul_pair a b) (mul_pair a c)
pair_distributes a b c = ap₂ pair (distributes_low a b c) (distributes_high a b c)
