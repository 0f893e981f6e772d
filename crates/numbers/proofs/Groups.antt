-- The equations of `bytes_of` and `width_of`, and how many bytes a number has.
-- Assumes nothing.
use Prim.Native.Nat.{ℕ, zero, suc, ◌+◌, ◌-◌, ◌*◌, ◌/◌, ◌%◌, ◌^◌, ◌≤◌, ◌<◌}
use mathlib.Core.Path.{◌≡◌, refl, sym, ap, ◌∙◌}
use mathlib.Core.Logic.{⊎_elim}
use mathlib.Core.List.{List, [], ◌∷◌}
use native.Mathlib.Nat.{pow-suc}
use native.Mathlib.Omega.{arith}
use lib.Count.{count_leading_zeros, leading_top}
use lib.ListN.{length}
use lib.Pow.{pow-add, pow_pos, pow_mono}
use borrow.Author.Tests.{lt-ltb, le-ltb}
use Rattle.field.proofs.Cases.{below?}
use Rattle.numbers.specs.Form.{bytes_in, bytes_of, groups_in, width_of}

pub bytes_last : (k v : ℕ) → v < 128 → bytes_in (suc k) v ≡ v ∷ []
unfolding bytes_in
bytes_last k v h = rw (lt-ltb v 128)

pub bytes_more : (k v : ℕ) → 128 ≤ v → bytes_in (suc k) v ≡ (v % 128 + 128) ∷ bytes_in k (v / 128)
unfolding bytes_in
bytes_more k v h = rw (le-ltb v 128)

pub groups_last : (k v : ℕ) → v < 128 → groups_in (suc k) v ≡ 1
unfolding groups_in
groups_last k v h = rw (lt-ltb v 128)

pub groups_more : (k v : ℕ) → 128 ≤ v → groups_in (suc k) v ≡ suc (groups_in k (v / 128))
unfolding groups_in
groups_more k v h = rw (le-ltb v 128)

groups_count : (k v : ℕ) → length (bytes_in k v) ≡ groups_in k v
unfolding bytes_in groups_in
groups_count zero v = refl
groups_count (suc k) v =
    ⊎_elim (λ h. rw (bytes_last k v h, groups_last k v h))
    (λ h. rw (bytes_more k v h, groups_more k v h) (ap suc (groups_count k (v / 128))))
    (below? v 128)

-- the width is the number of bytes
pub width_counts : (v : ℕ) → length (bytes_of v) ≡ width_of v
unfolding bytes_of width_of
width_counts v = groups_count 10 v

groups_some : (k v : ℕ) → 1 ≤ groups_in (suc k) v
groups_some k v = ⊎_elim (λ h. omega (arith, groups_last k v h)) (λ h. omega (arith, groups_more k v h)) (below? v 128)

groups_most : (k v : ℕ) → groups_in k v ≤ k
unfolding groups_in
groups_most zero v = omega arith
groups_most (suc k) v =
    ⊎_elim (λ h. omega (arith, groups_last k v h)) (λ h. omega (arith, groups_more k v h, groups_most k (v / 128))) (below? v 128)

-- it is 1 to 10
pub width_some : (v : ℕ) → 1 ≤ width_of v
unfolding width_of
width_some v = groups_some 9 v

pub width_most : (v : ℕ) → width_of v ≤ 10
unfolding width_of
width_most v = groups_most 10 v

groups_least : (k n v : ℕ) → v < 128 ^ suc n → groups_in k v ≤ suc n
unfolding groups_in
groups_least zero n v h = omega arith
groups_least (suc k) zero v h = omega (arith, groups_last k v (omega arith))
groups_least (suc k) (suc n) v h =
    ⊎_elim (λ l. omega (arith, groups_last k v l))
    (λ l. omega (arith, groups_more k v l, groups_least k n (v / 128) (omega (arith, pow-suc 128 (suc n)))))
    (below? v 128)

-- "shortest form": a number that n + 1 groups of seven bits hold takes no more bytes
pub width_least : (n v : ℕ) → v < 128 ^ suc n → width_of v ≤ suc n
unfolding width_of
width_least n v h = groups_least 10 n v h

-- one byte more changes nothing, where the number has room
enough : (k v : ℕ) → v < 128 ^ suc k → bytes_in (suc k) v ≡ bytes_in (suc (suc k)) v
enough zero v h = bytes_last 0 v (omega arith) ∙ sym (bytes_last 1 v (omega arith))
enough (suc k) v h =
    ⊎_elim (λ l. bytes_last (suc k) v l ∙ sym (bytes_last (suc (suc k)) v l))
    (λ l.
    bytes_more (suc k) v l
    ∙ ap (λ (t : List ℕ). (v % 128 + 128) ∷ t) (enough k (v / 128) (omega (arith, pow-suc 128 (suc k))))
    ∙ sym (bytes_more (suc (suc k)) v l))
    (below? v 128)

-- the bytes and the width of a number of 64 bits, from those of its upper groups
pub bytes_of_last : (v : ℕ) → v < 128 → bytes_of v ≡ v ∷ []
unfolding bytes_of
bytes_of_last v h = bytes_last 9 v h

pub bytes_of_more : (v : ℕ) → 128 ≤ v → v < 2 ^ 64 → bytes_of v ≡ (v % 128 + 128) ∷ bytes_of (v / 128)
unfolding bytes_of
bytes_of_more v l h = bytes_more 9 v l ∙ ap (λ (t : List ℕ). (v % 128 + 128) ∷ t) (enough 8 (v / 128) (omega arith))

pub width_last : (v : ℕ) → v < 128 → width_of v ≡ 1
width_last v h = sym (width_counts v) ∙ ap length (bytes_of_last v h)

pub width_more : (v : ℕ) → 128 ≤ v → v < 2 ^ 64 → width_of v ≡ suc (width_of (v / 128))
width_more v l h = sym (width_counts v) ∙ ap length (bytes_of_more v l h) ∙ ap suc (width_counts (v / 128))

-- j is the highest bit that is set
groups_top : (k v j : ℕ) → 2 ^ j ≤ v → v < 2 ^ suc j → j < 7 * k → groups_in k v ≡ j / 7 + 1
groups_top zero v j lo hi h = absurd (omega arith)
groups_top (suc k) v j lo hi h =
    ⊎_elim
    (λ l.
    let m : 2 ^ suc j ≤ 2 ^ 7 = pow_mono l in
    groups_last k v (omega arith) ∙ omega arith)
    (λ l.
    let i : ℕ = j - 7 in
    let e : j ≡ i + 7 = omega arith in
    let p : 2 ^ j ≡ 2 ^ i * 128 = ap (λ (n : ℕ). 2 ^ n) e ∙ pow-add 2 i 7 in
    let q : 2 ^ suc j ≡ 2 ^ j * 2 = pow-suc 2 j in
    let r : 2 ^ suc i ≡ 2 ^ i * 2 = pow-suc 2 i in
    let z : 0 < 2 ^ i = pow_pos i in
    groups_more k v (omega arith) ∙ ap suc (groups_top k (v / 128) i (omega arith) (omega arith) (omega arith)) ∙ omega arith)
    (below? j 7)

-- "A number's byte length comes from its leading zeros."
pub record Zeros (v : ℕ) : Type 0 where
  pub some : count_leading_zeros 64 v ≤ 63
  pub width : (63 - count_leading_zeros 64 v) / 7 + 1 ≡ width_of v

pub width_from_zeros : (v : ℕ) → 0 < v → v < 2 ^ 64 → Zeros v
unfolding width_of
width_from_zeros v some h =
    let t = leading_top 64 v some h in
    let e : 63 - count_leading_zeros 64 v ≡ t.0 = omega (arith, t.1) in
    record { some = omega (arith, t.1); width = rw e (sym (groups_top 10 v t.0 t.2 t.3 (omega (arith, t.1)))) }
