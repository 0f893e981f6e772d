-- Laws of `decimal`: the last digit stands behind those of a tenth, and there are twenty at most.
-- Assumes nothing.
use Prim.Native.Nat.{ℕ, zero, suc, ◌+◌, ◌/◌, ◌%◌, ◌^◌, ◌≤◌, ◌<◌}
use mathlib.Core.Path.{◌≡◌, sym, ap, ap₂, ◌∙◌}
use mathlib.Core.List.{List, [], ◌∷◌, ◌++◌}
use mathlib.Core.Logic.{⊎_elim}
use native.Mathlib.Nat.{pow-suc}
use native.Mathlib.Omega.{arith}
use lib.ListN.{length, set, length-append}
use lib.Seq.{sets}
use borrow.Author.Tests.{lt-ltb, le-ltb}
use Rattle.field.proofs.Cases.{below?}
use Rattle.trace.proofs.Stores.{sets_append}
use Rattle.program.specs.Text.{digits_in, decimal}

digits_one : (k v : ℕ) → v < 10 → digits_in (suc k) v ≡ (48 + v) ∷ []
unfolding digits_in
digits_one k v h = rw (lt-ltb v 10 h)

digits_more : (k v : ℕ) → 10 ≤ v → digits_in (suc k) v ≡ digits_in k (v / 10) ++ ((48 + v % 10) ∷ [])
unfolding digits_in
digits_more k v h = rw (le-ltb v 10 h)

-- digits enough are as good as more
enough : (k v : ℕ) → v < 10 ^ suc k → digits_in (suc (suc k)) v ≡ digits_in (suc k) v
enough zero v h = let l : v < 10 = h in digits_one 1 v l ∙ sym (digits_one 0 v l)
enough (suc k) v h =
    ⊎_elim
    (λ l. digits_one (suc (suc k)) v l ∙ sym (digits_one (suc k) v l))
    (λ l.
    digits_more (suc (suc k)) v l
    ∙ ap (λ (ds : List ℕ). ds ++ ((48 + v % 10) ∷ [])) (enough k (v / 10) (omega (arith, pow-suc 10 (suc k))))
    ∙ sym (digits_more (suc k) v l))
    (below? v 10)

digits-length : (k v : ℕ) → length (digits_in k v) ≤ k
unfolding digits_in
digits-length zero v = omega arith
digits-length (suc k) v =
    ⊎_elim
    (λ l. omega (arith, ap length (digits_one k v l)))
    (λ l.
    omega (
      arith,
      ap length (digits_more k v l),
      length-append (digits_in k (v / 10)) ((48 + v % 10) ∷ []),
      digits-length k (v / 10),
    ))
    (below? v 10)

pub decimal_one : (v : ℕ) → v < 10 → decimal v ≡ (48 + v) ∷ []
unfolding decimal
decimal_one v h = digits_one 19 v h

pub decimal_more : (v : ℕ) → 10 ≤ v → v < 2 ^ 64 → decimal v ≡ decimal (v / 10) ++ ((48 + v % 10) ∷ [])
unfolding decimal
decimal_more v h f =
    digits_more 19 v h
    ∙ ap (λ (ds : List ℕ). ds ++ ((48 + v % 10) ∷ [])) (sym (enough 18 (v / 10) (omega arith)))

pub decimal-length : (v : ℕ) → length (decimal v) ≤ 20
unfolding decimal
decimal-length v = digits-length 20 v

-- a number of one digit, and of more, put into bytes
pub one_length : (v : ℕ) → v < 10 → length (decimal v) ≡ 1
one_length v h = ap length (decimal_one v h)

pub one_put : (v : ℕ) (out : List ℕ) (at : ℕ) → v < 10 → set out at (48 + v) ≡ sets out at (decimal v)
one_put v out at h = ap (sets out at) (sym (decimal_one v h))

pub more_length : (v : ℕ) → 10 ≤ v → v < 2 ^ 64 → length (decimal v) ≡ length (decimal (v / 10)) + 1
more_length v h f = ap length (decimal_more v h f) ∙ length-append (decimal (v / 10)) ((48 + v % 10) ∷ [])

pub more_put : (v at last : ℕ) (out mid : List ℕ) → last ≡ at + length (decimal (v / 10)) → mid ≡ sets out at (decimal (v / 10)) → 10 ≤ v → v < 2 ^ 64
    → set mid last (48 + v % 10) ≡ sets out at (decimal v)
more_put v at last out mid e q h f =
    ap₂ (λ (l : List ℕ) (k : ℕ). set l k (48 + v % 10)) q e
    ∙ sets_append (decimal (v / 10)) ((48 + v % 10) ∷ []) out at
    ∙ ap (sets out at) (sym (decimal_more v h f))
