-- The field: numbers below p, with sum, difference and product modulo p.
-- Assumes nothing.
use Rattle.std.specs.Prelude.{ℕ, suc, ◌+◌, ◌-◌, ◌*◌, ◌%◌, ◌^◌, cond, List, [], ◌∷◌, nat_lt}

abbrev pub p : ℕ
p = 2 ^ 64 - 2 ^ 32 + 1

abbrev pub add_f : ℕ → ℕ → ℕ
add_f a b = (a + b) % p

-- a less b, for b below p
abbrev pub sub_f : ℕ → ℕ → ℕ
sub_f a b = (a + (p - b)) % p

abbrev pub mul_f : ℕ → ℕ → ℕ
mul_f a b = a * b % p

-- the place, from 0, of the first number that is p or more; the length where there is none
unfoldable pub first_over : List ℕ → ℕ
first_over [] = 0
first_over (x ∷ xs) = cond (nat_lt x p) (suc (first_over xs)) 0
