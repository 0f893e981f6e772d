-- Pairs: c0 + c1 X, with X X = 7.
-- Assumes nothing.
use Rattle.std.specs.Prelude.{ℕ, ◌+◌, ◌*◌, ◌%◌, ◌<◌, List, [], ◌∷◌}
use Rattle.field.specs.Field.{p, add_f, sub_f}

pub record Pair : Type 0 where
  pub c0 : ℕ
  pub c1 : ℕ

abbrev pub pair : ℕ → ℕ → Pair
pair a b = record { c0 = a; c1 = b }

-- a pair of elements
pub record Elements (a : Pair) : Type 0 where
  pub low : a.c0 < p
  pub high : a.c1 < p

-- the two cells that hold a pair
abbrev pub cells : Pair → List ℕ
cells a = a.c0 ∷ a.c1 ∷ []

-- the square of X
abbrev pub square : ℕ
square = 7

abbrev pub add_pair : Pair → Pair → Pair
add_pair a b = pair (add_f a.c0 b.c0) (add_f a.c1 b.c1)

abbrev pub sub_pair : Pair → Pair → Pair
sub_pair a b = pair (sub_f a.c0 b.c0) (sub_f a.c1 b.c1)

abbrev pub mul_pair : Pair → Pair → Pair
mul_pair a b = pair ((a.c0 * b.c0 + square * (a.c1 * b.c1)) % p) ((a.c0 * b.c1 + a.c1 * b.c0) % p)
