-- Text of numbers: decimal, in lines of so many.
-- Assumes nothing.
use Rattle.std.specs.Prelude.{ℕ, zero, suc, ◌+◌, ◌-◌, ◌/◌, ◌%◌, cond, List, [], ◌∷◌, ◌++◌, ltb, eqb, length, get_or}
use Rattle.field.specs.Lists.{each}

-- a number's digits, highest first; k at most
unfoldable pub digits_in : ℕ → ℕ → List ℕ
digits_in zero v = []
digits_in (suc k) v = cond (ltb v 10) ((48 + v) ∷ []) (digits_in k (v / 10) ++ ((48 + v % 10) ∷ []))

-- a number of 64 bits has twenty digits at most
unfoldable pub decimal : ℕ → List ℕ
decimal v = digits_in 20 v

-- behind each number stands a space, and behind the last of a line a newline
abbrev pub behind : ℕ → ℕ → ℕ
behind width k = cond (eqb (k % width) (width - 1)) 10 32

abbrev pub part : ℕ → List ℕ → ℕ → List ℕ
part width xs k = decimal (get_or xs k 0) ++ (behind width k ∷ [])

-- the numbers in lines of so many
abbrev pub lines : ℕ → List ℕ → List ℕ
lines width xs = each (part width xs) (length xs)
