-- The words of a text, and the numbers that words of decimal digits are.
-- Assumes nothing.
use Rattle.std.specs.Prelude.{ℕ, ◌+◌, ◌-◌, ◌*◌, Bool, true, cond, ◌&&◌, ◌||◌, List, [], ◌∷◌, leb, eqb}

-- a space, or a newline
unfoldable pub parting : ℕ → Bool
parting c = eqb c 32 || eqb c 10

abbrev pub joined : ℕ → List (List ℕ) → List (List ℕ)
joined c [] = []
joined c (w ∷ ws) = (c ∷ w) ∷ ws

-- what stands before, between and behind the spaces and newlines of a text
unfoldable pub pieces : List ℕ → List (List ℕ)
pieces [] = [] ∷ []
pieces (c ∷ s) = cond (parting c) ([] ∷ pieces s) (joined c (pieces s))

-- those that are not empty
unfoldable pub filled : List (List ℕ) → List (List ℕ)
filled [] = []
filled ([] ∷ ws) = filled ws
filled ((c ∷ w) ∷ ws) = (c ∷ w) ∷ filled ws

unfoldable pub words_of : List ℕ → List (List ℕ)
words_of s = filled (pieces s)

-- 48 to 57 are the digits 0 to 9
unfoldable pub digit : ℕ → Bool
digit c = leb 48 c && leb c 57

unfoldable pub digits : List ℕ → Bool
digits [] = true
digits (c ∷ w) = digit c && digits w

-- the number whose digits are those of v and then w's
unfoldable pub value_after : ℕ → List ℕ → ℕ
value_after v [] = v
value_after v (c ∷ w) = value_after (v * 10 + (c - 48)) w

abbrev pub value_of : List ℕ → ℕ
value_of w = value_after 0 w

unfoldable pub numbers_of : List (List ℕ) → List ℕ
numbers_of [] = []
numbers_of (w ∷ ws) = value_of w ∷ numbers_of ws
