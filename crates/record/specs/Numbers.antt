-- The numbers that stand in bytes, one after the other.
-- Assumes nothing.
use Rattle.std.specs.Prelude.{ℕ, Result, zero, suc, List, [], ◌∷◌}
use Rattle.refusal.specs.Told.{Told, accepted, refused, or_else}
use Rattle.refusal.specs.Refusal.{told}
use Rattle.refusal.specs.declared.Refusal.{Refusal}
use Rattle.numbers.specs.Answer.{read_answer, read_below_answer}

-- the number that an answer gives, and the place after it; 0 and the number's own place where it gives none
abbrev pub number_told : Told → ℕ
number_told (accepted []) = 0
number_told (accepted (v ∷ vs)) = v
number_told (refused number place) = 0

abbrev pub next_told : ℕ → Told → ℕ
next_told at (accepted []) = at
next_told at (accepted (v ∷ [])) = at
next_told at (accepted (v ∷ next ∷ vs)) = next
next_told at (refused number place) = at

-- the number that starts at a place, and the place after it
unfoldable pub number_at : List ℕ → ℕ → ℕ
number_at s at = number_told (read_answer s at)

unfoldable pub next_at : List ℕ → ℕ → ℕ
next_at s at = next_told at (read_answer s at)

-- the place after n numbers
unfoldable pub after : ℕ → List ℕ → ℕ → ℕ
after zero s at = at
after (suc n) s at = after n s (next_at s at)

-- the n numbers from a place on
unfoldable pub numbers_from : ℕ → List ℕ → ℕ → List ℕ
numbers_from zero s at = []
numbers_from (suc n) s at = number_at s at ∷ numbers_from n s (next_at s at)

-- the place after numbers that were looked at, told as in an answer that has a number before the place
abbrev pub left_off_told : Result ℕ Refusal → Told
left_off_told = told (λ at. 0 ∷ at ∷ [])

-- the first refusal of n numbers below a bound; else the place after them
unfoldable pub numbers_answer : ℕ → ℕ → List ℕ → ℕ → Told
numbers_answer bound zero s at = accepted (0 ∷ at ∷ [])
numbers_answer bound (suc n) s at = or_else (read_below_answer bound s at) (numbers_answer bound n s (next_at s at))
