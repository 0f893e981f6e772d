-- What the public calls answer, for every argument.
-- Assumes nothing.
use Rattle.std.specs.Prelude.{ℕ, cond, List, [], ◌∷◌, Result, length, nat_lt, slice_index}
use Rattle.refusal.specs.Told.{Told, accepted, refused}
use Rattle.refusal.specs.Refusal.{told, number_alone}
use Rattle.refusal.specs.declared.Refusal.{Refusal}
use Rattle.field.specs.Field.{first_over}
use Rattle.field.specs.Pair.{Pair, pair, cells}

-- an array of two cells as a pair
abbrev pub pair_of : List ℕ → Pair
pair_of a = pair (slice_index a 0) (slice_index a 1)

-- each case of an answer, by number, place and values
abbrev pub felt_told : Result ℕ Refusal → Told
felt_told = told number_alone

abbrev pub quad_told : Result (List ℕ) Refusal → Told
quad_told = told (λ a. a)

-- t where each of the numbers xs is an element; else 7 with the place of the first that is none
unfoldable pub of_elements : List ℕ → Told → Told
of_elements xs t = cond (nat_lt (first_over xs) (length xs)) (refused 7 (first_over xs)) t

-- of two elements, what f makes of them
abbrev pub felt_answer : (ℕ → ℕ → ℕ) → ℕ → ℕ → Told
felt_answer f a b = of_elements (a ∷ b ∷ []) (accepted (f a b ∷ []))

-- the cells of two pairs, in the order in which they are handed in
abbrev pub cells_of : List ℕ → List ℕ → List ℕ
cells_of a b = slice_index a 0 ∷ slice_index a 1 ∷ slice_index b 0 ∷ slice_index b 1 ∷ []

-- of two pairs, what f makes of them
abbrev pub quad_answer : (Pair → Pair → Pair) → List ℕ → List ℕ → Told
quad_answer f a b = of_elements (cells_of a b) (accepted (cells (f (pair_of a) (pair_of b))))
