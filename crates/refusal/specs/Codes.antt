-- The parts of an answer, for callers to whom it goes in numbers.
-- Assumes nothing.
use Rattle.std.specs.Prelude.{ℕ, List, take, slice_index}
use Rattle.refusal.specs.Told.{Told, accepted, refused}

-- 0, or the refusal's number
abbrev pub code : Told → ℕ
code (accepted vs) = 0
code (refused number place) = number

-- the refusal's place, and 0 where nothing is refused
abbrev pub place_told : Told → ℕ
place_told (accepted vs) = 0
place_told (refused number place) = place

-- the k-th of the values that are answered, from 0; a refusal leaves what was there
abbrev pub value_or : ℕ → ℕ → Told → ℕ
value_or k old (accepted vs) = slice_index vs k
value_or k old (refused number place) = old

-- the first n of them
abbrev pub values_or : ℕ → List ℕ → Told → List ℕ
values_or n old (accepted vs) = take n vs
values_or n old (refused number place) = old
