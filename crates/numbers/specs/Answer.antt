-- What the public calls answer and leave, for every argument.
-- Assumes nothing.
use Rattle.std.specs.Prelude.{ℕ, Result, ◌+◌, cond, List, [], ◌∷◌, ltb, leb, length, drop}
use Rattle.std.proofs.lemmas.List.Edits.{sets}
use Rattle.refusal.specs.Told.{Told, accepted, refused}
use Rattle.refusal.specs.Refusal.{told, number_alone}
use Rattle.refusal.specs.declared.Refusal.{Refusal}
use Rattle.numbers.specs.Form.{bytes_of, width_of, Found, found, cut_off, not_shortest, find_from}

-- each case of an answer, by number, place and values
abbrev pub write_told : Result ℕ Refusal → Told
write_told = told number_alone

abbrev pub read_told : Result (ℕ × ℕ) Refusal → Told
read_told = told (λ number. number.0 ∷ number.1 ∷ [])

-- the place after v's bytes, where there is room for them all from at on; else 24
unfoldable pub write_answer : ℕ → List ℕ → ℕ → Told
write_answer v out at = cond (leb (at + width_of v) (length out)) (accepted ((at + width_of v) ∷ [])) (refused 24 0)

-- then they stand there, and all else is as it was; else nothing is written
unfoldable pub written : ℕ → List ℕ → ℕ → List ℕ
written v out at = cond (leb (at + width_of v) (length out)) (sets out at (bytes_of v)) out

-- what was found from at on: the number and the place after it; else 15 or 16, with the place where the number starts
abbrev pub found_at : ℕ → Found → Told
found_at at (found v n) = accepted (v ∷ (at + n) ∷ [])
found_at at cut_off = refused 15 at
found_at at not_shortest = refused 16 at

unfoldable pub read_answer : List ℕ → ℕ → Told
read_answer s at = found_at at (find_from 0 (drop at s))

-- a number that was read is answered where it is below the bound; else 17, with the place where it starts
abbrev pub within : ℕ → ℕ → Told → Told
within bound at (accepted []) = accepted []
within bound at (accepted (v ∷ vs)) = cond (ltb v bound) (accepted (v ∷ vs)) (refused 17 at)
within bound at (refused number place) = refused number place

unfoldable pub read_below_answer : ℕ → List ℕ → ℕ → Told
read_below_answer bound s at = within bound at (read_answer s at)
