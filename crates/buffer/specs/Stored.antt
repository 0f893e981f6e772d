-- Cells stored in a buffer.
-- Assumes nothing.
use Rattle.std.specs.Prelude.{ℕ, ◌+◌, cond, List, leb, length}
use Rattle.std.proofs.lemmas.List.Edits.{sets}

-- all from a place on, or none where they do not fit
abbrev pub stored : List ℕ → ℕ → List ℕ → List ℕ
stored cells at buffer = cond (leb (at + length cells) (length buffer)) (sets buffer at cells) buffer
