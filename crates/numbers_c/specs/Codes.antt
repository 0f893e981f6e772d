-- What goes where the place is asked, for callers to whom an answer goes in numbers.
-- Assumes nothing.
use Rattle.std.specs.Prelude.{ℕ, get_or}
use Rattle.refusal.specs.Told.{Told, accepted, refused}

-- the place after the number, which stands behind k other values; or the refusal's place
abbrev pub place_after : ℕ → Told → ℕ
place_after k (accepted vs) = get_or vs k 0
place_after k (refused number place) = place
