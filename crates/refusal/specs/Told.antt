-- An answer in document 01's terms, whatever enum gives it.
-- Assumes nothing.
use Rattle.std.specs.Prelude.{ℕ, List}

-- `accepted` with the values that are answered; `refused` with the number and the place of the table "Numbers of refusal", where a place that it does not name is 0
pub data Told : Type 0 where
  accepted : List ℕ → Told
  refused : ℕ → ℕ → Told

-- the first refusal, or what comes after
abbrev pub or_else : Told → Told → Told
or_else (accepted vs) t = t
or_else (refused number place) t = refused number place

-- "a refusal changes nothing"
abbrev pub changed : Told → List ℕ → List ℕ → List ℕ
changed (accepted vs) new old = new
changed (refused number place) new old = old
