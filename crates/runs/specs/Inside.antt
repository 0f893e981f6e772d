-- What the private functions promise each other. No public contract cites this file.
-- Assumes nothing.
use Rattle.std.specs.Prelude.{ℕ, suc, ◌+◌, cond, List, [], ◌∷◌, ◌++◌, ltb, take, drop, Result, Ok, Err}
use Rattle.runs.specs.Entries.{has_clock}
use Rattle.runs.specs.declared.Entry.{Entry}
use Rattle.runs.specs.declared.Ace.{Ace}

-- how many entries have a smaller clock, up to the first that has not
unfoldable pub place_of : ℕ → List Entry → ℕ
place_of clock [] = 0
place_of clock (e ∷ es) = cond (ltb e.clk clock) (suc (place_of clock es)) 0

abbrev pub no_entry : Entry
no_entry = record { clk = 0; num_read = 0; num_eval = 0 }

-- the place of a clock that is there, or the one that it would have
abbrev pub place_answer : ℕ → List Entry → Result ℕ ℕ
place_answer clock es = cond (has_clock clock es) (Ok (place_of clock es)) (Err (place_of clock es))

-- an entry put before the one at a place
abbrev pub opened : List Entry → ℕ → Entry → List Entry
opened es at e = take at es ++ (e ∷ drop at es)

abbrev pub opened_at : Ace → ℕ → Entry → Ace
opened_at a at e = record {
  entries = take (a.len + 1) (opened a.entries at e) ++ drop (a.len + 1) a.entries;
  len = a.len + 1;
}
