-- Runs by clock, ascending: the entries of a run list that are in use.
-- Assumes nothing.
use Rattle.std.specs.Prelude.{ℕ, suc, ◌+◌, Bool, true, false, cond, ◌&&◌, ◌||◌, List, [], ◌∷◌, ltb, leb, eqb}
use Rattle.refusal.specs.Told.{accepted}
use Rattle.trace.specs.Counts.{most_wires, of_counts}
use Rattle.trace.specs.State.{is_accepted}
use Rattle.runs.specs.declared.Entry.{Entry}

-- rows: "num_read + num_eval a run"
abbrev pub rows_of : Entry → ℕ
rows_of e = e.num_read + e.num_eval

-- counts that opening accepts
abbrev pub opens : Entry → Bool
opens e = is_accepted (of_counts most_wires e.num_read e.num_eval (accepted []))

-- clocks that rise, from a least one on, and counts that opening accepts
unfoldable pub in_order : ℕ → List Entry → Bool
in_order least [] = true
in_order least (e ∷ es) = leb least e.clk && (opens e && in_order (suc e.clk) es)

-- "the total of rows"
unfoldable pub total : List Entry → ℕ
total [] = 0
total (e ∷ es) = rows_of e + total es

-- "the first row of a clock, the sum of rows of smaller clocks"
unfoldable pub rows_before : ℕ → List Entry → ℕ
rows_before clock [] = 0
rows_before clock (e ∷ es) = cond (ltb e.clk clock) (rows_of e) 0 + rows_before clock es

-- whether a clock is among them
unfoldable pub has_clock : ℕ → List Entry → Bool
has_clock clock [] = false
has_clock clock (e ∷ es) = eqb e.clk clock || has_clock clock es

-- an entry in its place: "adding an equal clock replaces that entry"
unfoldable pub insert : Entry → List Entry → List Entry
insert e [] = e ∷ []
insert e (x ∷ xs) =
    cond (ltb x.clk e.clk) (x ∷ insert e xs)
    (cond (eqb x.clk e.clk) (e ∷ xs) (e ∷ x ∷ xs))
