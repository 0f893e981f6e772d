-- The run list's calls: for every list and every argument the answer, and the whole list after it.
-- Assumes nothing.
use Rattle.std.specs.Prelude.{Result, ℕ, Bool, cond, ◌&&◌, ◌||◌, List, [], ◌∷◌, ◌++◌, ltb, leb, length, take, drop}
use Rattle.refusal.specs.Told.{Told, accepted, refused}
use Rattle.refusal.specs.Refusal.{told, number_alone, nothing}
use Rattle.refusal.specs.declared.Refusal.{Refusal}
use Rattle.trace.specs.Counts.{most_wires, of_counts}
use Rattle.trace.specs.State.{in_turn}
use Rattle.runs.specs.declared.Entry.{Entry}
use Rattle.runs.specs.declared.Ace.{Ace}
use Rattle.runs.specs.Entries.{in_order, total, rows_before, has_clock, insert}

-- "at most 32 entries"
abbrev pub most_runs : ℕ
most_runs = 32

-- the entries in use
abbrev pub used : Ace → List Entry
used a = take a.len a.entries

-- "length over 32, clocks not rising, counts that opening refuses; entries past the length aren't looked at", or not
unfoldable pub sound_list : Ace → Bool
sound_list a = leb a.len most_runs && in_order 0 (used a)

-- each case of an answer, by number, place and values
abbrev pub rows_told : Result ℕ Refusal → Told
rows_told = told number_alone

abbrev pub add_told : Result Unit Refusal → Told
add_told = told nothing

-- "every call refuses 13 first"
unfoldable pub total_answer : Ace → Told
total_answer a = in_turn (sound_list a) (accepted (total (used a) ∷ []))

-- "the first row of a clock, the sum of rows of smaller clocks; or 26"
unfoldable pub first_row_answer : Ace → ℕ → Told
first_row_answer a clock =
    in_turn (sound_list a)
    (cond (has_clock clock (used a)) (accepted (rows_before clock (used a) ∷ [])) (refused 26 0))

-- "adding: then 1, 2, 3 as for opening, 25 (32 other clocks)"
unfoldable pub add_answer : Ace → Entry → Told
add_answer a e =
    in_turn (sound_list a)
    (of_counts most_wires e.num_read e.num_eval
    (cond (ltb a.len most_runs || has_clock e.clk (used a)) (accepted []) (refused 25 0)))

-- entries in use, and those past them as they were
abbrev pub with_used : Ace → List Entry → Ace
with_used a es = record { entries = es ++ drop (length es) a.entries; len = length es }

-- "a refusal leaves the list"
abbrev pub added_to : Told → Ace → Entry → Ace
added_to (accepted vs) a e = with_used a (insert e (used a))
added_to (refused number place) a e = a

abbrev pub list_after : Ace → Entry → Ace
list_after a e = added_to (add_answer a e) a e

-- runs added one after the other, whatever each answers
unfoldable pub added_all : List Entry → Ace → Ace
added_all [] a = a
added_all (e ∷ es) a = added_all es (list_after a e)
