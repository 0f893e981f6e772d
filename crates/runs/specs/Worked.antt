-- Cases of the run list, worked out from the definitions.
-- Assumes nothing.
use Rattle.std.specs.Prelude.{◌≡◌, refl, List, [], ◌∷◌, ◌++◌, map, ℕ, zero, suc, ◌+◌, replicate}
use Rattle.refusal.specs.Told.{Told, accepted, refused}
use Rattle.trace.specs.Counts.{of_counts}
use Rattle.runs.specs.declared.Entry.{Entry}
use Rattle.runs.specs.declared.Ace.{Ace}
use Rattle.runs.specs.Entries.{in_order, total, rows_before, has_clock, insert}
use Rattle.runs.specs.Calls.{sound_list, total_answer, first_row_answer, add_answer, list_after, added_all}

abbrev pub run : ℕ → ℕ → ℕ → Entry
run clk num-read num-eval = record { clk = clk; num_read = num-read; num_eval = num-eval }

-- what stands past the length: clocks that do not rise, and counts that opening refuses
abbrev pub unread : ℕ → List Entry
unread n = replicate n (run 9 0 0)

abbrev pub list : List Entry → ℕ → Ace
list es n = record { entries = es; len = n }

abbrev pub empty : Ace
empty = list (unread 32) 0

-- the total of an empty list, and the first row of any clock in it
pub of_empty : (clock : ℕ) → ◌≡◌ {A = List Told} (total_answer empty ∷ first_row_answer empty clock ∷ []) (accepted (0 ∷ []) ∷ refused 26 0 ∷ [])
unfolding total_answer first_row_answer sound_list in_order total has_clock
of_empty clock = refl

-- both sides of 32768 wires
pub counts_edge : add_answer empty (run 1 16383 2) ∷ add_answer empty (run 1 16383 3) ∷ [] ≡ accepted [] ∷ refused 1 0 ∷ []
unfolding add_answer sound_list in_order of_counts
counts_edge = refl

-- three runs, added out of order
abbrev pub three : Ace
three = list (run 3 2 8 ∷ run 5 3 4 ∷ run 7 1 4 ∷ unread 29) 3

pub out_of_order : added_all (run 7 1 4 ∷ run 3 2 8 ∷ run 5 3 4 ∷ []) empty ≡ three
unfolding added_all add_answer sound_list in_order has_clock insert of_counts
out_of_order = refl

pub rows_of_three :
    total_answer three ∷ first_row_answer three 3 ∷ first_row_answer three 5 ∷ first_row_answer three 7 ∷ first_row_answer three 4 ∷ first_row_answer three 9 ∷ []
    ≡ accepted (22 ∷ []) ∷ accepted (0 ∷ []) ∷ accepted (10 ∷ []) ∷ accepted (17 ∷ []) ∷ refused 26 0 ∷ refused 26 0 ∷ []
unfolding total_answer first_row_answer sound_list in_order total rows_before has_clock of_counts
rows_of_three = refl

-- the middle one replaced
pub replaced_in_three : list_after three (run 5 1 1) ≡ list (run 3 2 8 ∷ run 5 1 1 ∷ run 7 1 4 ∷ unread 29) 3
unfolding add_answer sound_list in_order has_clock insert of_counts
replaced_in_three = refl

-- runs of clocks 10, 20, ..
abbrev pub tens : ℕ → ℕ → List Entry
tens zero clock = []
tens (suc n) clock = run clock 1 1 ∷ tens n (clock + 10)

abbrev pub full : Ace
full = list (tens 32 10) 32

-- a full list: another clock is refused, and counts come before that; an equal clock is taken
pub adding_to_full :
    add_answer full (run 15 1 1) ∷ add_answer full (run 330 1 1) ∷ add_answer full (run 15 16384 1) ∷ add_answer full (run 15 0 1) ∷ add_answer full (run 15 1 0)
    ∷ add_answer full (run 320 2 3) ∷ []
    ≡ refused 25 0 ∷ refused 25 0 ∷ refused 1 0 ∷ refused 2 0 ∷ refused 3 0 ∷ accepted [] ∷ []
unfolding add_answer sound_list in_order has_clock of_counts
adding_to_full = refl

pub rows_of_full :
    total_answer full ∷ first_row_answer full 10 ∷ first_row_answer full 320 ∷ total_answer (list_after full (run 320 2 3)) ∷ first_row_answer (list_after full (run 10 2 3)) 320 ∷ []
    ≡ accepted (64 ∷ []) ∷ accepted (0 ∷ []) ∷ accepted (62 ∷ []) ∷ accepted (67 ∷ []) ∷ accepted (65 ∷ []) ∷ []
unfolding total_answer first_row_answer add_answer sound_list in_order total rows_before has_clock insert of_counts
rows_of_full = refl

pub replaced_in_full : list_after full (run 320 2 3) ≡ list (tens 31 10 ++ (run 320 2 3 ∷ [])) 32
unfolding add_answer sound_list in_order has_clock insert of_counts
replaced_in_full = refl

pub full_stays : list_after full (run 15 1 1) ≡ full
unfolding add_answer sound_list in_order has_clock of_counts
full_stays = refl

-- the 32nd run, before all others: the entry past the length is overwritten
pub last_place : list_after (list (tens 31 10 ++ unread 1) 31) (run 5 1 1) ≡ list (run 5 1 1 ∷ tens 31 10) 32
unfolding add_answer sound_list in_order has_clock insert of_counts
last_place = refl

-- equal clocks, falling clocks, counts that opening refuses, and a length of 33
abbrev pub unsound : List Ace
unsound =
    list (run 4 1 1 ∷ run 4 1 1 ∷ unread 30) 2
    ∷ list (run 5 1 1 ∷ run 4 1 1 ∷ unread 30) 2
    ∷ list (run 4 1 1 ∷ unread 31) 2
    ∷ list (tens 32 10) 33
    ∷ []

pub thirteen :
    map total_answer unsound ++ map (λ (a : Ace). first_row_answer a 4) unsound ++ map (λ (a : Ace). add_answer a (run 4 0 0)) unsound
    ≡ replicate 12 (refused 13 0)
unfolding total_answer first_row_answer add_answer sound_list in_order of_counts
thirteen = refl

-- each of them is sound at a length of 1
pub cut_short : map (λ (a : Ace). total_answer (list a.entries 1)) unsound ≡ replicate 4 (accepted (2 ∷ []))
unfolding total_answer sound_list in_order total of_counts
cut_short = refl

-- the largest clock, and clock 0
pub largest_clock : added_all (run 4294967295 1 1 ∷ run 0 1 1 ∷ []) empty ≡ list (run 0 1 1 ∷ run 4294967295 1 1 ∷ unread 30) 2
unfolding added_all add_answer sound_list in_order has_clock insert of_counts
largest_clock = refl
