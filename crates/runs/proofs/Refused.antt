-- Exactly when each call is refused, and with which number.
-- Assumes nothing.
use mathlib.Core.Path.{◌≡◌, refl, sym, ap}
use mathlib.Core.Bool.{Bool, true, false, cond, not, ◌||◌}
use mathlib.Core.List.{[], ◌∷◌}
use mathlib.Core.Logic.{inl, inr}
use Prim.Native.Nat.{ℕ, ◌<◌}
use native.Mathlib.Omega.{arith}
use lib.Dec.{ltb, eqb}
use borrow.Author.Tests.{lt-ltb, ltb-false}
use Rattle.refusal.specs.Told.{Told, accepted, refused}
use Rattle.trace.specs.Counts.{most_wires, wires, of_counts}
use Rattle.trace.specs.State.{in_turn}
use Rattle.trace.proofs.Tests.{told_accepted, counts_of, counts_pass}
use Rattle.runs.specs.declared.Entry.{Entry}
use Rattle.runs.specs.declared.Ace.{Ace}
use Rattle.runs.specs.Entries.{opens, total, rows_before, has_clock}
use Rattle.runs.specs.Calls.{most_runs, used, sound_list, total_answer, first_row_answer, add_answer}
use Rattle.runs.proofs.Calls.{sound_of}
use Rattle.runs.proofs.Ways.{add_counted, add_full, add_taken}

abbrev pub is_thirteen : Told → Bool
is_thirteen (accepted vs) = false
is_thirteen (refused number place) = eqb number 13

in_turn_lem : (b : Bool) (t : Told) → is_thirteen t ≡ false → is_thirteen (in_turn b t) ≡ not b
in_turn_lem true t e = e
in_turn_lem false t e = refl

stop : (b : Bool) (t u : Told) → is_thirteen t ≡ false → is_thirteen u ≡ false → is_thirteen (cond b t u) ≡ false
stop true t u e f = e
stop false t u e f = f

counts_stop : (num-read num-eval : ℕ) (t : Told) → is_thirteen t ≡ false → is_thirteen (of_counts most_wires num-read num-eval t) ≡ false
unfolding of_counts
counts_stop r e t h =
    stop (ltb most_wires (wires r e)) (refused 1 0) _ refl
    (stop (eqb r 0) (refused 2 0) _ refl
    (stop (eqb e 0) (refused 3 0) t refl h))

-- "every call refuses 13 first": exactly where the list is not sound
pub total-thirteen : (a : Ace) → is_thirteen (total_answer a) ≡ not (sound_list a)
unfolding total_answer
total-thirteen a = in_turn_lem (sound_list a) (accepted (total (used a) ∷ [])) refl

pub row-thirteen : (a : Ace) (clock : ℕ) → is_thirteen (first_row_answer a clock) ≡ not (sound_list a)
unfolding first_row_answer
row-thirteen a clock =
    in_turn_lem (sound_list a) _ (stop (has_clock clock (used a)) (accepted (rows_before clock (used a) ∷ [])) (refused 26 0) refl refl)

pub add_thirteen : (a : Ace) (e : Entry) → is_thirteen (add_answer a e) ≡ not (sound_list a)
unfolding add_answer
add_thirteen a e =
    in_turn_lem (sound_list a) _
    (counts_stop e.num_read e.num_eval _
    (stop (ltb a.len most_runs || has_clock e.clk (used a)) (accepted []) (refused 25 0) refl refl))

-- counts that opening accepts
counted_is : (e : Entry) → opens e ≡ true → accepted [] ≡ of_counts most_wires e.num_read e.num_eval (accepted [])
counted_is e o =
    let t = told_accepted (of_counts most_wires e.num_read e.num_eval (accepted [])) o in
    let c = (counts_of most_wires e.num_read e.num_eval (accepted []) t.0 t.1).0 in
    sym (counts_pass most_wires e.num_read e.num_eval (accepted []) c)

module _ (a : Ace) (e : Entry) (s : sound_list a ≡ true) where
  -- "adding: then 1, 2, 3 as for opening"
  pub counts_refused : (number place : ℕ) → of_counts most_wires e.num_read e.num_eval (accepted []) ≡ refused number place → add_answer a e ≡ refused number place
  counts_refused n k q = sym (add_counted a e n k s (sym q))

  module _ (o : opens e ≡ true) where
    -- "25 (32 other clocks)"
    pub full_refused : a.len ≡ most_runs → has_clock e.clk (used a) ≡ false → add_answer a e ≡ refused 25 0
    full_refused h n = sym (add_full a e s (counted_is e o) n (omega arith))

    -- "adding an equal clock replaces that entry, full or not"
    pub equal_taken : has_clock e.clk (used a) ≡ true → add_answer a e ≡ accepted []
    equal_taken h = sym (add_taken a e s (counted_is e o) (inr h))

    pub room_taken : a.len < most_runs → add_answer a e ≡ accepted []
    room_taken h = sym (add_taken a e s (counted_is e o) (inl (lt-ltb a.len most_runs h)))

-- the number of a refusal
abbrev number : Told → ℕ
number (accepted vs) = 0
number (refused n place) = n

counts_number : (b c d : Bool) (u : Told) → number (cond b (refused 1 0) (cond c (refused 2 0) (cond d (refused 3 0) u))) ≡ 25 → number u ≡ 25
counts_number true c d u q = absurd (omega arith)
counts_number false true d u q = absurd (omega arith)
counts_number false false true u q = absurd (omega arith)
counts_number false false false u q = q

counts_let : (num-read num-eval : ℕ) (t : Told) → number (of_counts most_wires num-read num-eval t) ≡ 25 → number t ≡ 25
unfolding of_counts
counts_let r e t q = counts_number (ltb most_wires (wires r e)) (eqb r 0) (eqb e 0) t q

turn_let : (b : Bool) (t : Told) → number (in_turn b t) ≡ 25 → (b ≡ true) × (number t ≡ 25)
turn_let true t q = (refl, q)
turn_let false t q = absurd (omega arith)

room_let : (b c : Bool) → number (cond (b || c) (accepted []) (refused 25 0)) ≡ 25 → (b ≡ false) × (c ≡ false)
room_let true c q = absurd (omega arith)
room_let false true q = absurd (omega arith)
room_let false false q = (refl, refl)

-- and 25 is given nowhere else
pub full_only : (a : Ace) (e : Entry) (place : ℕ) → add_answer a e ≡ refused 25 place → (a.len ≡ most_runs) × (has_clock e.clk (used a) ≡ false)
unfolding add_answer
full_only a e k q =
    let t = turn_let (sound_list a) _ (ap number q) in
    let f = (sound_of a t.0).few in
    let r = room_let (ltb a.len most_runs) (has_clock e.clk (used a)) (counts_let e.num_read e.num_eval _ t.1) in
    let g = ltb-false a.len most_runs r.0 in
    (omega arith, r.1)
