-- The calls' ways: what the private functions give is what the definitions say.
-- Assumes nothing.
use mathlib.Core.Path.{◌≡◌, refl, sym, ap, ◌∙◌}
use mathlib.Core.Bool.{Bool, true, false}
use mathlib.Core.List.{List, ◌++◌}
use Rattle.std.specs.Prelude.{Ok, Err}
use Prim.Native.Nat.{ℕ, suc, ◌+◌, ◌≤◌, ◌<◌}
use native.Mathlib.Numerals.{add-one}
use native.Mathlib.Omega.{arith}
use lib.Dec.{ltb}
use lib.ListN.{length, set, take, drop, length-set}
use lib.Seq.{length-take-le, take-take}
use borrow.Author.Tests.{ltb-true, leb-true}
use Rattle.trace.proofs.Choices.{both}
use Rattle.runs.specs.declared.Entry.{Entry}
use Rattle.runs.specs.declared.Ace.{Ace}
use Rattle.runs.specs.Entries.{in_order, total, rows_before, has_clock, insert}
use Rattle.runs.specs.Calls.{most_runs, used, sound_list, with_used}
use Rattle.runs.specs.Inside.{place_of, place_answer, opened, opened_at}
use Rattle.runs.proofs.Scans.{list_of}
use Rattle.runs.proofs.Places.{found, found_has, before_place, insert_found, insert_new, place_within}
use Rattle.runs.proofs.Opened.{opened-length, opened-used, set-used}

-- a sound list
pub record Sound (a : Ace) : Type 0 where
  pub few : a.len ≤ most_runs
  pub order : in_order 0 (used a) ≡ true

pub sound_of : (a : Ace) → sound_list a ≡ true → Sound a
unfolding sound_list
sound_of a q = let b = both _ _ q in record { few = leb-true _ _ b.0; order = b.1 }

pub used-length : (a : Ace) → length a.entries ≡ 32 → a.len ≤ most_runs → length (used a) ≡ a.len
used-length a l h = length-take-le a.len a.entries (omega arith)

-- what a search says of a clock
pub told_there : (es : List Entry) (clock at : ℕ) → Ok at ≡ place_answer clock es → (has_clock clock es ≡ true) × (at ≡ place_of clock es)
told_there es clock at q = by_case (has_clock clock es) refl
  where
    by_case : (b : Bool) → has_clock clock es ≡ b → (has_clock clock es ≡ true) × (at ≡ place_of clock es)
    by_case true h = let t : Ok at ≡ Ok (place_of clock es) = rw h at q in (h, cc)
    by_case false h = let t : Ok at ≡ Err (place_of clock es) = rw h at q in cc

pub told_lacking : (es : List Entry) (clock at : ℕ) → Err at ≡ place_answer clock es → (has_clock clock es ≡ false) × (at ≡ place_of clock es)
told_lacking es clock at q = by_case (has_clock clock es) refl
  where
    by_case : (b : Bool) → has_clock clock es ≡ b → (has_clock clock es ≡ false) × (at ≡ place_of clock es)
    by_case false h = let t : Err at ≡ Err (place_of clock es) = rw h at q in (h, cc)
    by_case true h = let t : Err at ≡ Ok (place_of clock es) = rw h at q in cc

place_few : (a : Ace) (clock : ℕ) → length a.entries ≡ 32 → Sound a → place_of clock (used a) ≤ a.len
place_few a clock l s = let z = used-length a l s.few in let w = place_within clock (used a) in omega arith

-- the clock is there exactly where the entry at its place has it
at_place : (a : Ace) (clock : ℕ) (b : Bool) → Sound a → has_clock clock (used a) ≡ b → found (used a) (place_of clock (used a)) clock ≡ b
at_place a clock b s h = sym (found_has (used a) 0 clock s.order) ∙ h

there_few : (a : Ace) (clock at : ℕ) → at ≡ place_of clock (used a) → length a.entries ≡ 32 → Sound a → has_clock clock (used a) ≡ true → at < a.len
there_few a clock at p l s h =
    let k = ltb-true _ _ (both (ltb (place_of clock (used a)) (length (used a))) _ (at_place a clock true s h)).0 in
    let z = used-length a l s.few in
    omega arith

pub there_low : (a : Ace) (clock at : ℕ) → length a.entries ≡ 32 → Sound a → Ok at ≡ place_answer clock (used a) → at < most_runs
there_low a clock at l s q =
    let there = told_there (used a) clock at q in
    let k = there_few a clock at there.1 l s there.0 in
    let h = s.few in
    omega arith

-- the same of a place that was found
pub place_most : (a : Ace) (clock at : ℕ) → at ≡ place_of clock (used a) → length a.entries ≡ 32 → Sound a → at ≤ most_runs
place_most a clock at p l s = let h = s.few in let w = place_few a clock l s in omega arith

pub place_room : (a : Ace) (clock at : ℕ) → at ≡ place_of clock (used a) → length a.entries ≡ 32 → Sound a → (a.len ≡ most_runs → ⊥)
    → (at ≤ a.len) × (a.len < most_runs)
place_room a clock at p l s n = let h = s.few in let w = place_few a clock l s in (omega arith, omega arith)

pub total-before : (a : Ace) (clock : ℕ) → length a.entries ≡ 32 → Sound a
    → total (take (place_of clock (used a)) a.entries) ≡ rows_before clock (used a)
total-before a clock l s =
    ap total (sym (take-take (place_of clock (used a)) a.len a.entries (place_few a clock l s)))
    ∙ sym (before_place (used a) 0 clock s.order)

-- the list after a run is added
pub replaced_is : (a : Ace) (e : Entry) → length a.entries ≡ 32 → Sound a → has_clock e.clk (used a) ≡ true
    → list_of (set a.entries (place_of e.clk (used a)) e) a.len ≡ with_used a (insert e (used a))
replaced_is a e l s h =
    let at = place_of e.clk (used a) in
    let n : length (set (used a) at e) ≡ a.len = length-set (used a) at e ∙ used-length a l s.few in
    ap (λ (es : List Entry). list_of es a.len) (set-used a.entries at a.len e (there_few a e.clk at refl l s h))
    ∙ ap (λ (k : ℕ). list_of (set (used a) at e ++ drop k a.entries) k) (sym n)
    ∙ ap (with_used a) (sym (insert_found e (used a) (at_place a e.clk true s h)))

pub opened_is : (a : Ace) (e : Entry) → length a.entries ≡ 32 → Sound a → has_clock e.clk (used a) ≡ false
    → opened_at a (place_of e.clk (used a)) e ≡ with_used a (insert e (used a))
opened_is a e l s q =
    let at = place_of e.clk (used a) in
    let z = used-length a l s.few in
    let p = place_few a e.clk l s in
    let n : length (opened (used a) at e) ≡ a.len + 1 = opened-length (used a) at e (place_within e.clk (used a)) ∙ ap suc z ∙ sym (add-one a.len) in
    let h : a.len ≤ length a.entries = let i = s.few in omega arith in
    ap (λ (es : List Entry). list_of (es ++ drop (a.len + 1) a.entries) (a.len + 1))
    (ap (λ (k : ℕ). take k (opened a.entries at e)) (add-one a.len) ∙ opened-used a.entries at a.len e p h)
    ∙ ap (λ (k : ℕ). list_of (opened (used a) at e ++ drop k a.entries) k) (sym n)
    ∙ ap (with_used a) (sym (insert_new e (used a) (at_place a e.clk false s q)))
