-- The ways through the calls, each with the answer that the definitions give.
-- Assumes nothing.
use mathlib.Core.Path.{◌≡◌, refl, sym, ap, ap₂, ◌∙◌}
use mathlib.Core.Bool.{Bool, true, false, cond, ◌||◌}
use mathlib.Core.List.{[], ◌∷◌}
use mathlib.Core.Logic.{◌⊎◌, inl, inr}
use Prim.Native.Nat.{ℕ, ◌≤◌}
use native.Mathlib.Omega.{arith}
use lib.Dec.{ltb, eqb}
use lib.ListN.{length, set, take}
use borrow.Author.Tests.{lt-ltb, le-ltb}
use Rattle.refusal.specs.Told.{Told, accepted, refused, or_else}
use Rattle.trace.specs.Counts.{most_wires, wires, of_counts}
use Rattle.trace.proofs.Choices.{either_holds, stopped_else}
use Rattle.runs.specs.declared.Entry.{Entry}
use Rattle.runs.specs.declared.Ace.{Ace}
use Rattle.runs.specs.Entries.{total, rows_before, has_clock, insert}
use Rattle.runs.specs.Calls.{most_runs, used, sound_list, total_answer, first_row_answer, add_answer, with_used, added_to, list_after}
use Rattle.runs.specs.Inside.{place_of, opened_at}
use Rattle.runs.proofs.Calls.{sound_of, total-before, replaced_is, opened_is}
use Rattle.runs.proofs.Scans.{list_of}

-- a choice that is known
chosen : (b : Bool) (t u : Told) → b ≡ true → cond b t u ≡ t
chosen b t u q = ap (λ (x : Bool). cond x t u) q

other : (b : Bool) (t u : Told) → b ≡ false → cond b t u ≡ u
other b t u q = ap (λ (x : Bool). cond x t u) q

-- the tests of the counts, and then what comes after them
counts_else : (most num-read num-eval : ℕ) (t : Told) → of_counts most num-read num-eval t ≡ or_else (of_counts most num-read num-eval (accepted [])) t
unfolding of_counts
counts_else most r e t =
    stopped_else (ltb most (wires r e)) 1 0 _ _ t
    (stopped_else (eqb r 0) 2 0 _ _ t
    (stopped_else (eqb e 0) 3 0 (accepted []) t t refl))

module _ (a : Ace) where
  -- the total
  pub total_refused : sound_list a ≡ false → refused 13 0 ≡ total_answer a
  unfolding total_answer
  total_refused q = sym (other (sound_list a) (accepted (total (used a) ∷ [])) (refused 13 0) q)

  pub total_given : (rows : ℕ) → sound_list a ≡ true → rows ≡ total (used a) → accepted (rows ∷ []) ≡ total_answer a
  unfolding total_answer
  total_given rows q e = ap (λ (n : ℕ). accepted (n ∷ [])) e ∙ sym (chosen (sound_list a) (accepted (total (used a) ∷ [])) (refused 13 0) q)

  -- the first row of a clock
  module _ (clock : ℕ) where
    abbrev asked : Told
    asked = cond (has_clock clock (used a)) (accepted (rows_before clock (used a) ∷ [])) (refused 26 0)

    pub row_refused : sound_list a ≡ false → refused 13 0 ≡ first_row_answer a clock
    unfolding first_row_answer
    row_refused q = sym (other (sound_list a) asked (refused 13 0) q)

    row-asked : sound_list a ≡ true → first_row_answer a clock ≡ asked
    unfolding first_row_answer
    row-asked q = chosen (sound_list a) asked (refused 13 0) q

    pub row_unknown : sound_list a ≡ true → has_clock clock (used a) ≡ false → refused 26 0 ≡ first_row_answer a clock
    row_unknown q h = sym (row-asked q ∙ other (has_clock clock (used a)) (accepted (rows_before clock (used a) ∷ [])) (refused 26 0) h)

    pub row_known : sound_list a ≡ true → has_clock clock (used a) ≡ true → accepted (rows_before clock (used a) ∷ []) ≡ first_row_answer a clock
    row_known q h = sym (row-asked q ∙ chosen (has_clock clock (used a)) (accepted (rows_before clock (used a) ∷ [])) (refused 26 0) h)

    pub row_given : (at rows : ℕ) → has_clock clock (used a) ≡ true → at ≡ place_of clock (used a) → rows ≡ total (take at a.entries) → length a.entries ≡ 32
        → sound_list a ≡ true → accepted (rows ∷ []) ≡ first_row_answer a clock
    row_given at rows y p t l q =
        ap (λ (n : ℕ). accepted (n ∷ [])) (t ∙ ap (λ (k : ℕ). total (take k a.entries)) p ∙ total-before a clock l (sound_of a q))
        ∙ row_known q y

  -- a run added
  module _ (e : Entry) where
    abbrev counted : Told
    counted = of_counts most_wires e.num_read e.num_eval (accepted [])

    abbrev roomed : Told
    roomed = cond (ltb a.len most_runs || has_clock e.clk (used a)) (accepted []) (refused 25 0)

    add-asked : sound_list a ≡ true → add_answer a e ≡ or_else counted roomed
    unfolding add_answer
    add-asked q = chosen (sound_list a) (of_counts most_wires e.num_read e.num_eval roomed) (refused 13 0) q ∙ counts_else most_wires e.num_read e.num_eval roomed

    pub add_refused : sound_list a ≡ false → refused 13 0 ≡ add_answer a e
    unfolding add_answer
    add_refused q = sym (other (sound_list a) (of_counts most_wires e.num_read e.num_eval roomed) (refused 13 0) q)

    pub add_counted : (number place : ℕ) → sound_list a ≡ true → refused number place ≡ counted → refused number place ≡ add_answer a e
    add_counted n k q r = ap (λ (t : Told). or_else t roomed) r ∙ sym (add-asked q)

    add-roomed : sound_list a ≡ true → accepted [] ≡ counted → roomed ≡ add_answer a e
    add-roomed q r = ap (λ (t : Told). or_else t roomed) r ∙ sym (add-asked q)

    pub add_full : sound_list a ≡ true → accepted [] ≡ counted → has_clock e.clk (used a) ≡ false → most_runs ≤ a.len → refused 25 0 ≡ add_answer a e
    add_full q r n h =
        sym (other (ltb a.len most_runs || has_clock e.clk (used a)) (accepted []) (refused 25 0) (ap₂ ◌||◌ (le-ltb a.len most_runs h) n))
        ∙ add-roomed q r

    pub add_taken : sound_list a ≡ true → accepted [] ≡ counted → (ltb a.len most_runs ≡ true) ⊎ (has_clock e.clk (used a) ≡ true) → accepted [] ≡ add_answer a e
    add_taken q r h =
        sym (chosen (ltb a.len most_runs || has_clock e.clk (used a)) (accepted []) (refused 25 0) (either_holds (ltb a.len most_runs) (has_clock e.clk (used a)) h))
        ∙ add-roomed q r

    -- and the list after it
    pub list_stays : (number place : ℕ) → refused number place ≡ add_answer a e → a ≡ list_after a e
    list_stays n k q = ap (λ (t : Told). added_to t a e) q

    list-grows : accepted [] ≡ add_answer a e → with_used a (insert e (used a)) ≡ list_after a e
    list-grows q = ap (λ (t : Told). added_to t a e) q

    module _ (at : ℕ) (p : at ≡ place_of e.clk (used a)) (l : length a.entries ≡ 32) (q : sound_list a ≡ true) (r : accepted [] ≡ counted) where
      pub taken_replaced : has_clock e.clk (used a) ≡ true → accepted [] ≡ add_answer a e
      taken_replaced y = add_taken q r (inr y)

      pub list-replaced : has_clock e.clk (used a) ≡ true → list_of (set a.entries at e) a.len ≡ list_after a e
      list-replaced y =
          ap (λ (k : ℕ). list_of (set a.entries k e) a.len) p
          ∙ replaced_is a e l (sound_of a q) y
          ∙ list-grows (taken_replaced y)

      pub full_refused : has_clock e.clk (used a) ≡ false → a.len ≡ most_runs → refused 25 0 ≡ add_answer a e
      full_refused y h = add_full q r y (omega arith)

      pub taken_opened : (a.len ≡ most_runs → ⊥) → accepted [] ≡ add_answer a e
      taken_opened n = let h = (sound_of a q).few in add_taken q r (inl (lt-ltb a.len most_runs (omega arith)))

      pub list-opened : has_clock e.clk (used a) ≡ false → (a.len ≡ most_runs → ⊥) → opened_at a at e ≡ list_after a e
      list-opened y n =
          ap (λ (k : ℕ). opened_at a k e) p
          ∙ opened_is a e l (sound_of a q) y
          ∙ list-grows (taken_opened n)
