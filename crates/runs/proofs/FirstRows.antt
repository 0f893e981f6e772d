-- The first rows of a sound list's runs: each begins where the one before it ends.
-- Assumes nothing.
use mathlib.Core.Path.{◌≡◌, refl, sym, ap, ◌∙◌}
use mathlib.Core.Bool.{Bool, true, false}
use mathlib.Core.List.{List, [], ◌∷◌}
use Prim.Native.Nat.{ℕ, zero, suc, ◌+◌, ◌<◌}
use native.Mathlib.Numerals.{add-one}
use native.Mathlib.Omega.{arith}
use lib.ListN.{length, get_or, take}
use lib.Seq.{get_or-take}
use Rattle.refusal.specs.Told.{accepted, refused}
use Rattle.runs.specs.declared.Entry.{Entry}
use Rattle.runs.specs.declared.Ace.{Ace}
use Rattle.runs.specs.Entries.{rows_of, in_order, total, rows_before, has_clock}
use Rattle.runs.specs.Calls.{used, sound_list, total_answer, first_row_answer}
use Rattle.runs.specs.Inside.{place_of, no_entry}
use Rattle.runs.proofs.Orders.{first_of, total_nil}
use Rattle.runs.proofs.Places.{place_later, place_here}
use Rattle.runs.proofs.Scans.{entry_at, total_more}
use Rattle.runs.proofs.Calls.{sound_of, used-length, total-before}
use Rattle.runs.proofs.Ways.{total_given, row_known, row_unknown}
use Rattle.runs.proofs.Among.{InUse, is_among, in_use, has_among, among_has}
use Rattle.runs.proofs.Rising.{clocks_from}

-- the place of an entry's clock is the entry's own
place_own : (es : List Entry) (least i : ℕ) → in_order least es ≡ true → i < length es → place_of (get_or es i no_entry).clk es ≡ i
place_own [] least i q h = absurd (omega arith)
place_own (e ∷ es) least zero q h = place_here e.clk e es (omega arith)
place_own (e ∷ es) least (suc i) q h =
    let r = (first_of least e es q).rest in
    let k = clocks_from es (suc e.clk) i r (omega arith) in
    place_later (get_or es i no_entry).clk e es (omega arith) ∙ ap suc (place_own es (suc e.clk) i r (omega arith))

module _ (a : Ace) (l : length a.entries ≡ 32) (q : sound_list a ≡ true) where
  -- of the run at a place: the rows of the runs before it
  pub row_at : (i : ℕ) → i < a.len → rows_before (entry_at a i).clk (used a) ≡ total (take i a.entries)
  row_at i h =
      let s = sound_of a q in
      let z = used-length a l s.few in
      let p = ap (λ (e : Entry). place_of e.clk (used a)) (sym (get_or-take a.len a.entries i no_entry h)) ∙ place_own (used a) 0 i s.order (omega arith) in
      sym (total-before a (entry_at a i).clk l s) ∙ ap (λ (k : ℕ). total (take k a.entries)) p

  pub row_first : 0 < a.len → rows_before (entry_at a 0).clk (used a) ≡ 0
  row_first h = row_at 0 h ∙ total_nil

  pub row_next : (i : ℕ) → suc i < a.len → rows_before (entry_at a (suc i)).clk (used a) ≡ rows_before (entry_at a i).clk (used a) + rows_of (entry_at a i)
  row_next i h =
      let f = (sound_of a q).few in
      row_at (suc i) h
      ∙ ap (λ (k : ℕ). total (take k a.entries)) (sym (add-one i))
      ∙ sym (total_more a.entries i (rows_before (entry_at a i).clk (used a)) (row_at i (omega arith)) (omega arith))

  -- and the last one ends at the total
  pub row_last : (i : ℕ) → i + 1 ≡ a.len → rows_before (entry_at a i).clk (used a) + rows_of (entry_at a i) ≡ total (used a)
  row_last i h =
      let f = (sound_of a q).few in
      total_more a.entries i (rows_before (entry_at a i).clk (used a)) (row_at i (omega arith)) (omega arith)
      ∙ ap (λ (k : ℕ). total (take k a.entries)) h

  -- what the calls answer
  pub total_answer_lem : total_answer a ≡ accepted (total (used a) ∷ [])
  total_answer_lem = sym (total_given a (total (used a)) q refl)

  has-answer : (clock : ℕ) → has_clock clock (used a) ≡ true → first_row_answer a clock ≡ accepted (rows_before clock (used a) ∷ [])
  has-answer clock h = sym (row_known a clock q h)

  pub row_answer : (x : Entry) → InUse x a → first_row_answer a x.clk ≡ accepted (rows_before x.clk (used a) ∷ [])
  row_answer x m = has-answer x.clk (has_among (used a) x x.clk refl (is_among a x l (sound_of a q).few m))

  by-has : (b : Bool) (clock : ℕ) → has_clock clock (used a) ≡ b → ((x : Entry) → InUse x a → x.clk ≡ clock → ⊥) → first_row_answer a clock ≡ refused 26 0
  by-has true clock h n = let p = among_has (used a) clock h in absurd (n p.0 (in_use a p.0 l (sound_of a q).few p.1) p.2)
  by-has false clock h n = sym (row_unknown a clock q h)

  -- "or 26": exactly where no run in use has the clock
  pub row_none : (clock : ℕ) → ((x : Entry) → InUse x a → x.clk ≡ clock → ⊥) → first_row_answer a clock ≡ refused 26 0
  row_none clock n = by-has (has_clock clock (used a)) clock refl n
