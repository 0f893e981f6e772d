-- What a search by the clock finds among entries in order.
-- Assumes nothing.
use Rattle.std.proofs.Common.{◌≡◌, refl, sym, ap, ◌∙◌, ℕ, suc, zero, ◌≤◌, ◌<◌, List, [], ◌∷◌, true, false, length, get_or, arith, Result, Ok, Err, Less, Equal, Greater}
use Rattle.std.specs.Ordering.{nat_cmp, ordering_index}
use Rattle.std.proofs.lemmas.Cmp.{ranked}
use Rattle.std.proofs.lemmas.Bool.Decides.{nat_tests}
use mathlib.Core.Logic.{⊎_elim}
use lib.Dec.{ltb}
use borrow.Author.Tests.{lt-ltb, le-ltb, eq-eqb, ne_eqb}
use Rattle.field.proofs.Cases.{below?}
use Rattle.trace.proofs.Choices.{first_holds, first_fails, second_fails}
use Rattle.std.specs.List.Sorted.{IsBinarySearchResult, IsSearchInRange}
use Rattle.std.proofs.lemmas.List.{get_or_default}
use Rattle.runs.specs.declared.Entry.{Entry}
use Rattle.runs.specs.Entries.{in_order, has_clock}
use Rattle.runs.specs.Inside.{place_of, place_answer, no_entry}
use Rattle.runs.proofs.Places.{place_nil, place_later, place_here, found, found_has}
use Rattle.runs.proofs.Rising.{clocks_rise}

-- the place between the smaller clocks and the others
place_is : (es : List Entry) (clock at : ℕ) → at ≤ length es → ((k : ℕ) → k < at → (get_or es k no_entry).clk < clock)
    → (at < length es → clock ≤ (get_or es at no_entry).clk) → place_of clock es ≡ at
place_is [] clock at h below above = place_nil clock ∙ omega arith
place_is (e ∷ es) clock zero h below above = place_here clock e es (above (omega arith))
place_is (e ∷ es) clock (suc at) h below above =
    place_later clock e es (below 0 (omega arith))
    ∙ ap suc (place_is es clock at (omega arith) (λ k l. below (suc k) (omega arith)) (λ l. above (omega arith)))

pub search_told : (es : List Entry) (clock : ℕ) (r : Result ℕ ℕ) → in_order 0 es ≡ true → IsSearchInRange r (length es)
    → IsBinarySearchResult (λ (y : Entry). nat_cmp y.clk clock) es r → r ≡ place_answer clock es
search_told es clock (Ok at) q within there =
    let e = ranked _ clock Equal (sym (there no_entry)) in
    let p = place_is es clock at (omega arith) (λ k l. let r = clocks_rise es 0 k at q l within in omega arith) (λ l. omega arith) in
    let h : has_clock clock es ≡ true =
    found_has es 0 clock q ∙ ap (λ (k : ℕ). found es k clock) p ∙ first_holds (ltb at (length es)) _ (lt-ltb _ _ within) ∙ eq-eqb _ _ e in
    rw (h, p) refl
search_told es clock (Err at) q within parted =
    let sides = parted (λ i j d l k. higher _ _ clock (rises i j d l k)) in
    let above : (k : ℕ) → at ≤ k → k < length es → clock < (get_or es k no_entry).clk = λ k l m. ranked _ clock Greater (sym (sides.1 k no_entry l m)) in
    let p = place_is es clock at within (λ k l. ranked _ clock Less (sym (sides.0 k no_entry (omega arith) l))) (λ l. let z = above at (omega arith) l in omega arith) in
    let h : has_clock clock es ≡ false = found_has es 0 clock q ∙ ap (λ (k : ℕ). found es k clock) p ∙ not_found above in
    rw (h, p) refl
  where
    higher : (x y z : ℕ) → x ≤ y → ordering_index (nat_cmp x z) ≤ ordering_index (nat_cmp y z)
    higher x y z l = grind (arith, nat_tests)

    rises : (i j : ℕ) (d : Entry) → i ≤ j → j < length es → (get_or es i d).clk ≤ (get_or es j d).clk
    rises i j d l k =
        ⊎_elim
        (λ (m : i < j). rw (get_or_default es i d no_entry (omega arith), get_or_default es j d no_entry k) (let r = clocks_rise es 0 i j q m k in omega arith))
        (λ (m : j ≤ i). let e : i ≡ j = omega arith in rw e (omega arith))
        (below? i j)

    not_found : ((k : ℕ) → at ≤ k → k < length es → clock < (get_or es k no_entry).clk) → found es at clock ≡ false
    not_found above =
        ⊎_elim
        (λ (l : at < length es). let z = above at (omega arith) l in second_fails (ltb at (length es)) _ (ne_eqb _ _ (λ e. omega arith)))
        (λ (l : length es ≤ at). first_fails (ltb at (length es)) _ (le-ltb _ _ l))
        (below? at (length es))
