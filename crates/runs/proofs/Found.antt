-- An added run is found: its first row is the sum of the rows of the smaller clocks that were there.
-- Assumes nothing.
use mathlib.Core.Path.{◌≡◌, sym, ap, ◌∙◌}
use mathlib.Core.List.{List, [], ◌∷◌}
use mathlib.Core.Logic.{⊎_elim}
use Prim.Native.Nat.{ℕ, ◌<◌}
use native.Mathlib.Omega.{arith}
use lib.ListN.{length}
use Rattle.refusal.specs.Told.{accepted}
use Rattle.runs.specs.declared.Entry.{Entry}
use Rattle.runs.specs.declared.Ace.{Ace}
use Rattle.runs.specs.Entries.{rows_before, insert}
use Rattle.runs.specs.Calls.{used, add_answer, first_row_answer, list_after}
use Rattle.runs.proofs.Orders.{compare, before_less, before_not, insert_nil, insert_later, insert_same, insert-here}
use Rattle.runs.proofs.Added.{takes_of, used-after, length-after, sound-after, added_in_use}
use Rattle.runs.proofs.FirstRows.{row_answer}

before-insert : (e : Entry) (es : List Entry) → rows_before e.clk (insert e es) ≡ rows_before e.clk es
before-insert e [] = ap (rows_before e.clk) (insert_nil e) ∙ before_not e.clk e [] (omega arith)
before-insert e (x ∷ xs) =
    ⊎_elim
    (λ (h : x.clk < e.clk).
    let i = before-insert e xs in
    let u = before_less e.clk x xs h in
    let v = before_less e.clk x (insert e xs) h in
    let w = ap (rows_before e.clk) (insert_later e x xs h) in
    omega arith)
    (⊎_elim
    (λ (h : x.clk ≡ e.clk).
    ap (rows_before e.clk) (insert_same e x xs h) ∙ before_not e.clk e xs (omega arith) ∙ sym (before_not e.clk x xs (omega arith)))
    (λ (h : e.clk < x.clk). ap (rows_before e.clk) (insert-here e x xs h) ∙ before_not e.clk e (x ∷ xs) (omega arith)))
    (compare x.clk e.clk)

pub added_row : (a : Ace) (e : Entry) (vs : List ℕ) → length a.entries ≡ 32 → add_answer a e ≡ accepted vs
    → first_row_answer (list_after a e) e.clk ≡ accepted (rows_before e.clk (used a) ∷ [])
added_row a e vs l q =
    row_answer (list_after a e) (length-after a e l) (sound-after a e l (takes_of a e vs q).sound) e (added_in_use a e l vs q)
    ∙ ap (λ (n : ℕ). accepted (n ∷ [])) (ap (rows_before e.clk) (used-after a e l vs q) ∙ before-insert e (used a))
