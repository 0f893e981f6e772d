-- The tests of a list's length, and a turn of the sum over entries.
-- Assumes nothing.
use mathlib.Core.Path.{◌≡◌, sym, ap, ◌∙◌}
use mathlib.Core.Bool.{false}
use mathlib.Core.List.{List, [], ◌∷◌, ◌++◌}
use Prim.Native.Nat.{ℕ, ◌+◌, ◌≤◌, ◌<◌}
use native.Mathlib.Numerals.{add-one}
use native.Mathlib.Omega.{arith}
use lib.Dec.{leb}
use lib.ListN.{length, get_or, take}
use lib.Seq.{take-suc}
use borrow.Author.Tests.{lt-leb, le-leb}
use Rattle.trace.proofs.Choices.{first_fails, first_holds}
use Rattle.runs.specs.declared.Entry.{Entry}
use Rattle.runs.specs.declared.Ace.{Ace}
use Rattle.runs.specs.Entries.{rows_of, in_order, total}
use Rattle.runs.specs.Calls.{most_runs, used, sound_list}
use Rattle.runs.specs.Inside.{no_entry}
use Rattle.runs.proofs.Orders.{total_nil, total_cons, total-append}

abbrev pub entry_at : Ace → ℕ → Entry
entry_at a i = get_or a.entries i no_entry

abbrev pub list_of : List Entry → ℕ → Ace
list_of es n = record { entries = es; len = n }

pub sound_long : (a : Ace) → most_runs < a.len → false ≡ sound_list a
unfolding sound_list
sound_long a h = sym (first_fails (leb a.len most_runs) (in_order 0 (used a)) (lt-leb a.len most_runs h))

pub sound_short : (a : Ace) → a.len ≤ most_runs → in_order 0 (used a) ≡ sound_list a
unfolding sound_list
sound_short a h = sym (first_holds (leb a.len most_runs) (in_order 0 (used a)) (le-leb a.len most_runs h))

-- the turns of the sum
pub total_more : (es : List Entry) (i rows : ℕ) → rows ≡ total (take i es) → i < length es
    → rows + rows_of (get_or es i no_entry) ≡ total (take (i + 1) es)
total_more es i rows q h =
    let e = get_or es i no_entry in
    let a = total-append (take i es) (e ∷ []) in
    let b = total_cons e [] in
    let z = total_nil in
    let s : rows + rows_of e ≡ total (take i es ++ (e ∷ [])) = omega arith in
    s ∙ ap total (sym (take-suc es i no_entry h)) ∙ ap (λ (j : ℕ). total (take j es)) (sym (add-one i))
