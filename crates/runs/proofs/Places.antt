-- The place of a clock among entries in order: what is before it, and whether the clock is at it.
-- Assumes nothing.
use mathlib.Core.Path.{◌≡◌, refl, sym, ap, ◌∙◌}
use mathlib.Core.Bool.{Bool, true, false, ◌&&◌, true≢false}
use mathlib.Core.List.{List, [], ◌∷◌}
use mathlib.Core.Logic.{⊎_elim}
use Prim.Native.Nat.{ℕ, suc, ◌≤◌, ◌<◌}
use native.Mathlib.Omega.{arith}
use lib.Dec.{ltb, eqb, leb-suc-suc}
use lib.ListN.{length, get_or, set, take}
use borrow.Author.Tests.{lt-ltb, le-ltb, eq-eqb, ne_eqb}
use Rattle.trace.proofs.Choices.{first_fails, second_fails, first_holds}
use Rattle.runs.specs.declared.Entry.{Entry}
use Rattle.runs.specs.Entries.{in_order, total, rows_before, has_clock, insert}
use Rattle.runs.specs.Inside.{place_of, no_entry, opened}
use Rattle.runs.proofs.Orders.{compare, first_of, total_nil, total_cons, before_nil, before_less, before_not, before_none, has_nil, has_here, has_later, has_none, insert_nil, insert_later, insert_same, insert-here}

pub place_nil : (clock : ℕ) → place_of clock [] ≡ 0
unfolding place_of
place_nil clock = refl

pub place_later : (clock : ℕ) (e : Entry) (es : List Entry) → e.clk < clock → place_of clock (e ∷ es) ≡ suc (place_of clock es)
unfolding place_of
place_later clock e es h = rw (lt-ltb e.clk clock h)

pub place_here : (clock : ℕ) (e : Entry) (es : List Entry) → clock ≤ e.clk → place_of clock (e ∷ es) ≡ 0
unfolding place_of
place_here clock e es h = rw (le-ltb e.clk clock h)

pub place_within : (clock : ℕ) (es : List Entry) → place_of clock es ≤ length es
place_within clock [] = let z = place_nil clock in omega arith
place_within clock (e ∷ es) =
    ⊎_elim
    (λ (h : e.clk < clock). let z = place_later clock e es h in let i = place_within clock es in omega arith)
    (⊎_elim
    (λ (h : e.clk ≡ clock). let z = place_here clock e es (omega arith) in omega arith)
    (λ (h : clock < e.clk). let z = place_here clock e es (omega arith) in omega arith))
    (compare e.clk clock)

-- whether the entry at a place has a clock
abbrev pub found : List Entry → ℕ → ℕ → Bool
found es at clock = ltb at (length es) && eqb (get_or es at no_entry).clk clock

found_later : (e : Entry) (es : List Entry) (at clock : ℕ) → found (e ∷ es) (suc at) clock ≡ found es at clock
found_later e es at clock = ap (λ (b : Bool). b && eqb (get_or es at no_entry).clk clock) (leb-suc-suc (suc at) (length es))

found_first : (e : Entry) (es : List Entry) (clock : ℕ) → e.clk ≡ clock → found (e ∷ es) 0 clock ≡ true
found_first e es clock h = first_holds (ltb 0 (suc (length es))) _ (lt-ltb 0 (suc (length es)) (omega arith)) ∙ eq-eqb e.clk clock h

found_not : (e : Entry) (es : List Entry) (clock : ℕ) → (e.clk ≡ clock → ⊥) → found (e ∷ es) 0 clock ≡ false
found_not e es clock n = second_fails (ltb 0 (suc (length es))) (eqb e.clk clock) (ne_eqb e.clk clock n)

found_none : (clock : ℕ) → found [] (place_of clock []) clock ≡ false
found_none clock =
    first_fails (ltb (place_of clock []) 0) (eqb (get_or [] (place_of clock []) no_entry).clk clock)
    (le-ltb (place_of clock []) 0 (omega arith))

pub found_has : (es : List Entry) (least clock : ℕ) → in_order least es ≡ true → has_clock clock es ≡ found es (place_of clock es) clock
found_has [] least clock q = has_nil clock ∙ sym (found_none clock)
found_has (e ∷ es) least clock q =
    let f = first_of least e es q in
    ⊎_elim
    (λ (h : e.clk < clock).
    has_later clock e es (λ z. omega arith)
    ∙ found_has es (suc e.clk) clock f.rest
    ∙ sym (ap (λ (k : ℕ). found (e ∷ es) k clock) (place_later clock e es h) ∙ found_later e es (place_of clock es) clock))
    (⊎_elim
    (λ (h : e.clk ≡ clock).
    has_here clock e es h
    ∙ sym (ap (λ (k : ℕ). found (e ∷ es) k clock) (place_here clock e es (omega arith)) ∙ found_first e es clock h))
    (λ (h : clock < e.clk).
    has_later clock e es (λ z. omega arith)
    ∙ has_none es (suc e.clk) clock f.rest (omega arith)
    ∙ sym (ap (λ (k : ℕ). found (e ∷ es) k clock) (place_here clock e es (omega arith)) ∙ found_not e es clock (λ z. omega arith))))
    (compare e.clk clock)

-- the rows of smaller clocks are those before the place
pub before_place : (es : List Entry) (least clock : ℕ) → in_order least es ≡ true → rows_before clock es ≡ total (take (place_of clock es) es)
before_place [] least clock q = before_nil clock ∙ sym (ap (λ (k : ℕ). total (take k [])) (place_nil clock) ∙ total_nil)
before_place (e ∷ es) least clock q =
    let f = first_of least e es q in
    ⊎_elim
    (λ (h : e.clk < clock).
    let i = before_place es (suc e.clk) clock f.rest in
    let t = total_cons e (take (place_of clock es) es) in
    let b = before_less clock e es h in
    let s : rows_before clock (e ∷ es) ≡ total (e ∷ take (place_of clock es) es) = omega arith in
    s ∙ sym (ap (λ (k : ℕ). total (take k (e ∷ es))) (place_later clock e es h)))
    (λ h.
    let i : clock ≤ e.clk = ⊎_elim (λ (z : e.clk ≡ clock). omega arith) (λ (z : clock < e.clk). omega arith) h in
    before_not clock e es i
    ∙ before_none es (suc e.clk) clock f.rest (omega arith)
    ∙ sym (ap (λ (k : ℕ). total (take k (e ∷ es))) (place_here clock e es i) ∙ total_nil))
    (compare e.clk clock)

-- an entry in its place: the one with its clock replaced, or a new one before the next
pub insert_found : (e : Entry) (es : List Entry) → found es (place_of e.clk es) e.clk ≡ true → insert e es ≡ set es (place_of e.clk es) e
insert_found e [] q = let z : ◌≡◌ {A = Bool} true false = sym q ∙ found_none e.clk in absurd (true≢false z)
insert_found e (x ∷ xs) q =
    ⊎_elim
    (λ (h : x.clk < e.clk).
    let p = place_later e.clk x xs h in
    insert_later e x xs h
    ∙ ap (λ (l : List Entry). x ∷ l) (insert_found e xs (sym (found_later x xs (place_of e.clk xs) e.clk) ∙ sym (ap (λ (k : ℕ). found (x ∷ xs) k e.clk) p) ∙ q))
    ∙ sym (ap (λ (k : ℕ). set (x ∷ xs) k e) p))
    (⊎_elim
    (λ (h : x.clk ≡ e.clk). insert_same e x xs h ∙ sym (ap (λ (k : ℕ). set (x ∷ xs) k e) (place_here e.clk x xs (omega arith))))
    (λ (h : e.clk < x.clk).
    let p = place_here e.clk x xs (omega arith) in
    let z : ◌≡◌ {A = Bool} true false = sym q ∙ ap (λ (k : ℕ). found (x ∷ xs) k e.clk) p ∙ found_not x xs e.clk (λ w. omega arith) in
    absurd (true≢false z)))
    (compare x.clk e.clk)

pub insert_new : (e : Entry) (es : List Entry) → found es (place_of e.clk es) e.clk ≡ false → insert e es ≡ opened es (place_of e.clk es) e
insert_new e [] q = insert_nil e ∙ sym (ap (λ (k : ℕ). opened [] k e) (place_nil e.clk))
insert_new e (x ∷ xs) q =
    ⊎_elim
    (λ (h : x.clk < e.clk).
    let p = place_later e.clk x xs h in
    insert_later e x xs h
    ∙ ap (λ (l : List Entry). x ∷ l) (insert_new e xs (sym (found_later x xs (place_of e.clk xs) e.clk) ∙ sym (ap (λ (k : ℕ). found (x ∷ xs) k e.clk) p) ∙ q))
    ∙ sym (ap (λ (k : ℕ). opened (x ∷ xs) k e) p))
    (⊎_elim
    (λ (h : x.clk ≡ e.clk).
    let p = place_here e.clk x xs (omega arith) in
    let z : ◌≡◌ {A = Bool} true false = sym (found_first x xs e.clk h) ∙ sym (ap (λ (k : ℕ). found (x ∷ xs) k e.clk) p) ∙ q in
    absurd (true≢false z))
    (λ (h : e.clk < x.clk). insert-here e x xs h ∙ sym (ap (λ (k : ℕ). opened (x ∷ xs) k e) (place_here e.clk x xs (omega arith)))))
    (compare x.clk e.clk)
