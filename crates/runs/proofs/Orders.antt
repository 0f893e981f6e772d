-- The definitions over the entries in use, one entry at a time.
-- Assumes nothing.
use mathlib.Core.Path.{◌≡◌, refl, sym, ◌∙◌}
use mathlib.Core.Bool.{Bool, true, false, ◌&&◌}
use mathlib.Core.List.{List, [], ◌∷◌, ◌++◌}
use mathlib.Core.Logic.{◌⊎◌, inl, inr}
use Prim.Native.Nat.{ℕ, suc, ◌+◌, ◌≤◌, ◌<◌}
use native.Mathlib.Nat.{zero-add}
use native.Mathlib.Omega.{arith}
use lib.Dec.{ltb, leb, eqb}
use borrow.Author.Tests.{ltb-true, ltb-false, leb-true, eqb-true, eqb-false, lt-ltb, le-ltb, le-leb, eq-eqb, ne_eqb}
use Rattle.trace.proofs.Choices.{both, both_hold}
use Rattle.runs.specs.declared.Entry.{Entry}
use Rattle.runs.specs.Entries.{rows_of, opens, in_order, total, rows_before, has_clock, insert}

-- which of two numbers is less, or that they are one
by_tests : (a b : Bool) (x y : ℕ) → ltb x y ≡ a → eqb x y ≡ b → (x < y) ⊎ ((x ≡ y) ⊎ (y < x))
by_tests true b x y e f = inl (ltb-true x y e)
by_tests false true x y e f = inr (inl (eqb-true x y f))
by_tests false false x y e f = let n : (x ≡ y → ⊥) = eqb-false x y f in let h : y ≤ x = ltb-false x y e in inr (inr (omega arith))

pub compare : (x y : ℕ) → (x < y) ⊎ ((x ≡ y) ⊎ (y < x))
compare x y = by_tests (ltb x y) (eqb x y) x y refl refl

-- entries in order
pub order_cons : (least : ℕ) (e : Entry) (es : List Entry) → in_order least (e ∷ es) ≡ leb least e.clk && (opens e && in_order (suc e.clk) es)
unfolding in_order
order_cons least e es = refl

pub order_nil : (least : ℕ) → in_order least [] ≡ true
unfolding in_order
order_nil least = refl

pub record First (least : ℕ) (e : Entry) (es : List Entry) : Type 0 where
  pub rises : least ≤ e.clk
  pub counts : opens e ≡ true
  pub rest : in_order (suc e.clk) es ≡ true

pub first_of : (least : ℕ) (e : Entry) (es : List Entry) → in_order least (e ∷ es) ≡ true → First least e es
first_of least e es q =
    let a = both _ _ (sym (order_cons least e es) ∙ q) in
    let b = both _ _ a.1 in
    record { rises = leb-true _ _ a.0; counts = b.0; rest = b.1 }

pub first_is : (least : ℕ) (e : Entry) (es : List Entry) → First least e es → in_order least (e ∷ es) ≡ true
first_is least e es h = order_cons least e es ∙ both_hold _ _ (le-leb _ _ h.rises) (both_hold _ _ h.counts h.rest)

-- the total
pub total_nil : total [] ≡ 0
unfolding total
total_nil = refl

pub total_cons : (e : Entry) (es : List Entry) → total (e ∷ es) ≡ rows_of e + total es
unfolding total
total_cons e es = refl

pub total-append : (es fs : List Entry) → total (es ++ fs) ≡ total es + total fs
total-append [] fs = let z = total_nil in omega arith
total-append (e ∷ es) fs =
    let a = total_cons e es in
    let b = total_cons e (es ++ fs) in
    let i = total-append es fs in
    omega arith

-- the rows of smaller clocks
pub before_nil : (clock : ℕ) → rows_before clock [] ≡ 0
unfolding rows_before
before_nil clock = refl

pub before_less : (clock : ℕ) (e : Entry) (es : List Entry) → e.clk < clock → rows_before clock (e ∷ es) ≡ rows_of e + rows_before clock es
unfolding rows_before
before_less clock e es h = rw (lt-ltb e.clk clock h)

pub before_not : (clock : ℕ) (e : Entry) (es : List Entry) → clock ≤ e.clk → rows_before clock (e ∷ es) ≡ rows_before clock es
unfolding rows_before
before_not clock e es h = rw (le-ltb e.clk clock h) (zero-add (rows_before clock es))

pub before_none : (es : List Entry) (least clock : ℕ) → in_order least es ≡ true → clock ≤ least → rows_before clock es ≡ 0
before_none [] least clock q h = before_nil clock
before_none (e ∷ es) least clock q h =
    let f = first_of least e es q in
    let i = f.rises in
    before_not clock e es (omega arith) ∙ before_none es (suc e.clk) clock f.rest (omega arith)

-- whether a clock is there
pub has_nil : (clock : ℕ) → has_clock clock [] ≡ false
unfolding has_clock
has_nil clock = refl

pub has_here : (clock : ℕ) (e : Entry) (es : List Entry) → e.clk ≡ clock → has_clock clock (e ∷ es) ≡ true
unfolding has_clock
has_here clock e es h = rw (eq-eqb e.clk clock h)

pub has_later : (clock : ℕ) (e : Entry) (es : List Entry) → (e.clk ≡ clock → ⊥) → has_clock clock (e ∷ es) ≡ has_clock clock es
unfolding has_clock
has_later clock e es n = rw (ne_eqb e.clk clock n)

pub has_none : (es : List Entry) (least clock : ℕ) → in_order least es ≡ true → clock < least → has_clock clock es ≡ false
has_none [] least clock q h = has_nil clock
has_none (e ∷ es) least clock q h =
    let f = first_of least e es q in
    let i = f.rises in
    has_later clock e es (λ z. omega arith) ∙ has_none es (suc e.clk) clock f.rest (omega arith)

-- an entry in its place
pub insert_nil : (e : Entry) → insert e [] ≡ e ∷ []
unfolding insert
insert_nil e = refl

pub insert_later : (e x : Entry) (xs : List Entry) → x.clk < e.clk → insert e (x ∷ xs) ≡ x ∷ insert e xs
unfolding insert
insert_later e x xs h = rw (lt-ltb x.clk e.clk h)

pub insert_same : (e x : Entry) (xs : List Entry) → x.clk ≡ e.clk → insert e (x ∷ xs) ≡ e ∷ xs
unfolding insert
insert_same e x xs h = let i : e.clk ≤ x.clk = omega arith in rw (le-ltb x.clk e.clk i, eq-eqb x.clk e.clk h)

pub insert-here : (e x : Entry) (xs : List Entry) → e.clk < x.clk → insert e (x ∷ xs) ≡ e ∷ x ∷ xs
unfolding insert
insert-here e x xs h =
    let i : e.clk ≤ x.clk = omega arith in
    let n : (x.clk ≡ e.clk → ⊥) = λ z. omega arith in
    rw (le-ltb x.clk e.clk i, ne_eqb x.clk e.clk n)
