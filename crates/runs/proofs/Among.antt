-- The entries that are in use, by their places and as a list.
-- Assumes nothing.
use mathlib.Core.Path.{◌≡◌, refl, sym, ap, ◌∙◌}
use mathlib.Core.Bool.{true, true≢false}
use mathlib.Core.List.{List, [], ◌∷◌}
use mathlib.Core.Logic.{◌⊎◌, ⊎_elim, inl, inr}
use Prim.Native.Nat.{ℕ, zero, suc, ◌≤◌, ◌<◌}
use native.Mathlib.Omega.{arith}
use lib.ListN.{length, get_or}
use lib.Seq.{get_or-take}
use Rattle.runs.specs.declared.Entry.{Entry}
use Rattle.runs.specs.declared.Ace.{Ace}
use Rattle.runs.specs.Entries.{has_clock}
use Rattle.runs.specs.Calls.{most_runs, used}
use Rattle.runs.specs.Inside.{no_entry}
use Rattle.runs.proofs.Orders.{compare, has_nil, has_here, has_later}
use Rattle.runs.proofs.Calls.{used-length}

abbrev pub Among : Entry → List Entry → Type 0
Among x [] = ⊥
Among x (y ∷ ys) = (x ≡ y) ⊎ Among x ys

-- an entry of the list, at some place below its length
abbrev pub InUse : Entry → Ace → Type 0
InUse x a = (i : ℕ) × (i < a.len) × (get_or a.entries i no_entry ≡ x)

abbrev Placed : Entry → List Entry → Type 0
Placed x es = (i : ℕ) × (i < length es) × (get_or es i no_entry ≡ x)

among_at : (es : List Entry) (x : Entry) (i : ℕ) → i < length es → get_or es i no_entry ≡ x → Among x es
among_at [] x i h e = absurd (omega arith)
among_at (y ∷ ys) x zero h e = inl (sym e)
among_at (y ∷ ys) x (suc i) h e = inr (among_at ys x i (omega arith) e)

placed_later : (x y : Entry) (ys : List Entry) → Placed x ys → Placed x (y ∷ ys)
placed_later x y ys p = let h = p.1 in (suc p.0, omega arith, p.2)

place_among : (es : List Entry) (x : Entry) → Among x es → Placed x es
place_among [] x h = absurd h
place_among (y ∷ ys) x h = ⊎_elim (λ (e : x ≡ y). (0, omega arith, sym e)) (λ (r : Among x ys). placed_later x y ys (place_among ys x r)) h

pub in_use : (a : Ace) (x : Entry) → length a.entries ≡ 32 → a.len ≤ most_runs → Among x (used a) → InUse x a
in_use a x l h m =
    let p = place_among (used a) x m in
    let k = p.1 in
    let z = used-length a l h in
    let i : p.0 < a.len = omega arith in
    (p.0, i, sym (get_or-take a.len a.entries p.0 no_entry i) ∙ p.2)

pub is_among : (a : Ace) (x : Entry) → length a.entries ≡ 32 → a.len ≤ most_runs → InUse x a → Among x (used a)
is_among a x l h p =
    let k = p.1 in
    let z = used-length a l h in
    among_at (used a) x p.0 (omega arith) (get_or-take a.len a.entries p.0 no_entry k ∙ p.2)

-- a clock is there exactly where some entry has it
pub has_among : (es : List Entry) (x : Entry) (clock : ℕ) → x.clk ≡ clock → Among x es → has_clock clock es ≡ true
has_among [] x clock e h = absurd h
has_among (y ∷ ys) x clock e h =
    ⊎_elim
    (λ (q : x ≡ y). has_here clock y ys (ap (λ (z : Entry). z.clk) (sym q) ∙ e))
    (λ (r : Among x ys).
    ⊎_elim
    (λ (q : y.clk < clock). has_later clock y ys (λ z. omega arith) ∙ has_among ys x clock e r)
    (⊎_elim
    (λ (q : y.clk ≡ clock). has_here clock y ys q)
    (λ (q : clock < y.clk). has_later clock y ys (λ z. omega arith) ∙ has_among ys x clock e r))
    (compare y.clk clock))
    h

abbrev Clocked : ℕ → List Entry → Type 0
Clocked clock es = (x : Entry) × Among x es × (x.clk ≡ clock)

clocked_later : (clock : ℕ) (y : Entry) (ys : List Entry) → Clocked clock ys → Clocked clock (y ∷ ys)
clocked_later clock y ys p = (p.0, inr p.1, p.2)

pub among_has : (es : List Entry) (clock : ℕ) → has_clock clock es ≡ true → Clocked clock es
among_has [] clock q = absurd (true≢false (sym q ∙ has_nil clock))
among_has (y ∷ ys) clock q =
    ⊎_elim
    (λ (h : y.clk < clock). clocked_later clock y ys (among_has ys clock (sym (has_later clock y ys (λ z. omega arith)) ∙ q)))
    (⊎_elim
    (λ (h : y.clk ≡ clock). (y, inl refl, h))
    (λ (h : clock < y.clk). clocked_later clock y ys (among_has ys clock (sym (has_later clock y ys (λ z. omega arith)) ∙ q))))
    (compare y.clk clock)
