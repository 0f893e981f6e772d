-- The total and the first row of a clock, as sums over the entries in use.
-- Assumes nothing.
use mathlib.Core.Path.{◌≡◌, ap, ◌∙◌}
use mathlib.Core.Bool.{true, cond}
use mathlib.Core.List.{List, [], ◌∷◌, ◌++◌}
use mathlib.Core.Logic.{⊎_elim}
use Prim.Native.Nat.{ℕ, zero, suc, ◌+◌, ◌≤◌, ◌<◌}
use native.Mathlib.Omega.{arith}
use lib.Dec.{ltb}
use lib.ListN.{length, get_or, take}
use lib.Seq.{take-suc}
use borrow.Author.Tests.{lt-ltb, le-ltb}
use Rattle.runs.specs.declared.Entry.{Entry}
use Rattle.runs.specs.declared.Ace.{Ace}
use Rattle.runs.specs.Entries.{rows_of, total, rows_before}
use Rattle.runs.specs.Calls.{used, sound_list}
use Rattle.runs.specs.Inside.{no_entry}
use Rattle.runs.proofs.Orders.{compare, total_nil, total_cons, total-append, before_nil, before_less, before_not}
use Rattle.runs.proofs.Scans.{entry_at}
use Rattle.runs.proofs.Calls.{sound_of}

-- f 0 + f 1 + .. + f (n - 1)
abbrev pub sum : (ℕ → ℕ) → ℕ → ℕ
sum f zero = 0
sum f (suc n) = sum f n + f n

-- rows of an entry whose clock is smaller
abbrev pub rows_if : ℕ → Entry → ℕ
rows_if clock e = cond (ltb e.clk clock) (rows_of e) 0

before-append : (clock : ℕ) (es fs : List Entry) → rows_before clock (es ++ fs) ≡ rows_before clock es + rows_before clock fs
before-append clock [] fs = let z = before_nil clock in omega arith
before-append clock (e ∷ es) fs =
    let i = before-append clock es fs in
    ⊎_elim
    (λ (h : e.clk < clock). let u = before_less clock e es h in let v = before_less clock e (es ++ fs) h in omega arith)
    (λ h.
    let k : clock ≤ e.clk = ⊎_elim (λ (z : e.clk ≡ clock). omega arith) (λ (z : clock < e.clk). omega arith) h in
    let u = before_not clock e es k in
    let v = before_not clock e (es ++ fs) k in
    omega arith)
    (compare e.clk clock)

before_one : (clock : ℕ) (e : Entry) → rows_before clock (e ∷ []) ≡ rows_if clock e
before_one clock e =
    let z = before_nil clock in
    ⊎_elim
    (λ (h : e.clk < clock).
    let u = before_less clock e [] h in
    let v : rows_if clock e ≡ rows_of e = ap (λ b. cond b (rows_of e) 0) (lt-ltb e.clk clock h) in
    omega arith)
    (λ h.
    let k : clock ≤ e.clk = ⊎_elim (λ (w : e.clk ≡ clock). omega arith) (λ (w : clock < e.clk). omega arith) h in
    let u = before_not clock e [] k in
    let v : rows_if clock e ≡ 0 = ap (λ b. cond b (rows_of e) 0) (le-ltb e.clk clock k) in
    omega arith)
    (compare e.clk clock)

total-take : (es : List Entry) (n : ℕ) → n ≤ length es → total (take n es) ≡ sum (λ i. rows_of (get_or es i no_entry)) n
total-take es zero h = total_nil
total-take es (suc n) h =
    let e = get_or es n no_entry in
    let i = total-take es n (omega arith) in
    let a = total-append (take n es) (e ∷ []) in
    let b = total_cons e [] in
    let z = total_nil in
    let s : total (take n es ++ (e ∷ [])) ≡ sum (λ i. rows_of (get_or es i no_entry)) n + rows_of e = omega arith in
    ap total (take-suc es n no_entry (omega arith)) ∙ s

before-take : (clock : ℕ) (es : List Entry) (n : ℕ) → n ≤ length es → rows_before clock (take n es) ≡ sum (λ i. rows_if clock (get_or es i no_entry)) n
before-take clock es zero h = before_nil clock
before-take clock es (suc n) h =
    let e = get_or es n no_entry in
    let i = before-take clock es n (omega arith) in
    let a = before-append clock (take n es) (e ∷ []) in
    let b = before_one clock e in
    let s : rows_before clock (take n es ++ (e ∷ [])) ≡ sum (λ i. rows_if clock (get_or es i no_entry)) n + rows_if clock e = omega arith in
    ap (rows_before clock) (take-suc es n no_entry (omega arith)) ∙ s

module _ (a : Ace) (l : length a.entries ≡ 32) (q : sound_list a ≡ true) where
  fits : a.len ≤ length a.entries
  fits = let h = (sound_of a q).few in omega arith

  -- "the total of rows (num_read + num_eval a run)"
  pub total-sum : total (used a) ≡ sum (λ i. rows_of (entry_at a i)) a.len
  total-sum = total-take a.entries a.len fits

  -- "the first row of a clock, the sum of rows of smaller clocks"
  pub row-sum : (clock : ℕ) → rows_before clock (used a) ≡ sum (λ i. rows_if clock (entry_at a i)) a.len
  row-sum clock = before-take clock a.entries a.len fits
