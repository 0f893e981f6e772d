-- A sound list, entry by entry: rising clocks, and counts that opening accepts.
-- Assumes nothing.
use mathlib.Core.Path.{◌≡◌, refl, sym, ap, ◌∙◌}
use mathlib.Core.Bool.{Bool, true, false, true≢false}
use Rattle.std.proofs.Common.{IsTrue, ◌↔◌, All}
use Rattle.std.specs.List.{AllAdjacentBelow}
use Rattle.std.proofs.lemmas.List.{get_or_default}
use lib.Dec.{ltb}
use borrow.Author.Tests.{lt-ltb, ltb-true}
use Rattle.std.proofs.lemmas.Bool.{false_from_ne_true}
use mathlib.Core.List.{List, [], ◌∷◌}
use mathlib.Core.Logic.{⊎_elim}
use Prim.Native.Nat.{ℕ, zero, suc, ◌+◌, ◌-◌, ◌≤◌, ◌<◌}
use native.Mathlib.Omega.{arith}
use lib.ListN.{length, get_or}
use lib.Seq.{get_or-take}
use Rattle.runs.specs.declared.Entry.{Entry}
use Rattle.runs.specs.declared.Ace.{Ace}
use Rattle.runs.specs.Entries.{opens, in_order}
use Rattle.runs.specs.Calls.{most_runs, used, sound_list}
use Rattle.runs.specs.Inside.{no_entry}
use Rattle.runs.proofs.Orders.{first_of, first_is, order_nil}
use Rattle.runs.proofs.Calls.{sound_of, used-length}
use Rattle.runs.proofs.Scans.{entry_at, sound_short}
use Rattle.runs.proofs.Among.{Among, InUse, is_among}

clock_from : (es : List Entry) (least : ℕ) (x : Entry) → in_order least es ≡ true → Among x es → least ≤ x.clk
clock_from [] least x q h = absurd h
clock_from (y ∷ ys) least x q h =
    let f = first_of least y ys q in
    let r = f.rises in
    ⊎_elim
    (λ (e : x ≡ y). let z : x.clk ≡ y.clk = ap (λ (w : Entry). w.clk) e in omega arith)
    (λ (m : Among x ys). let i = clock_from ys (suc y.clk) x f.rest m in omega arith)
    h

pub clock_after : (y : Entry) (ys : List Entry) (least : ℕ) (x : Entry) → in_order least (y ∷ ys) ≡ true → Among x ys → y.clk < x.clk
clock_after y ys least x q m = clock_from ys (suc y.clk) x (first_of least y ys q).rest m

pub clocks_from : (es : List Entry) (least i : ℕ) → in_order least es ≡ true → i < length es → least ≤ (get_or es i no_entry).clk
clocks_from [] least i q h = absurd (omega arith)
clocks_from (y ∷ ys) least zero q h = (first_of least y ys q).rises
clocks_from (y ∷ ys) least (suc i) q h =
    let f = first_of least y ys q in
    let r = f.rises in
    let k = clocks_from ys (suc y.clk) i f.rest (omega arith) in
    omega arith

pub clocks_rise : (es : List Entry) (least i j : ℕ) → in_order least es ≡ true → i < j → j < length es → (get_or es i no_entry).clk < (get_or es j no_entry).clk
clocks_rise [] least i j q h k = absurd (omega arith)
clocks_rise (y ∷ ys) least i zero q h k = absurd (omega arith)
clocks_rise (y ∷ ys) least zero (suc j) q h k = clocks_from ys (suc y.clk) j (first_of least y ys q).rest (omega arith)
clocks_rise (y ∷ ys) least (suc i) (suc j) q h k = clocks_rise ys (suc y.clk) i j (first_of least y ys q).rest (omega arith) (omega arith)

pub counts_open : (es : List Entry) (least i : ℕ) → in_order least es ≡ true → i < length es → opens (get_or es i no_entry) ≡ true
counts_open [] least i q h = absurd (omega arith)
counts_open (y ∷ ys) least zero q h = (first_of least y ys q).counts
counts_open (y ∷ ys) least (suc i) q h = counts_open ys (suc y.clk) i (first_of least y ys q).rest (omega arith)

same_entry : (es : List Entry) (least : ℕ) (x y : Entry) → in_order least es ≡ true → Among x es → Among y es → x.clk ≡ y.clk → x ≡ y
same_entry [] least x y q h k e = absurd h
same_entry (z ∷ zs) least x y q h k e =
    ⊎_elim
    (λ (u : x ≡ z).
    ⊎_elim
    (λ (v : y ≡ z). u ∙ sym v)
    (λ (n : Among y zs). let w = clock_after z zs least y q n in let c : x.clk ≡ z.clk = ap (λ (t : Entry). t.clk) u in absurd (omega arith))
    k)
    (λ (m : Among x zs).
    ⊎_elim
    (λ (v : y ≡ z). let w = clock_after z zs least x q m in let c : y.clk ≡ z.clk = ap (λ (t : Entry). t.clk) v in absurd (omega arith))
    (λ (n : Among y zs). same_entry zs (suc z.clk) x y (first_of least z zs q).rest m n e)
    k)
    h

pub order_by : (es : List Entry) (least : ℕ) → ((i : ℕ) → i < length es → least ≤ (get_or es i no_entry).clk)
    → ((i j : ℕ) → i < j → j < length es → (get_or es i no_entry).clk < (get_or es j no_entry).clk) → ((i : ℕ) → i < length es → opens (get_or es i no_entry) ≡ true)
    → in_order least es ≡ true
order_by [] least f r o = order_nil least
order_by (e ∷ es) least f r o =
    first_is least e es (record {
      rises = f 0 (omega arith);
      counts = o 0 (omega arith);
      rest =
          order_by es (suc e.clk)
          (λ i h. r 0 (suc i) (omega arith) (omega arith))
          (λ i j h k. r (suc i) (suc j) (omega arith) (omega arith))
          (λ i h. o (suc i) (omega arith));
    })

-- what the library says of neighbours and of each entry
climbs : (es : List Entry) → AllAdjacentBelow (λ (x y : Entry). true ≡ ltb x.clk y.clk) es (length es) → (i n : ℕ) → i + suc n < length es
    → (get_or es i no_entry).clk < (get_or es (i + suc n) no_entry).clk
climbs es up i zero h =
    let e : i + 1 ≡ i + suc zero = omega arith in
    let z : (get_or es i no_entry).clk < (get_or es (i + 1) no_entry).clk = ltb-true _ _ (sym (up i no_entry (omega arith))) in
    rw e at z
climbs es up i (suc n) h =
    let e : i + suc n + 1 ≡ i + suc (suc n) = omega arith in
    let y = climbs es up i n (omega arith) in
    let z : (get_or es (i + suc n) no_entry).clk < (get_or es (i + suc n + 1) no_entry).clk = ltb-true _ _ (sym (up (i + suc n) no_entry (omega arith))) in
    let x : (get_or es (i + suc n) no_entry).clk < (get_or es (i + suc (suc n)) no_entry).clk = rw e at z in
    omega arith

pub sound_told : (es : List Entry) (b : Bool) → AllAdjacentBelow (λ (x y : Entry). true ≡ ltb x.clk y.clk) es (length es) → (IsTrue b ↔ All (λ (e : Entry). opens e ≡ true) es) → b ≡ in_order 0 es
sound_told es true up each =
    sym (order_by es 0 (λ i h. omega arith)
    (λ i j h k.
    let e : i + suc (j - suc i) ≡ j = omega arith in
    let z = climbs es up i (j - suc i) (omega arith) in
    rw e at z)
    (λ i h. each.0 refl i no_entry h))
sound_told es false up each =
    sym (false_from_ne_true (in_order 0 es) (λ q. true≢false (sym (each.1 (λ i d h. rw (get_or_default es i d no_entry h) (counts_open es 0 i q h))))))

pub unsound_told : (es : List Entry) → ((k : ℕ) × (k + 1 < length es) × ((d : Entry) → false ≡ ltb (get_or es k d).clk (get_or es (k + 1) d).clk)) → false ≡ in_order 0 es
unsound_told es low =
    let h = low.1 in
    sym (false_from_ne_true (in_order 0 es) (λ q. true≢false (sym (lt-ltb _ _ (clocks_rise es 0 low.0 (low.0 + 1) q (omega arith) h)) ∙ sym (low.2 no_entry))))

module _ (a : Ace) (l : length a.entries ≡ 32) where
  shown : (i : ℕ) → i < a.len → get_or (used a) i no_entry ≡ entry_at a i
  shown i h = get_or-take a.len a.entries i no_entry h

  module _ (q : sound_list a ≡ true) where
    -- the clock of an entry in use is below that of every later one
    pub rising : (i j : ℕ) → i < j → j < a.len → (entry_at a i).clk < (entry_at a j).clk
    rising i j h k =
        let s = sound_of a q in
        let z = used-length a l s.few in
        let r = clocks_rise (used a) 0 i j s.order h (omega arith) in
        let x : (get_or (used a) i no_entry).clk ≡ (entry_at a i).clk = ap (λ (e : Entry). e.clk) (shown i (omega arith)) in
        let y : (get_or (used a) j no_entry).clk ≡ (entry_at a j).clk = ap (λ (e : Entry). e.clk) (shown j k) in
        omega arith

    -- the counts of an entry in use are such as opening accepts
    pub opening : (i : ℕ) → i < a.len → opens (entry_at a i) ≡ true
    opening i h =
        let s = sound_of a q in
        let z = used-length a l s.few in
        ap opens (sym (shown i h)) ∙ counts_open (used a) 0 i s.order (omega arith)

    -- no two entries in use have one clock
    pub one_entry : (x y : Entry) → InUse x a → InUse y a → x.clk ≡ y.clk → x ≡ y
    one_entry x y m n e =
        let s = sound_of a q in
        same_entry (used a) 0 x y s.order (is_among a x l s.few m) (is_among a y l s.few n) e

  -- and where all this holds of at most 32 entries the list is sound: nothing else gives 13
  pub sound_by : a.len ≤ most_runs → ((i j : ℕ) → i < j → j < a.len → (entry_at a i).clk < (entry_at a j).clk) → ((i : ℕ) → i < a.len → opens (entry_at a i) ≡ true)
      → sound_list a ≡ true
  sound_by few r o =
      let z = used-length a l few in
      sym (sound_short a few)
      ∙ order_by (used a) 0
      (λ i h. omega arith)
      (λ i j h k.
      let x : (get_or (used a) i no_entry).clk ≡ (entry_at a i).clk = ap (λ (e : Entry). e.clk) (shown i (omega arith)) in
      let y : (get_or (used a) j no_entry).clk ≡ (entry_at a j).clk = ap (λ (e : Entry). e.clk) (shown j (omega arith)) in
      let w = r i j h (omega arith) in
      omega arith)
      (λ i h. ap opens (shown i (omega arith)) ∙ o i (omega arith))
