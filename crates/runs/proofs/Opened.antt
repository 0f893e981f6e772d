-- An entry put before the one at a place: turn by turn, and within the entries in use.
-- Assumes nothing.
use mathlib.Core.Path.{◌≡◌, refl, sym, ap, ap₂, ◌∙◌}
use mathlib.Core.List.{List, [], ◌∷◌, ◌++◌, append-nil}
use Prim.Native.Nat.{ℕ, zero, suc, ◌+◌, ◌-◌, ◌≤◌, ◌<◌}
use native.Mathlib.Omega.{arith}
use lib.ListN.{length, get_or, set, take, drop, take-append-drop, length-drop, drop_of_length-le}
use Rattle.std.proofs.Common.{append_assoc}
use Rattle.std.proofs.Math.Seq.{take-append-add}
use lib.Seq.{length-take-le, take-take, drop-drop, take-set-lt, drop-set-lt}
use borrow.Rule.Slice.PartMut.{mid_of, put_mid}
use Rattle.runs.specs.declared.Entry.{Entry}
use Rattle.runs.specs.Inside.{no_entry, opened}

pub opened-length : (es : List Entry) (at : ℕ) (e : Entry) → at ≤ length es → length (opened es at e) ≡ suc (length es)
opened-length es zero e h = refl
opened-length [] (suc at) e h = absurd (omega arith)
opened-length (x ∷ xs) (suc at) e h = ap suc (opened-length xs at e (omega arith))

-- a part whose entries go one place further, up to a place: what stands in it, and the entry that is carried on
pub record Carried (part : List Entry) (e : Entry) (items : List Entry) (carried : Entry) (i : ℕ) : Type 0 where
  pub within : i ≤ length part
  pub items_are : items ≡ take i (e ∷ part) ++ drop i part
  pub carried_is : carried ≡ get_or (e ∷ part) i no_entry

pub carried_start : (part : List Entry) (e : Entry) → Carried part e part e 0
carried_start part e = record { within = omega arith; items_are = refl; carried_is = refl }

stored : (part : List Entry) (e : Entry) (i : ℕ) → i < length part
    → set (take i (e ∷ part) ++ drop i part) i (get_or (e ∷ part) i no_entry) ≡ take (suc i) (e ∷ part) ++ drop (suc i) part
stored [] e i h = absurd (omega arith)
stored (x ∷ xs) e zero h = refl
stored (x ∷ xs) e (suc i) h = ap (λ (l : List Entry). e ∷ l) (stored xs x i (omega arith))

taken_up : (part : List Entry) (e : Entry) (i : ℕ) → i < length part → get_or (take i (e ∷ part) ++ drop i part) i no_entry ≡ get_or (e ∷ part) (suc i) no_entry
taken_up [] e i h = absurd (omega arith)
taken_up (x ∷ xs) e zero h = refl
taken_up (x ∷ xs) e (suc i) h = taken_up xs x i (omega arith)

module _ {part : List Entry} {e : Entry} {items : List Entry} {carried : Entry} {i : ℕ} (c : Carried part e items carried i) where
  pub carried_next : i < length part → Carried part e (set items i carried) (get_or items i no_entry) (i + 1)
  carried_next h =
      let s : i + 1 ≡ suc i = omega arith in
      record {
        within = omega arith;
        items_are =
            ap₂ (λ (l : List Entry) (x : Entry). set l i x) c.items_are c.carried_is
            ∙ stored part e i h
            ∙ ap (λ (j : ℕ). take j (e ∷ part) ++ drop j part) (sym s);
        carried_is =
            ap (λ (l : List Entry). get_or l i no_entry) c.items_are
            ∙ taken_up part e i h
            ∙ ap (λ (j : ℕ). get_or (e ∷ part) j no_entry) (sym s);
      }

  -- at the end all of them but the last stand behind the new one
  carried_all : (m : ℕ) → length part ≡ suc m → length part ≤ i → items ≡ e ∷ take m part
  carried_all m l h =
      let w = c.within in
      let z : i ≡ suc m = omega arith in
      c.items_are
      ∙ ap (λ (j : ℕ). take j (e ∷ part) ++ drop j part) z
      ∙ ap (λ (l : List Entry). e ∷ (take m part ++ l)) (drop_of_length-le part {i = suc m} (omega arith))
      ∙ append-nil (e ∷ take m part)

pub put_carried : (es items : List Entry) (carried : Entry) (at len i : ℕ) (e : Entry) → at ≤ len → len < length es
    → (let part = mid_of at (len + 1 - at) es in Carried part e items carried i × length part ≤ i)
    → put_mid at (len + 1 - at) es items ≡ take (len + 1) (opened es at e) ++ drop (len + 1) es
put_carried es items carried at len i e h k (c, over) =
    let m = len - at in
    let rest = drop at es in
    let n : len + 1 - at ≡ suc m = omega arith in
    let l : length (take at es) ≡ at = length-take-le at es (omega arith) in
    let w : suc m ≤ length rest = let z = length-drop at es in omega arith in
    let x : mid_of at (len + 1 - at) es ≡ take (suc m) rest = ap (λ (j : ℕ). take j rest) n in
    let y : length (mid_of at (len + 1 - at) es) ≡ suc m = ap length x ∙ length-take-le (suc m) rest w in
    let p : items ≡ e ∷ take m rest =
    carried_all c m y over ∙ ap (λ (l : List Entry). e ∷ take m l) x ∙ ap (λ (l : List Entry). e ∷ l) (take-take m (suc m) rest (omega arith)) in
    let s : len + 1 ≡ length (take at es) + suc m = omega arith in
    let d : at + suc m ≡ len + 1 = omega arith in
    ap (λ (j : ℕ). put_mid at j es items) n
    ∙ ap (λ (x : List Entry). take at es ++ (x ++ drop (suc m) rest)) p
    ∙ sym (append_assoc (take at es) (e ∷ take m rest) (drop (suc m) rest))
    ∙ ap₂ (λ (x y : List Entry). x ++ y)
    (sym (ap (λ (j : ℕ). take j (opened es at e)) s ∙ take-append-add (take at es) (e ∷ rest) (suc m)))
    (drop-drop (suc m) at es ∙ ap (λ (j : ℕ). drop j es) d)

-- within the entries in use
pub opened-used : (es : List Entry) (at n : ℕ) (e : Entry) → at ≤ n → n ≤ length es → take (suc n) (opened es at e) ≡ opened (take n es) at e
opened-used es zero n e h k = refl
opened-used es (suc at) zero e h k = absurd (omega arith)
opened-used [] (suc at) (suc n) e h k = absurd (omega arith)
opened-used (x ∷ xs) (suc at) (suc n) e h k = ap (λ (l : List Entry). x ∷ l) (opened-used xs at n e (omega arith) (omega arith))

-- a store among the entries in use
pub set-used : (es : List Entry) (at n : ℕ) (e : Entry) → at < n → set es at e ≡ set (take n es) at e ++ drop n es
set-used es at n e h =
    sym (take-append-drop n (set es at e))
    ∙ ap (λ (l : List Entry). l ++ drop n (set es at e)) (take-set-lt n es at e h)
    ∙ ap (λ (l : List Entry). set (take n es) at e ++ l) (drop-set-lt n es at e h)
