-- Numbers that stand in bytes one after the other: what is written is read, and what is read is what is written.
-- Assumes nothing.
use Prim.Native.Nat.{ℕ, ◌+◌, ◌^◌, ◌≤◌}
use mathlib.Core.Path.{◌≡◌, sym, ap, ap₂, ◌∙◌, subst}
use mathlib.Core.List.{List, [], ◌∷◌, ◌++◌, append_assoc, append-nil}
use native.Mathlib.Omega.{arith}
use lib.ListN.{length, take, length-append, take-append-drop}
use lib.Seq.{take-take}
use Rattle.refusal.specs.Told.{accepted}
use Rattle.numbers.specs.Form.{bytes_of, width_of}
use Rattle.numbers.specs.Answer.{read_answer}
use Rattle.numbers.proofs.Groups.{width_counts}
use Rattle.numbers.proofs.RoundTrip.{written_is_read, read_is_written, Read, Bytes}
use Rattle.record.specs.Bytes.{bytes_of_all}
use Rattle.record.specs.Numbers.{next_at, after, numbers_from}
use Rattle.record.proofs.Bounds.{AllBelow}
use Rattle.record.proofs.Places.{number_is, next_is, after_none, after_more, from_none, from_more}
use Rattle.record.proofs.Widths.{bytes_none, bytes_more, taken_none, taken_more}

-- the numbers xs are read from s one after the other, the first at a place, and end is the place after the last
abbrev pub Stand : List ℕ → List ℕ → ℕ → ℕ → Type 0
Stand [] s at end = at ≡ end
Stand (x ∷ xs) s at end = (read_answer s at ≡ accepted (x ∷ next_at s at ∷ [])) × Stand xs s (next_at s at) end

-- What is written is read.

pub written_stand : (xs s before rest : List ℕ) (at end : ℕ) → AllBelow (2 ^ 64) xs
    → s ≡ before ++ (bytes_of_all xs ++ rest) → at ≡ length before → end ≡ at + length (bytes_of_all xs) → Stand xs s at end
written_stand [] s before rest at end b es ea ee = omega (arith, taken_none)
written_stand (x ∷ xs) s before rest at end b es ea ee =
    let q : s ≡ before ++ (bytes_of x ++ (bytes_of_all xs ++ rest)) =
    es
    ∙ ap (λ (l : List ℕ). before ++ (l ++ rest)) (bytes_more x xs)
    ∙ ap (λ (l : List ℕ). before ++ l) (append_assoc (bytes_of x) (bytes_of_all xs) rest) in
    let r : read_answer s at ≡ accepted (x ∷ (at + width_of x) ∷ []) =
    ap₂ read_answer q ea
    ∙ written_is_read before (bytes_of_all xs ++ rest) x b.0
    ∙ ap (λ (k : ℕ). accepted (x ∷ (k + width_of x) ∷ [])) (sym ea) in
    let n = next_is s at x (at + width_of x) r in
    let w = width_counts x in
    let l = length-append before (bytes_of x) in
    let m = taken_more x xs in (
      r ∙ ap (λ (k : ℕ). accepted (x ∷ k ∷ [])) n,
      written_stand xs s (before ++ bytes_of x) rest (next_at s at) end b.1
          (q ∙ sym (append_assoc before (bytes_of x) (bytes_of_all xs ++ rest)))
          (omega arith)
          (omega arith),
    )

-- numbers that stand are the numbers that are found there

pub stand_from : (xs s : List ℕ) (at end : ℕ) → Stand xs s at end → numbers_from (length xs) s at ≡ xs
stand_from [] s at end h = from_none s at
stand_from (x ∷ xs) s at end h =
    from_more (length xs) s at
    ∙ ap₂ (λ (n : ℕ) (l : List ℕ). n ∷ l) (sym (number_is s at x (next_at s at) h.0)) (stand_from xs s (next_at s at) end h.1)

-- numbers after numbers

pub stand_join : (xs ys s : List ℕ) (at middle end : ℕ) → Stand xs s at middle → Stand ys s middle end → Stand (xs ++ ys) s at end
stand_join [] ys s at middle end h k = subst (λ (i : ℕ). Stand ys s i end) (sym h) k
stand_join (x ∷ xs) ys s at middle end h k = (h.0, stand_join xs ys s (next_at s at) middle end h.1 k)

stand_split : (xs ys s : List ℕ) (at end : ℕ) → Stand (xs ++ ys) s at end → Stand xs s at (after (length xs) s at) × Stand ys s (after (length xs) s at) end
stand_split [] ys s at end h = let z = after_none s at in (sym z, subst (λ (i : ℕ). Stand ys s i end) (sym z) h)
stand_split (x ∷ xs) ys s at end h =
    let z = after_more (length xs) s at in
    let r = stand_split xs ys s (next_at s at) end h.1 in (
      (h.0, subst (λ (i : ℕ). Stand xs s (next_at s at) i) (sym z) r.0),
      subst (λ (i : ℕ). Stand ys s i end) (sym z) r.1,
    )

-- the same, where it is known how many the first are
pub stand_split_at : (n : ℕ) (xs ys s : List ℕ) (at middle end : ℕ) → length xs ≡ n → after n s at ≡ middle → Stand (xs ++ ys) s at end → Stand xs s at middle × Stand ys s middle end
stand_split_at n xs ys s at middle end l e h =
    let r = stand_split xs ys s at end h in
    let q : after (length xs) s at ≡ middle = ap (λ (k : ℕ). after k s at) l ∙ e in
    (subst (λ (i : ℕ). Stand xs s at i) q r.0, subst (λ (i : ℕ). Stand ys s i end) q r.1)

-- What is read is what is written.

one_written : (s : List ℕ) (at v next : ℕ) → Read s at v next → take next s ≡ take at s ++ bytes_of v
one_written s at v next r =
    sym (take-append-drop at (take next s))
    ∙ ap₂ (λ (x y : List ℕ). x ++ y) (take-take at next s (omega (arith, r.moves_on))) r.bytes

-- the bytes up to the end of the numbers are those before them, and theirs
pub stand_written : (xs s : List ℕ) (at end : ℕ) → Bytes s → at ≤ length s → Stand xs s at end → take end s ≡ take at s ++ bytes_of_all xs
stand_written [] s at end hb l h = ap (λ (k : ℕ). take k s) (sym h) ∙ sym (append-nil (take at s)) ∙ ap (λ (y : List ℕ). take at s ++ y) (sym bytes_none)
stand_written (x ∷ xs) s at end hb l h =
    let r = read_is_written s at x (next_at s at) hb h.0 in
    stand_written xs s (next_at s at) end hb r.inside h.1
    ∙ ap (λ (y : List ℕ). y ++ bytes_of_all xs) (one_written s at x (next_at s at) r)
    ∙ append_assoc (take at s) (bytes_of x) (bytes_of_all xs)
    ∙ ap (λ (y : List ℕ). take at s ++ y) (sym (bytes_more x xs))
