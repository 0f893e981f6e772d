-- Text put into bytes, part behind part: what stands there then, and that there is room.
-- Assumes nothing.
use Prim.Native.Nat.{ℕ, zero, suc, ◌+◌, ◌-◌, ◌*◌, ◌%◌, ◌≤◌, ◌<◌}
use mathlib.Core.Path.{◌≡◌, refl, sym, ap, ap₂, ◌∙◌}
use mathlib.Core.List.{List, [], ◌∷◌, ◌++◌}
use native.Mathlib.Omega.{arith}
use native.Mathlib.Numerals.{add-one}
use lib.ListN.{length, get_or, set, drop, length-append}
use lib.Seq.{sets, sets-eq, length-sets}
use borrow.Author.Tests.{eq-eqb}
use Rattle.field.specs.Lists.{each}
use Rattle.field.proofs.Each.{each_none, each_more}
use Rattle.trace.proofs.Stores.{sets_append}
use Rattle.program.specs.Text.{decimal, behind, part}
use Rattle.program.proofs.Decimal.{decimal-length}

-- with a text put into old from at on, out is left, and next is the place after it
pub record Wrote (old : List ℕ) (at : ℕ) (text out : List ℕ) (next : ℕ) : Type 0 where
  pub place : next ≡ at + length text
  pub bytes : out ≡ sets old at text

pub wrote : (text : List ℕ) {old : List ℕ} {at : ℕ} {out : List ℕ} {next : ℕ} → next ≡ at + length text → out ≡ sets old at text → Wrote old at text out next
wrote text e q = record { place = e; bytes = q }

pub wrote_length : {old : List ℕ} {at : ℕ} {text out : List ℕ} {next : ℕ} → Wrote old at text out next → length out ≡ length old
wrote_length {old} {at} {text} w = ap length w.bytes ∙ length-sets old at text

pub wrote_on : {old : List ℕ} {at : ℕ} {xs mid : List ℕ} {m : ℕ} → Wrote old at xs mid m → {ys out : List ℕ} {next : ℕ} → Wrote mid m ys out next → Wrote old at (xs ++ ys) out next
wrote_on {old} {at} {xs} {mid} {m} w {ys} u =
    record {
      place = omega (arith, u.place, w.place, length-append xs ys);
      bytes = u.bytes ∙ ap₂ (λ (l : List ℕ) (k : ℕ). sets l k ys) w.bytes w.place ∙ sets_append xs ys old at;
    }

-- a word at the start
pub word_put : (word start out : List ℕ) → length word ≤ length out → start ≡ word → start ++ drop (length word) out ≡ sets out 0 word
word_put word start out h e =
    let z : 0 + length word ≡ length word = omega arith in
    ap (λ (l : List ℕ). l ++ drop (length word) out) e
    ∙ ap (λ (k : ℕ). word ++ drop k out) (sym z)
    ∙ sym (sets-eq word out 0 (omega arith))

-- what stands behind the last number of a line
pub behind_last : (width k : ℕ) → k % width ≡ width - 1 → 10 ≡ behind width k
behind_last width k e = rw (eq-eqb (k % width) (width - 1) e)

-- numbers in lines
module _ (width : ℕ) (cells : List ℕ) where
  part_length : (k : ℕ) → length (part width cells k) ≤ 21
  part_length k = omega (arith, length-append (decimal (get_or cells k 0)) (behind width k ∷ []), decimal-length (get_or cells k 0))

  pub parts_length : (n : ℕ) → length (each (part width cells) n) ≤ 21 * n
  parts_length zero = omega (arith, ap length (each_none (part width cells)))
  parts_length (suc n) =
      omega (
        arith,
        ap length (each_more (part width cells) n),
        length-append (each (part width cells) n) (part width cells n),
        parts_length n,
        part_length n,
      )

  pub lines_none : (old : List ℕ) (at : ℕ) → Wrote old at (each (part width cells) 0) old at
  lines_none old at =
      record {
        place = omega (arith, ap length (each_none (part width cells)));
        bytes = ap (sets old at) (sym (each_none (part width cells)));
      }

  module _ (i : ℕ) {old : List ℕ} {at : ℕ} {mid : List ℕ} {m : ℕ} (w : Wrote old at (each (part width cells) i) mid m) where
    -- there is room for a number and the byte behind it
    module _ (n : ℕ) (h : i < n) (r : at + 21 * n ≤ length old) where
      pub number_room : m + length (decimal (get_or cells i 0)) ≤ length mid
      number_room = omega (arith, w.place, wrote_length w, parts_length i, decimal-length (get_or cells i 0))

      pub byte_room : (end : ℕ) → end ≡ m + length (decimal (get_or cells i 0)) → end < length mid
      byte_room end e = omega (arith, w.place, wrote_length w, parts_length i, decimal-length (get_or cells i 0))

    pub line_next : (end : ℕ) (there : List ℕ) (b : ℕ) → end ≡ m + length (decimal (get_or cells i 0)) → there ≡ sets mid m (decimal (get_or cells i 0)) → b ≡ behind width i
        → Wrote old at (each (part width cells) (i + 1)) (set there end b) (end + 1)
    line_next end there b e q f =
        rw (add-one i, each_more (part width cells) i)
        (wrote_on w (wrote_on (wrote (decimal (get_or cells i 0)) e q) (last there end b f)))
      where
        last : (l : List ℕ) (k c : ℕ) → c ≡ behind width i → Wrote l k (behind width i ∷ []) (set l k c) (k + 1)
        last l k c g = record { place = refl; bytes = ap (set l k) g }
