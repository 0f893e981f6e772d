-- Numbers put into bytes one after the other: what stands there then, and that there is room for the next.
-- Assumes nothing.
use mathlib.Core.Path.{◌≡◌, sym, ap, ap₂, ◌∙◌}
use mathlib.Core.List.{List, [], ◌∷◌, ◌++◌}
use Prim.Native.Nat.{ℕ, ◌+◌, ◌≤◌, ◌<◌}
use native.Mathlib.Omega.{arith}
use lib.ListN.{length, get_or, take}
use lib.Seq.{sets, length-sets}
use Rattle.std.proofs.lemmas.List.{take_more}
use Rattle.field.specs.Lists.{each}
use Rattle.field.proofs.Each.{each_none}
use Rattle.trace.proofs.Stores.{sets_append}
use Rattle.numbers.specs.Form.{bytes_of, width_of}
use Rattle.record.specs.Bytes.{bytes_of_all, wire_numbers}
use Rattle.record.proofs.Widths.{taken, taken_none, taken_more, taken_append, bytes_none, bytes_one, bytes-append, taken_next, taken_within, wires_next, wires_taken_next, wires-within}

-- with the numbers vs put into old from at on, out is left, and next is the place after them
pub record Wrote (old : List ℕ) (at : ℕ) (vs out : List ℕ) (next : ℕ) : Type 0 where
  pub place : next ≡ at + taken vs
  pub bytes : out ≡ sets old at (bytes_of_all vs)

pub wrote_none : (old : List ℕ) (at : ℕ) → Wrote old at [] old at
wrote_none old at = record { place = omega (arith, taken_none); bytes = ap (λ (l : List ℕ). sets old at l) (sym bytes_none) }

wrote_one : (old : List ℕ) (at v : ℕ) (out : List ℕ) (next : ℕ) → next ≡ at + width_of v → out ≡ sets old at (bytes_of v) → Wrote old at (v ∷ []) out next
wrote_one old at v out next e q =
    record {
      place = omega (arith, e, taken_more v [], taken_none);
      bytes = q ∙ ap (λ (l : List ℕ). sets old at l) (sym (bytes_one v));
    }

module _ {old : List ℕ} {at : ℕ} {vs mid : List ℕ} {m : ℕ} (w : Wrote old at vs mid m) where
  pub wrote_length : length mid ≡ length old
  wrote_length = ap length w.bytes ∙ length-sets old at (bytes_of_all vs)

  pub wrote_on : (ws out : List ℕ) (next : ℕ) → Wrote mid m ws out next → Wrote old at (vs ++ ws) out next
  wrote_on ws out next u =
      record {
        place = omega (arith, u.place, w.place, taken_append vs ws);
        bytes =
            u.bytes
            ∙ ap₂ (λ (l : List ℕ) (k : ℕ). sets l k (bytes_of_all ws)) w.bytes w.place
            ∙ sets_append (bytes_of_all vs) (bytes_of_all ws) old at
            ∙ ap (λ (l : List ℕ). sets old at l) (sym (bytes-append vs ws));
      }

-- a turn of `put_numbers`
module _ (numbers : List ℕ) (i : ℕ) (h : i < length numbers) {old : List ℕ} {at : ℕ} {mid : List ℕ} {m : ℕ} (w : Wrote old at (take i numbers) mid m) where
  pub number_room : at + taken numbers ≤ length old → m + width_of (get_or numbers i 0) ≤ length mid
  number_room r = omega (arith, w.place, wrote_length w, taken_next numbers i h, taken_within numbers (i + 1))

  pub number_wrote : (out : List ℕ) (next : ℕ) → next ≡ m + width_of (get_or numbers i 0) → out ≡ sets mid m (bytes_of (get_or numbers i 0)) → Wrote old at (take (i + 1) numbers) out next
  number_wrote out next e q = let v = get_or numbers i 0 in rw (take_more numbers i 0 h) (wrote_on w (v ∷ []) out next (wrote_one mid m v out next e q))

-- `put_wires` before its first turn, and in a turn
pub wires_none : (values counts old : List ℕ) (at : ℕ) → Wrote old at (each (wire_numbers values counts) 0) old at
wires_none values counts old at = rw (each_none (wire_numbers values counts)) (wrote_none old at)

module _ (values counts : List ℕ) (k : ℕ) {old : List ℕ} {at : ℕ} {mid : List ℕ} {m : ℕ} (w : Wrote old at (each (wire_numbers values counts) k) mid m) where
  pub wire_room : (n : ℕ) → k < n → at + taken (each (wire_numbers values counts) n) ≤ length old → m + taken (wire_numbers values counts k) ≤ length mid
  wire_room n l r = omega (arith, w.place, wrote_length w, wires_taken_next values counts k, wires-within values counts (k + 1) n (omega arith))

  pub wire_wrote : (out : List ℕ) (next : ℕ) → Wrote mid m (wire_numbers values counts k) out next → Wrote old at (each (wire_numbers values counts) (k + 1)) out next
  wire_wrote out next u = rw (wires_next values counts k) (wrote_on w (wire_numbers values counts k) out next u)
