-- The text of a record: its rows are filled, and then put into lines.
-- Assumes nothing.
use Prim.Native.Nat.{ℕ, ◌+◌, ◌*◌, ◌≤◌}
use mathlib.Core.Path.{◌≡◌, refl, sym, ap, ◌∙◌}
use mathlib.Core.List.{List, [], ◌∷◌}
use native.Mathlib.Nat.{zero-add}
use native.Mathlib.Omega.{arith}
use lib.ListN.{length, take, drop}
use lib.Seq.{sets, sets-eq, length-sets, take_at}
use Rattle.refusal.specs.Told.{Told, changed}
use Rattle.trace.specs.declared.RecordHeader.{RecordHeader}
use Rattle.trace.specs.Outcome.{Lent}
use Rattle.trace.specs.Record.{record_wires}
use Rattle.rows.specs.Rows.{record_rows}
use Rattle.rows.specs.Fill.{num_rows, filled_rows}
use Rattle.rows.proofs.WireRows.{record_rows_length}
use Rattle.program.specs.Text.{lines}
use Rattle.program.specs.Answer.{accept, refuse, refuse_text}
use Rattle.program.specs.Inside.{no_rows, Fits, record_text}
use Rattle.program.proofs.Texts.{Wrote, wrote, wrote_on, parts_length}

no_rows_lem : length no_rows ≡ 2048
no_rows_lem = refl

-- a word at the start, and a place behind it
module _ (word out mid : List ℕ) (next : ℕ) (e : next ≡ length word) (q : mid ≡ sets out 0 word) where
  pub word_wrote : Wrote out 0 word mid next
  word_wrote = wrote word (e ∙ sym (zero-add (length word))) q

pub text_is : {out text new : List ℕ} {end : ℕ} → Wrote out 0 text new end → (end ≡ length text) × (new ≡ sets out 0 text)
text_is {out} {text} w = (w.place ∙ zero-add (length text), w.bytes)

-- "refuse" and the number
pub refusal_wrote : (number : ℕ) (out mid new : List ℕ) (at end : ℕ)
    → at ≡ length refuse → mid ≡ sets out 0 refuse
    → end ≡ at + length (lines 1 (number ∷ [])) → new ≡ sets mid at (lines 1 (number ∷ []))
    → (end ≡ length (refuse_text number)) × (new ≡ sets out 0 (refuse_text number))
refusal_wrote number out mid new at end e q f p = text_is (wrote_on (word_wrote refuse out mid at e q) (wrote (lines 1 (number ∷ [])) f p))

module _ (h : RecordHeader) (b : Lent) (out : List ℕ) (fits : Fits h b out) (rows : List ℕ) (r : rows ≡ filled_rows h b 0 no_rows) where
  filled : rows ≡ sets no_rows 0 (record_rows h b)
  filled = r ∙ ap (λ (t : Told). changed t (sets no_rows 0 (record_rows h b)) no_rows) fits.fills

  -- the cells that are told
  cells-are : (n : ℕ) → n ≡ 16 * num_rows h → take n rows ≡ record_rows h b
  cells-are n e =
      let few = fits.few in
      let l : length (record_rows h b) ≡ n = record_rows_length h b ∙ sym e in
      ap (take n) (filled ∙ sets-eq (record_rows h b) no_rows 0 (omega (arith, record_rows_length h b, no_rows_lem)))
      ∙ take_at (record_rows h b) (drop (0 + length (record_rows h b)) no_rows) n l

  abbrev first : List ℕ
  first = num_rows h ∷ record_wires h ∷ []

  -- behind the first line there is room for the others
  module _ (mid there : List ℕ) (at rows_at n : ℕ) (e : at ≡ length accept) (q : mid ≡ sets out 0 accept)
      (f : rows_at ≡ at + length (lines 2 first)) (p : there ≡ sets mid at (lines 2 first)) (j : n ≡ 16 * num_rows h) where
    there-length : length there ≡ length out
    there-length = ap length p ∙ length-sets mid at (lines 2 first) ∙ ap length q ∙ length-sets out 0 accept

    pub lines_fit : rows_at + 21 * length (take n rows) ≤ length there
    lines_fit =
        let few = fits.few in
        let room = fits.room in
        let seven : at ≡ 7 = e in
        let cells = ap length (cells-are n j) ∙ record_rows_length h b in
        omega (arith, there-length, parts_length 2 first 2)

    pub record_wrote : (new : List ℕ) (end : ℕ) → end ≡ rows_at + length (lines 16 (take n rows)) → new ≡ sets there rows_at (lines 16 (take n rows))
        → (end ≡ length (record_text h b)) × (new ≡ sets out 0 (record_text h b))
    record_wrote new end g u =
        text_is (wrote_on (word_wrote accept out mid at e q) (wrote_on (wrote (lines 2 first) f p) rows-wrote))
      where
        rows-wrote : Wrote there rows_at (lines 16 (record_rows h b)) new end
        rows-wrote = rw (← cells-are n j) (wrote (lines 16 (take n rows)) g u)
