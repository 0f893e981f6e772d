-- Every text ends in a newline, and none is longer than `most_text`.
-- Assumes nothing.
use Prim.Native.Nat.{ℕ, suc, ◌+◌, ◌-◌, ◌*◌, ◌/◌, ◌%◌, ◌≤◌, ◌<◌}
use mathlib.Core.Logic.{⊎_elim}
use mathlib.Core.Path.{◌≡◌, refl, sym, ap, ap₂, ◌∙◌}
use mathlib.Core.List.{List, [], ◌∷◌, ◌++◌, append_assoc}
use native.Mathlib.Omega.{arith}
use lib.ListN.{length, get_or, take, length-append}
use lib.Seq.{sets, length-sets}
use borrow.Author.Tests.{le-leb, lt-leb}
use Rattle.refusal.specs.Told.{Told, accepted, refused}
use Rattle.field.specs.Lists.{each}
use Rattle.field.proofs.Cases.{below?}
use Rattle.field.proofs.Each.{each_more}
use Rattle.eval_circuit.specs.Evaluated.{circuit_at, eval_answer}
use Rattle.eval_circuit.proofs.Accepted.{Valid, accepted_valid}
use Rattle.rows.specs.ByWire.{circuit_rows}
use Rattle.rows.proofs.WireRows.{circuit_rows_length}
use Rattle.record.proofs.Ways.{passed}
use Rattle.record.proofs.Used.{front_taken}
use Rattle.program.specs.Input.{ctx_in, clk_in, ptr_in, vars_in, evals_in, memory_in, input_answer}
use Rattle.program.specs.Text.{decimal, part, lines}
use Rattle.program.specs.Answer.{here, refuse, accept, refuse_text, circuit_text, text_of, program_answer, program_text, most_text, text_length, text_after}
use Rattle.program.proofs.Texts.{parts_length, behind_last}
use Rattle.program.proofs.Inputs.{input_good, room_enough}

-- a text of whole lines that fits
pub record Fitting (text : List ℕ) : Type 0 where
  pub front : List ℕ
  pub ends : text ≡ front ++ (10 ∷ [])
  pub short : length text ≤ most_text

module _ (width : ℕ) (xs : List ℕ) (n : ℕ) (e : length xs ≡ suc n) (q : n % width ≡ width - 1) where
  -- all of the lines but the newline at their end
  abbrev unended : List ℕ
  unended = each (part width xs) n ++ decimal (get_or xs n 0)

  lines_end : lines width xs ≡ unended ++ (10 ∷ [])
  lines_end =
      ap (each (part width xs)) e
      ∙ each_more (part width xs) n
      ∙ ap (λ (b : ℕ). each (part width xs) n ++ (decimal (get_or xs n 0) ++ (b ∷ []))) (sym (behind_last width n q))
      ∙ sym (append_assoc (each (part width xs) n) (decimal (get_or xs n 0)) (10 ∷ []))

  ends-in : (before : List ℕ) → before ++ lines width xs ≡ (before ++ unended) ++ (10 ∷ [])
  ends-in before = ap (λ (l : List ℕ). before ++ l) lines_end ∙ sym (append_assoc before unended (10 ∷ []))

pub refusal_fitting : (number : ℕ) → Fitting (refuse_text number)
refusal_fitting number =
    record {
      front = refuse ++ unended 1 (number ∷ []) 0 refl refl;
      ends = ends-in 1 (number ∷ []) 0 refl refl refuse;
      short = omega (arith, length-append refuse (lines 1 (number ∷ [])), parts_length 1 (number ∷ []) 1);
    }

module _ (ctx clk ptr num-vars num-eval : ℕ) (memory vs : List ℕ) (e : eval_answer ctx clk ptr num-vars num-eval memory here ≡ accepted vs) (h : num-vars + num-eval ≤ 128) where
  abbrev rows : List ℕ
  rows = circuit_rows ctx clk ptr (circuit_at memory ptr num-vars num-eval)

  abbrev first : List ℕ
  first = (num-vars / 2 + num-eval) ∷ (num-vars + num-eval) ∷ []

  valid : Valid ptr num-vars num-eval memory here
  valid = accepted_valid ctx clk ptr num-vars num-eval memory here vs e

  rows_length : length rows ≡ 16 * (num-vars / 2 + num-eval)
  rows_length = circuit_rows_length ctx clk ptr (circuit_at memory ptr num-vars num-eval)

  abbrev last : ℕ
  last = 16 * (num-vars / 2 + num-eval) - 1

  some : length rows ≡ suc last
  some = let s = valid.some_evals in omega (arith, rows_length)

  whole : last % 16 ≡ 16 - 1
  whole = let s = valid.some_evals in omega arith

  text-short : length (accept ++ (lines 2 first ++ lines 16 rows)) ≤ most_text
  text-short =
      let v = valid.some_vars in
      let w = valid.even_vars in
      omega (
        arith,
        rows_length,
        length-append accept (lines 2 first ++ lines 16 rows),
        length-append (lines 2 first) (lines 16 rows),
        parts_length 2 first 2,
        parts_length 16 rows (length rows),
      )

  pub rows_fitting : Fitting (circuit_text ctx clk ptr (circuit_at memory ptr num-vars num-eval))
  rows_fitting =
      record {
        front = accept ++ (lines 2 first ++ unended 16 rows last some whole);
        ends = ap (λ (l : List ℕ). accept ++ l) (ends-in 16 rows last some whole (lines 2 first)) ∙ sym (append_assoc accept (lines 2 first ++ unended 16 rows last some whole) (10 ∷ []));
        short = text-short;
      }

pub text_fitting : (s : List ℕ) → Fitting (program_text s)
unfolding program_text program_answer
text_fitting s = go (program_answer s) refl
  where
    go : (t : Told) → program_answer s ≡ t → Fitting (text_of t (circuit_text (ctx_in s) (clk_in s) (ptr_in s) (circuit_at (memory_in s) (ptr_in s) (vars_in s) (evals_in s))))
    go (refused number place) e = refusal_fitting number
    go (accepted vs) e =
        let a = passed (input_answer s) (eval_answer (ctx_in s) (clk_in s) (ptr_in s) (vars_in s) (evals_in s) (memory_in s) here) vs e in
        let v = accepted_valid (ctx_in s) (clk_in s) (ptr_in s) (vars_in s) (evals_in s) (memory_in s) here vs a.then in
        rows_fitting (ctx_in s) (clk_in s) (ptr_in s) (vars_in s) (evals_in s) (memory_in s) vs a.then
        (room_enough (vars_in s + evals_in s) (input_good s a.values a.first).room v.few)

-- a buffer with room for the longest text has all of the text at its start
module _ (s out : List ℕ) (h : most_text ≤ length out) where
  pub length_is : text_length s out ≡ length (program_text s)
  unfolding text_length
  length_is = rw (le-leb most_text (length out) h)

  text_is : text_after s out ≡ sets out 0 (program_text s)
  unfolding text_after
  text_is = rw (le-leb most_text (length out) h)

  pub written : take (text_length s out) (text_after s out) ≡ program_text s
  written =
      let f = (text_fitting s).short in
      ap₂ (λ (n : ℕ) (l : List ℕ). take n l) length_is text_is
      ∙ front_taken (length (program_text s)) (program_text s) out refl (omega arith)

  length-fits : text_length s out ≤ length (text_after s out)
  length-fits = let f = (text_fitting s).short in omega (arith, length_is, ap length text_is, length-sets out 0 (program_text s))

-- and one without has none
module _ (s out : List ℕ) (h : length out < most_text) where
  no_length : text_length s out ≡ 0
  unfolding text_length
  no_length = rw (lt-leb most_text (length out) h)

-- so what is answered is never more than the buffer holds
pub text_held : (s out new : List ℕ) (n : ℕ) → n ≡ text_length s out → new ≡ text_after s out → n ≤ length new
text_held s out new n e q = omega (arith, held, ap length q)
  where
    held : text_length s out ≤ length (text_after s out)
    held = ⊎_elim (λ l. omega (arith, no_length s out l)) (λ l. length-fits s out l) (below? (length out) most_text)
