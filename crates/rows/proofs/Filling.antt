-- What the fill of rows comes to: row after row, and after each of its tests.
-- Assumes nothing.
use mathlib.Core.Path.{◌≡◌, refl, sym, ap, ap₂, ◌∙◌}
use mathlib.Core.List.{List, []}
use Prim.Native.Nat.{ℕ, ◌+◌, ◌*◌, ◌≤◌, ◌<◌}
use native.Mathlib.Numerals.{add-one}
use native.Mathlib.Omega.{arith}
use borrow.Author.Tests.{le-leb, lt-leb}
use lib.ListN.{length}
use lib.Seq.{sets}
use Rattle.refusal.specs.Told.{Told, accepted, refused, changed}
use Rattle.field.specs.Lists.{each}
use Rattle.field.proofs.Each.{each_more, each-length}
use Rattle.trace.specs.declared.CircuitEvaluation.{CircuitEvaluation}
use Rattle.trace.specs.declared.RecordHeader.{RecordHeader}
use Rattle.trace.specs.Outcome.{Lent}
use Rattle.trace.specs.Output.{header_numbers, header_of}
use Rattle.trace.specs.Record.{of_record, finalized_answer}
use Rattle.trace.proofs.Answers.{finalized_header}
use Rattle.trace.proofs.Records.{record_of, record_stops, record_goes, finalized_stops, finalized_goes}
use Rattle.trace.proofs.Stores.{sets_append}
use Rattle.rows.specs.Rows.{record_read_row, record_eval_row}
use Rattle.rows.specs.Fill.{of_rows, num_rows, fill_answer, rows_written, filled_rows, fill_state_answer, state_rows}
use Rattle.rows.specs.Inside.{Held}

-- one row more
pub row_next : (f : ℕ → List ℕ) → ((k : ℕ) → length (f k) ≡ 16) → (offset i : ℕ) (rows : List ℕ) {before after cells : List ℕ} → cells ≡ f i → after ≡ sets before (16 * (offset + i)) cells
    → before ≡ sets rows (16 * offset) (each f i) → after ≡ sets rows (16 * offset) (each f (i + 1))
row_next f wide offset i rows ec ea eb =
    let place : 16 * (offset + i) ≡ 16 * offset + length (each f i) = omega (arith, each-length f 16 wide i) in
    ea
    ∙ ap₂ (λ (l cs : List ℕ). sets l (16 * (offset + i)) cs) eb ec
    ∙ ap (λ (k : ℕ). sets (sets rows (16 * offset) (each f i)) k (f i)) place
    ∙ sets_append (each f i) (f i) rows (16 * offset)
    ∙ ap (sets rows (16 * offset)) (sym (each_more f i) ∙ ap (each f) (sym (add-one i)))

-- the last row is written
pub all_rows : (f : ℕ → List ℕ) (offset n i : ℕ) (rows after : List ℕ) → after ≡ sets rows (16 * offset) (each f i) → i ≡ n → after ≡ sets rows (16 * offset) (each f n)
all_rows f offset n i rows after e q = e ∙ ap (λ (k : ℕ). sets rows (16 * offset) (each f k)) q

-- the test of the row buffer, 14, both ways
pub short_rows : (offset num-rows len : ℕ) (t : Told) → len < 16 * (offset + num-rows) → refused 14 0 ≡ of_rows offset num-rows len t
unfolding of_rows
short_rows offset num-rows len t l = rw (lt-leb (16 * (offset + num-rows)) len l)

pub enough_rows : (offset num-rows len : ℕ) (t : Told) → 16 * (offset + num-rows) ≤ len → t ≡ of_rows offset num-rows len t
unfolding of_rows
enough_rows offset num-rows len t l = rw (le-leb (16 * (offset + num-rows)) len l)

-- a record that passed its tests
pub held : (h : RecordHeader) (b : Lent) → accepted [] ≡ of_record h b (accepted []) → Held h b.counts b.nodes
held h b e =
    let r = (record_of h b (accepted []) [] (sym e)).0 in
    record { few = r.few; some_evals = r.some_evals; held-counts = r.fits.for_counts; held-nodes = r.fits.for_nodes }

module _ (h : RecordHeader) (b : Lent) (offset : ℕ) (rows : List ℕ) where
  kept : (number place : ℕ) → refused number place ≡ fill_answer h b offset rows → rows ≡ filled_rows h b offset rows
  kept n k e = ap (λ (t : Told). changed t (rows_written h b offset rows) rows) e

  stopped : (number place : ℕ) → refused number place ≡ of_record h b (accepted []) → refused number place ≡ fill_answer h b offset rows
  unfolding fill_answer
  stopped n k e = record_stops h b (of_rows offset (num_rows h) (length rows) (accepted [])) n k e

  passed : accepted [] ≡ of_record h b (accepted []) → of_rows offset (num_rows h) (length rows) (accepted []) ≡ fill_answer h b offset rows
  unfolding fill_answer
  passed e = record_goes h b (of_rows offset (num_rows h) (length rows) (accepted [])) e

  pub fill_stops : (number place : ℕ) → refused number place ≡ of_record h b (accepted []) → (refused number place ≡ fill_answer h b offset rows) × (rows ≡ filled_rows h b offset rows)
  fill_stops n k e = let q = stopped n k e in (q, kept n k q)

  pub fill_short : accepted [] ≡ of_record h b (accepted []) → length rows < 16 * (offset + num_rows h) → (refused 14 0 ≡ fill_answer h b offset rows) × (rows ≡ filled_rows h b offset rows)
  fill_short e l = let q = short_rows offset (num_rows h) (length rows) (accepted []) l ∙ passed e in (q, kept 14 0 q)

  pub fill_done : accepted [] ≡ of_record h b (accepted []) → 16 * (offset + num_rows h) ≤ length rows → {read filled : List ℕ}
      → read ≡ sets rows (16 * offset) (each (record_read_row h b.counts b.nodes) h.num_read)
      → filled ≡ sets read (16 * (offset + h.num_read)) (each (record_eval_row h b.counts b.nodes) h.num_eval)
      → (accepted [] ≡ fill_answer h b offset rows) × (filled ≡ filled_rows h b offset rows)
  fill_done e l {read} {filled} er ef =
      let reads = each (record_read_row h b.counts b.nodes) h.num_read in
      let evals = each (record_eval_row h b.counts b.nodes) h.num_eval in
      let q = enough_rows offset (num_rows h) (length rows) (accepted []) l ∙ passed e in
      let place : 16 * (offset + h.num_read) ≡ 16 * offset + length reads = omega (arith, each-length (record_read_row h b.counts b.nodes) 16 (λ k. refl) h.num_read) in (
        q,
        ef
            ∙ ap₂ (λ (x : List ℕ) (k : ℕ). sets x k evals) er place
            ∙ sets_append reads evals rows (16 * offset)
            ∙ ap (λ (t : Told). changed t (rows_written h b offset rows) rows) q,
      )

module _ (s : CircuitEvaluation) (b : Lent) (offset : ℕ) (rows : List ℕ) where
  pub state_stops : (number place : ℕ) → refused number place ≡ finalized_answer s → (refused number place ≡ fill_state_answer s b offset rows) × (rows ≡ state_rows s b offset rows)
  unfolding fill_state_answer
  state_stops n k e =
      let q = finalized_stops s (header_numbers (header_of s)) (fill_answer (header_of s) b offset rows) n k e in
      (q, ap (λ (t : Told). changed t (rows_written (header_of s) b offset rows) rows) q)

  -- so put for the search
  pub state_refused : (number place : ℕ) → refused number place ≡ finalized_answer s → fill_state_answer s b offset rows ≡ refused number place
  state_refused number place e = sym (state_stops number place e).0

  -- the header of a finished state, and the fill of that
  pub state_fills : (h : RecordHeader) (t : Told) (filled : List ℕ) → accepted (header_numbers h) ≡ finalized_answer s → t ≡ fill_answer h b offset rows → filled ≡ filled_rows h b offset rows
      → (t ≡ fill_state_answer s b offset rows) × (filled ≡ state_rows s b offset rows)
  unfolding fill_state_answer
  state_fills h t filled e et er =
      let same = finalized_header h s e in
      let goes = finalized_goes s (header_numbers (header_of s)) (header_numbers h) (fill_answer (header_of s) b offset rows) e in (
        et ∙ ap (λ (k : RecordHeader). fill_answer k b offset rows) same ∙ goes,
        er
            ∙ ap (λ (k : RecordHeader). filled_rows k b offset rows) same
            ∙ ap (λ (x : Told). changed x (rows_written (header_of s) b offset rows) rows) goes,
      )
