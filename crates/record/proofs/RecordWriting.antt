-- What `write_into` and `write_state_into` answer and leave, by the ways through them.
-- Assumes nothing.
use mathlib.Core.Path.{◌≡◌, sym, ap, ap₂, ◌∙◌}
use mathlib.Core.List.{List, [], ◌∷◌}
use Prim.Native.Nat.{ℕ, ◌≤◌, ◌<◌}
use lib.ListN.{length}
use lib.Seq.{sets}
use borrow.Author.Tests.{le-leb, lt-leb}
use Rattle.refusal.specs.Told.{Told, accepted, refused, changed}
use Rattle.trace.specs.declared.CircuitEvaluation.{CircuitEvaluation}
use Rattle.trace.specs.declared.RecordHeader.{RecordHeader}
use Rattle.trace.specs.Outcome.{Lent}
use Rattle.trace.specs.Output.{header_numbers, header_of}
use Rattle.trace.specs.Record.{of_record, finalized_answer}
use Rattle.trace.proofs.Records.{record_of, record_stops, record_goes, finalized_stops, finalized_goes}
use Rattle.trace.proofs.Answers.{finalized_header}
use Rattle.record.specs.Bytes.{record_bytes, of_bytes, write_into_answer, written_into, write_state_answer, written_state}
use Rattle.record.specs.Inside.{Held}

-- a record that passes the tests is there
pub held : (h : RecordHeader) (b : Lent) → accepted [] ≡ of_record h b (accepted []) → Held h b
held h b e =
    let r = (record_of h b (accepted []) [] (sym e)).0 in
    record { few = r.few; held-values = r.fits.for_values; held-counts = r.fits.for_counts; held-nodes = r.fits.for_nodes }

bytes_fit : (bytes out : List ℕ) → length bytes ≤ length out → of_bytes bytes out ≡ accepted (length bytes ∷ [])
unfolding of_bytes
bytes_fit bytes out h = rw (le-leb (length bytes) (length out) h)

bytes_over : (bytes out : List ℕ) → length out < length bytes → of_bytes bytes out ≡ refused 24 0
unfolding of_bytes
bytes_over bytes out h = rw (lt-leb (length bytes) (length out) h)

module _ (h : RecordHeader) (b : Lent) (out : List ℕ) where
  -- what is left after an answer
  pub write_left : (t : Told) → t ≡ write_into_answer h b out → changed t (sets out 0 (record_bytes h b)) out ≡ written_into h b out
  write_left t e = ap (λ (x : Told). changed x (sets out 0 (record_bytes h b)) out) e

  pub write_stops : (number place : ℕ) → refused number place ≡ of_record h b (accepted []) → refused number place ≡ write_into_answer h b out
  unfolding write_into_answer
  write_stops number place e = record_stops h b (of_bytes (record_bytes h b) out) number place e

  module _ (passed : accepted [] ≡ of_record h b (accepted [])) where
    goes : of_bytes (record_bytes h b) out ≡ write_into_answer h b out
    unfolding write_into_answer
    goes = record_goes h b (of_bytes (record_bytes h b) out) passed

    pub write_over : (width : ℕ) → width ≡ length (record_bytes h b) → length out < width → refused 24 0 ≡ write_into_answer h b out
    write_over width e l = sym (bytes_over (record_bytes h b) out (rw (sym e) l)) ∙ goes

    module _ (width : ℕ) (e : width ≡ length (record_bytes h b)) (l : width ≤ length out) where
      pub write_goes : accepted (width ∷ []) ≡ write_into_answer h b out
      write_goes = ap (λ (n : ℕ). accepted (n ∷ [])) e ∙ sym (bytes_fit (record_bytes h b) out (rw (sym e) l)) ∙ goes

      pub write_leaves : (left : List ℕ) → left ≡ sets out 0 (record_bytes h b) → left ≡ written_into h b out
      write_leaves left q = q ∙ write_left (accepted (width ∷ [])) write_goes

module _ (s : CircuitEvaluation) (b : Lent) (out : List ℕ) where
  pub state_left : (t : Told) → t ≡ write_state_answer s b out → changed t (sets out 0 (record_bytes (header_of s) b)) out ≡ written_state s b out
  state_left t e = ap (λ (x : Told). changed x (sets out 0 (record_bytes (header_of s) b)) out) e

  pub state_stops : (number place : ℕ) → refused number place ≡ finalized_answer s → refused number place ≡ write_state_answer s b out
  unfolding write_state_answer
  state_stops number place e = finalized_stops s (header_numbers (header_of s)) (write_into_answer (header_of s) b out) number place e

  -- so put for the search
  pub state_refused : (number place : ℕ) → refused number place ≡ finalized_answer s → write_state_answer s b out ≡ refused number place
  state_refused number place e = sym (state_stops number place e)

  module _ (h : RecordHeader) (e : accepted (header_numbers h) ≡ finalized_answer s) where
    state-goes : write_into_answer h b out ≡ write_state_answer s b out
    unfolding write_state_answer
    state-goes =
        ap (λ (k : RecordHeader). write_into_answer k b out) (finalized_header h s e)
        ∙ finalized_goes s (header_numbers (header_of s)) (header_numbers h) (write_into_answer (header_of s) b out) e

    pub state_answer : (t : Told) → t ≡ write_into_answer h b out → t ≡ write_state_answer s b out
    state_answer t q = q ∙ state-goes

    pub state_leaves : (left : List ℕ) → left ≡ written_into h b out → left ≡ written_state s b out
    state_leaves left q =
        q ∙ ap₂ (λ (t : Told) (k : RecordHeader). changed t (sets out 0 (record_bytes k b)) out) state-goes (finalized_header h s e)
