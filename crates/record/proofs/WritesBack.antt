-- Read writes back: bytes that the reader accepts are those that the writer writes of what was read.
-- Assumes nothing.
use Prim.Native.Nat.{ℕ, ◌*◌, ◌≤◌}
use mathlib.Core.Path.{◌≡◌, refl, sym, ap, ◌∙◌, subst}
use mathlib.Core.List.{List, [], ◌∷◌, ◌++◌}
use native.Mathlib.Omega.{arith}
use lib.ListN.{length, get_or, take, drop, length-append}
use lib.Seq.{sets, length-sets, take_all}
use Rattle.refusal.specs.Told.{accepted}
use Rattle.field.specs.Field.{p}
use Rattle.field.specs.Lists.{each}
use Rattle.numbers.proofs.RoundTrip.{Bytes}
use Rattle.trace.specs.declared.RecordHeader.{RecordHeader}
use Rattle.trace.specs.Outcome.{Lent, lent}
use Rattle.trace.specs.Output.{header_numbers}
use Rattle.trace.specs.Record.{record_wires, record_cells}
use Rattle.trace.proofs.Records.{Recorded}
use Rattle.trace.proofs.Answers.{lent_equal}
use Rattle.record.specs.Bytes.{wire_numbers, bytes_of_all, record_numbers, record_bytes, write_into_answer, written_into}
use Rattle.record.specs.Numbers.{numbers_from}
use Rattle.record.specs.Reading.{ctx_in, clk_in, id_next_in, wires_in, wires_at, reads_in, reads_at, evals_in, evals_at, end_at, header_in, read_from_answer, record_in, read_buffers}
use Rattle.record.proofs.Places.{length_from}
use Rattle.record.proofs.Bounds.{below_append, first_below}
use Rattle.record.proofs.Sequence.{stand_from, stand_written}
use Rattle.record.proofs.WireList.{values_length, counts-length}
use Rattle.record.proofs.FieldsFound.{values_in, counts_in, read_cells_in, eval_cells_in, numbers_in, Accepted, accepted_of, record_in_lem}
use Rattle.record.proofs.Standing.{leaves}
use Rattle.record.proofs.Used.{used, laid_equal, held_numbers, front_taken}
use Rattle.record.proofs.Writer.{writer_accepts, written_of}

-- the header with the numbers that stand in bytes
record HeaderOf (h : RecordHeader) (s : List ℕ) : Type 0 where
  ctx_is : h.ctx ≡ ctx_in s
  clk_is : h.clk ≡ clk_in s
  reads_are : h.num_read ≡ reads_in s
  evals_are : h.num_eval ≡ evals_in s
  id_is : h.id_next ≡ id_next_in s

header_of : (h : RecordHeader) (s : List ℕ) → header_numbers h ≡ header_in s → HeaderOf h s
header_of h s e =
    record {
      ctx_is = ap (λ (l : List ℕ). get_or l 0 0) e;
      clk_is = ap (λ (l : List ℕ). get_or l 1 0) e;
      reads_are = ap (λ (l : List ℕ). get_or l 2 0) e;
      evals_are = ap (λ (l : List ℕ). get_or l 3 0) e;
      id_is = ap (λ (l : List ℕ). get_or l 4 0) e;
    }

-- bytes s that are accepted for the buffers b, and the header h that stands in them
module _ (s : List ℕ) (b : Lent) (h : RecordHeader)
    (a : Accepted s (length b.values) (length b.counts) (length b.nodes)) (e : HeaderOf h s) where
  wires-same : record_wires h ≡ wires_in s
  wires-same = omega (arith, e.reads_are, e.evals_are, a.of_nodes)

  values-many : length (values_in s) ≡ 2 * record_wires h
  values-many = omega (arith, values_length (wires_in s) s (wires_at s), wires-same)

  counts-many : length (counts_in s) ≡ record_wires h
  counts-many = omega (arith, counts-length (wires_in s) s (wires_at s), wires-same)

  reads-many : length (read_cells_in s) ≡ 7 * h.num_read
  reads-many = omega (arith, length_from (7 * reads_in s) s (reads_at s), e.reads_are)

  evals-many : length (eval_cells_in s) ≡ 11 * h.num_eval
  evals-many = omega (arith, length_from (11 * evals_in s) s (evals_at s), e.evals_are)

  nodes-many : length (read_cells_in s ++ eval_cells_in s) ≡ record_cells h
  nodes-many = omega (arith, length-append (read_cells_in s) (eval_cells_in s), reads-many, evals-many)

  -- the used cells are those that were read
  values-used : take (2 * record_wires h) (sets b.values 0 (values_in s)) ≡ values_in s
  values-used = front_taken (2 * record_wires h) (values_in s) b.values values-many (omega (arith, a.room-values, wires-same))

  counts-used : take (record_wires h) (sets b.counts 0 (counts_in s)) ≡ counts_in s
  counts-used = front_taken (record_wires h) (counts_in s) b.counts counts-many (omega (arith, a.room-counts, wires-same))

  nodes-used : take (record_cells h) (sets b.nodes 0 (read_cells_in s ++ eval_cells_in s)) ≡ read_cells_in s ++ eval_cells_in s
  nodes-used =
      front_taken (record_cells h) (read_cells_in s ++ eval_cells_in s) b.nodes nodes-many
      (omega (arith, a.room-nodes, e.reads_are, e.evals_are))

  read-used : used h (record_in s b) ≡ lent (values_in s) (counts_in s) (read_cells_in s ++ eval_cells_in s)
  read-used = ap (used h) (record_in_lem s b) ∙ lent_equal values-used counts-used nodes-used

  -- so the record's numbers are the numbers read
  read-numbers : record_numbers h (record_in s b) ≡ numbers_in s
  read-numbers =
      held_numbers h (record_in s b) (values_in s) (counts_in s) (read_cells_in s) (eval_cells_in s) read-used reads-many evals-many
      ∙ laid_equal {rc = read_cells_in s} {ec = eval_cells_in s} e.ctx_is e.clk_is e.id_is wires-same
      (ap (each (wire_numbers (values_in s) (counts_in s))) wires-same)
      (wires-same ∙ sym a.declared)
      e.reads_are
      refl
      e.evals_are
      refl

  read-in-order : record_numbers h (record_in s b) ≡ numbers_from (length (record_numbers h (record_in s b))) s 0
  read-in-order =
      read-numbers
      ∙ sym (stand_from (numbers_in s) s 0 (end_at s) a.stand)
      ∙ ap (λ (l : List ℕ). numbers_from (length l) s 0) (sym read-numbers)

  read-recorded : Recorded h (record_in s b)
  read-recorded =
      subst (Recorded h) (sym (record_in_lem s b))
      (record {
        some_evals = omega (arith, a.some_evals, e.evals_are);
        few = omega (arith, a.few, wires-same);
        fits = record {
          for_values = omega (arith, a.room-values, wires-same, length-sets b.values 0 (values_in s));
          for_counts = omega (arith, a.room-counts, wires-same, length-sets b.counts 0 (counts_in s));
          for_nodes = omega (arith, a.room-nodes, e.reads_are, e.evals_are, length-sets b.nodes 0 (read_cells_in s ++ eval_cells_in s));
        };
        values_in_lem = first_below p (2 * record_wires h) _ (values_in s) values-used values-many a.list.elements;
        nodes_in = first_below p (record_cells h) _ (read_cells_in s ++ eval_cells_in s) nodes-used nodes-many (below_append p (read_cells_in s) (eval_cells_in s) a.reads_below a.evals_below);
        id_in = omega (arith, a.id_below, e.id_is);
      })

  read-bytes : Bytes s → record_bytes h (record_in s b) ≡ s
  read-bytes hb =
      ap bytes_of_all read-numbers ∙ sym (stand_written (numbers_in s) s 0 (end_at s) hb (omega arith) a.stand) ∙ take_all (end_at s) s a.all_read

-- The reader answers the header that stands in the bytes.
pub answers_header : (s : List ℕ) (b : Lent) (vs : List ℕ) → read_from_answer s b ≡ accepted vs → vs ≡ header_in s
answers_header s b vs e = sym (accepted_of s b vs e).1

-- The record of h and b is the one in the bytes s: its numbers are those that stand in s from the first byte on, one after the other; s are its bytes;
-- and wherever there is room for them, the writer accepts it, answers how many they are, and writes them, leaving the bytes behind them as they were.
pub record WritesBack (s : List ℕ) (h : RecordHeader) (b : Lent) : Type 0 where
  pub numbers : record_numbers h b ≡ numbers_from (length (record_numbers h b)) s 0
  pub bytes : record_bytes h b ≡ s
  pub answer : (out : List ℕ) → length s ≤ length out → write_into_answer h b out ≡ accepted (length s ∷ [])
  pub written : (out : List ℕ) → length s ≤ length out → written_into h b out ≡ s ++ drop (length s) out

recorded_back : (s : List ℕ) (h : RecordHeader) (b : Lent) → record_numbers h b ≡ numbers_from (length (record_numbers h b)) s 0 → record_bytes h b ≡ s → Recorded h b → WritesBack s h b
recorded_back s h b n e r = record { numbers = n; bytes = e; answer = answer; written = written }
  where
    answer : (out : List ℕ) → length s ≤ length out → write_into_answer h b out ≡ accepted (length s ∷ [])
    answer out l = writer_accepts h b out r (omega (arith, ap length e)) ∙ ap (λ (x : List ℕ). accepted (length x ∷ [])) e

    written : (out : List ℕ) → length s ≤ length out → written_into h b out ≡ s ++ drop (length s) out
    written out l = (written_of h b out (length s ∷ []) (answer out l)).bytes ∙ ap (λ (x : List ℕ). x ++ drop (length x) out) e

-- Read writes back. Bytes s that the reader accepts, whatever the buffers b that it was lent,
-- hold the record of the header that it answers and of the buffers that it leaves.
pub writes_back : (s : List ℕ) (b : Lent) (vs : List ℕ) (h : RecordHeader) → Bytes s → read_from_answer s b ≡ accepted vs → header_numbers h ≡ vs
    → WritesBack s h (read_buffers s b)
writes_back s b vs h hb e q =
    let a = accepted_of s b vs e in
    let f = header_of h s (q ∙ sym a.1) in
    subst (WritesBack s h) (leaves s b (accepted vs) (sym e)) (recorded_back s h (record_in s b) (read-in-order s b h a.0 f) (read-bytes s b h a.0 f hb) (read-recorded s b h a.0 f))
