-- Written reads back: what the writer wrote is read to the same header and the same cells.
-- Assumes nothing.
use Prim.Native.Nat.{ℕ, ◌*◌, ◌^◌, ◌≤◌, ◌<◌}
use mathlib.Core.Path.{◌≡◌, refl, sym, ap, ◌∙◌, subst}
use mathlib.Core.List.{List, [], ◌∷◌, ◌++◌}
use lib.ListN.{length, get_or, take, drop}
use lib.Seq.{sets, length-take-le, take_at, drop_at}
use Rattle.refusal.specs.Told.{accepted}
use Rattle.trace.specs.declared.CircuitEvaluation.{CircuitEvaluation}
use Rattle.trace.specs.declared.RecordHeader.{RecordHeader}
use Rattle.trace.specs.Outcome.{Lent}
use Rattle.trace.specs.Output.{header_numbers, header_of}
use Rattle.trace.specs.Record.{record_wires, record_cells}
use Rattle.trace.proofs.Tests.{Fits}
use Rattle.trace.proofs.Records.{Recorded, finalized_of}
use Rattle.record.specs.Bytes.{record_bytes, write_into_answer, written_into, write_state_answer, written_state}
use Rattle.record.specs.Reading.{read_from_answer, read_buffers}
use Rattle.record.proofs.FieldsFound.{record_in_lem}
use Rattle.record.proofs.Standing.{header-answered, leaves}
use Rattle.record.proofs.RecordWriting.{write_left, state_left}
use Rattle.record.proofs.Used.{front_set}
use Rattle.record.proofs.Writer.{written_of}
use Rattle.record.proofs.BytesRead.{BytesRead, bytes_read}

-- The bytes are read to the record of h and b: the header is h, the used cells of all three buffers are those of b,
-- and the cells past them are those of b', the buffers that the reader was lent.
pub record ReadTo (h : RecordHeader) (b : Lent) (bytes : List ℕ) (b' : Lent) : Type 0 where
  pub answer : read_from_answer bytes b' ≡ accepted (header_numbers h)
  pub values : (read_buffers bytes b').values ≡ take (2 * record_wires h) b.values ++ drop (2 * record_wires h) b'.values
  pub counts : (read_buffers bytes b').counts ≡ take (record_wires h) b.counts ++ drop (record_wires h) b'.counts
  pub nodes : (read_buffers bytes b').nodes ≡ take (record_cells h) b.nodes ++ drop (record_cells h) b'.nodes

-- cells that are put in the place of a buffer's first are those of another buffer
filled : (n : ℕ) (vs l m : List ℕ) → vs ≡ take n l → n ≤ length l → n ≤ length m → sets m 0 vs ≡ take n l ++ drop n m
filled n vs l m e h k = ap (sets m 0) e ∙ front_set n (take n l) m (length-take-le n l h) k

answered : (h : RecordHeader) (b : Lent) (s : List ℕ) (b' : Lent) → BytesRead h b s (length b'.values) (length b'.counts) (length b'.nodes)
    → read_from_answer s b' ≡ accepted (header_numbers h)
answered h b s b' g = sym (header-answered s b' _ g.answer) ∙ ap accepted (sym g.header)

read_to : (h : RecordHeader) (b : Lent) (s : List ℕ) (b' : Lent) → Recorded h b → Fits h.num_read h.num_eval (length b'.values) (length b'.counts) (length b'.nodes)
    → BytesRead h b s (length b'.values) (length b'.counts) (length b'.nodes) → ReadTo h b s b'
read_to h b s b' r f g =
    let a = answered h b s b' g in
    let e = sym (leaves s b' (accepted (header_numbers h)) (sym a)) ∙ record_in_lem s b' in
    record {
      answer = a;
      values = ap (λ (x : Lent). x.values) e ∙ filled (2 * record_wires h) _ b.values b'.values g.values_are r.fits.for_values f.for_values;
      counts = ap (λ (x : Lent). x.counts) e ∙ filled (record_wires h) _ b.counts b'.counts g.counts_are r.fits.for_counts f.for_counts;
      nodes = ap (λ (x : Lent). x.nodes) e ∙ filled (record_cells h) _ b.nodes b'.nodes g.nodes_are r.fits.for_nodes f.for_nodes;
    }

-- What the writer wrote of h and b: it answered the number of the record's bytes; these are the first that it left, and what was lent behind them is as it was;
-- and they are read to the record, whatever buffers with room for it the reader is lent.
pub record ReadsBack (h : RecordHeader) (b : Lent) (out vs : List ℕ) : Type 0 where
  pub count : vs ≡ length (record_bytes h b) ∷ []
  pub bytes : take (length (record_bytes h b)) (written_into h b out) ≡ record_bytes h b
  pub rest : drop (length (record_bytes h b)) (written_into h b out) ≡ drop (length (record_bytes h b)) out
  pub reads : (b' : Lent) → Fits h.num_read h.num_eval (length b'.values) (length b'.counts) (length b'.nodes)
      → ReadTo h b (take (length (record_bytes h b)) (written_into h b out)) b'

-- Written reads back. ctx, clk and the counts are below 2^32, as in every call of the writer: their types hold no other numbers.
pub reads_back : (h : RecordHeader) (b : Lent) (out vs : List ℕ) → write_into_answer h b out ≡ accepted vs
    → h.ctx < 2 ^ 32 → h.clk < 2 ^ 32 → ((k : ℕ) → get_or b.counts k 0 < 2 ^ 32) → ReadsBack h b out vs
reads_back h b out vs e x l c =
    let w = written_of h b out vs e in
    let n = length (record_bytes h b) in
    let q : take n (written_into h b out) ≡ record_bytes h b = ap (take n) w.bytes ∙ take_at (record_bytes h b) (drop n out) n refl in
    record {
      count = w.answer;
      bytes = q;
      rest = ap (drop n) w.bytes ∙ drop_at (record_bytes h b) (drop n out) n refl;
      reads =
          λ b' f.
          subst (λ (s : List ℕ). ReadTo h b s b') (sym q)
          (read_to h b (record_bytes h b) b' w.recorded f (bytes_read h b w.recorded x l c (length b'.values) (length b'.counts) (length b'.nodes) f));
    }

-- The same of a step state: where the writer accepts it, it writes what it writes of the state's header.
pub state_reads_back : (s : CircuitEvaluation) (b : Lent) (out vs : List ℕ) → write_state_answer s b out ≡ accepted vs
    → s.ctx < 2 ^ 32 → s.clk < 2 ^ 32 → ((k : ℕ) → get_or b.counts k 0 < 2 ^ 32)
    → (written_state s b out ≡ written_into (header_of s) b out) × ReadsBack (header_of s) b out vs
unfolding write_state_answer
state_reads_back s b out vs e x l c =
    let f = finalized_of s (write_into_answer (header_of s) b out) vs e in
    (sym (state_left s b out (accepted vs) (sym e)) ∙ write_left (header_of s) b out (accepted vs) (sym f.2), reads_back (header_of s) b out vs f.2 x l c)
