-- The bytes of a record that passes the writer's tests are accepted by the reader, and the record is what it finds.
-- Assumes nothing.
use Prim.Native.Nat.{ℕ, ◌+◌, ◌*◌, ◌^◌, ◌<◌}
use mathlib.Core.Path.{◌≡◌, refl, sym, ap₂, ◌∙◌, subst}
use mathlib.Core.List.{List, [], ◌∷◌, ◌++◌, append-nil}
use native.Mathlib.Nat.{zero-add}
use native.Mathlib.Omega.{arith}
use lib.ListN.{length, get_or, take, drop, length-drop}
use lib.Seq.{length-take-le, take-add}
use Rattle.std.proofs.lemmas.Bool.Decides.{nat_tests}
use Rattle.refusal.specs.Told.{accepted}
use Rattle.field.specs.Field.{p}
use Rattle.field.specs.Lists.{each}
use Rattle.numbers.proofs.Below.{below_accepted}
use Rattle.trace.specs.declared.RecordHeader.{RecordHeader}
use Rattle.trace.specs.Outcome.{Lent}
use Rattle.trace.specs.Output.{header_numbers}
use Rattle.trace.specs.Record.{record_wires, record_cells}
use Rattle.trace.proofs.Tests.{Fits}
use Rattle.trace.proofs.Records.{Recorded}
use Rattle.record.specs.Bytes.{wire_numbers, read_cells, eval_cells, record_numbers, record_bytes}
use Rattle.record.specs.Reading.{
  u32,
  wires_in,
  wires_at,
  declared_at,
  declared_in,
  read_list_at,
  reads_in,
  reads_at,
  eval_list_at,
  evals_in,
  evals_at,
  end_at,
  declared_answer,
  nodes_answer,
  end_answer,
  fields_answer,
  header_in,
}
use Rattle.record.proofs.Bounds.{AllBelow, below_wider, below_append, each_below, part_below}
use Rattle.record.proofs.Sequence.{Stand, written_stand}
use Rattle.record.proofs.WireList.{wires-used}
use Rattle.record.proofs.RecordParts.{wire_list, read_list, eval_list}
use Rattle.record.proofs.Ways.{goes_on}
use Rattle.record.proofs.Tests.{nodes_accepted}
use Rattle.record.proofs.FieldsFound.{values_in, counts_in, read_cells_in, eval_cells_in}
use Rattle.record.proofs.FieldsRead.{HeadRead, head_read, ListRead, list_read, LengthsRead, lengths_read, nodes_pass, ReadsRead, reads_read, EvalsRead, evals_read}

-- a record that the writer's tests pass, and whose ctx, clk and counts are of 32 bits
module _ (h : RecordHeader) (b : Lent) (r : Recorded h b)
    (ctx_below : h.ctx < 2 ^ 32) (clk_below : h.clk < 2 ^ 32) (counts-below : (k : ℕ) → get_or b.counts k 0 < 2 ^ 32) where
  abbrev usedValues : List ℕ
  usedValues = take (2 * record_wires h) b.values

  abbrev usedCounts : List ℕ
  usedCounts = take (record_wires h) b.counts

  values-many : length usedValues ≡ 2 * record_wires h
  values-many = length-take-le (2 * record_wires h) b.values r.fits.for_values

  counts-many : length usedCounts ≡ record_wires h
  counts-many = length-take-le (record_wires h) b.counts r.fits.for_counts

  reads-many : length (read_cells h b) ≡ 7 * h.num_read
  reads-many = length-take-le (7 * h.num_read) b.nodes (omega (arith, r.fits.for_nodes))

  evals-many : length (eval_cells h b) ≡ 11 * h.num_eval
  evals-many =
      length-take-le (11 * h.num_eval) (drop (7 * h.num_read) b.nodes)
      (omega (arith, r.fits.for_nodes, length-drop (7 * h.num_read) b.nodes))

  -- every number in its range

  values_in_lem : AllBelow p usedValues
  values_in_lem = part_below p 0 (2 * record_wires h) b.values (omega (arith, r.fits.for_values)) (λ k l. r.values_in_lem k (omega arith))

  counts-in : AllBelow u32 usedCounts
  counts-in = part_below u32 0 (record_wires h) b.counts (omega (arith, r.fits.for_counts)) (λ k l. counts-below k)

  reads_in_lem : AllBelow p (read_cells h b)
  reads_in_lem = part_below p 0 (7 * h.num_read) b.nodes (omega (arith, r.fits.for_nodes)) (λ k l. r.nodes_in k (omega arith))

  evals-in : AllBelow p (eval_cells h b)
  evals-in = part_below p (7 * h.num_read) (11 * h.num_eval) b.nodes r.fits.for_nodes r.nodes_in

  wires-in : AllBelow (2 ^ 64) (wire_list h b)
  wires-in =
      each_below (2 ^ 64) (wire_numbers b.values b.counts) (record_wires h)
      (λ k l.
      let x = r.values_in_lem (2 * k) (omega arith) in
      let y = r.values_in_lem (2 * k + 1) (omega arith) in
      (omega arith, (omega arith, (omega (arith, counts-below k), tt))))

  abbrev nodeLists : List ℕ
  nodeLists = record_wires h ∷ read_list h b ++ eval_list h b

  eval-list-in : AllBelow (2 ^ 64) (eval_list h b)
  eval-list-in = (omega (arith, r.few), below_wider p (2 ^ 64) (eval_cells h b) (omega arith) evals-in)

  node-lists-in : AllBelow (2 ^ 64) nodeLists
  node-lists-in =
      let cells = below_wider p (2 ^ 64) (read_cells h b) (omega arith) reads_in_lem in
      (omega (arith, r.few), (omega (arith, r.few), below_append (2 ^ 64) (read_cells h b) (eval_list h b) cells eval-list-in))

  numbers-in : AllBelow (2 ^ 64) (record_numbers h b)
  numbers-in =
      let lists = below_append (2 ^ 64) (wire_list h b) nodeLists wires-in node-lists-in in
      (omega arith, (omega arith, (omega (arith, r.id_in), (omega (arith, r.few), lists))))

  -- so they stand in the bytes

  abbrev usedWires : ℕ → List ℕ
  usedWires n = each (wire_numbers usedValues usedCounts) n

  abbrev Stands : List ℕ → Type 0
  Stands s = Stand (h.ctx ∷ h.clk ∷ h.id_next ∷ record_wires h ∷ usedWires (record_wires h) ++ nodeLists) s 0 (length s)

  in_bytes : Stands (record_bytes h b)
  in_bytes =
      subst (λ (ws : List ℕ). Stand (h.ctx ∷ h.clk ∷ h.id_next ∷ record_wires h ∷ ws ++ nodeLists) (record_bytes h b) 0 (length (record_bytes h b)))
      (sym (wires-used b.values b.counts (record_wires h)))
      (written_stand (record_numbers h b) (record_bytes h b) [] [] 0 (length (record_bytes h b)) numbers-in
      (sym (append-nil (record_bytes h b)))
      refl
      (sym (zero-add (length (record_bytes h b)))))

  -- and are found in bytes in which they stand, for buffers with room for them

  module _ (s : List ℕ) (stands : Stands s) where
    head : HeadRead h.ctx h.clk h.id_next (record_wires h) (usedWires (record_wires h) ++ nodeLists) s (length s)
    head = head_read _ _ _ _ (usedWires (record_wires h) ++ nodeLists) s (length s) stands ctx_below clk_below r.id_in

    module _ (values counts nodes : ℕ) (f : Fits h.num_read h.num_eval values counts nodes) where
      list : ListRead usedValues usedCounts nodeLists s (length s) values counts
      list =
          let n = head.wires_are in
          list_read usedValues usedCounts nodeLists s (length s) values counts
          (subst (λ (k : ℕ). Stand (usedWires k ++ nodeLists) s (wires_at s) (length s)) n head.others)
          (omega (arith, n, values-many))
          (omega (arith, n, counts-many))
          values_in_lem
          counts-in
          (omega (arith, n, f.for_values))
          (omega (arith, n, f.for_counts))

      lengths : LengthsRead (record_wires h) h.num_read (read_cells h b ++ eval_list h b) s (length s)
      lengths = lengths_read _ _ (read_cells h b ++ eval_list h b) s (length s) list.others

      reads : ReadsRead (read_cells h b) (eval_list h b) s (length s)
      reads = reads_read (read_cells h b) (eval_list h b) s (length s) lengths.others (omega (arith, lengths.reads_are, reads-many))

      evals : EvalsRead h.num_eval (eval_cells h b) s (length s)
      evals = evals_read h.num_eval (eval_cells h b) s (length s) reads.others evals-many

      declared-told : declared_answer (wires_in s) s (declared_at s) ≡ accepted (declared_in s ∷ read_list_at s ∷ [])
      unfolding declared_answer declared_in read_list_at
      declared-told =
          let n = head.wires_are in
          let d = lengths.declared_is in
          let below = below_accepted u32 s (declared_at s) (declared_in s) (read_list_at s) lengths.declared_read (omega (arith, d, r.few)) in
          grind (arith, nat_tests, goes_on, n, d, r.few, r.some_evals)

      reads-told : nodes_answer 0 7 nodes s (read_list_at s) ≡ accepted (reads_in s ∷ eval_list_at s ∷ [])
      reads-told =
          let n = lengths.reads_are in
          nodes_pass 0 7 nodes (reads_in s) (read_cells h b) s (read_list_at s) (reads_at s) (eval_list_at s) lengths.reads_read reads.stand reads_in_lem
          (omega (arith, n, reads-many))
          (omega (arith, n, f.for_nodes))

      evals-told : nodes_answer (7 * reads_in s) 11 nodes s (eval_list_at s) ≡ accepted (evals_in s ∷ length s ∷ [])
      evals-told =
          let n = lengths.reads_are in
          let e = evals.evals_are in
          nodes_pass (7 * reads_in s) 11 nodes (evals_in s) (eval_cells h b) s (eval_list_at s) (evals_at s) (length s) evals.evals_read evals.stand evals-in
          (omega (arith, e, evals-many))
          (omega (arith, n, e, f.for_nodes))

      fields : fields_answer s values counts nodes ≡ accepted (declared_in s ∷ length s ∷ [])
      unfolding fields_answer end_answer evals_in evals_at end_at
      fields =
          let n = lengths.reads_are in
          let e = evals.evals_are in
          let end = (nodes_accepted (7 * reads_in s) 11 nodes s (eval_list_at s) (evals_in s) (length s) evals-told).1 in
          grind (arith, nat_tests, goes_on, head.answer, list.answer, declared-told, reads-told, evals-told, n, e, r.few, r.some_evals, lengths.declared_is)

-- what the reader finds in the bytes s, for so many value cells, counts and node cells, is the record of h and b
pub record BytesRead (h : RecordHeader) (b : Lent) (s : List ℕ) (values counts nodes : ℕ) : Type 0 where
  pub answer : fields_answer s values counts nodes ≡ accepted (declared_in s ∷ length s ∷ [])
  pub header : header_numbers h ≡ header_in s
  pub values_are : values_in s ≡ take (2 * record_wires h) b.values
  pub counts_are : counts_in s ≡ take (record_wires h) b.counts
  pub nodes_are : read_cells_in s ++ eval_cells_in s ≡ take (record_cells h) b.nodes

pub bytes_read : (h : RecordHeader) (b : Lent) → Recorded h b → h.ctx < 2 ^ 32 → h.clk < 2 ^ 32 → ((k : ℕ) → get_or b.counts k 0 < 2 ^ 32)
    → (values counts nodes : ℕ) → Fits h.num_read h.num_eval values counts nodes → BytesRead h b (record_bytes h b) values counts nodes
bytes_read h b r x l c values counts nodes f =
    let s = record_bytes h b in
    let st = in_bytes h b r x l c in
    let hd = head h b r x l c s st in
    let ls = list h b r x l c s st values counts nodes f in
    let ns = lengths h b r x l c s st values counts nodes f in
    let rs = reads h b r x l c s st values counts nodes f in
    let es = evals h b r x l c s st values counts nodes f in
    record {
      answer = fields h b r x l c s st values counts nodes f;
      header = cc (hd.ctx_is, hd.clk_is, ns.reads_are, es.evals_are, hd.id_is);
      values_are = ls.values_are;
      counts_are = ls.counts_are;
      nodes_are =
          ap₂ (λ (y z : List ℕ). y ++ z) rs.read_cells_are es.eval_cells_are
          ∙ sym (take-add (7 * h.num_read) (11 * h.num_eval) b.nodes);
    }
