-- The parts of a record, and how many bytes they take.
-- Assumes nothing.
use mathlib.Core.Path.{◌≡◌, ap, ◌∙◌}
use mathlib.Core.List.{List, [], ◌∷◌, ◌++◌, append_assoc}
use Prim.Native.Nat.{ℕ, ◌+◌, ◌*◌, ◌≤◌}
use native.Mathlib.Omega.{arith}
use lib.ListN.{length, take}
use Rattle.field.specs.Lists.{each}
use Rattle.trace.specs.declared.RecordHeader.{RecordHeader}
use Rattle.trace.specs.Outcome.{Lent}
use Rattle.trace.specs.Record.{record_wires}
use Rattle.record.specs.Bytes.{wire_numbers, read_cells, eval_cells, record_numbers, record_bytes}
use Rattle.record.proofs.Widths.{taken, taken_append}
use Rattle.record.proofs.WireList.{wires-handed}

module _ (h : RecordHeader) (b : Lent) where
  -- "ctx, clk, id_next; wire list length"
  abbrev pub heads : List ℕ
  heads = h.ctx ∷ h.clk ∷ h.id_next ∷ record_wires h ∷ []

  abbrev pub wire_list : List ℕ
  wire_list = each (wire_numbers b.values b.counts) (record_wires h)

  abbrev pub read_list : List ℕ
  read_list = h.num_read ∷ read_cells h b

  abbrev pub eval_list : List ℕ
  eval_list = h.num_eval ∷ eval_cells h b

  -- the numbers of a record, part by part, are as wide as all of them
  parts_taken : taken heads + taken wire_list + taken (record_wires h ∷ h.num_read ∷ []) + taken (read_cells h b) + taken (h.num_eval ∷ []) + taken (eval_cells h b) ≡ length (record_bytes h b)
  parts_taken =
      let behind_reads = (h.num_eval ∷ []) ++ eval_cells h b in
      let behind_lengths = read_cells h b ++ behind_reads in
      let behind_wires = (record_wires h ∷ h.num_read ∷ []) ++ behind_lengths in
      omega (
        arith,
        taken_append heads (wire_list ++ behind_wires),
        taken_append wire_list behind_wires,
        taken_append (record_wires h ∷ h.num_read ∷ []) behind_lengths,
        taken_append (read_cells h b) behind_reads,
        taken_append (h.num_eval ∷ []) (eval_cells h b),
      )

  in_order : heads ++ wire_list ++ (record_wires h ∷ h.num_read ∷ []) ++ read_cells h b ++ (h.num_eval ∷ []) ++ eval_cells h b ≡ record_numbers h b
  in_order = simp append_assoc

-- and so are they where the n wires' own cells and counts are handed
module _ (h : RecordHeader) (b : Lent) (n : ℕ) (e : n ≡ record_wires h) (held : record_wires h ≤ length b.counts) where
  abbrev handed_list : List ℕ
  handed_list = each (wire_numbers (take (2 * n) b.values) (take n b.counts)) (length (take n b.counts))

  same_list : handed_list ≡ wire_list h b
  same_list = wires-handed b.values b.counts n (omega (arith, e, held)) ∙ ap (each (wire_numbers b.values b.counts)) e

  pub handed_taken : taken (heads h b) + taken handed_list + taken (record_wires h ∷ h.num_read ∷ []) + taken (read_cells h b) + taken (h.num_eval ∷ []) + taken (eval_cells h b) ≡ length (record_bytes h b)
  handed_taken = omega (arith, ap taken same_list, parts_taken h b)

  pub handed_in_order : heads h b ++ handed_list ++ (record_wires h ∷ h.num_read ∷ []) ++ read_cells h b ++ (h.num_eval ∷ []) ++ eval_cells h b ≡ record_numbers h b
  handed_in_order =
      ap (λ (l : List ℕ). heads h b ++ l ++ (record_wires h ∷ h.num_read ∷ []) ++ read_cells h b ++ (h.num_eval ∷ []) ++ eval_cells h b) same_list ∙ in_order h b
