-- The rows of an accepted evaluation: what its record fills is what its circuit says, wire by wire.
-- Assumes nothing.
use mathlib.Core.Path.{◌≡◌, sym, ap, ap₂, ◌∙◌}
use mathlib.Core.List.{List, [], ◌++◌}
use mathlib.Core.Logic.{⊎_elim}
use Prim.Native.Nat.{ℕ, ◌+◌, ◌*◌, ◌/◌, ◌≤◌, ◌<◌}
use native.Mathlib.Omega.{arith}
use lib.ListN.{length, get_or}
use lib.Seq.{sets, length-sets}
use Rattle.refusal.specs.Told.{Told, accepted, refused, changed}
use Rattle.field.specs.Pair.{Pair}
use Rattle.field.proofs.Cases.{below?}
use Rattle.field.proofs.Each.{each_equal}
use Rattle.refusal.proofs.Tellings.{clash}
use Rattle.trace.specs.declared.RecordHeader.{RecordHeader}
use Rattle.trace.specs.Outcome.{Lent}
use Rattle.trace.specs.Read.{read_node}
use Rattle.trace.specs.Eval.{position, eval_node}
use Rattle.trace.specs.Output.{header_numbers}
use Rattle.trace.proofs.Stores.{sets_below, sets_above, sets_in}
use Rattle.eval_circuit.specs.Circuit.{Circuit, multiplicity}
use Rattle.eval_circuit.specs.Evaluated.{circuit_at, eval_answer, id_at, eval_buffers}
use Rattle.eval_circuit.proofs.Accepted.{Valid, accepted_valid}
use Rattle.eval_circuit.proofs.Wires.{wire_count, node_read, node_eval}
use Rattle.rows.specs.Rows.{read_row, eval_row, read_row_at, eval_row_at, record_read_row, record_eval_row, record_rows}
use Rattle.rows.specs.Fill.{of_rows, fill_answer, filled_rows}
use Rattle.rows.specs.ByWire.{wire_read_row, wire_eval_row, circuit_rows}
use Rattle.rows.proofs.Filling.{enough_rows, short_rows}
use Rattle.rows.proofs.WireRows.{circuit_rows_length}
use Rattle.rows.proofs.AcceptedRecord.{eval_header, answered-header, record_passes}

-- a row by the cells of its node and by its counts
module _ (h : RecordHeader) (cs ns : List ℕ) (at : ℕ) where
  at_first : (x : ℕ) → get_or ns (at + 0) 0 ≡ x → get_or ns at 0 ≡ x
  at_first x e = let z : at ≡ at + 0 = omega arith in ap (λ (k : ℕ). get_or ns k 0) z ∙ e

  read-row-of : (i ptr id₀ id₁ m₀ m₁ : ℕ) (v₀ v₁ : Pair) → ((j : ℕ) → j < 7 → get_or ns (at + j) 0 ≡ get_or (read_node ptr id₀ v₀ id₁ v₁) j 0)
      → get_or cs (2 * i) 0 ≡ m₀ → get_or cs (2 * i + 1) 0 ≡ m₁
      → read_row_at h cs ns i at ≡ read_row h.ctx h.clk h.num_eval i ptr id₀ v₀ id₁ v₁ m₀ m₁
  read-row-of i ptr id₀ id₁ m₀ m₁ v₀ v₁ node c₀ c₁ =
      rw (
        at_first _ (node 0 (omega arith)),
        node 1 (omega arith),
        node 2 (omega arith),
        node 3 (omega arith),
        node 4 (omega arith),
        node 5 (omega arith),
        node 6 (omega arith),
        c₀,
        c₁,
      )

  eval-row-of : (k ptr op id₀ id₁ id₂ m₀ : ℕ) (v₀ v₁ v₂ : Pair) → ((j : ℕ) → j < 11 → get_or ns (at + j) 0 ≡ get_or (eval_node ptr op id₀ v₀ id₁ v₁ id₂ v₂) j 0)
      → get_or cs (2 * h.num_read + k) 0 ≡ m₀
      → eval_row_at h cs ns k at ≡ eval_row h.ctx h.clk ptr op id₀ v₀ id₁ v₁ id₂ v₂ m₀
  eval-row-of k ptr op id₀ id₁ id₂ m₀ v₀ v₁ v₂ node c₀ =
      rw (
        at_first _ (node 0 (omega arith)),
        node 1 (omega arith),
        node 2 (omega arith),
        node 3 (omega arith),
        node 4 (omega arith),
        node 5 (omega arith),
        node 6 (omega arith),
        node 7 (omega arith),
        node 8 (omega arith),
        node 9 (omega arith),
        node 10 (omega arith),
        c₀,
      )

-- an evaluation that is accepted with a header
module _ (ctx clk ptr num-vars num-eval : ℕ) (memory : List ℕ) (b : Lent) (h : RecordHeader)
    (e : eval_answer ctx clk ptr num-vars num-eval memory b ≡ accepted (header_numbers h)) where
  abbrev circuit : Circuit
  circuit = circuit_at memory ptr num-vars num-eval

  abbrev after : Lent
  after = eval_buffers ctx clk ptr num-vars num-eval memory b

  abbrev num-rows : ℕ
  num-rows = num-vars / 2 + num-eval

  abbrev made : RecordHeader
  made = eval_header ctx clk num-vars num-eval

  is_made : h ≡ made
  is_made = answered-header ctx clk ptr num-vars num-eval memory b h e

  valid : Valid ptr num-vars num-eval memory b
  valid = accepted_valid ctx clk ptr num-vars num-eval memory b (header_numbers h) e

  count_at : (k i : ℕ) → k ≡ i → i < num-vars + num-eval → get_or after.counts k 0 ≡ multiplicity circuit (id_at circuit i)
  count_at k i q l =
      let z : k ≡ position (num-vars + num-eval) (id_at circuit i) = omega arith in
      ap (λ (j : ℕ). get_or after.counts j 0) z ∙ wire_count ctx clk ptr num-vars num-eval memory b (header_numbers h) e (id_at circuit i) (omega arith)

  read-row-same : (i : ℕ) → i < num-vars / 2 → record_read_row made after.counts after.nodes i ≡ wire_read_row ctx clk ptr circuit i
  read-row-same i l =
      read-row-of made after.counts after.nodes (7 * i) i _ _ _ _ _ _ _
      (λ j m. node_read ctx clk ptr num-vars num-eval memory b (header_numbers h) e i j l m)
      (count_at (2 * i) (2 * i) (omega arith) (omega arith))
      (count_at (2 * i + 1) (2 * i + 1) (omega arith) (omega arith))

  eval-row-same : (k : ℕ) → k < num-eval → record_eval_row made after.counts after.nodes k ≡ wire_eval_row ctx clk ptr circuit k
  eval-row-same k l =
      let v = valid.even_vars in
      eval-row-of made after.counts after.nodes (7 * (num-vars / 2) + 11 * k) k _ _ _ _ _ _ _ _ _
      (λ j m. node_eval ctx clk ptr num-vars num-eval memory b (header_numbers h) e k j l m)
      (count_at (2 * (num-vars / 2) + k) (num-vars + k) (omega arith) (omega arith))

  -- the rows of the record that it leaves are those of its circuit, by wire id
  pub rows_by_wire : record_rows h after ≡ circuit_rows ctx clk ptr circuit
  rows_by_wire =
      ap (λ (x : RecordHeader). record_rows x after) is_made
      ∙ ap₂ (λ (xs ys : List ℕ). xs ++ ys)
      (each_equal (record_read_row made after.counts after.nodes) (wire_read_row ctx clk ptr circuit) (num-vars / 2) read-row-same)
      (each_equal (record_eval_row made after.counts after.nodes) (wire_eval_row ctx clk ptr circuit) num-eval eval-row-same)

  module _ (offset : ℕ) (rows : List ℕ) where
    -- "21, 19, 6, 17" never refuse it: 14 alone is left
    pub fill_tests : fill_answer h after offset rows ≡ of_rows offset num-rows (length rows) (accepted [])
    unfolding fill_answer
    fill_tests =
        record_passes ctx clk ptr num-vars num-eval memory b h e _
        ∙ ap (λ (x : RecordHeader). of_rows offset (x.num_read + x.num_eval) (length rows) (accepted [])) is_made

    -- it is filled exactly where the row buffer holds its rows from the offset on, and else refused 14
    pub fill_accepted : 16 * (offset + num-rows) ≤ length rows → fill_answer h after offset rows ≡ accepted []
    fill_accepted l = fill_tests ∙ sym (enough_rows offset num-rows (length rows) (accepted []) l)

    pub fill_refused : length rows < 16 * (offset + num-rows) → fill_answer h after offset rows ≡ refused 14 0
    fill_refused l = fill_tests ∙ sym (short_rows offset num-rows (length rows) (accepted []) l)

    pub fill_needs : fill_answer h after offset rows ≡ accepted [] → 16 * (offset + num-rows) ≤ length rows
    fill_needs q = ⊎_elim (λ l. clash (sym (fill_refused l) ∙ q)) (λ l. l) (below? (length rows) (16 * (offset + num-rows)))

    -- filled, the row buffer has the rows of the circuit, from the offset on
    pub filled_by_wire : 16 * (offset + num-rows) ≤ length rows → filled_rows h after offset rows ≡ sets rows (16 * offset) (circuit_rows ctx clk ptr circuit)
    filled_by_wire l =
        ap (λ (t : Told). changed t (sets rows (16 * offset) (record_rows h after)) rows) (fill_accepted l)
        ∙ ap (λ (xs : List ℕ). sets rows (16 * offset) xs) rows_by_wire

    -- refused, it stays
    pub refused_kept : length rows < 16 * (offset + num-rows) → filled_rows h after offset rows ≡ rows
    refused_kept l = ap (λ (t : Told). changed t (sets rows (16 * offset) (record_rows h after)) rows) (fill_refused l)

    -- the filled buffer cell by cell: row i and cell j of the circuit's rows stand at row offset + i and cell j, all other rows stay
    module _ (l : 16 * (offset + num-rows) ≤ length rows) where
      stored-length : length (circuit_rows ctx clk ptr circuit) ≡ 16 * num-rows
      stored-length = circuit_rows_length ctx clk ptr circuit

      pub filled_named : (k : ℕ) → k < 16 * num-rows → get_or (filled_rows h after offset rows) (16 * offset + k) 0 ≡ get_or (circuit_rows ctx clk ptr circuit) k 0
      filled_named k m =
          ap (λ (xs : List ℕ). get_or xs (16 * offset + k) 0) (filled_by_wire l)
          ∙ sets_in (circuit_rows ctx clk ptr circuit) rows (16 * offset) k (omega (arith, stored-length)) (omega (arith, stored-length))

      pub filled-before : (k : ℕ) → k < 16 * offset → get_or (filled_rows h after offset rows) k 0 ≡ get_or rows k 0
      filled-before k m =
          ap (λ (xs : List ℕ). get_or xs k 0) (filled_by_wire l) ∙ sets_below (circuit_rows ctx clk ptr circuit) rows (16 * offset) k m

      pub filled-behind : (k : ℕ) → 16 * (offset + num-rows) ≤ k → get_or (filled_rows h after offset rows) k 0 ≡ get_or rows k 0
      filled-behind k m =
          ap (λ (xs : List ℕ). get_or xs k 0) (filled_by_wire l)
          ∙ sets_above (circuit_rows ctx clk ptr circuit) rows (16 * offset) k (omega (arith, stored-length))

      pub filled-length : length (filled_rows h after offset rows) ≡ length rows
      filled-length = ap length (filled_by_wire l) ∙ length-sets rows (16 * offset) (circuit_rows ctx clk ptr circuit)
