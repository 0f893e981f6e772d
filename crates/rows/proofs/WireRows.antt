-- Rows by number and cell: those of a circuit by its wires, and those of a record.
-- Assumes nothing.
use mathlib.Core.Path.{◌≡◌, refl, ap, ◌∙◌}
use mathlib.Core.List.{List, ◌++◌}
use Prim.Native.Nat.{ℕ, ◌+◌, ◌*◌, ◌/◌, ◌<◌}
use native.Mathlib.Omega.{arith}
use lib.ListN.{length, get_or, length-append}
use Rattle.field.specs.Lists.{each}
use Rattle.field.proofs.Each.{each-length, each_at, each_then, each_rest}
use Rattle.trace.specs.declared.RecordHeader.{RecordHeader}
use Rattle.trace.specs.Outcome.{Lent}
use Rattle.eval_circuit.specs.Circuit.{Circuit}
use Rattle.rows.specs.Rows.{record_read_row, record_eval_row, record_rows}
use Rattle.rows.specs.ByWire.{wire_read_row, wire_eval_row, circuit_rows}

-- n rows of one kind and then m of another, 16 cells each
module _ (f g : ℕ → List ℕ) (f-wide : (k : ℕ) → length (f k) ≡ 16) (g-wide : (k : ℕ) → length (g k) ≡ 16) (n m : ℕ) where
  both-length : length (each f n ++ each g m) ≡ 16 * (n + m)
  both-length = omega (arith, length-append (each f n) (each g m), each-length f 16 f-wide n, each-length g 16 g-wide m)

  of-first : (i j : ℕ) → i < n → j < 16 → get_or (each f n ++ each g m) (16 * i + j) 0 ≡ get_or (f i) j 0
  of-first i j h l = each_then f 16 f-wide n i j (each g m) h l

  of-second : (k j : ℕ) → k < m → j < 16 → get_or (each f n ++ each g m) (16 * (n + k) + j) 0 ≡ get_or (g k) j 0
  of-second k j h l =
      let e : 16 * (n + k) + j ≡ 16 * n + (16 * k + j) = omega arith in
      ap (λ (i : ℕ). get_or (each f n ++ each g m) i 0) e
      ∙ each_rest f 16 f-wide n (16 * k + j) (each g m)
      ∙ each_at g 16 g-wide m k j h l

module _ (ctx clk ptr : ℕ) (c : Circuit) where
  -- a row for every two variables, and one for every gate
  pub circuit_rows_length : length (circuit_rows ctx clk ptr c) ≡ 16 * (c.vars / 2 + c.gates)
  circuit_rows_length = both-length (wire_read_row ctx clk ptr c) (wire_eval_row ctx clk ptr c) (λ k. refl) (λ k. refl) (c.vars / 2) c.gates

  -- READ row i, cell j
  pub read_row_cell : (i j : ℕ) → i < c.vars / 2 → j < 16 → get_or (circuit_rows ctx clk ptr c) (16 * i + j) 0 ≡ get_or (wire_read_row ctx clk ptr c i) j 0
  read_row_cell i j h l = of-first (wire_read_row ctx clk ptr c) (wire_eval_row ctx clk ptr c) (λ k. refl) (λ k. refl) (c.vars / 2) c.gates i j h l

  -- EVAL row k, cell j: behind the READ rows
  pub eval_row_cell : (k j : ℕ) → k < c.gates → j < 16 → get_or (circuit_rows ctx clk ptr c) (16 * (c.vars / 2 + k) + j) 0 ≡ get_or (wire_eval_row ctx clk ptr c k) j 0
  eval_row_cell k j h l = of-second (wire_read_row ctx clk ptr c) (wire_eval_row ctx clk ptr c) (λ i. refl) (λ i. refl) (c.vars / 2) c.gates k j h l

module _ (h : RecordHeader) (b : Lent) where
  abbrev reading : ℕ → List ℕ
  reading = record_read_row h b.counts b.nodes

  abbrev evaluating : ℕ → List ℕ
  evaluating = record_eval_row h b.counts b.nodes

  -- a row for every node
  pub record_rows_length : length (record_rows h b) ≡ 16 * (h.num_read + h.num_eval)
  record_rows_length = both-length reading evaluating (λ k. refl) (λ k. refl) h.num_read h.num_eval

  -- READ row i and EVAL row k, cell j
  pub record_read_cell : (i j : ℕ) → i < h.num_read → j < 16 → get_or (record_rows h b) (16 * i + j) 0 ≡ get_or (record_read_row h b.counts b.nodes i) j 0
  record_read_cell i j l m = of-first reading evaluating (λ k. refl) (λ k. refl) h.num_read h.num_eval i j l m

  pub record_eval_cell : (k j : ℕ) → k < h.num_eval → j < 16
      → get_or (record_rows h b) (16 * (h.num_read + k) + j) 0 ≡ get_or (record_eval_row h b.counts b.nodes k) j 0
  record_eval_cell k j l m = of-second reading evaluating (λ i. refl) (λ i. refl) h.num_read h.num_eval k j l m
