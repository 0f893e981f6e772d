-- What the private functions promise each other. No public contract cites this file.
-- Assumes nothing.
use Rattle.std.specs.Prelude.{◌≡◌, ℕ, ◌≤◌, ◌<◌, List, [], ◌∷◌, length, get_or}
use Rattle.field.specs.Answer.{pair_of}
use Rattle.trace.specs.declared.RecordHeader.{RecordHeader}
use Rattle.trace.specs.Record.{most_record_wires, record_wires, record_cells}
use Rattle.rows.specs.declared.cols.AceCols.{AceCols}
use Rattle.rows.specs.Rows.{row}

-- the cells of a row's columns
abbrev pub col_cells : AceCols → List ℕ
col_cells r =
    row r.s_start r.s_block r.ctx r.ptr r.clk r.eval_op r.id_0 (pair_of r.v_0) r.id_1 (pair_of r.v_1)
    (get_or r.four 0 0 ∷ get_or r.four 1 0 ∷ get_or r.four 2 0 ∷ get_or r.four 3 0 ∷ [])

-- a record that has an EVAL node and whose nodes and counts are there
pub record Held (h : RecordHeader) (cs ns : List ℕ) : Type 0 where
  pub few : record_wires h ≤ most_record_wires
  pub some_evals : 0 < h.num_eval
  pub held-counts : record_wires h ≤ length cs
  pub held-nodes : record_cells h ≤ length ns

-- what is made for each of so many rows has the cells of that row
abbrev pub MakesRows : (ℕ → AceCols → Type 0) → ℕ → (ℕ → List ℕ) → Type 0
MakesRows made num row = ((i : ℕ) (cols : AceCols) → i < num → made i cols → col_cells cols ≡ row i) × ((i : ℕ) → length (row i) ≡ 16)
