-- Rows show nothing of the READ cells but wire values: demand 3 for the rows of two accepted evaluations of one shape.
-- Assumes nothing.
use mathlib.Core.Path.{◌≡◌, refl, sym, ap, ◌∙◌}
use mathlib.Core.Bool.{Bool, true}
use mathlib.Core.List.{List, []}
use mathlib.Core.Logic.{⊎_elim}
use Prim.Native.Nat.{ℕ, ◌+◌, ◌*◌, ◌/◌, ◌≤◌, ◌<◌}
use lib.Dec.{leb}
use lib.ListN.{length, get_or}
use Rattle.refusal.specs.Told.{accepted}
use Rattle.field.proofs.Cases.{below?}
use Rattle.instruction.specs.Decode.{left_id, right_id, opcode}
use Rattle.trace.specs.declared.RecordHeader.{RecordHeader}
use Rattle.trace.specs.Outcome.{Lent}
use Rattle.trace.specs.Eval.{eval_op}
use Rattle.trace.specs.Output.{header_numbers}
use Rattle.eval_circuit.specs.Circuit.{Circuit}
use Rattle.eval_circuit.specs.Evaluated.{circuit_at, eval_answer, id_at, eval_buffers}
use Rattle.eval_circuit.proofs.Shape.{Alike, same_word, same_multiplicity}
use Rattle.eval_circuit.proofs.Secrets.{Unseen, unseen}
use Rattle.rows.specs.Rows.{record_rows}
use Rattle.rows.specs.Fill.{fill_answer, filled_rows}
use Rattle.rows.specs.ByWire.{wire_read_row, wire_eval_row, circuit_rows}
use Rattle.rows.proofs.WireRows.{circuit_rows_length, read_row_cell, eval_row_cell}
use Rattle.rows.proofs.WireValues.{SameRows, SameBuffers, SameBut, hidden, shown, unshown, same_all, row_same, by_row}
use Rattle.rows.proofs.EvaluatedRows.{rows_by_wire, fill_tests, filled_named, filled-before, filled-behind, filled-length, refused_kept}

-- what the records of two evaluations fill: the same rows but for wire values, and in every row buffer, at every offset, the same answer and the same cells but for wire values
pub record RowsAlike (num-vars num-eval : ℕ) (first-header second-header : RecordHeader) (first second : Lent) : Type 0 where
  pub rows_alike : SameRows (num-vars / 2) (record_rows first-header first) (record_rows second-header second)
  pub fill_answers : (offset : ℕ) (rows : List ℕ) → fill_answer first-header first offset rows ≡ fill_answer second-header second offset rows
  pub fills_alike : (offset : ℕ) (rows : List ℕ) → SameBuffers offset (num-vars / 2) num-eval (filled_rows first-header first offset rows) (filled_rows second-header second offset rows)

-- what two memories of one shape come to, all else being equal
pub record UnseenRows (ctx clk ptr num-vars num-eval : ℕ) (first second : List ℕ) (b : Lent) : Type 0 where
  -- their evaluations are refused alike, or leave the same but for values
  pub evaluations : Unseen ctx clk ptr num-vars num-eval first second b
  -- and where both are accepted, each with its header, their rows are the same but for wire values
  pub accepted_rows : (h k : RecordHeader)
      → eval_answer ctx clk ptr num-vars num-eval first b ≡ accepted (header_numbers h) → eval_answer ctx clk ptr num-vars num-eval second b ≡ accepted (header_numbers k)
      → RowsAlike num-vars num-eval h k (eval_buffers ctx clk ptr num-vars num-eval first b) (eval_buffers ctx clk ptr num-vars num-eval second b)

module _ (ctx clk ptr num-vars num-eval : ℕ) (first second : List ℕ) (alike : Alike ptr num-vars num-eval first second) where
  abbrev one : Circuit
  one = circuit_at first ptr num-vars num-eval

  abbrev two : Circuit
  two = circuit_at second ptr num-vars num-eval

  read-row-same : (i : ℕ) (evals : Bool) → SameBut (hidden evals) (wire_read_row ctx clk ptr one i) (wire_read_row ctx clk ptr two i)
  read-row-same i evals =
      let m₀ = same_multiplicity ptr num-vars num-eval first second alike (id_at one (2 * i)) in
      let m₁ = same_multiplicity ptr num-vars num-eval first second alike (id_at one (2 * i + 1)) in
      row_same evals _ _ _ _ _ _ _ _ _ _ _ _ _ _ _ _ refl refl
      (shown _ _ _ _ _ refl (shown _ _ _ _ _ refl (shown _ _ _ _ _ m₁ (shown _ _ _ _ _ m₀ (same_all _ [])))))

  eval-row-same : (k : ℕ) → k < num-eval → SameBut (hidden true) (wire_eval_row ctx clk ptr one k) (wire_eval_row ctx clk ptr two k)
  eval-row-same k h =
      let w = same_word ptr num-vars num-eval first second alike k h in
      let m₀ = same_multiplicity ptr num-vars num-eval first second alike (id_at one (num-vars + k)) in
      row_same true _ _ _ _ _ _ _ _ _ _ _ _ _ _ _ _ (ap (λ (x : ℕ). eval_op (opcode x)) w) (ap left_id w)
      (shown _ _ _ _ _ (ap right_id w) (unshown _ _ _ _ _ refl (unshown _ _ _ _ _ refl (shown _ _ _ _ _ m₀ (same_all _ [])))))

  -- the rows of the two circuits: s_start, s_block, ctx, ptr, clk, eval_op, ids, num_eval and multiplicities are the same
  pub same_rows : SameRows (num-vars / 2) (circuit_rows ctx clk ptr one) (circuit_rows ctx clk ptr two)
  same_rows =
      by_row (num-vars / 2) num-eval (circuit_rows ctx clk ptr one) (circuit_rows ctx clk ptr two) (circuit_rows_length ctx clk ptr one) (circuit_rows_length ctx clk ptr two)
      (λ i j h l q. read_row_cell ctx clk ptr one i j h l ∙ (read-row-same i (leb (16 * (num-vars / 2)) (16 * i + j))).cell j q ∙ sym (read_row_cell ctx clk ptr two i j h l))
      (λ k j h l q. eval_row_cell ctx clk ptr one k j h l ∙ (eval-row-same k h).cell j q ∙ sym (eval_row_cell ctx clk ptr two k j h l))

  -- both accepted, each with its header
  module _ (b : Lent) (h k : RecordHeader)
      (e : eval_answer ctx clk ptr num-vars num-eval first b ≡ accepted (header_numbers h))
      (f : eval_answer ctx clk ptr num-vars num-eval second b ≡ accepted (header_numbers k)) where
    same-record-rows : SameRows (num-vars / 2) (record_rows h (eval_buffers ctx clk ptr num-vars num-eval first b)) (record_rows k (eval_buffers ctx clk ptr num-vars num-eval second b))
    same-record-rows = rw (rows_by_wire ctx clk ptr num-vars num-eval first b h e, rows_by_wire ctx clk ptr num-vars num-eval second b k f) same_rows

    module _ (offset : ℕ) (rows : List ℕ) where
      abbrev first-filled : List ℕ
      first-filled = filled_rows h (eval_buffers ctx clk ptr num-vars num-eval first b) offset rows

      abbrev second-filled : List ℕ
      second-filled = filled_rows k (eval_buffers ctx clk ptr num-vars num-eval second b) offset rows

      same_answer : fill_answer h (eval_buffers ctx clk ptr num-vars num-eval first b) offset rows ≡ fill_answer k (eval_buffers ctx clk ptr num-vars num-eval second b) offset rows
      same_answer = fill_tests ctx clk ptr num-vars num-eval first b h e offset rows ∙ sym (fill_tests ctx clk ptr num-vars num-eval second b k f offset rows)

      same-refused : length rows < 16 * (offset + (num-vars / 2 + num-eval)) → SameBuffers offset (num-vars / 2) num-eval first-filled second-filled
      same-refused l =
          let q = refused_kept ctx clk ptr num-vars num-eval first b h e offset rows l ∙ sym (refused_kept ctx clk ptr num-vars num-eval second b k f offset rows l) in
          record {
            same_length = ap length q;
            same_named = (λ i m v. ap (λ (xs : List ℕ). get_or xs (16 * offset + i) 0) q);
            same_before = (λ i m. ap (λ (xs : List ℕ). get_or xs i 0) q);
            same_behind = (λ i m. ap (λ (xs : List ℕ). get_or xs i 0) q);
          }

      same-filled : 16 * (offset + (num-vars / 2 + num-eval)) ≤ length rows → SameBuffers offset (num-vars / 2) num-eval first-filled second-filled
      same-filled l = record {
        same_length = filled-length ctx clk ptr num-vars num-eval first b h e offset rows l ∙ sym (filled-length ctx clk ptr num-vars num-eval second b k f offset rows l);
        same_named = (λ i m v.
            filled_named ctx clk ptr num-vars num-eval first b h e offset rows l i m
            ∙ same_rows.same_cells i v
            ∙ sym (filled_named ctx clk ptr num-vars num-eval second b k f offset rows l i m));
        same_before = (λ i m. filled-before ctx clk ptr num-vars num-eval first b h e offset rows l i m ∙ sym (filled-before ctx clk ptr num-vars num-eval second b k f offset rows l i m));
        same_behind = (λ i m. filled-behind ctx clk ptr num-vars num-eval first b h e offset rows l i m ∙ sym (filled-behind ctx clk ptr num-vars num-eval second b k f offset rows l i m));
      }

  -- nothing but values tells the READ cells of one from those of the other, in rows as in records, unless one is refused 12 and the other is not
  pub unseen_rows : (b : Lent) → UnseenRows ctx clk ptr num-vars num-eval first second b
  unseen_rows b = record {
    evaluations = unseen ctx clk ptr num-vars num-eval first second b alike;
    accepted_rows = (λ h k e f. record {
      rows_alike = same-record-rows b h k e f;
      fill_answers = same_answer b h k e f;
      fills_alike = (λ offset rows. ⊎_elim (same-refused b h k e f offset rows) (same-filled b h k e f offset rows) (below? (length rows) (16 * (offset + (num-vars / 2 + num-eval)))));
    });
  }
