-- The text of an evaluation: of its rows where it is accepted, else of the refusal.
-- Assumes nothing.
use Prim.Native.Nat.{ℕ, ◌+◌, ◌/◌, ◌≤◌}
use mathlib.Core.Path.{◌≡◌, refl, sym, ap, ap₂, ◌∙◌}
use mathlib.Core.Bool.{false}
use mathlib.Core.List.{List, []}
use native.Mathlib.Omega.{arith}
use lib.ListN.{length}
use Rattle.refusal.specs.Told.{Told, accepted, refused}
use Rattle.trace.specs.declared.RecordHeader.{RecordHeader}
use Rattle.trace.specs.Outcome.{Lent}
use Rattle.std.proofs.Common.{Result}
use Rattle.refusal.specs.declared.Refusal.{Refusal}
use Rattle.trace.specs.declared.RecordHeader.{RecordHeader}
use Rattle.trace.specs.Output.{header_numbers, output_told}
use Rattle.trace.specs.Record.{record_wires}
use Rattle.eval_circuit.specs.Evaluated.{circuit_at, eval_answer, eval_buffers}
use Rattle.eval_circuit.proofs.Accepted.{Valid, accepted_valid}
use Rattle.rows.specs.Rows.{record_rows}
use Rattle.rows.specs.Fill.{num_rows, fill_answer}
use Rattle.rows.specs.ByWire.{circuit_rows}
use Rattle.rows.proofs.AcceptedRecord.{eval_header, answered-header}
use Rattle.rows.proofs.EvaluatedRows.{rows_by_wire, fill_accepted}
use Rattle.program.specs.Input.{over_room}
use Rattle.program.specs.Answer.{here, most_text, refuse_text, accept_text, circuit_text, text_of}
use Rattle.program.specs.Inside.{no_rows, Fits, record_text, eval_text}
use Rattle.program.proofs.Inputs.{room_enough}

-- an answer that a call promised, and that turned out to be x
pub told : {r x : Result RecordHeader Refusal} {t : Told} → output_told r ≡ t → r ≡ x → t ≡ output_told x
told e f = sym e ∙ ap output_told f

module _ (ctx clk ptr num-vars num-eval : ℕ) (memory : List ℕ) where
  abbrev text : Told → List ℕ
  text t = text_of t (circuit_text ctx clk ptr (circuit_at memory ptr num-vars num-eval))

  pub refused_text : (number place : ℕ) → eval_answer ctx clk ptr num-vars num-eval memory here ≡ refused number place → refuse_text number ≡ eval_text ctx clk ptr num-vars num-eval memory
  refused_text number place e = ap text (sym e)

  module _ (h : RecordHeader) (b : Lent) (e : eval_answer ctx clk ptr num-vars num-eval memory here ≡ accepted (header_numbers h))
      (q : b ≡ eval_buffers ctx clk ptr num-vars num-eval memory here) where
    valid : Valid ptr num-vars num-eval memory here
    valid = accepted_valid ctx clk ptr num-vars num-eval memory here (header_numbers h) e

    made : h ≡ eval_header ctx clk num-vars num-eval
    made = answered-header ctx clk ptr num-vars num-eval memory here h e

    rows_are : num_rows h ≡ num-vars / 2 + num-eval
    rows_are = ap num_rows made

    wires_are : record_wires h ≡ num-vars + num-eval
    wires_are = let v = valid.even_vars in ap record_wires made ∙ omega arith

    pub accepted_text : record_text h b ≡ eval_text ctx clk ptr num-vars num-eval memory
    accepted_text =
        ap (λ (xs : List ℕ). accept_text (num_rows h) (record_wires h) xs)
        (ap (record_rows h) q ∙ rows_by_wire ctx clk ptr num-vars num-eval memory here h e)
        ∙ ap₂ (λ (x y : ℕ). accept_text x y (circuit_rows ctx clk ptr (circuit_at memory ptr num-vars num-eval))) rows_are wires_are
        ∙ ap text (sym e)

    module _ (r : over_room (num-vars + num-eval) ≡ false) (out : List ℕ) (l : most_text ≤ length out) where
      few-rows : num-vars / 2 + num-eval ≤ 127
      few-rows =
          let few = room_enough (num-vars + num-eval) r valid.few in
          let some = valid.some_vars in
          let even = valid.even_vars in
          omega arith

      rows_fill : fill_answer h b 0 no_rows ≡ accepted []
      rows_fill =
          let n : length no_rows ≡ 2048 = refl in
          ap (λ (x : Lent). fill_answer h x 0 no_rows) q
          ∙ fill_accepted ctx clk ptr num-vars num-eval memory here h e 0 no_rows (omega (arith, n, few-rows))

      pub accepted_fits : Fits h b out
      accepted_fits = record { few = omega (arith, rows_are, few-rows); fills = rows_fill; room = l }
