-- What the private functions promise each other. No public contract cites this file.
-- Assumes nothing.
use Rattle.std.specs.Prelude.{◌≡◌, ℕ, ◌≤◌, List, [], ◌∷◌, length, replicate}
use Rattle.refusal.specs.Told.{accepted}
use Rattle.trace.specs.declared.RecordHeader.{RecordHeader}
use Rattle.trace.specs.Outcome.{Lent}
use Rattle.trace.specs.Record.{record_wires}
use Rattle.eval_circuit.specs.Evaluated.{circuit_at, eval_answer}
use Rattle.rows.specs.Rows.{record_rows}
use Rattle.rows.specs.Fill.{num_rows, fill_answer}
use Rattle.program.specs.declared.read.Head.{Head}
use Rattle.program.specs.Answer.{here, most_text, accept_text, circuit_text, text_of}

-- the six numbers before the cells
abbrev pub head_numbers : Head → List ℕ
head_numbers h = h.ctx ∷ h.clk ∷ h.ptr ∷ h.num_vars ∷ h.num_eval ∷ h.num_cells ∷ []

-- the row buffer before it is filled
abbrev pub no_rows : List ℕ
no_rows = replicate 2048 0

-- a record whose rows go into it, and whose text fits
pub record Fits (h : RecordHeader) (b : Lent) (out : List ℕ) : Type 0 where
  pub few : num_rows h ≤ 127
  pub fills : fill_answer h b 0 no_rows ≡ accepted []
  pub room : most_text ≤ length out

abbrev pub record_text : RecordHeader → Lent → List ℕ
record_text h b = accept_text (num_rows h) (record_wires h) (record_rows h b)

-- the text of an evaluation here
abbrev pub eval_text : ℕ → ℕ → ℕ → ℕ → ℕ → List ℕ → List ℕ
eval_text ctx clk ptr num-vars num-eval memory =
    text_of (eval_answer ctx clk ptr num-vars num-eval memory here) (circuit_text ctx clk ptr (circuit_at memory ptr num-vars num-eval))
