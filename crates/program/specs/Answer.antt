-- What the program writes: "refuse" and the number, or the rows of the evaluation.
-- Assumes nothing.
use Rattle.std.specs.Prelude.{ℕ, ◌+◌, ◌/◌, cond, List, [], ◌∷◌, ◌++◌, leb, length, replicate}
use Rattle.std.proofs.lemmas.List.Edits.{sets}
use Rattle.refusal.specs.Told.{Told, accepted, refused, or_else}
use Rattle.trace.specs.Outcome.{Lent, lent}
use Rattle.eval_circuit.specs.Circuit.{Circuit, num_wires}
use Rattle.eval_circuit.specs.Evaluated.{circuit_at, eval_answer}
use Rattle.rows.specs.ByWire.{circuit_rows}
use Rattle.program.specs.Input.{ctx_in, clk_in, ptr_in, vars_in, evals_in, memory_in, input_answer}
use Rattle.program.specs.Text.{lines}

-- room for 128 wires, so that 6 is never given
abbrev pub here : Lent
here = lent (replicate 256 0) (replicate 128 0) (replicate 1408 0)

-- the two words, each with a space behind it
abbrev pub refuse : List ℕ
refuse = 114 ∷ 101 ∷ 102 ∷ 117 ∷ 115 ∷ 101 ∷ 32 ∷ []

abbrev pub accept : List ℕ
accept = 97 ∷ 99 ∷ 99 ∷ 101 ∷ 112 ∷ 116 ∷ 32 ∷ []

abbrev pub refuse_text : ℕ → List ℕ
refuse_text number = refuse ++ lines 1 (number ∷ [])

-- "the first line gives rows and wires"
abbrev pub accept_text : ℕ → ℕ → List ℕ → List ℕ
accept_text num-rows num-wires rows = accept ++ (lines 2 (num-rows ∷ num-wires ∷ []) ++ lines 16 rows)

abbrev pub circuit_text : ℕ → ℕ → ℕ → Circuit → List ℕ
circuit_text ctx clk ptr c = accept_text (c.vars / 2 + c.gates) (num_wires c) (circuit_rows ctx clk ptr c)

-- an answer as text, with the text that is written where it is accepted
abbrev pub text_of : Told → List ℕ → List ℕ
text_of (accepted vs) text = text
text_of (refused number place) text = refuse_text number

-- "then evaluation"
unfoldable pub program_answer : List ℕ → Told
program_answer s = or_else (input_answer s) (eval_answer (ctx_in s) (clk_in s) (ptr_in s) (vars_in s) (evals_in s) (memory_in s) here)

unfoldable pub program_text : List ℕ → List ℕ
program_text s = text_of (program_answer s) (circuit_text (ctx_in s) (clk_in s) (ptr_in s) (circuit_at (memory_in s) (ptr_in s) (vars_in s) (evals_in s)))

-- no text is longer
abbrev pub most_text : ℕ
most_text = 43008

-- how much text there is, in a lent buffer with room for the longest; nothing is written where it has not
unfoldable pub text_length : List ℕ → List ℕ → ℕ
text_length s out = cond (leb most_text (length out)) (length (program_text s)) 0

unfoldable pub text_after : List ℕ → List ℕ → List ℕ
text_after s out = cond (leb most_text (length out)) (sets out 0 (program_text s)) out
