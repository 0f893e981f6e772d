-- The listing of document 01, worked out from the definitions.
-- Assumes nothing.
use Rattle.std.specs.Prelude.{ℕ, ◌-◌, ◌≡◌, refl, List, [], ◌∷◌, replicate}
use Rattle.refusal.specs.Told.{accepted}
use Rattle.field.specs.Field.{p, first_over}
use Rattle.instruction.specs.Decode.{decode_answer}
use Rattle.field.specs.Answer.{of_elements}
use Rattle.trace.specs.Counts.{room}
use Rattle.trace.specs.Outcome.{Lent, lent}
use Rattle.eval_circuit.specs.Circuit.{value_by, named_by, gate_answer, gates_answer}
use Rattle.eval_circuit.specs.Evaluated.{of_region, of_cells, eval_answer, eval_buffers}
use Rattle.field.specs.Lists.{each}

abbrev pub memory : List ℕ
memory = 3 ∷ 0 ∷ 4 ∷ 0 ∷ 2305843013508661253 ∷ 1152921508901814277 ∷ 3221225475 ∷ 1152921506754330625 ∷ []

abbrev pub before : Lent
before = lent (replicate 13 9) (replicate 7 9) (replicate 52 9)

pub answered : eval_answer 0 7 0 2 4 memory before ≡ accepted (0 ∷ 7 ∷ 1 ∷ 4 ∷ (p - 1) ∷ [])
unfolding eval_answer of_region of_cells room first_over gates_answer gate_answer decode_answer of_elements value_by
answered = refl

pub valued : (eval_buffers 0 7 0 2 4 memory before).values ≡ 3 ∷ 0 ∷ 4 ∷ 0 ∷ 7 ∷ 0 ∷ 12 ∷ 0 ∷ 0 ∷ 0 ∷ 0 ∷ 0 ∷ 9 ∷ []
unfolding eval_buffers eval_answer of_region of_cells room first_over gates_answer gate_answer decode_answer of_elements value_by each
valued = refl

pub counted : (eval_buffers 0 7 0 2 4 memory before).counts ≡ 2 ∷ 2 ∷ 2 ∷ 1 ∷ 1 ∷ 0 ∷ 9 ∷ []
unfolding eval_buffers eval_answer of_region of_cells room first_over gates_answer gate_answer decode_answer of_elements value_by named_by each
counted = refl

pub noded : (eval_buffers 0 7 0 2 4 memory before).nodes
    ≡ 0 ∷ 5 ∷ 3 ∷ 0 ∷ 4 ∷ 4 ∷ 0
    ∷ 4 ∷ 1 ∷ 3 ∷ 7 ∷ 0 ∷ 5 ∷ 3 ∷ 0 ∷ 4 ∷ 4 ∷ 0
    ∷ 5 ∷ 0 ∷ 2 ∷ 12 ∷ 0 ∷ 5 ∷ 3 ∷ 0 ∷ 4 ∷ 4 ∷ 0
    ∷ 6 ∷ (p - 1) ∷ 1 ∷ 0 ∷ 0 ∷ 3 ∷ 7 ∷ 0 ∷ 3 ∷ 7 ∷ 0
    ∷ 7 ∷ 0 ∷ 0 ∷ 0 ∷ 0 ∷ 1 ∷ 0 ∷ 0 ∷ 2 ∷ 12 ∷ 0 ∷ 9 ∷ []
unfolding eval_buffers eval_answer of_region of_cells room first_over gates_answer gate_answer decode_answer of_elements value_by named_by each
noded = refl
