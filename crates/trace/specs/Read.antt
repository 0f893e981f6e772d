-- A READ step: two wires from the two pairs of a word.
-- Assumes nothing.
use Rattle.std.specs.Prelude.{ℕ, ◌+◌, ◌-◌, Bool, List, [], ◌∷◌, get_or}
use Rattle.refusal.specs.Told.{Told, accepted}
use Rattle.field.specs.Field.{sub_f}
use Rattle.field.specs.Pair.{Pair}
use Rattle.field.specs.Answer.{of_elements, pair_of}
use Rattle.trace.specs.declared.CircuitEvaluation.{CircuitEvaluation}
use Rattle.trace.specs.Counts.{with_room, node_cells}
use Rattle.trace.specs.State.{made_of, read_turn, in_turn}
use Rattle.trace.specs.Outcome.{Lent, Outcome, outcome, fits, unless_refused, make_wire, write_node}

-- "a memory word is two pairs, first cells first"
abbrev pub first_pair : List (List ℕ) → List ℕ
first_pair w = get_or w 0 []

abbrev pub second_pair : List (List ℕ) → List ℕ
second_pair w = get_or w 1 []

-- "7 (its own cells; a step returns the cell's number in what it was handed, from 0, the pointer being last)"
abbrev pub read_handed : ℕ → List (List ℕ) → List ℕ
read_handed ptr w = get_or (first_pair w) 0 0 ∷ get_or (first_pair w) 1 0 ∷ get_or (second_pair w) 0 0 ∷ get_or (second_pair w) 1 0 ∷ ptr ∷ []

-- "a step refuses in the order 13, 6, 7"
unfoldable pub read_tests : CircuitEvaluation → Bool → ℕ → List (List ℕ) → Told
read_tests s fit ptr w =
    in_turn (read_turn s)
    (with_room fit
    (of_elements (read_handed ptr w)
    (accepted [])))

-- "a READ node (ptr, id_0, v_0, id_1, v_1)"
abbrev pub read_node : ℕ → ℕ → Pair → ℕ → Pair → List ℕ
read_node ptr id₀ v₀ id₁ v₁ = ptr ∷ id₀ ∷ v₀.c0 ∷ v₀.c1 ∷ id₁ ∷ v₁.c0 ∷ v₁.c1 ∷ []

-- the state after the step
abbrev pub read_done : CircuitEvaluation → CircuitEvaluation
read_done s = record {
  ctx = s.ctx;
  clk = s.clk;
  num_read = s.num_read;
  num_eval = s.num_eval;
  reads_done = s.reads_done + 1;
  evals_done = s.evals_done;
  id_next = sub_f s.id_next 2;
}

-- the two wires and the node
abbrev pub read_made : CircuitEvaluation → ℕ → Pair → Pair → Lent → Lent
read_made s ptr v₀ v₁ b =
    write_node (node_cells s.reads_done 0) (read_node ptr s.id_next v₀ (s.id_next - 1) v₁)
    (make_wire (made_of s + 1) v₁
    (make_wire (made_of s) v₀ b))

unfoldable pub read_step : CircuitEvaluation → ℕ → List (List ℕ) → Lent → Outcome
read_step s ptr w b =
    unless_refused (read_tests s (fits s b) ptr w) s b
    (outcome (accepted []) (read_done s) (read_made s ptr (pair_of (first_pair w)) (pair_of (second_pair w)) b))
