-- What a call leaves: its answer, the state that it gives back, and the lent buffers.
-- Assumes nothing.
use Rattle.std.specs.Prelude.{ℕ, ◌+◌, ◌*◌, Bool, List, [], Result, Ok, Err, length, get_or, set}
use Rattle.std.proofs.lemmas.List.Edits.{sets}
use Rattle.refusal.specs.Told.{Told, accepted, refused}
use Rattle.refusal.specs.Refusal.{number_of, place_of}
use Rattle.field.specs.Pair.{Pair, pair, cells}
use Rattle.trace.specs.Counts.{room}
use Rattle.trace.specs.declared.CircuitEvaluation.{CircuitEvaluation}
use Rattle.trace.specs.declared.RefusedStep.{RefusedStep}

-- the lent value cells, counts and node cells
pub record Lent : Type 0 where
  pub values : List ℕ
  pub counts : List ℕ
  pub nodes : List ℕ

abbrev pub lent : List ℕ → List ℕ → List ℕ → Lent
lent vs cs ns = record { values = vs; counts = cs; nodes = ns }

-- whether they hold the whole circuit
abbrev pub fits : CircuitEvaluation → Lent → Bool
fits s b = room s.num_read s.num_eval (length b.values) (length b.counts) (length b.nodes)

pub record Outcome : Type 0 where
  pub told : Told
  pub state : CircuitEvaluation
  pub buffers : Lent

abbrev pub outcome : Told → CircuitEvaluation → Lent → Outcome
outcome t s b = record { told = t; state = s; buffers = b }

-- each case of a step's answer, by number and place, with the buffers beside it
abbrev pub step_outcome : Result CircuitEvaluation RefusedStep → Lent → Outcome
step_outcome (Ok s) b = outcome (accepted []) s b
step_outcome (Err e) b = outcome (refused (number_of e.refusal) (place_of e.refusal)) e.state b

-- "a refused step": its state and buffers stay as they are here; else the step goes on
abbrev pub unless_refused : Told → CircuitEvaluation → Lent → Outcome → Outcome
unless_refused (accepted vs) s b o = o
unless_refused (refused number place) s b o = outcome (refused number place) s b

-- the value in the two cells of the wire at a position
abbrev pub value_at : List ℕ → ℕ → Pair
value_at vs k = pair (get_or vs (2 * k) 0) (get_or vs (2 * k + 1) 0)

-- "making a wire writes its value and count 0", at its position
abbrev pub make_wire : ℕ → Pair → Lent → Lent
make_wire k v b = lent (sets b.values (2 * k) (cells v)) (set b.counts k 0) b.nodes

-- "an accepted step writes its node", from a node cell on
abbrev pub write_node : ℕ → List ℕ → Lent → Lent
write_node at node b = lent b.values b.counts (sets b.nodes at node)
