-- What the private functions promise each other. No public contract cites this file.
-- Assumes nothing.
use Rattle.std.specs.Prelude.{◌≡◌, ℕ, ◌+◌, ◌*◌, ◌≤◌, ◌<◌, List, [], ◌∷◌, ◌++◌, Result, Ok, Err, length, get_or, drop}
use Rattle.refusal.specs.Told.{Told, accepted, refused}
use Rattle.refusal.specs.Refusal.{number_of, place_of}
use Rattle.refusal.specs.declared.Refusal.{Refusal}
use Rattle.field.specs.Field.{p}
use Rattle.trace.specs.declared.CircuitEvaluation.{CircuitEvaluation}
use Rattle.trace.specs.declared.RecordHeader.{RecordHeader}
use Rattle.trace.specs.declared.RefusedStep.{RefusedStep}
use Rattle.trace.specs.Counts.{most_wires, wires, node_cells}
use Rattle.trace.specs.State.{wires_of, next_id}
use Rattle.trace.specs.Outcome.{Lent, lent}
use Rattle.eval_circuit.specs.Circuit.{Circuit, num_wires, named_by}
use Rattle.eval_circuit.specs.Evaluated.{circuit_at, id_at, value_cells, read_cells, eval_cells}
use Rattle.field.specs.Lists.{each}

-- the circuit of a state, in memory from an address on
abbrev pub circuit_of : CircuitEvaluation → List ℕ → ℕ → Circuit
circuit_of s memory ptr = circuit_at memory ptr (2 * s.num_read) s.num_eval

-- a state after so many steps
abbrev pub after : CircuitEvaluation → ℕ → ℕ → CircuitEvaluation
after s reads evals = record {
  ctx = s.ctx;
  clk = s.clk;
  num_read = s.num_read;
  num_eval = s.num_eval;
  reads_done = reads;
  evals_done = evals;
  id_next = next_id (wires_of s) (wires reads evals);
}

-- how often the first n gates name the wire at a position
abbrev pub named_cell : Circuit → ℕ → ℕ → List ℕ
named_cell c n k = named_by n c (id_at c k) ∷ []

-- the buffers after so many steps
abbrev pub stage : Circuit → ℕ → ℕ → ℕ → Lent → Lent
stage c ptr reads evals b =
    lent
    (each (value_cells c) (wires reads evals) ++ drop (2 * wires reads evals) b.values)
    (each (named_cell c evals) (wires reads evals) ++ drop (wires reads evals) b.counts)
    (each (read_cells c ptr) reads ++ each (eval_cells c ptr) evals ++ drop (node_cells reads evals) b.nodes)

-- the cells past those that a circuit uses are the same
pub record Past (c : Circuit) (n : ℕ) (a b : Lent) : Type 0 where
  pub past_values : drop (2 * num_wires c) a.values ≡ drop (2 * num_wires c) b.values
  pub past_counts : drop (num_wires c) a.counts ≡ drop (num_wires c) b.counts
  pub past_nodes : drop n a.nodes ≡ drop n b.nodes

-- a state whose circuit opening accepts, with room for it, and with its region in memory and all its cells below p
pub record Prepared (s : CircuitEvaluation) (memory : List ℕ) (ptr : ℕ) (b : Lent) : Type 0 where
  pub few : wires_of s ≤ most_wires
  pub some_reads : 0 < s.num_read
  pub some_evals : 0 < s.num_eval
  pub for_values : 2 * wires_of s ≤ length b.values
  pub for_counts : wires_of s ≤ length b.counts
  pub for_nodes : node_cells s.num_read s.num_eval ≤ length b.nodes
  pub region : ptr + (4 * s.num_read + s.num_eval) ≤ length memory
  pub addresses : ptr + (4 * s.num_read + s.num_eval) ≤ p
  pub elements : (j : ℕ) → j < 4 * s.num_read + s.num_eval → get_or memory (ptr + j) 0 < p

-- the four cells from an address on, as two pairs
abbrev pub word_at : List ℕ → ℕ → List (List ℕ)
word_at memory at = (get_or memory at 0 ∷ get_or memory (at + 1) 0 ∷ []) ∷ (get_or memory (at + 2) 0 ∷ get_or memory (at + 3) 0 ∷ []) ∷ []

-- what a step's answer tells
abbrev pub step_told : Result CircuitEvaluation RefusedStep → Told
step_told (Ok s) = accepted []
step_told (Err e) = refused (number_of e.refusal) (place_of e.refusal)

-- what is left where all gates are accepted, and where one is not
abbrev pub Left : Result CircuitEvaluation RefusedStep → CircuitEvaluation → Circuit → ℕ → Lent → Lent → Type 0
Left (Ok t) s c ptr a b = (t ≡ after s s.num_read s.num_eval) × (a ≡ stage c ptr s.num_read s.num_eval b)
Left (Err e) s c ptr a b = Past c (node_cells s.num_read s.num_eval) a b

abbrev pub Ran : Result RecordHeader Refusal → CircuitEvaluation → Circuit → ℕ → Lent → Lent → Type 0
Ran (Ok h) s c ptr a b = a ≡ stage c ptr s.num_read s.num_eval b
Ran (Err e) s c ptr a b = Past c (node_cells s.num_read s.num_eval) a b
