-- What the private functions promise each other. No public contract cites this file.
-- Assumes nothing.
use Rattle.std.specs.Prelude.{◌≡◌, ℕ, Result, ◌+◌, ◌*◌, ◌≤◌, ◌<◌, List, length}
use Rattle.refusal.specs.Told.{Told, accepted, refused}
use Rattle.refusal.specs.Refusal.{told}
use Rattle.refusal.specs.declared.Refusal.{Refusal}
use Rattle.field.specs.Field.{p}
use Rattle.field.specs.Answer.{pair_of}
use Rattle.trace.specs.declared.CircuitEvaluation.{CircuitEvaluation}
use Rattle.trace.specs.declared.wire_bus.WireBus.{WireBus}
use Rattle.trace.specs.declared.nodes.ReadNode.{ReadNode}
use Rattle.trace.specs.declared.nodes.EvalNode.{EvalNode}
use Rattle.trace.specs.Counts.{most_wires, node_cells}
use Rattle.trace.specs.State.{wires_of, made_of}
use Rattle.trace.specs.Read.{read_node}
use Rattle.trace.specs.Eval.{eval_node, raised}

-- each case of an answer, by number, place and values
abbrev pub operand_told : Result (List ℕ) Refusal → Told
operand_told = told (λ v. v)

-- the cells of a node
abbrev pub read_cells : ReadNode → List ℕ
read_cells n = read_node n.ptr n.id_0 (pair_of n.v_0) n.id_1 (pair_of n.v_1)

abbrev pub eval_cells : EvalNode → List ℕ
eval_cells n = eval_node n.ptr n.eval_op n.id_0 (pair_of n.v_0) n.id_1 (pair_of n.v_1) n.id_2 (pair_of n.v_2)

-- the counts after an operand was looked at
abbrev pub counts_after : Told → ℕ → List ℕ → List ℕ
counts_after (accepted vs) k cs = raised k cs
counts_after (refused number place) k cs = cs

-- the bus of a state, and a bus with one more wire
abbrev pub bus : ℕ → ℕ → WireBus
bus n m = record { num_wires = n; made = m }

abbrev pub bus_of : CircuitEvaluation → WireBus
bus_of s = bus (wires_of s) (made_of s)

abbrev pub inserted : WireBus → WireBus
inserted w = bus w.num_wires (w.made + 1)

-- the bus's wires have their cells and counts
pub record BusRoom (w : WireBus) (vs cs : List ℕ) : Type 0 where
  pub bus_few : w.num_wires ≤ most_wires
  pub bus_made : w.made ≤ w.num_wires
  pub bus-values : 2 * w.num_wires ≤ length vs
  pub bus-counts : w.num_wires ≤ length cs

-- a circuit that opening accepts, and room for it
pub record Room (s : CircuitEvaluation) (vs cs ns : List ℕ) : Type 0 where
  pub few : wires_of s ≤ most_wires
  pub room-values : 2 * wires_of s ≤ length vs
  pub room-counts : wires_of s ≤ length cs
  pub room-nodes : node_cells s.num_read s.num_eval ≤ length ns

-- the next step is a READ step
pub record ReadReady (s : CircuitEvaluation) : Type 0 where
  pub to_read : s.reads_done < s.num_read
  pub no_gate : s.evals_done ≡ 0
  pub two_ids : 2 ≤ s.id_next
  pub read_id : s.id_next < p

-- the next step is an EVAL step
pub record EvalReady (s : CircuitEvaluation) : Type 0 where
  pub all_read : s.reads_done ≡ s.num_read
  pub to_eval : s.evals_done < s.num_eval
  pub eval_id : s.id_next < p
