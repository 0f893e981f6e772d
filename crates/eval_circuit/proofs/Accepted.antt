-- Acceptance: an evaluation is accepted exactly where a list of plain facts holds.
-- Assumes nothing.
use mathlib.Core.Path.{◌≡◌, sym, ap, ap₂, ◌∙◌}
use mathlib.Core.Bool.{true, cond}
use mathlib.Core.List.{List, [], ◌∷◌}
use Prim.Native.Nat.{ℕ, ◌+◌, ◌-◌, ◌*◌, ◌/◌, ◌%◌, ◌^◌, ◌≤◌, ◌<◌}
use native.Mathlib.Omega.{arith}
use lib.ListN.{length, get_or}
use borrow.Author.Tests.{eqb-true, le-leb}
use Rattle.refusal.specs.Told.{accepted, refused}
use Rattle.field.specs.Field.{p}
use Rattle.field.specs.Pair.{Pair, pair}
use Rattle.refusal.proofs.Tellings.{same_values}
use Rattle.instruction.specs.Decode.{opcode}
use Rattle.trace.specs.Counts.{most_wires, room}
use Rattle.trace.specs.Outcome.{Lent}
use Rattle.trace.specs.Output.{is_zero}
use Rattle.trace.proofs.Choices.{both, passes}
use Rattle.trace.proofs.Tests.{room_of, room_by_nodes}
use Rattle.eval_circuit.specs.Circuit.{Circuit, word, value}
use Rattle.eval_circuit.specs.Evaluated.{memory_cells, region_cells, circuit_at, circuit_answer, eval_answer}
use Rattle.eval_circuit.proofs.Values.{Early}
use Rattle.eval_circuit.proofs.Gates.{early_gate, gate_early, gates_pass, gates_accepted}
use Rattle.eval_circuit.proofs.RegionTests.{region_of, region_pass}
use Rattle.eval_circuit.proofs.RegionCells.{memory_most, memory_least, region_by_address, region_by_cell, region_word_below, cells_pass, cells_passed}

-- the header that is answered: ctx, clk, num_read, num_eval, id_next
abbrev pub header : ℕ → ℕ → ℕ → ℕ → List ℕ
header ctx clk num-vars num-eval = ctx ∷ clk ∷ num-vars / 2 ∷ num-eval ∷ (p - 1) ∷ []

-- what makes an evaluation valid: its counts, pointer, room and cells are, every gate word decodes, every operand names a wire made earlier, and the last wire is zero
pub record Valid (ptr num-vars num-eval : ℕ) (memory : List ℕ) (b : Lent) : Type 0 where
  -- counts
  pub few : num-vars + num-eval ≤ most_wires
  pub some_vars : 0 < num-vars
  pub even_vars : num-vars % 2 ≡ 0
  pub some_evals : 0 < num-eval
  pub four_evals : num-eval % 4 ≡ 0
  -- pointer
  pub aligned : ptr % 4 ≡ 0
  pub in_memory : ptr + (2 * num-vars + num-eval) ≤ length memory
  pub addressed : ptr + (2 * num-vars + num-eval) ≤ 2 ^ 32
  -- room
  pub room-values : 2 * (num-vars + num-eval) ≤ length b.values
  pub room-counts : num-vars + num-eval ≤ length b.counts
  pub room-nodes : 7 * (num-vars / 2) + 11 * num-eval ≤ length b.nodes
  -- the region's cells, by address
  pub elements : (a : ℕ) → ptr ≤ a → a < ptr + (2 * num-vars + num-eval) → get_or memory a 0 < p
  -- gates
  pub decodes : (k : ℕ) → k < num-eval → opcode (word (circuit_at memory ptr num-vars num-eval) k) < 3
  pub early : (k : ℕ) → k < num-eval → Early (circuit_at memory ptr num-vars num-eval) k
  -- the last wire made has id 0
  pub zero_output : value (circuit_at memory ptr num-vars num-eval) 0 ≡ pair 0 0

zero_of : (v : Pair) → is_zero v ≡ true → v ≡ pair 0 0
zero_of v e = let z = both _ _ e in ap₂ pair (eqb-true _ _ z.0) (eqb-true _ _ z.1)

-- variables come in twos
halved : (num-vars num-eval n : ℕ) → num-vars % 2 ≡ 0 → 2 * (num-vars / 2) + num-eval ≤ n → num-vars + num-eval ≤ n
halved num-vars num-eval n e h = omega arith

doubled : (num-vars num-eval n : ℕ) → num-vars % 2 ≡ 0 → 2 * (2 * (num-vars / 2) + num-eval) ≤ n → 2 * (num-vars + num-eval) ≤ n
doubled num-vars num-eval n e h = omega arith

module _ (ctx clk ptr num-vars num-eval : ℕ) (memory : List ℕ) (b : Lent) where
  abbrev circuit : Circuit
  circuit = circuit_at memory ptr num-vars num-eval

  -- what is accepted is valid
  pub accepted_valid : (vs : List ℕ) → eval_answer ctx clk ptr num-vars num-eval memory b ≡ accepted vs → Valid ptr num-vars num-eval memory b
  unfolding eval_answer
  accepted_valid vs e =
      let a₅ = region_of ptr num-vars num-eval (memory_cells memory) _ vs e in
      let a₆ = passes (room (num-vars / 2) num-eval (length b.values) (length b.counts) (length b.nodes)) _ 6 0 vs a₅.1 in
      let a₇ = cells_passed ptr circuit.cells _ vs a₆.1 in
      let a₈ = gates_accepted circuit _ num-eval 0 vs a₇.1 in
      let a₁₂ = passes (is_zero (value circuit 0)) _ 12 0 vs a₈.1 in
      let g = a₅.0 in
      let m = memory_most memory (ptr + region_cells num-vars num-eval) g.in_memory in
      let r = room_of _ _ _ _ _ a₆.0 in
      record {
        few = g.few;
        some_vars = g.some_vars;
        even_vars = g.even_vars;
        some_evals = g.some_evals;
        four_evals = g.whole_evals;
        aligned = g.aligned;
        in_memory = m.0;
        addressed = m.1;
        room-values = doubled num-vars _ _ g.even_vars r.for_values;
        room-counts = halved num-vars _ _ g.even_vars r.for_counts;
        room-nodes = r.for_nodes;
        elements = region_by_address memory ptr num-vars num-eval m.0 a₇.0;
        decodes = (λ k h. (gate_early circuit k [] (a₈.0 k (omega arith) (omega arith))).1);
        early = (λ k h. (gate_early circuit k [] (a₈.0 k (omega arith) (omega arith))).0);
        zero_output = zero_of (value circuit 0) a₁₂.0;
      }

  valid-room : Valid ptr num-vars num-eval memory b → room (num-vars / 2) num-eval (length b.values) (length b.counts) (length b.nodes) ≡ true
  valid-room h =
      let e = h.even_vars in
      let v = h.room-values in
      let k = h.room-counts in
      sym (room_by_nodes (num-vars / 2) num-eval _ _ _ (omega arith) (omega arith)) ∙ le-leb _ _ h.room-nodes

  valid-gates : Valid ptr num-vars num-eval memory b → circuit_answer ctx clk circuit ≡ accepted (header ctx clk num-vars num-eval)
  valid-gates h =
      gates_pass circuit _ num-eval 0
      (λ j l m. early_gate circuit j (region_word_below memory ptr num-vars num-eval h.elements j (omega arith)) (h.decodes j (omega arith)) (h.early j (omega arith)))
      ∙ ap (λ (v : Pair). cond (is_zero v) (accepted (header ctx clk num-vars num-eval)) (refused 12 0)) h.zero_output

  -- what is valid is accepted, with its header
  pub valid_accepted : Valid ptr num-vars num-eval memory b → eval_answer ctx clk ptr num-vars num-eval memory b ≡ accepted (header ctx clk num-vars num-eval)
  unfolding eval_answer
  valid_accepted h =
      sym (region_pass ptr num-vars num-eval (memory_cells memory) _ (record {
        few = h.few;
        some_vars = h.some_vars;
        even_vars = h.even_vars;
        some_evals = h.some_evals;
        whole_evals = h.four_evals;
        aligned = h.aligned;
        in_memory = memory_least memory _ h.in_memory h.addressed;
      }))
      ∙ rw (valid-room h) (cells_pass ptr circuit.cells _ (region_by_cell memory ptr num-vars num-eval h.elements h.in_memory) ∙ valid-gates h)

  -- and no other header is answered
  pub accepted_header : (vs : List ℕ) → eval_answer ctx clk ptr num-vars num-eval memory b ≡ accepted vs → vs ≡ header ctx clk num-vars num-eval
  accepted_header vs e = same_values (sym e ∙ valid_accepted (accepted_valid vs e))
