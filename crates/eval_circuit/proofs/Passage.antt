-- The tests of an evaluation up to its last gate: either they let everything through, or they refuse whatever comes after them.
-- Assumes nothing.
use mathlib.Core.Path.{◌≡◌, refl, sym, ◌∙◌}
use mathlib.Core.Bool.{Bool, true, false, cond, ◌||◌}
use mathlib.Core.List.{List}
use mathlib.Core.Logic.{◌⊎◌, ⊎_elim, inl, inr}
use Prim.Native.Nat.{ℕ, ◌+◌, ◌/◌, ◌%◌, ◌≤◌}
use native.Mathlib.Omega.{arith}
use lib.Dec.{ltb, eqb}
use lib.ListN.{length}
use Rattle.refusal.specs.Told.{Told, accepted, refused}
use Rattle.field.specs.Field.{p, first_over}
use Rattle.field.proofs.Cases.{below?}
use Rattle.refusal.proofs.Tellings.{same_refusal}
use Rattle.trace.specs.Counts.{most_wires, room, with_room}
use Rattle.trace.specs.Outcome.{Lent}
use Rattle.trace.specs.Output.{is_zero}
use Rattle.eval_circuit.specs.Circuit.{Circuit, word, value, gate_answer, gates_answer}
use Rattle.eval_circuit.specs.Evaluated.{memory_cells, region_cells, circuit_at, of_cells, of_region, eval_answer}
use Rattle.eval_circuit.proofs.Gates.{gate_over, gate_refused, gates_cases, gates_pass, gates_stop}
use Rattle.eval_circuit.proofs.Accepted.{header}

-- a refusal from 1 to 10
pub record Refuses (f : Told → Told) : Type 0 where
  pub number : ℕ
  pub place : ℕ
  pub least : 1 ≤ number
  pub most : number ≤ 10
  pub always : (t : Told) → f t ≡ refused number place

abbrev pub Passage : (Told → Told) → Type 0
Passage f = ((t : Told) → f t ≡ t) ⊎ Refuses f

module _ (f : Told → Told) (s : Passage f) where
  passage-test : (test : Bool) (n k : ℕ) → 1 ≤ n → n ≤ 10 → Passage (λ t. cond test (refused n k) (f t))
  passage-test true n k l m = inr (record { number = n; place = k; least = l; most = m; always = λ t. refl })
  passage-test false n k l m = s

  passage-room : (test : Bool) → Passage (λ t. with_room test (f t))
  passage-room true = s
  passage-room false = inr (record { number = 6; place = 0; least = omega arith; most = omega arith; always = λ t. refl })

  passage-cells : (ptr : ℕ) (xs : List ℕ) → Passage (λ t. of_cells ptr xs (f t))
  unfolding of_cells
  passage-cells ptr xs = passage-test (ltb (first_over xs) (length xs)) 7 (ptr + first_over xs) (omega arith) (omega arith)

module _ (f : Told → Told) (s : Passage f) where
  passage-region : (ptr num-vars num-eval cells : ℕ) → Passage (λ t. of_region ptr num-vars num-eval cells (f t))
  unfolding of_region
  passage-region ptr num-vars num-eval cells =
      passage-test _
      (passage-test _
      (passage-test _
      (passage-test _
      (passage-test f s (ltb cells (ptr + region_cells num-vars num-eval)) 5 0 (omega arith) (omega arith))
      (ltb 0 (ptr % 4)) 4 0 (omega arith) (omega arith))
      (eqb num-eval 0 || ltb 0 (num-eval % 4)) 3 0 (omega arith) (omega arith))
      (eqb num-vars 0 || eqb (num-vars % 2) 1) 2 0 (omega arith) (omega arith))
      (ltb most_wires (num-vars + num-eval)) 1 0 (omega arith) (omega arith)

passage_gates : (c : Circuit) (n k : ℕ) → Passage (gates_answer n k c)
passage_gates c n k =
    ⊎_elim
    (λ h. inl (λ t. gates_pass c t n k h))
    (λ s. inr (let m = numbers s.2.gate s.0 s.1 s.2.here in record {
      number = s.0;
      place = s.1;
      least = m.0;
      most = m.1;
      always = λ t. gates_stop c t n k s.0 s.1 s.2;
    }))
    (gates_cases c n k)
  where
    numbers : (gate number place : ℕ) → gate_answer c gate ≡ refused number place → (1 ≤ number) × (number ≤ 10)
    numbers gate number place e =
        ⊎_elim
        (λ l. let r = gate_refused c gate number place l e in (omega arith, omega arith))
        (λ l. let r = same_refusal (sym (gate_over c gate l) ∙ e) in (omega arith, omega arith))
        (below? (word c gate) p)

-- "then 12"
abbrev pub output : ℕ → ℕ → Circuit → Told
output ctx clk c = cond (is_zero (value c 0)) (accepted (header ctx clk c.vars c.gates)) (refused 12 0)

-- "order 1 to 7, then gate by gate 8, 9, 10": all that comes before 12, of a circuit in a memory of so many cells
module _ (ptr : ℕ) (b : Lent) where
  abbrev pub tests : ℕ → Circuit → Told → Told
  tests cells c t =
      of_region ptr c.vars c.gates cells
      (with_room (room (c.vars / 2) c.gates (length b.values) (length b.counts) (length b.nodes))
      (of_cells ptr c.cells
      (gates_answer c.gates 0 c t)))

  pub tested : (ctx clk num-vars num-eval : ℕ) (memory : List ℕ)
      → eval_answer ctx clk ptr num-vars num-eval memory b
      ≡ tests (memory_cells memory) (circuit_at memory ptr num-vars num-eval) (output ctx clk (circuit_at memory ptr num-vars num-eval))
  unfolding eval_answer
  tested ctx clk num-vars num-eval memory = refl

  pub passage : (cells : ℕ) (c : Circuit) → Passage (tests cells c)
  passage cells c =
      passage-region _
      (passage-room _
      (passage-cells _ (passage_gates c c.gates 0) ptr c.cells)
      (room (c.vars / 2) c.gates (length b.values) (length b.counts) (length b.nodes)))
      ptr c.vars c.gates cells
