-- Laws of a circuit's region: its cells by their addresses in memory, and when all of them are elements.
-- Assumes nothing.
use mathlib.Core.Path.{◌≡◌, ap, ◌∙◌}
use mathlib.Core.List.{List}
use mathlib.Core.Logic.{⊎_elim}
use Prim.Native.Nat.{ℕ, ◌+◌, ◌-◌, ◌*◌, ◌^◌, ◌≤◌, ◌<◌}
use native.Mathlib.Omega.{arith}
use lib.Dec.{ltb}
use lib.ListN.{length, get_or, drop, length-drop}
use lib.Seq.{length-take-le, get_or-take, get_or-drop}
use borrow.Author.Tests.{ltb-false, lt-ltb, le-ltb}
use Rattle.refusal.specs.Told.{Told, accepted}
use Rattle.field.specs.Field.{p, first_over}
use Rattle.field.proofs.Over.{over_below, over_all}
use Rattle.field.proofs.Cases.{below?}
use Rattle.trace.proofs.Choices.{not_stopped}
use Rattle.eval_circuit.specs.Circuit.{word}
use Rattle.eval_circuit.specs.Evaluated.{memory_cells, region_cells, circuit_at, of_cells}

-- "a slice longer than 2^32 counts as 2^32 cells"
pub memory_most : (memory : List ℕ) (n : ℕ) → n ≤ memory_cells memory → (n ≤ length memory) × (n ≤ 2 ^ 32)
memory_most memory n h =
    ⊎_elim
    (λ l. let q : n ≤ 2 ^ 32 = rw (lt-ltb (2 ^ 32) (length memory) l) at h in (omega arith, q))
    (λ l. let q : n ≤ length memory = rw (le-ltb (2 ^ 32) (length memory) l) at h in (q, omega arith))
    (below? (2 ^ 32) (length memory))

pub memory_least : (memory : List ℕ) (n : ℕ) → n ≤ length memory → n ≤ 2 ^ 32 → n ≤ memory_cells memory
memory_least memory n h m =
    ⊎_elim
    (λ l. rw (lt-ltb (2 ^ 32) (length memory) l) m)
    (λ l. rw (le-ltb (2 ^ 32) (length memory) l) h)
    (below? (2 ^ 32) (length memory))

module _ (memory : List ℕ) (ptr num-vars num-eval : ℕ) where
  pub region_length : ptr + region_cells num-vars num-eval ≤ length memory → length (circuit_at memory ptr num-vars num-eval).cells ≡ region_cells num-vars num-eval
  region_length h = length-take-le (region_cells num-vars num-eval) (drop ptr memory) (omega (arith, length-drop ptr memory))

  pub region_at : (k : ℕ) → k < region_cells num-vars num-eval → get_or (circuit_at memory ptr num-vars num-eval).cells k 0 ≡ get_or memory (ptr + k) 0
  region_at k h = get_or-take (region_cells num-vars num-eval) (drop ptr memory) k 0 h ∙ get_or-drop ptr memory k 0

  pub region_word : (k : ℕ) → k < num-eval → word (circuit_at memory ptr num-vars num-eval) k ≡ get_or memory (ptr + (2 * num-vars + k)) 0
  region_word k h = region_at (2 * num-vars + k) (omega arith)

module _ (memory : List ℕ) (ptr num-vars num-eval : ℕ) where
  -- all cells of the region are elements: by their addresses, and by their places in it
  pub region_by_address : ptr + region_cells num-vars num-eval ≤ length memory
      → ((k : ℕ) → k < length (circuit_at memory ptr num-vars num-eval).cells → get_or (circuit_at memory ptr num-vars num-eval).cells k 0 < p)
      → (a : ℕ) → ptr ≤ a → a < ptr + region_cells num-vars num-eval → get_or memory a 0 < p
  region_by_address m h a l g =
      let e : ptr + (a - ptr) ≡ a = omega arith in
      rw (region_at memory ptr num-vars num-eval (a - ptr) (omega arith) ∙ ap (λ (j : ℕ). get_or memory j 0) e)
      at (h (a - ptr) (omega (arith, region_length memory ptr num-vars num-eval m)))

  module _ (h : (a : ℕ) → ptr ≤ a → a < ptr + region_cells num-vars num-eval → get_or memory a 0 < p) where
    pub region_by_cell : ptr + region_cells num-vars num-eval ≤ length memory
        → (k : ℕ) → k < length (circuit_at memory ptr num-vars num-eval).cells → get_or (circuit_at memory ptr num-vars num-eval).cells k 0 < p
    region_by_cell m k l =
        let w : k < region_cells num-vars num-eval = omega (arith, region_length memory ptr num-vars num-eval m) in
        rw (region_at memory ptr num-vars num-eval k w) (h (ptr + k) (omega arith) (omega arith))

    pub region_word_below : (k : ℕ) → k < num-eval → word (circuit_at memory ptr num-vars num-eval) k < p
    region_word_below k l = rw (region_word memory ptr num-vars num-eval k l) (h (ptr + (2 * num-vars + k)) (omega arith) (omega arith))

module _ (ptr : ℕ) (xs : List ℕ) (t : Told) where
  pub cells_pass : ((k : ℕ) → k < length xs → get_or xs k 0 < p) → of_cells ptr xs t ≡ t
  unfolding of_cells
  cells_pass h = let l : length xs ≤ first_over xs = omega (arith, over_all xs h) in rw (le-ltb (first_over xs) (length xs) l)

  pub cells_passed : (vs : List ℕ) → of_cells ptr xs t ≡ accepted vs → ((k : ℕ) → k < length xs → get_or xs k 0 < p) × (t ≡ accepted vs)
  unfolding of_cells
  cells_passed vs e =
      let s = not_stopped (ltb (first_over xs) (length xs)) t 7 (ptr + first_over xs) vs e in
      let l : length xs ≤ first_over xs = ltb-false _ _ s.0 in
      ((λ k h. over_below xs k (omega arith)), s.1)
