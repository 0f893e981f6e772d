-- Two memories of one shape: what does not depend on the READ cells.
-- Assumes nothing.
use mathlib.Core.Path.{◌≡◌, refl, sym, ap, ap₂, ◌∙◌}
use mathlib.Core.List.{List, [], ◌∷◌}
use mathlib.Core.Logic.{◌⊎◌, ⊎_elim, inl, inr}
use Prim.Native.Nat.{ℕ, zero, suc, ◌+◌, ◌-◌, ◌*◌, ◌≤◌, ◌<◌, min}
use native.Mathlib.Omega.{arith}
use lib.ListN.{length, get_or, drop, length-take, length-drop}
use Rattle.refusal.specs.Told.{Told, or_else}
use Rattle.field.specs.Field.{p, first_over}
use Rattle.field.proofs.Cases.{below?}
use Rattle.field.proofs.Over.{over_here, over_later}
use Rattle.eval_circuit.specs.Circuit.{Circuit, word, named_by, multiplicity, gate_answer, gates_answer}
use Rattle.eval_circuit.specs.Evaluated.{cells_counted, memory_cells, region_cells, circuit_at, of_cells}
use Rattle.eval_circuit.proofs.RegionCells.{region_at, region_word}

-- two numbers are equal, or both are elements
abbrev Matched : ℕ → ℕ → Type 0
Matched x y = (x ≡ y) ⊎ ((x < p) × (y < p))

matched_over : (x y : ℕ) → Matched x y → p ≤ x → p ≤ y
matched_over x y h l = ⊎_elim (λ e. omega arith) (λ e. absurd (omega arith)) h

matched_below : (x y : ℕ) → Matched x y → x < p → y < p
matched_below x y h l = ⊎_elim (λ e. omega arith) (λ e. e.1) h

-- the first that is no element stands at the same place
matched_first : (xs ys : List ℕ) → length xs ≡ length ys → ((k : ℕ) → k < length xs → Matched (get_or xs k 0) (get_or ys k 0)) → first_over xs ≡ first_over ys
matched_first [] [] e h = refl
matched_first [] (y ∷ ys) e h = absurd (omega arith)
matched_first (x ∷ xs) [] e h = absurd (omega arith)
matched_first (x ∷ xs) (y ∷ ys) e h =
    let m = h 0 (omega arith) in
    ⊎_elim
    (λ l. over_later x xs l ∙ ap suc (matched_first xs ys (omega arith) (λ k i. h (suc k) (omega arith))) ∙ sym (over_later y ys (matched_below x y m l)))
    (λ l. over_here x xs l ∙ sym (over_here y ys (matched_over x y m l)))
    (below? x p)

abbrev circuit_of : List ℕ → ℕ → ℕ → Circuit
circuit_of xs num-vars num-eval = record { cells = xs; vars = num-vars; gates = num-eval }

module _ (xs ys : List ℕ) (num-vars num-eval : ℕ) (same : (k : ℕ) → k < num-eval → get_or xs (2 * num-vars + k) 0 ≡ get_or ys (2 * num-vars + k) 0) where
  abbrev first : Circuit
  first = circuit_of xs num-vars num-eval

  abbrev second : Circuit
  second = circuit_of ys num-vars num-eval

  gate-alike : (k : ℕ) → k < num-eval → gate_answer first k ≡ gate_answer second k
  unfolding gate_answer
  gate-alike k h = rw (same k h)

  gates-alike : (n k : ℕ) (t : Told) → k + n ≤ num-eval → gates_answer n k first t ≡ gates_answer n k second t
  unfolding gates_answer
  gates-alike zero k t h = refl
  gates-alike (suc n) k t h = ap₂ or_else (gate-alike k (omega arith)) (gates-alike n (suc k) t (omega arith))

  named-alike : (n id : ℕ) → n ≤ num-eval → named_by n first id ≡ named_by n second id
  unfolding named_by
  named-alike zero id h = refl
  named-alike (suc n) id h = rw (named-alike n id (omega arith), same n (omega arith))

-- two memories of equal length that agree on the gate words and whose READ cells are elements
pub record Alike (ptr num-vars num-eval : ℕ) (first second : List ℕ) : Type 0 where
  pub same_length : length first ≡ length second
  pub same_words : (a : ℕ) → ptr + 2 * num-vars ≤ a → a < ptr + (2 * num-vars + num-eval) → get_or first a 0 ≡ get_or second a 0
  pub first_reads : (a : ℕ) → ptr ≤ a → a < ptr + 2 * num-vars → get_or first a 0 < p
  pub second_reads : (a : ℕ) → ptr ≤ a → a < ptr + 2 * num-vars → get_or second a 0 < p

module _ (ptr num-vars num-eval : ℕ) (first second : List ℕ) (alike : Alike ptr num-vars num-eval first second) where
  abbrev one : Circuit
  one = circuit_at first ptr num-vars num-eval

  abbrev two : Circuit
  two = circuit_at second ptr num-vars num-eval

  pub same_word : (k : ℕ) → k < num-eval → word one k ≡ word two k
  same_word k h =
      region_word first ptr num-vars num-eval k h
      ∙ alike.same_words (ptr + (2 * num-vars + k)) (omega arith) (omega arith)
      ∙ sym (region_word second ptr num-vars num-eval k h)

  same_cells : length one.cells ≡ length two.cells
  same_cells =
      length-take _ (drop ptr first)
      ∙ ap (min (region_cells num-vars num-eval)) (length-drop ptr first ∙ ap (λ (n : ℕ). n - ptr) alike.same_length ∙ sym (length-drop ptr second))
      ∙ sym (length-take _ (drop ptr second))

  matched : (k : ℕ) → k < region_cells num-vars num-eval → Matched (get_or one.cells k 0) (get_or two.cells k 0)
  matched k h =
      ⊎_elim
      (λ l. inr (
        rw (region_at first ptr num-vars num-eval k h) (alike.first_reads (ptr + k) (omega arith) (omega arith)),
        rw (region_at second ptr num-vars num-eval k h) (alike.second_reads (ptr + k) (omega arith) (omega arith)),
      ))
      (λ l. inl (region_at first ptr num-vars num-eval k h ∙ alike.same_words (ptr + k) (omega arith) (omega arith) ∙ sym (region_at second ptr num-vars num-eval k h)))
      (below? k (2 * num-vars))

  same_first : first_over one.cells ≡ first_over two.cells
  same_first = matched_first one.cells two.cells same_cells (λ k h. matched k (omega (arith, length-take (region_cells num-vars num-eval) (drop ptr first))))

  pub same_memory : memory_cells first ≡ memory_cells second
  same_memory = ap cells_counted alike.same_length

  same_over : (t : Told) → of_cells ptr one.cells t ≡ of_cells ptr two.cells t
  unfolding of_cells
  same_over t = rw (same_first, same_cells)

  -- 7 to 10, with anything after them
  pub same_cells_gates : (t : Told) → of_cells ptr one.cells (gates_answer num-eval 0 one t) ≡ of_cells ptr two.cells (gates_answer num-eval 0 two t)
  same_cells_gates t =
      same_over _ ∙ ap (of_cells ptr two.cells) (gates-alike one.cells two.cells num-vars num-eval same_word num-eval 0 t (omega arith))

  pub same_multiplicity : (id : ℕ) → multiplicity one id ≡ multiplicity two id
  same_multiplicity id = named-alike one.cells two.cells num-vars num-eval same_word num-eval id (omega arith)
