-- Reading the head: ctx and clk below 2^32, and then four numbers of any size.
-- Assumes nothing.
use Prim.Native.Nat.{ℕ, ◌^◌}
use mathlib.Core.Path.{◌≡◌, refl, sym, ap, ap₂, ◌∙◌}
use mathlib.Core.List.{List, [], ◌∷◌}
use native.Mathlib.Omega.{arith}
use lib.ListN.{get_or}
use Rattle.refusal.specs.Told.{accepted, refused}
use Rattle.numbers.specs.Answer.{read_below_answer}
use Rattle.numbers.proofs.Below.{below_is_read}
use Rattle.record.specs.Numbers.{number_at, next_at, after, numbers_from, numbers_answer}
use Rattle.record.proofs.Ways.{goes_on, stops, passed}
use Rattle.record.proofs.Places.{number_is, next_is, after_add}
use Rattle.record.proofs.Numbers.{numbers_on, numbers_off, numbers_end, place_after}
use Rattle.program.specs.declared.read.Head.{Head}
use Rattle.program.specs.Inside.{head_numbers}
use Rattle.program.specs.Input.{ctx_in, clk_in, ptr_in, vars_in, evals_in, cells_in, cells_at, head_answer}

module _ (s : List ℕ) where
  two-before : (v w at₁ at₂ : ℕ) → v ≡ number_at s 0 → at₁ ≡ next_at s 0 → w ≡ number_at s at₁ → at₂ ≡ next_at s at₁ → v ∷ w ∷ numbers_from 4 s at₂ ≡ numbers_from 6 s 0
  unfolding numbers_from
  two-before v w at₁ at₂ a b c d =
      ap₂ (λ (x y : ℕ). x ∷ y ∷ numbers_from 4 s at₂) a (c ∙ ap (number_at s) b)
      ∙ ap (λ (k : ℕ). number_at s 0 ∷ number_at s (next_at s 0) ∷ numbers_from 4 s k) (d ∙ ap (next_at s) b)

  pub ctx_off : (number place : ℕ) → read_below_answer (2 ^ 32) s 0 ≡ refused number place → refused number place ≡ head_answer s
  unfolding head_answer
  ctx_off number place e =
      sym (stops (numbers_answer (2 ^ 32) 2 s 0) (numbers_answer (2 ^ 64) 4 s (after 2 s 0)) number place (sym (numbers_off (2 ^ 32) s 2 0 0 _ number place e refl (omega arith))))

  module _ (ctx clk-at : ℕ) (e : read_below_answer (2 ^ 32) s 0 ≡ accepted (ctx ∷ clk-at ∷ [])) where
    one_left : numbers_answer (2 ^ 32) 1 s clk-at ≡ numbers_answer (2 ^ 32) 2 s 0
    one_left = numbers_on (2 ^ 32) s 2 0 0 _ ctx clk-at e refl (omega arith)

    pub clk_off : (number place : ℕ) → read_below_answer (2 ^ 32) s clk-at ≡ refused number place → refused number place ≡ head_answer s
    unfolding head_answer
    clk_off number place f =
        sym (stops (numbers_answer (2 ^ 32) 2 s 0) (numbers_answer (2 ^ 64) 4 s (after 2 s 0)) number place (sym (numbers_off (2 ^ 32) s 2 1 clk-at _ number place f one_left (omega arith))))

    module _ (clk ptr-at : ℕ) (f : read_below_answer (2 ^ 32) s clk-at ≡ accepted (clk ∷ ptr-at ∷ [])) where
      both_read : numbers_answer (2 ^ 32) 2 s 0 ≡ accepted (0 ∷ ptr-at ∷ [])
      both_read = sym (numbers_end (2 ^ 32) s 2 2 ptr-at _ (numbers_on (2 ^ 32) s 2 1 clk-at _ clk ptr-at f one_left (omega arith)) (omega arith))

      pub head_rest : numbers_answer (2 ^ 64) 4 s ptr-at ≡ head_answer s
      unfolding head_answer
      head_rest =
          ap (numbers_answer (2 ^ 64) 4 s) (place_after (2 ^ 32) s 2 0 0 ptr-at both_read)
          ∙ sym (goes_on (numbers_answer (2 ^ 32) 2 s 0) (numbers_answer (2 ^ 64) 4 s (after 2 s 0)) (0 ∷ ptr-at ∷ []) both_read)

      pub head_stored : (rest : List ℕ) → rest ≡ numbers_from 4 s ptr-at → ctx ∷ clk ∷ get_or rest 0 0 ∷ get_or rest 1 0 ∷ get_or rest 2 0 ∷ get_or rest 3 0 ∷ [] ≡ numbers_from 6 s 0
      unfolding numbers_from
      head_stored rest q =
          let a = (below_is_read (2 ^ 32) s 0 ctx clk-at e).read in
          let b = (below_is_read (2 ^ 32) s clk-at clk ptr-at f).read in
          ap (λ (l : List ℕ). ctx ∷ clk ∷ get_or l 0 0 ∷ get_or l 1 0 ∷ get_or l 2 0 ∷ get_or l 3 0 ∷ []) q
          ∙ two-before ctx clk clk-at ptr-at (number_is s 0 ctx clk-at a) (next_is s 0 ctx clk-at a) (number_is s clk-at clk ptr-at b) (next_is s clk-at clk ptr-at b)

  -- where the cells stand
  pub cells_at_lem : (v place : ℕ) → head_answer s ≡ accepted (v ∷ place ∷ []) → place ≡ cells_at s
  unfolding head_answer cells_at
  cells_at_lem v place e =
      let a = passed (numbers_answer (2 ^ 32) 2 s 0) (numbers_answer (2 ^ 64) 4 s (after 2 s 0)) (v ∷ place ∷ []) e in
      place_after (2 ^ 64) s 4 (after 2 s 0) v place a.then ∙ sym (after_add 2 4 s 0)

  -- the six numbers
  module _ (h : Head) (q : head_numbers h ≡ numbers_from 6 s 0) where
    pub ctx_is : h.ctx ≡ ctx_in s
    unfolding numbers_from ctx_in
    ctx_is = ap (λ (l : List ℕ). get_or l 0 0) q

    pub clk_is : h.clk ≡ clk_in s
    unfolding numbers_from after clk_in
    clk_is = ap (λ (l : List ℕ). get_or l 1 0) q

    pub ptr_is : h.ptr ≡ ptr_in s
    unfolding numbers_from after ptr_in
    ptr_is = ap (λ (l : List ℕ). get_or l 2 0) q

    pub vars_are : h.num_vars ≡ vars_in s
    unfolding numbers_from after vars_in
    vars_are = ap (λ (l : List ℕ). get_or l 3 0) q

    pub evals_are : h.num_eval ≡ evals_in s
    unfolding numbers_from after evals_in
    evals_are = ap (λ (l : List ℕ). get_or l 4 0) q

    pub cells_are : h.num_cells ≡ cells_in s
    unfolding numbers_from after cells_in
    cells_are = ap (λ (l : List ℕ). get_or l 5 0) q
