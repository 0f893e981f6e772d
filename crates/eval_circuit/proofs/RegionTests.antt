-- What the tests of a region, 1 to 5 and 7, come to, and what they say of the numbers.
-- Assumes nothing.
use mathlib.Core.Path.{◌≡◌, refl, sym}
use mathlib.Core.Bool.{Bool, true, false, ◌||◌}
use mathlib.Core.List.{List, []}
use mathlib.Core.Logic.{inl, inr}
use Prim.Native.Nat.{ℕ, ◌+◌, ◌%◌, ◌≤◌, ◌<◌}
use native.Mathlib.Omega.{arith}
use lib.Dec.{ltb, eqb}
use borrow.Author.Tests.{lt-ltb, le-ltb, eq-eqb, ne_eqb, ltb-false, eqb-false}
use Rattle.refusal.specs.Told.{Told, accepted, refused}
use Rattle.refusal.proofs.Tellings.{true_not_false}
use Rattle.trace.specs.Counts.{most_wires}
use Rattle.trace.proofs.Choices.{either_holds, not_stopped}
use Rattle.eval_circuit.specs.Evaluated.{region_cells, of_region}

neither : (a b : Bool) → a ≡ false → b ≡ false → (a || b) ≡ false
neither true b e f = e
neither false b e f = f

neither_holds : (a b : Bool) → (a || b) ≡ false → (a ≡ false) × (b ≡ false)
neither_holds true b e = (e, true_not_false e)
neither_holds false b e = (refl, e)

-- each refusal in its turn
module _ (ptr num-vars num-eval cells : ℕ) (t : Told) where
  pub too_large : most_wires < num-vars + num-eval → refused 1 0 ≡ of_region ptr num-vars num-eval cells t
  unfolding of_region
  too_large h = rw (lt-ltb most_wires (num-vars + num-eval) h)

  module _ (few : num-vars + num-eval ≤ most_wires) where
    bad-vars : (eqb num-vars 0 || eqb (num-vars % 2) 1) ≡ true → refused 2 0 ≡ of_region ptr num-vars num-eval cells t
    unfolding of_region
    bad-vars e = rw (le-ltb most_wires (num-vars + num-eval) few, e)

    pub no_vars : num-vars ≡ 0 → refused 2 0 ≡ of_region ptr num-vars num-eval cells t
    no_vars e = bad-vars (either_holds (eqb num-vars 0) (eqb (num-vars % 2) 1) (inl (eq-eqb num-vars 0 e)))

    pub odd_vars : num-vars % 2 ≡ 1 → refused 2 0 ≡ of_region ptr num-vars num-eval cells t
    odd_vars e = bad-vars (either_holds (eqb num-vars 0) (eqb (num-vars % 2) 1) (inr (eq-eqb (num-vars % 2) 1 e)))

    module _ (some : num-vars ≡ 0 → ⊥) (even : num-vars % 2 ≡ 1 → ⊥) where
      good-vars : (eqb num-vars 0 || eqb (num-vars % 2) 1) ≡ false
      good-vars = neither _ _ (ne_eqb num-vars 0 some) (ne_eqb (num-vars % 2) 1 even)

      bad-evals : (eqb num-eval 0 || ltb 0 (num-eval % 4)) ≡ true → refused 3 0 ≡ of_region ptr num-vars num-eval cells t
      unfolding of_region
      bad-evals e = rw (le-ltb most_wires (num-vars + num-eval) few, good-vars, e)

      pub no_evals : num-eval ≡ 0 → refused 3 0 ≡ of_region ptr num-vars num-eval cells t
      no_evals e = bad-evals (either_holds (eqb num-eval 0) (ltb 0 (num-eval % 4)) (inl (eq-eqb num-eval 0 e)))

      pub odd_evals : 0 < num-eval % 4 → refused 3 0 ≡ of_region ptr num-vars num-eval cells t
      odd_evals h = bad-evals (either_holds (eqb num-eval 0) (ltb 0 (num-eval % 4)) (inr (lt-ltb 0 (num-eval % 4) h)))

      module _ (gates : num-eval ≡ 0 → ⊥) (fours : num-eval % 4 ≤ 0) where
        good-evals : (eqb num-eval 0 || ltb 0 (num-eval % 4)) ≡ false
        good-evals = neither _ _ (ne_eqb num-eval 0 gates) (le-ltb 0 (num-eval % 4) fours)

        pub unaligned : 0 < ptr % 4 → refused 4 0 ≡ of_region ptr num-vars num-eval cells t
        unfolding of_region
        unaligned h = rw (le-ltb most_wires (num-vars + num-eval) few, good-vars, good-evals, lt-ltb 0 (ptr % 4) h)

        module _ (aligned : ptr % 4 ≤ 0) where
          pub outside : cells < ptr + region_cells num-vars num-eval → refused 5 0 ≡ of_region ptr num-vars num-eval cells t
          unfolding of_region
          outside h =
              rw (
                le-ltb most_wires (num-vars + num-eval) few,
                good-vars,
                good-evals,
                le-ltb 0 (ptr % 4) aligned,
                lt-ltb cells (ptr + region_cells num-vars num-eval) h,
              )

          pub inside : ptr + region_cells num-vars num-eval ≤ cells → t ≡ of_region ptr num-vars num-eval cells t
          unfolding of_region
          inside h =
              rw (
                le-ltb most_wires (num-vars + num-eval) few,
                good-vars,
                good-evals,
                le-ltb 0 (ptr % 4) aligned,
                le-ltb cells (ptr + region_cells num-vars num-eval) h,
              )

-- a region that passes 1 to 5
pub record Region (ptr num-vars num-eval cells : ℕ) : Type 0 where
  pub few : num-vars + num-eval ≤ most_wires
  pub some_vars : 0 < num-vars
  pub even_vars : num-vars % 2 ≡ 0
  pub some_evals : 0 < num-eval
  pub whole_evals : num-eval % 4 ≡ 0
  pub aligned : ptr % 4 ≡ 0
  pub in_memory : ptr + region_cells num-vars num-eval ≤ cells

pub region_of : (ptr num-vars num-eval cells : ℕ) (t : Told) (vs : List ℕ) → of_region ptr num-vars num-eval cells t ≡ accepted vs → Region ptr num-vars num-eval cells × (t ≡ accepted vs)
unfolding of_region
region_of ptr v e cells t vs q =
    let a = not_stopped (ltb most_wires (v + e)) _ 1 0 vs q in
    let b = not_stopped (eqb v 0 || eqb (v % 2) 1) _ 2 0 vs a.1 in
    let d = not_stopped (eqb e 0 || ltb 0 (e % 4)) _ 3 0 vs b.1 in
    let f = not_stopped (ltb 0 (ptr % 4)) _ 4 0 vs d.1 in
    let g = not_stopped (ltb cells (ptr + region_cells v e)) _ 5 0 vs f.1 in
    let i = neither_holds _ _ b.0 in
    let j = neither_holds _ _ d.0 in
    let v₀ : (v ≡ 0 → ⊥) = eqb-false _ _ i.0 in
    let v₁ : (v % 2 ≡ 1 → ⊥) = eqb-false _ _ i.1 in
    let e₀ : (e ≡ 0 → ⊥) = eqb-false _ _ j.0 in
    let e₁ : e % 4 ≤ 0 = ltb-false _ _ j.1 in
    let p₀ : ptr % 4 ≤ 0 = ltb-false _ _ f.0 in (
      record {
        few = ltb-false _ _ a.0;
        some_vars = omega arith;
        even_vars = omega arith;
        some_evals = omega arith;
        whole_evals = omega arith;
        aligned = omega arith;
        in_memory = ltb-false _ _ g.0;
      },
      g.1,
    )

pub region_tested : (ptr num-vars num-eval cells : ℕ) → accepted [] ≡ of_region ptr num-vars num-eval cells (accepted []) → Region ptr num-vars num-eval cells
region_tested ptr v e cells t = (region_of ptr v e cells (accepted []) [] (sym t)).0

pub region_pass : (ptr num-vars num-eval cells : ℕ) (t : Told) → Region ptr num-vars num-eval cells → t ≡ of_region ptr num-vars num-eval cells t
region_pass ptr v e cells t r =
    let h₀ = r.some_vars in
    let h₁ = r.even_vars in
    let h₂ = r.some_evals in
    let h₃ = r.whole_evals in
    let h₄ = r.aligned in
    inside ptr v e cells t r.few (λ q. omega arith) (λ q. omega arith) (λ q. omega arith) (omega arith) (omega arith) r.in_memory
