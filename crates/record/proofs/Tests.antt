-- Looking at the declared count, at a list of nodes, and at the end.
-- Assumes nothing.
use Prim.Native.Nat.{ℕ, ◌+◌, ◌-◌, ◌*◌, ◌/◌, ◌≤◌, ◌<◌}
use mathlib.Core.Path.{◌≡◌}
use mathlib.Core.List.{List, [], ◌∷◌}
use native.Mathlib.Nat.{mul_comm, le-div_iff_mul-le, div-lt_iff_lt-mul}
use native.Mathlib.Omega.{arith}
use lib.Dec.{ltb, leb, eqb}
use borrow.Author.Tests.{leb-true, ltb-false, eqb-true, eqb-false}
use Rattle.refusal.specs.Told.{accepted}
use Rattle.field.specs.Field.{p}
use Rattle.numbers.specs.Answer.{read_answer, read_below_answer}
use Rattle.trace.specs.Counts.{wires}
use Rattle.trace.specs.Record.{most_record_wires}
use Rattle.trace.proofs.Choices.{passes, not_stopped}
use Rattle.record.specs.Numbers.{number_at, next_at, after, numbers_answer}
use Rattle.record.specs.Reading.{u32, declared_answer, nodes_answer, end_answer}
use Rattle.record.proofs.Ways.{values_are, passed}
use Rattle.record.proofs.Places.{read_of, below_of}
use Rattle.record.proofs.Numbers.{FoundBelow, numbers_of}

-- a declared count that is accepted, behind a list of n wires
pub record Declared (n : ℕ) (s : List ℕ) (at : ℕ) (vs : List ℕ) : Type 0 where
  pub read : read_answer s at ≡ accepted (number_at s at ∷ next_at s at ∷ [])
  pub few : number_at s at ≤ most_record_wires
  pub same : n ≡ number_at s at
  pub answer : accepted (number_at s at ∷ next_at s at ∷ []) ≡ accepted vs

module _ (n : ℕ) (s : List ℕ) (at : ℕ) where
  pub declared_of : (vs : List ℕ) → declared_answer n s at ≡ accepted vs → Declared n s at vs
  unfolding declared_answer
  declared_of vs e =
      let a = passed (read_below_answer u32 s at) _ vs e in
      let b = not_stopped (eqb (number_at s at) 0) _ 18 0 vs a.then in
      let c = not_stopped (ltb most_record_wires (number_at s at)) _ 19 0 vs b.1 in
      let d = passes (eqb n (number_at s at)) _ 20 0 vs c.1 in
      record { read = (below_of s at u32 a.values a.first).0; few = ltb-false _ _ c.0; same = eqb-true _ _ d.0; answer = d.1 }

  pub declared_accepted : (d next : ℕ) → declared_answer n s at ≡ accepted (d ∷ next ∷ []) → (d ≡ number_at s at) × (next ≡ next_at s at)
  declared_accepted d next e = values_are _ _ d next (declared_of (d ∷ next ∷ []) e).answer

-- room for a list of nodes, as it is tested
pub node_room : (used width nodes len : ℕ) → used ≤ nodes → 0 < width → len ≤ (nodes - used) / width → used + width * len ≤ nodes
node_room used width nodes len u w h =
    let q : len * width ≤ nodes - used = (le-div_iff_mul-le {k = width} {x = len} {y = nodes - used} w).0 h in
    omega (arith, q, mul_comm width len)

pub no_node_room : (used width nodes len : ℕ) → used ≤ nodes → 0 < width → (nodes - used) / width < len → nodes < used + width * len
no_node_room used width nodes len u w h =
    let q : nodes - used < len * width = (div-lt_iff_lt-mul {k = width} {x = nodes - used} {y = len} w).0 h in
    omega (arith, q, mul_comm width len)

-- a list of nodes that is accepted has room, and ends where its cells end
pub record Nodes (used width nodes : ℕ) (s : List ℕ) (at : ℕ) (vs : List ℕ) : Type 0 where
  pub read : read_answer s at ≡ accepted (number_at s at ∷ next_at s at ∷ [])
  pub room : used + width * number_at s at ≤ nodes
  pub cells : FoundBelow p (width * number_at s at) s (next_at s at)
  pub answer : accepted (number_at s at ∷ after (width * number_at s at) s (next_at s at) ∷ []) ≡ accepted vs

module _ (used width nodes : ℕ) (s : List ℕ) (at : ℕ) where
  pub nodes_of : (vs : List ℕ) → nodes_answer used width nodes s at ≡ accepted vs → Nodes used width nodes s at vs
  unfolding nodes_answer
  nodes_of vs e =
      let a = passed (read_answer s at) _ vs e in
      let b = passes (leb (used + width * number_at s at) nodes) _ 24 0 vs a.then in
      let d = passed (numbers_answer p (width * number_at s at) s (next_at s at)) (accepted (number_at s at ∷ after (width * number_at s at) s (next_at s at) ∷ [])) vs b.1 in
      record {
        read = read_of s at a.values a.first;
        room = leb-true _ _ b.0;
        cells = numbers_of p s (width * number_at s at) (next_at s at) d.values d.first;
        answer = d.then;
      }

  pub nodes_accepted : (len next : ℕ) → nodes_answer used width nodes s at ≡ accepted (len ∷ next ∷ []) → (len ≡ number_at s at) × (next ≡ after (width * number_at s at) s (next_at s at))
  nodes_accepted len next e = values_are _ _ len next (nodes_of (len ∷ next ∷ []) e).answer

module _ (reads evals declared end len : ℕ) where
  pub end_of : (vs : List ℕ) → end_answer reads evals declared end len ≡ accepted vs → (0 < evals) × (wires reads evals ≡ declared) × (len ≤ end)
  unfolding end_answer
  end_of vs e =
      let a = not_stopped (eqb evals 0) _ 21 0 vs e in
      let b = not_stopped (ltb most_record_wires (wires reads evals)) _ 19 0 vs a.1 in
      let c = passes (eqb (wires reads evals) declared) _ 22 0 vs b.1 in
      let d = not_stopped (ltb end len) _ 23 0 vs c.1 in
      let z : (evals ≡ 0 → ⊥) = eqb-false evals 0 a.0 in
      (omega arith, eqb-true _ _ c.0, ltb-false _ _ d.0)
