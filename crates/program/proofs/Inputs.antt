-- Reading the cells behind the head, and the whole input: the order of the refusals.
-- Assumes nothing.
use Prim.Native.Nat.{ℕ, ◌+◌, ◌^◌, ◌≤◌, ◌<◌}
use mathlib.Core.Path.{◌≡◌, refl, sym, ap, ap₂, ◌∙◌}
use mathlib.Core.Bool.{Bool, true, false, cond, ◌&&◌}
use mathlib.Core.List.{List, [], ◌∷◌}
use native.Mathlib.Omega.{arith}
use lib.Dec.{ltb, leb}
use lib.ListN.{length}
use lib.Seq.{sets}
use borrow.Author.Tests.{lt-ltb, le-ltb, lt-leb, le-leb, ltb-false}
use Rattle.refusal.specs.Told.{Told, accepted, refused, or_else}
use Rattle.trace.specs.Counts.{most_wires}
use Rattle.trace.proofs.Choices.{second_fails, not_stopped}
use Rattle.record.specs.Numbers.{after, numbers_from, numbers_answer}
use Rattle.record.proofs.Ways.{values_are, goes_on, stops, passed}
use Rattle.record.proofs.Numbers.{numbers_of, place_after}
use Rattle.program.specs.Input.{ctx_in, clk_in, vars_in, evals_in, cells_in, cells_at, memory_in, head_answer, most_cells, cells_answer, most_here, over_room, input_answer}

-- the cells
module _ (n : ℕ) (s : List ℕ) (at : ℕ) where
  abbrev left : Told
  left = cond (ltb (after n s at) (length s)) (refused 23 0) (accepted (0 ∷ after n s at ∷ []))

  pub cells_over : most_cells < n → refused 24 0 ≡ cells_answer n s at
  unfolding cells_answer
  cells_over h = rw (lt-ltb most_cells n h)

  pub cells_off : (number place : ℕ) → numbers_answer (2 ^ 64) n s at ≡ refused number place → n ≤ most_cells → refused number place ≡ cells_answer n s at
  unfolding cells_answer
  cells_off number place e h = rw (le-ltb most_cells n h) (sym (stops (numbers_answer (2 ^ 64) n s at) left number place e))

  cells-read : (vs : List ℕ) → numbers_answer (2 ^ 64) n s at ≡ accepted vs → n ≤ most_cells → left ≡ cells_answer n s at
  unfolding cells_answer
  cells-read vs e h = rw (le-ltb most_cells n h) (sym (goes_on (numbers_answer (2 ^ 64) n s at) left vs e))

  pub cells_left : (v end : ℕ) → numbers_answer (2 ^ 64) n s at ≡ accepted (v ∷ end ∷ []) → n ≤ most_cells → end < length s → refused 23 0 ≡ cells_answer n s at
  cells_left v end e h l =
      let p = place_after (2 ^ 64) s n at v end e in
      sym (there (omega arith)) ∙ cells-read (v ∷ end ∷ []) e h
    where
      there : after n s at < length s → left ≡ refused 23 0
      there m = rw (lt-ltb (after n s at) (length s) m)

  pub cells_end : (v end : ℕ) → numbers_answer (2 ^ 64) n s at ≡ accepted (v ∷ end ∷ []) → n ≤ most_cells → length s ≤ end → accepted (0 ∷ end ∷ []) ≡ cells_answer n s at
  cells_end v end e h l =
      let p = place_after (2 ^ 64) s n at v end e in
      ap (λ (k : ℕ). accepted (0 ∷ k ∷ [])) p ∙ sym (none (omega arith)) ∙ cells-read (v ∷ end ∷ []) e h
    where
      none : length s ≤ after n s at → left ≡ accepted (0 ∷ after n s at ∷ [])
      none m = rw (le-ltb (after n s at) (length s) m)

  pub cells_few : (vs : List ℕ) → cells_answer n s at ≡ accepted vs → n ≤ most_cells
  unfolding cells_answer
  cells_few vs e = ltb-false most_cells n (not_stopped (ltb most_cells n) (or_else (numbers_answer (2 ^ 64) n s at) left) 24 0 vs e).0

  pub cells_place : (v end : ℕ) → cells_answer n s at ≡ accepted (v ∷ end ∷ []) → end ≡ after n s at
  unfolding cells_answer
  cells_place v end e =
      let a = (not_stopped (ltb most_cells n) (or_else (numbers_answer (2 ^ 64) n s at) left) 24 0 (v ∷ end ∷ []) e).1 in
      let b = (passed (numbers_answer (2 ^ 64) n s at) left (v ∷ end ∷ []) a).then in
      (values_are 0 (after n s at) v end (not_stopped (ltb (after n s at) (length s)) (accepted (0 ∷ after n s at ∷ [])) 23 0 (v ∷ end ∷ []) b).1).1

-- "129 to 32768"
module _ (wires : ℕ) where
  pub room_past : most_wires < wires → false ≡ over_room wires
  unfolding over_room
  room_past h = sym (second_fails (ltb most_here wires) (leb wires most_wires) (lt-leb wires most_wires h))

  pub room_is : wires ≤ most_wires → ltb most_here wires ≡ over_room wires
  unfolding over_room
  room_is h = rw (le-leb wires most_wires h) (and-true (ltb most_here wires))
    where
      and-true : (b : Bool) → b ≡ (b && true)
      and-true true = refl
      and-true false = refl

  pub room_enough : over_room wires ≡ false → wires ≤ most_wires → wires ≤ most_here
  room_enough e h = ltb-false most_here wires (room_is h ∙ e)

-- the whole input
module _ (s : List ℕ) where
  abbrev last : Told
  last = cond (over_room (vars_in s + evals_in s)) (refused 24 0) (accepted (0 ∷ after (cells_in s) s (cells_at s) ∷ []))

  abbrev cells : Told
  cells = cells_answer (cells_in s) s (cells_at s)

  pub head_off : (number place : ℕ) → head_answer s ≡ refused number place → refused number place ≡ input_answer s
  unfolding input_answer
  head_off number place e = sym (stops (head_answer s) (or_else cells last) number place e)

  module _ (vs : List ℕ) (e : head_answer s ≡ accepted vs) (n at : ℕ) (a : n ≡ cells_in s) (b : at ≡ cells_at s) where
    cells_same : cells ≡ cells_answer n s at
    cells_same = sym (ap₂ (λ (x y : ℕ). cells_answer x s y) a b)

    pub input_cells_off : (number place : ℕ) → cells_answer n s at ≡ refused number place → refused number place ≡ input_answer s
    unfolding input_answer
    input_cells_off number place f =
        sym (goes_on (head_answer s) (or_else cells last) vs e ∙ stops cells last number place (cells_same ∙ f))

    input_last : (ws : List ℕ) → cells_answer n s at ≡ accepted ws → last ≡ input_answer s
    unfolding input_answer
    input_last ws f = sym (goes_on (head_answer s) (or_else cells last) vs e ∙ goes_on cells last ws (cells_same ∙ f))

    module _ (v end : ℕ) (f : cells_answer n s at ≡ accepted (v ∷ end ∷ [])) (num-vars num-eval : ℕ) (c : num-vars ≡ vars_in s) (d : num-eval ≡ evals_in s) where
      sums : over_room (vars_in s + evals_in s) ≡ over_room (num-vars + num-eval)
      sums = sym (ap₂ (λ (x y : ℕ). over_room (x + y)) c d)

      pub input_over : over_room (num-vars + num-eval) ≡ true → refused 24 0 ≡ input_answer s
      input_over g = sym (ap (λ (x : Bool). cond x (refused 24 0) (accepted (0 ∷ after (cells_in s) s (cells_at s) ∷ []))) (sums ∙ g)) ∙ input_last (v ∷ end ∷ []) f

      pub input_end : over_room (num-vars + num-eval) ≡ false → accepted (0 ∷ after (cells_in s) s (cells_at s) ∷ []) ≡ input_answer s
      input_end g =
          sym (ap (λ (x : Bool). cond x (refused 24 0) (accepted (0 ∷ after (cells_in s) s (cells_at s) ∷ []))) (sums ∙ g))
          ∙ input_last (v ∷ end ∷ []) f

    pub memory-stored : (old new : List ℕ) → new ≡ sets old 0 (numbers_from n s at) → new ≡ sets old 0 (memory_in s)
    unfolding memory_in
    memory-stored old new q = q ∙ ap₂ (λ (x y : ℕ). sets old 0 (numbers_from x s y)) a b

-- input that is not refused
pub record Good (s : List ℕ) : Type 0 where
  pub ctx_fits : ctx_in s < 2 ^ 32
  pub clk_fits : clk_in s < 2 ^ 32
  pub few_cells : cells_in s ≤ most_cells
  pub room : over_room (vars_in s + evals_in s) ≡ false

pub input_good : (s vs : List ℕ) → input_answer s ≡ accepted vs → Good s
unfolding input_answer head_answer ctx_in clk_in after numbers_from
input_good s vs e =
    let a = passed (head_answer s) (or_else (cells s) (last s)) vs e in
    let h = passed (numbers_answer (2 ^ 32) 2 s 0) (numbers_answer (2 ^ 64) 4 s (after 2 s 0)) a.values a.first in
    let n = (numbers_of (2 ^ 32) s 2 0 h.values h.first).1 in
    let c = passed (cells s) (last s) vs a.then in
    record {
      ctx_fits = n.0;
      clk_fits = n.1.0;
      few_cells = cells_few (cells_in s) s (cells_at s) c.values c.first;
      room = (not_stopped (over_room (vars_in s + evals_in s)) (accepted (0 ∷ after (cells_in s) s (cells_at s) ∷ [])) 24 0 vs c.then).0;
    }
