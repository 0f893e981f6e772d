-- What the tests of a record, 21, 19, 6 and 17, and of a finished state, 13 and 11, come to, and what they say of the numbers.
-- Assumes nothing.
use mathlib.Core.Path.{◌≡◌, refl, sym, ap, ◌∙◌}
use mathlib.Core.Bool.{true, false, ◌&&◌}
use mathlib.Core.List.{List, []}
use Prim.Native.Nat.{ℕ, ◌+◌, ◌-◌, ◌*◌, ◌≤◌, ◌<◌}
use native.Mathlib.Nat.{zero-add, sub-zero}
use native.Mathlib.Omega.{arith}
use lib.Dec.{ltb, eqb}
use lib.ListN.{length, get_or, take, drop}
use lib.Seq.{get_or-take}
use borrow.Author.Tests.{ltb-true, leb-true, ltb-false, eqb-true, eqb-false, lt-ltb, le-ltb, le-leb, lt-leb, eq-eqb, ne_eqb}
use Rattle.refusal.specs.Told.{Told, accepted, refused, or_else}
use Rattle.field.specs.Field.{p, first_over}
use Rattle.field.proofs.Over.{over_below}
use Rattle.trace.specs.declared.CircuitEvaluation.{CircuitEvaluation}
use Rattle.trace.specs.declared.RecordHeader.{RecordHeader}
use Rattle.trace.specs.Counts.{room}
use Rattle.trace.specs.State.{wires_of, made_of, sound}
use Rattle.trace.specs.Outcome.{Lent}
use Rattle.trace.specs.Record.{most_record_wires, record_wires, record_cells, elements, in_field, of_record, of_finalized}
use Rattle.trace.proofs.Choices.{both, both_hold, second_fails, passes, not_stopped, stopped_else, passed_else}
use Rattle.trace.proofs.Tests.{Fits, room_of}

-- a look at the first n cells that ended before them, and one that did not
over_first : (n r : ℕ) (xs : List ℕ) → r ≡ 0 + first_over (take (n - 0) (drop 0 xs)) → r ≡ first_over (take n xs)
over_first n r xs e = e ∙ zero-add (first_over (take (n - 0) xs)) ∙ ap (λ (k : ℕ). first_over (take k xs)) (sub-zero n)

not_elements : (n r : ℕ) (xs : List ℕ) → r ≡ 0 + first_over (take (n - 0) (drop 0 xs)) → r < n → elements n xs ≡ false
unfolding elements
not_elements n r xs e h = let q = over_first n r xs e in lt-leb n (first_over (take n xs)) (omega arith)

all_elements : (n r : ℕ) (xs : List ℕ) → r ≡ 0 + first_over (take (n - 0) (drop 0 xs)) → n ≤ r → elements n xs ≡ true
unfolding elements
all_elements n r xs e h = let q = over_first n r xs e in le-leb n (first_over (take n xs)) (omega arith)

pub elements_below : (n : ℕ) (xs : List ℕ) → elements n xs ≡ true → (k : ℕ) → k < n → get_or xs k 0 < p
unfolding elements
elements_below n xs e k h =
    let l = leb-true n (first_over (take n xs)) e in
    let q : get_or (take n xs) k 0 ≡ get_or xs k 0 = get_or-take n xs k 0 h in
    rw q at (over_below (take n xs) k (omega arith))

-- what a record that passes is known by
pub record Recorded (h : RecordHeader) (b : Lent) : Type 0 where
  pub some_evals : 0 < h.num_eval
  pub few : record_wires h ≤ most_record_wires
  pub fits : Fits h.num_read h.num_eval (length b.values) (length b.counts) (length b.nodes)
  pub values_in_lem : (k : ℕ) → k < 2 * record_wires h → get_or b.values k 0 < p
  pub nodes_in : (k : ℕ) → k < record_cells h → get_or b.nodes k 0 < p
  pub id_in : h.id_next < p

some : (n : ℕ) → eqb n 0 ≡ false → 0 < n
some n e = let q : (n ≡ 0 → ⊥) = eqb-false n 0 e in omega arith

module _ (h : RecordHeader) (b : Lent) where
  pub value_out : (r : ℕ) → r ≡ 0 + first_over (take (2 * record_wires h - 0) (drop 0 b.values)) → r < 2 * record_wires h → in_field h b ≡ false
  unfolding in_field
  value_out r e l = rw (not_elements (2 * record_wires h) r b.values e l)

  pub node_out : (r : ℕ) → r ≡ 0 + first_over (take (record_cells h - 0) (drop 0 b.nodes)) → r < record_cells h → in_field h b ≡ false
  unfolding in_field
  node_out r e l =
      second_fails (elements (2 * record_wires h) b.values) (elements (record_cells h) b.nodes && ltb h.id_next p)
      (rw (not_elements (record_cells h) r b.nodes e l))

  pub id_out : p ≤ h.id_next → in_field h b ≡ false
  unfolding in_field
  id_out l =
      second_fails (elements (2 * record_wires h) b.values) (elements (record_cells h) b.nodes && ltb h.id_next p)
      (second_fails (elements (record_cells h) b.nodes) (ltb h.id_next p) (le-ltb h.id_next p l))

  pub all_in : (r u : ℕ) → r ≡ 0 + first_over (take (2 * record_wires h - 0) (drop 0 b.values)) → 2 * record_wires h ≤ r
      → u ≡ 0 + first_over (take (record_cells h - 0) (drop 0 b.nodes)) → record_cells h ≤ u → h.id_next < p → in_field h b ≡ true
  unfolding in_field
  all_in r u e₁ l₁ e₂ l₂ i =
      both_hold _ _ (all_elements (2 * record_wires h) r b.values e₁ l₁)
      (both_hold _ _ (all_elements (record_cells h) u b.nodes e₂ l₂)
      (lt-ltb _ _ i))

  module _ (t : Told) where
    pub no_eval_node : h.num_eval ≡ 0 → refused 21 0 ≡ of_record h b t
    unfolding of_record
    no_eval_node e = rw (eq-eqb h.num_eval 0 e)

    pub over_wires : (h.num_eval ≡ 0 → ⊥) → most_record_wires < record_wires h → refused 19 0 ≡ of_record h b t
    unfolding of_record
    over_wires n l = rw (ne_eqb h.num_eval 0 n, lt-ltb most_record_wires (record_wires h) l)

    pub record_short : (h.num_eval ≡ 0 → ⊥) → record_wires h ≤ most_record_wires → room h.num_read h.num_eval (length b.values) (length b.counts) (length b.nodes) ≡ false
        → refused 6 0 ≡ of_record h b t
    unfolding of_record
    record_short n l r = rw (ne_eqb h.num_eval 0 n, le-ltb most_record_wires (record_wires h) l, r)

    pub out_of_field : (h.num_eval ≡ 0 → ⊥) → record_wires h ≤ most_record_wires → room h.num_read h.num_eval (length b.values) (length b.counts) (length b.nodes) ≡ true
        → in_field h b ≡ false → refused 17 0 ≡ of_record h b t
    unfolding of_record
    out_of_field n l r i = rw (ne_eqb h.num_eval 0 n, le-ltb most_record_wires (record_wires h) l, r, i)

    pub in_order : (h.num_eval ≡ 0 → ⊥) → record_wires h ≤ most_record_wires → room h.num_read h.num_eval (length b.values) (length b.counts) (length b.nodes) ≡ true
        → in_field h b ≡ true → t ≡ of_record h b t
    unfolding of_record
    in_order n l r i = rw (ne_eqb h.num_eval 0 n, le-ltb most_record_wires (record_wires h) l, r, i)

    -- past the tests, what comes after them is answered
    pub record_of : (vs : List ℕ) → of_record h b t ≡ accepted vs → Recorded h b × (t ≡ accepted vs)
    unfolding of_record in_field
    record_of vs q =
        let a = not_stopped (eqb h.num_eval 0) _ 21 0 vs q in
        let c = not_stopped (ltb most_record_wires (record_wires h)) _ 19 0 vs a.1 in
        let d = passes (room h.num_read h.num_eval (length b.values) (length b.counts) (length b.nodes)) _ 6 0 vs c.1 in
        let e = passes _ _ 17 0 vs d.1 in
        let f = both _ _ e.0 in
        let g = both _ _ f.1 in (
          record {
            some_evals = some h.num_eval a.0;
            few = ltb-false _ _ c.0;
            fits = room_of _ _ _ _ _ d.0;
            values_in_lem = elements_below _ _ f.0;
            nodes_in = elements_below _ _ g.0;
            id_in = ltb-true _ _ g.1;
          },
          e.1,
        )

-- whatever comes after the tests
pub record_else : (h : RecordHeader) (b : Lent) (vs : List ℕ) (t : Told) → of_record h b t ≡ or_else (of_record h b (accepted vs)) t
unfolding of_record
record_else h b vs t =
    stopped_else (eqb h.num_eval 0) 21 0 _ _ t
    (stopped_else (ltb most_record_wires (record_wires h)) 19 0 _ _ t
    (passed_else (room h.num_read h.num_eval (length b.values) (length b.counts) (length b.nodes)) 6 0 _ _ t
    (passed_else (in_field h b) 17 0 (accepted vs) t t refl)))

pub record_stops : (h : RecordHeader) (b : Lent) (t : Told) (number place : ℕ) → refused number place ≡ of_record h b (accepted []) → refused number place ≡ of_record h b t
record_stops h b t n k e = ap (λ (x : Told). or_else x t) e ∙ sym (record_else h b [] t)

pub record_goes : (h : RecordHeader) (b : Lent) (t : Told) → accepted [] ≡ of_record h b (accepted []) → t ≡ of_record h b t
record_goes h b t e = ap (λ (x : Told). or_else x t) e ∙ sym (record_else h b [] t)

pub finalized_else : (s : CircuitEvaluation) (vs : List ℕ) (t : Told) → of_finalized s t ≡ or_else (of_finalized s (accepted vs)) t
unfolding of_finalized
finalized_else s vs t = passed_else (sound s) 13 0 _ _ t (passed_else (eqb (made_of s) (wires_of s)) 11 0 (accepted vs) t t refl)

pub finalized_stops : (s : CircuitEvaluation) (vs : List ℕ) (t : Told) (number place : ℕ) → refused number place ≡ of_finalized s (accepted vs) → refused number place ≡ of_finalized s t
finalized_stops s vs t n k e = ap (λ (x : Told). or_else x t) e ∙ sym (finalized_else s vs t)

pub finalized_goes : (s : CircuitEvaluation) (vs ws : List ℕ) (t : Told) → accepted ws ≡ of_finalized s (accepted vs) → t ≡ of_finalized s t
finalized_goes s vs ws t e = ap (λ (x : Told). or_else x t) e ∙ sym (finalized_else s vs t)

module _ (s : CircuitEvaluation) (t : Told) where
  pub not_sound : sound s ≡ false → refused 13 0 ≡ of_finalized s t
  unfolding of_finalized
  not_sound e = rw e

  pub not_finalized : sound s ≡ true → (made_of s ≡ wires_of s → ⊥) → refused 11 0 ≡ of_finalized s t
  unfolding of_finalized
  not_finalized e n = rw (e, ne_eqb (made_of s) (wires_of s) n)

  pub is_finalized : sound s ≡ true → made_of s ≡ wires_of s → t ≡ of_finalized s t
  unfolding of_finalized
  is_finalized e q = rw (e, eq-eqb (made_of s) (wires_of s) q)

  -- past 13 and 11
  pub finalized_of : (vs : List ℕ) → of_finalized s t ≡ accepted vs → (sound s ≡ true) × (made_of s ≡ wires_of s) × (t ≡ accepted vs)
  unfolding of_finalized
  finalized_of vs q =
      let a = passes (sound s) _ 13 0 vs q in
      let c = passes (eqb (made_of s) (wires_of s)) _ 11 0 vs a.1 in
      (a.0, eqb-true _ _ c.0, c.1)
