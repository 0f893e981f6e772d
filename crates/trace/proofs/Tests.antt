-- What the tests say of the numbers, both ways.
-- Assumes nothing.
use mathlib.Core.Path.{◌≡◌, refl, sym, ap, ap₂, ◌∙◌}
use Rattle.std.proofs.Common.{Result, Ok, Err, is_err}
use mathlib.Core.Bool.{Bool, true, false, ◌&&◌, ◌||◌}
use mathlib.Core.List.{List, []}
use mathlib.Core.Logic.{◌⊎◌, ⊎_elim, inl, inr}
use Prim.Native.Nat.{ℕ, ◌-◌, ◌*◌, ◌≤◌, ◌<◌}
use native.Mathlib.Omega.{arith}
use lib.Dec.{ltb, leb, eqb}
use borrow.Author.Tests.{ltb-true, leb-true, eqb-true, ltb-false, eqb-false, lt-ltb, le-ltb, le-leb, lt-leb, eq-eqb, ne_eqb}
use Rattle.refusal.specs.Told.{Told, accepted, refused}
use Rattle.field.proofs.Cases.{below?}
use Rattle.refusal.specs.declared.Refusal.{Refusal}
use Rattle.refusal.proofs.Tellings.{true_not_false}
use Rattle.trace.specs.Record.{tested_told}
use Rattle.trace.specs.declared.CircuitEvaluation.{CircuitEvaluation}
use Rattle.trace.specs.Counts.{most_wires, wires, of_counts, node_cells, room}
use Rattle.trace.specs.State.{wires_of, made_of, next_id, is_accepted, sound, read_turn, eval_turn}
use Rattle.trace.proofs.NextId.{next_lacking}
use Rattle.trace.proofs.Choices.{both, both_hold, first_fails, second_fails, first_holds, second_holds, not_holds, either, either_holds, not_stopped}

-- counts that opening accepts
pub record Counts (most num-read num-eval : ℕ) : Type 0 where
  pub few : wires num-read num-eval ≤ most
  pub reads : 0 < num-read
  pub evals : 0 < num-eval

pub counts_of : (most num-read num-eval : ℕ) (t : Told) (vs : List ℕ) → of_counts most num-read num-eval t ≡ accepted vs → Counts most num-read num-eval × (t ≡ accepted vs)
unfolding of_counts
counts_of most r e t vs q =
    let a = not_stopped (ltb most (wires r e)) _ 1 0 vs q in
    let b = not_stopped (eqb r 0) _ 2 0 vs a.1 in
    let d = not_stopped (eqb e 0) _ 3 0 vs b.1 in
    let n₂ : (r ≡ 0 → ⊥) = eqb-false _ _ b.0 in
    let n₃ : (e ≡ 0 → ⊥) = eqb-false _ _ d.0 in
    (record { few = ltb-false _ _ a.0; reads = omega arith; evals = omega arith }, d.1)

pub counts_pass : (most num-read num-eval : ℕ) (t : Told) → Counts most num-read num-eval → of_counts most num-read num-eval t ≡ t
unfolding of_counts
counts_pass most r e t h =
    let n₂ : (r ≡ 0 → ⊥) = λ q. let i = h.reads in omega arith in
    let n₃ : (e ≡ 0 → ⊥) = λ q. let i = h.evals in omega arith in
    rw (le-ltb most (wires r e) h.few, ne_eqb r 0 n₂, ne_eqb e 0 n₃)

pub told_accepted : (t : Told) → is_accepted t ≡ true → (vs : List ℕ) × (t ≡ accepted vs)
told_accepted (accepted vs) e = (vs, refl)
told_accepted (refused n k) e = true_not_false (sym e)

-- a state that opening and accepted steps give
pub record Sound (s : CircuitEvaluation) : Type 0 where
  pub counts : Counts most_wires s.num_read s.num_eval
  pub reads_end : s.reads_done ≤ s.num_read
  pub evals_end : s.evals_done ≤ s.num_eval
  pub order : (s.evals_done ≡ 0) ⊎ (s.reads_done ≡ s.num_read)
  pub next : s.id_next ≡ next_id (wires_of s) (made_of s)

pub sound_of : (s : CircuitEvaluation) → sound s ≡ true → Sound s
unfolding sound
sound_of s e =
    let a = both _ _ e in
    let b = both _ _ a.1 in
    let d = both _ _ b.1 in
    let f = both _ _ d.1 in
    let g = told_accepted _ a.0 in
    record {
      counts = (counts_of _ _ _ _ _ g.1).0;
      reads_end = leb-true _ _ b.0;
      evals_end = leb-true _ _ d.0;
      order = ⊎_elim (λ q. inl (eqb-true _ _ q)) (λ q. inr (eqb-true _ _ q)) (either _ _ f.0);
      next = eqb-true _ _ f.1;
    }

pub sound_is : (s : CircuitEvaluation) → Sound s → sound s ≡ true
unfolding sound
sound_is s h =
    both_hold _ _ (ap is_accepted (counts_pass _ _ _ _ h.counts))
    (both_hold _ _ (le-leb _ _ h.reads_end)
    (both_hold _ _ (le-leb _ _ h.evals_end)
    (both_hold _ _ (either_holds _ _ (⊎_elim (λ q. inl (eq-eqb _ _ q)) (λ q. inr (eq-eqb _ _ q)) h.order))
    (eq-eqb _ _ h.next))))

-- whose turn it is
pub read_turn_of : (s : CircuitEvaluation) → read_turn s ≡ true → Sound s × (s.reads_done < s.num_read)
unfolding read_turn
read_turn_of s e = let a = both _ _ e in (sound_of s a.0, ltb-true _ _ a.1)

pub eval_turn_of : (s : CircuitEvaluation) → eval_turn s ≡ true → Sound s × (s.reads_done ≡ s.num_read) × (s.evals_done < s.num_eval)
unfolding eval_turn
eval_turn_of s e =
    let a = both _ _ e in
    let b = both _ _ a.1 in
    (sound_of s a.0, eqb-true _ _ b.0, ltb-true _ _ b.1)

pub read_turn_is : (s : CircuitEvaluation) → sound s ≡ true → s.reads_done < s.num_read → read_turn s ≡ true
unfolding read_turn
read_turn_is s h l = both_hold _ _ h (lt-ltb _ _ l)

pub eval_turn_is : (s : CircuitEvaluation) → sound s ≡ true → s.reads_done ≡ s.num_read → s.evals_done < s.num_eval → eval_turn s ≡ true
unfolding eval_turn
eval_turn_is s h e l = both_hold _ _ h (both_hold _ _ (eq-eqb _ _ e) (lt-ltb _ _ l))

-- whose turn it is not
module _ (s : CircuitEvaluation) where
  pub read_late : s.num_read ≤ s.reads_done → false ≡ read_turn s
  read_late h = not_holds _ (λ e. let l = (read_turn_of s e).1 in omega arith)

  pub read_begun : (s.evals_done ≡ 0 → ⊥) → false ≡ read_turn s
  read_begun n = not_holds _ (λ e. let t = read_turn_of s e in ⊎_elim (λ q. n q) (λ q. let l = t.1 in omega arith) t.0.order)

  pub read_no_evals : s.num_eval ≡ 0 → false ≡ read_turn s
  read_no_evals z = not_holds _ (λ e. let l = (read_turn_of s e).0.counts.evals in omega arith)

  pub eval_early : (s.reads_done ≡ s.num_read → ⊥) → false ≡ eval_turn s
  eval_early n = not_holds _ (λ e. n (eval_turn_of s e).1)

  pub eval_late : s.num_eval ≤ s.evals_done → false ≡ eval_turn s
  eval_late h = not_holds _ (λ e. let l = (eval_turn_of s e).2 in omega arith)

  pub eval_no_reads : s.num_read ≡ 0 → false ≡ eval_turn s
  eval_no_reads z = not_holds _ (λ e. let l = (eval_turn_of s e).0.counts.reads in omega arith)

-- room for the whole circuit
pub record Fits (num-read num-eval values counts nodes : ℕ) : Type 0 where
  pub for_values : 2 * wires num-read num-eval ≤ values
  pub for_counts : wires num-read num-eval ≤ counts
  pub for_nodes : node_cells num-read num-eval ≤ nodes

pub room_of : (num-read num-eval values counts nodes : ℕ) → room num-read num-eval values counts nodes ≡ true → Fits num-read num-eval values counts nodes
unfolding room
room_of r e lv lc ln q =
    let a = both _ _ q in
    let b = both _ _ a.1 in
    record { for_values = leb-true _ _ a.0; for_counts = leb-true _ _ b.0; for_nodes = leb-true _ _ b.1 }

-- what each test comes to, in document 01's order

pub too_many : (most num-read num-eval : ℕ) (t : Told) → most < wires num-read num-eval → refused 1 0 ≡ of_counts most num-read num-eval t
unfolding of_counts
too_many most r e t h = rw (lt-ltb most (wires r e) h)

pub no_reads : (most num-read num-eval : ℕ) (t : Told) → wires num-read num-eval ≤ most → num-read ≡ 0 → refused 2 0 ≡ of_counts most num-read num-eval t
unfolding of_counts
no_reads most r e t h z = rw (le-ltb most (wires r e) h, eq-eqb r 0 z)

pub no_evals : (most num-read num-eval : ℕ) (t : Told) → wires num-read num-eval ≤ most → (num-read ≡ 0 → ⊥) → num-eval ≡ 0 → refused 3 0 ≡ of_counts most num-read num-eval t
unfolding of_counts
no_evals most r e t h n z = rw (le-ltb most (wires r e) h, ne_eqb r 0 n, eq-eqb e 0 z)

pub counts_in_order : (most num-read num-eval : ℕ) (t : Told) → wires num-read num-eval ≤ most → (num-read ≡ 0 → ⊥) → (num-eval ≡ 0 → ⊥) → t ≡ of_counts most num-read num-eval t
unfolding of_counts
counts_in_order most r e t h n m = rw (le-ltb most (wires r e) h, ne_eqb r 0 n, ne_eqb e 0 m)

pub short_values : (num-read num-eval values counts nodes : ℕ) → values < 2 * wires num-read num-eval → false ≡ room num-read num-eval values counts nodes
unfolding room
short_values r e lv lc ln h = sym (first_fails _ _ (lt-leb (2 * wires r e) lv h))

pub short_counts : (num-read num-eval values counts nodes : ℕ) → counts < wires num-read num-eval → false ≡ room num-read num-eval values counts nodes
unfolding room
short_counts r e lv lc ln h =
    sym
    (second_fails (leb (2 * wires r e) lv) _
    (first_fails (leb (wires r e) lc) (leb (node_cells r e) ln) (lt-leb (wires r e) lc h)))

pub room_by_nodes : (num-read num-eval values counts nodes : ℕ) → 2 * wires num-read num-eval ≤ values → wires num-read num-eval ≤ counts
    → leb (node_cells num-read num-eval) nodes ≡ room num-read num-eval values counts nodes
unfolding room
room_by_nodes r e lv lc ln h k = sym (first_holds _ _ (le-leb (2 * wires r e) lv h) ∙ first_holds _ _ (le-leb (wires r e) lc k))

-- a state that is not sound, whichever test finds it
module _ (s : CircuitEvaluation) where
  abbrev counts-pass? : Bool
  counts-pass? = is_accepted (of_counts most_wires s.num_read s.num_eval (accepted []))

  abbrev in-order? : Bool
  in-order? = eqb s.evals_done 0 || eqb s.reads_done s.num_read

  abbrev reads? : Bool
  reads? = leb s.reads_done s.num_read

  abbrev evals? : Bool
  evals? = leb s.evals_done s.num_eval

  abbrev id? : Bool
  id? = eqb s.id_next (next_id (wires_of s) (made_of s))

  pub bad_counts : (number place : ℕ) → refused number place ≡ of_counts most_wires s.num_read s.num_eval (accepted []) → false ≡ sound s
  unfolding sound
  bad_counts n k e = sym (first_fails counts-pass? (reads? && (evals? && (in-order? && id?))) (ap is_accepted (sym e)))

  pub refused_counts : (r : Result Unit Refusal) → tested_told r ≡ of_counts most_wires s.num_read s.num_eval (accepted []) → is_err r ≡ true → false ≡ sound s
  refused_counts (Ok u) e h = true_not_false (sym h)
  refused_counts (Err d) e h = bad_counts _ _ e

  pub taken_counts : (r : Result Unit Refusal) → tested_told r ≡ of_counts most_wires s.num_read s.num_eval (accepted []) → is_err r ≡ false → accepted [] ≡ of_counts most_wires s.num_read s.num_eval (accepted [])
  taken_counts (Ok u) e h = e
  taken_counts (Err d) e h = true_not_false h

  pub reads_past : s.num_read < s.reads_done → false ≡ sound s
  unfolding sound
  reads_past h = sym (second_fails counts-pass? _ (first_fails reads? (evals? && (in-order? && id?)) (lt-leb _ _ h)))

  pub evals_past : s.num_eval < s.evals_done → false ≡ sound s
  unfolding sound
  evals_past h = sym (second_fails counts-pass? _ (second_fails reads? _ (first_fails evals? (in-order? && id?) (lt-leb _ _ h))))

  pub out_of_order : in-order? ≡ false → false ≡ sound s
  unfolding sound
  out_of_order h = sym (second_fails counts-pass? _ (second_fails reads? _ (second_fails evals? _ (first_fails in-order? id? h))))

  pub sound_by_id : accepted [] ≡ of_counts most_wires s.num_read s.num_eval (accepted []) → s.reads_done ≤ s.num_read → s.evals_done ≤ s.num_eval → in-order? ≡ true
      → eqb s.id_next (next_id (wires_of s) (made_of s)) ≡ sound s
  unfolding sound
  sound_by_id e hr he o =
      sym
      (first_holds counts-pass? (reads? && (evals? && (in-order? && id?))) (ap is_accepted (sym e))
      ∙ first_holds reads? (evals? && (in-order? && id?)) (le-leb _ _ hr)
      ∙ first_holds evals? (in-order? && id?) (le-leb _ _ he)
      ∙ first_holds in-order? id? o)

  -- size and id settle it, where the rest is known
  abbrev pub next? : Bool
  next? = leb (wires_of s) most_wires && id?

  sound-by-next : (s.num_read ≡ 0 → ⊥) → (s.num_eval ≡ 0 → ⊥) → s.reads_done ≤ s.num_read → s.evals_done ≤ s.num_eval → in-order? ≡ true → next? ≡ sound s
  sound-by-next n m hr he o =
      ⊎_elim
      (λ (l : most_wires < wires_of s). first_fails _ id? (lt-leb _ _ l) ∙ not_holds _ (λ e. let f = (sound_of s e).counts.few in omega arith))
      (λ (l : wires_of s ≤ most_wires). first_holds _ id? (le-leb _ _ l) ∙ sound_by_id (counts_in_order _ _ _ _ l n m) hr he o)
      (below? most_wires (wires_of s))

  pub read_by_next : s.reads_done < s.num_read → s.evals_done ≡ 0 → (s.num_eval ≡ 0 → ⊥) → next? ≡ read_turn s
  unfolding read_turn
  read_by_next l z m =
      sound-by-next (λ e. omega arith) m (omega arith) (omega arith) (either_holds _ _ (inl (eq-eqb _ _ z))) ∙ second_holds _ _ (lt-ltb _ _ l)

  pub eval_by_next : s.reads_done ≡ s.num_read → s.evals_done < s.num_eval → (s.num_read ≡ 0 → ⊥) → next? ≡ eval_turn s
  unfolding eval_turn
  eval_by_next e l n =
      sound-by-next n (λ z. omega arith) (omega arith) (omega arith) (either_holds (eqb s.evals_done 0) _ (inr (eq-eqb _ _ e)))
      ∙ second_holds _ _ (both_hold _ _ (eq-eqb _ _ e) (lt-ltb _ _ l))

-- what the tests of size and id come to
pub too_large : (s : CircuitEvaluation) (n : ℕ) → n ≡ wires_of s → most_wires < n → false ≡ next? s
too_large s n e l =
    let k : most_wires < wires_of s = omega arith in
    sym (first_fails _ _ (lt-leb _ _ k))

pub by_id : (s : CircuitEvaluation) (n m : ℕ) → n ≡ wires_of s → m ≡ made_of s → made_of s < wires_of s → n ≤ most_wires → eqb s.id_next (n - 1 - m) ≡ next? s
by_id s n m en em h l =
    let k : wires_of s ≤ most_wires = omega arith in
    ap₂ (λ (x y : ℕ). eqb s.id_next (x - 1 - y)) en em
    ∙ ap (λ (x : ℕ). eqb s.id_next x) (sym (next_lacking _ _ k h))
    ∙ sym (first_holds _ _ (le-leb _ _ k))
