-- What an accepted step says of what it was handed and leaves, and what a refused one leaves.
-- Assumes nothing.
use mathlib.Core.Path.{◌≡◌, refl, sym, ap, ◌∙◌}
use mathlib.Core.Bool.{true, false, cond}
use mathlib.Core.List.{List, [], ◌∷◌}
use mathlib.Core.Logic.{◌⊎◌, ⊎_elim, inl, inr}
use Prim.Native.Nat.{ℕ, ◌+◌, ◌-◌, ◌*◌, ◌^◌, ◌<◌}
use native.Mathlib.Omega.{arith}
use borrow.Author.Tests.{ltb-true}
use lib.ListN.{length, get_or}
use Rattle.refusal.specs.Told.{Told, accepted, refused}
use Rattle.field.specs.Field.{p}
use Rattle.field.specs.Answer.{pair_of}
use Rattle.field.proofs.Over.{elements_of}
use Rattle.refusal.proofs.Tellings.{clash}
use Rattle.instruction.specs.Decode.{left_id, right_id, opcode, decode_answer}
use Rattle.instruction.proofs.Laws.{decodes_small}
use Rattle.trace.specs.declared.CircuitEvaluation.{CircuitEvaluation}
use Rattle.trace.specs.State.{wires_of, made_of, is_accepted, read_turn, eval_turn}
use Rattle.trace.specs.Outcome.{Lent, Outcome, outcome, fits, unless_refused}
use Rattle.trace.specs.Read.{first_pair, second_pair, read_handed, read_tests, read_done, read_made, read_step}
use Rattle.trace.specs.Eval.{eval_tests, at_gate, position, stored_answer, operand_answer, operand, counted, gate_step, operands_step, eval_step}
use Rattle.trace.specs.Calls.{left_counted}
use Rattle.trace.proofs.Choices.{both, passes}
use Rattle.trace.proofs.Ways as ways
use Rattle.trace.proofs.Tests.{Sound, Fits, told_accepted, read_turn_of, eval_turn_of, room_of}

-- ---- an answer is one or the other

told? : (t : Told) → ((vs : List ℕ) × (t ≡ accepted vs)) ⊎ ((number : ℕ) × (place : ℕ) × (t ≡ refused number place))
told? (accepted vs) = inl (vs, refl)
told? (refused n k) = inr (n, k, refl)

at_gate_lem : (gate : ℕ) (t : Told) → ((vs : List ℕ) × (at_gate gate t ≡ accepted vs) × (t ≡ accepted vs)) ⊎ ((number : ℕ) × (at_gate gate t ≡ refused number gate) × (is_accepted t ≡ false))
at_gate_lem gate (accepted vs) = inl (vs, refl, refl)
at_gate_lem gate (refused n k) = inr (n, refl, refl)

-- a step that was not refused yet goes on, and one that was does not
goes_on : (t : Told) (s : CircuitEvaluation) (b : Lent) (o : Outcome) (vs : List ℕ) → t ≡ accepted vs → unless_refused t s b o ≡ o
goes_on t s b o vs e = rw e

ends : (t : Told) (s : CircuitEvaluation) (b : Lent) (o : Outcome) (n k : ℕ) → t ≡ refused n k → unless_refused t s b o ≡ outcome (refused n k) s b
ends t s b o n k e = rw e

-- what the outcome tells
tells : {o : Outcome} {t : Told} {s : CircuitEvaluation} {b : Lent} → o ≡ outcome t s b → o.told ≡ t
tells e = ap (λ (o : Outcome). o.told) e

-- the lent buffers hold the whole circuit
abbrev pub HasRoom : CircuitEvaluation → Lent → Type 0
HasRoom s b = Fits s.num_read s.num_eval (length b.values) (length b.counts) (length b.nodes)

-- ---- READ

-- an accepted READ step passed its tests, "13, 6, 7", made two wires and wrote its node
pub record ReadAccepted (s : CircuitEvaluation) (ptr : ℕ) (w : List (List ℕ)) (b : Lent) : Type 0 where
  pub is_sound : Sound s
  pub turn : s.reads_done < s.num_read
  pub has_room : HasRoom s b
  pub elements : (k : ℕ) → k < 5 → get_or (read_handed ptr w) k 0 < p
  pub leaves : read_step s ptr w b ≡ outcome (accepted []) (read_done s) (read_made s ptr (pair_of (first_pair w)) (pair_of (second_pair w)) b)

-- "nothing else changes on a refused step"
pub record ReadRefused (s : CircuitEvaluation) (ptr : ℕ) (w : List (List ℕ)) (b : Lent) : Type 0 where
  pub number : ℕ
  pub place : ℕ
  pub leaves : read_step s ptr w b ≡ outcome (refused number place) s b

read_passed : (s : CircuitEvaluation) (ptr : ℕ) (w : List (List ℕ)) (b : Lent) (vs : List ℕ) → read_tests s (fits s b) ptr w ≡ accepted vs → ReadAccepted s ptr w b
unfolding read_tests read_step
read_passed s ptr w b vs e =
    let a = passes (read_turn s) _ 13 0 vs e in
    let d = passes (fits s b) _ 6 0 vs a.1 in
    let t = read_turn_of s a.0 in
    record {
      is_sound = t.0;
      turn = t.1;
      has_room = room_of _ _ _ _ _ d.0;
      elements = elements_of (read_handed ptr w) vs _ d.1;
      leaves = goes_on _ s b _ vs e;
    }

pub read-cases : (s : CircuitEvaluation) (ptr : ℕ) (w : List (List ℕ)) (b : Lent) → ReadAccepted s ptr w b ⊎ ReadRefused s ptr w b
read-cases s ptr w b =
    ⊎_elim
    (λ (a : (vs : List ℕ) × (read_tests s (fits s b) ptr w ≡ accepted vs)). inl (read_passed s ptr w b a.0 a.1))
    (λ (r : (n : ℕ) × (k : ℕ) × (read_tests s (fits s b) ptr w ≡ refused n k)).
    inr (record { number = r.0; place = r.1; leaves = sym (ways.read_refused s ptr w b r.0 r.1 (sym r.2)) }))
    (told? (read_tests s (fits s b) ptr w))

pub read_accepted : (s : CircuitEvaluation) (ptr : ℕ) (w : List (List ℕ)) (b : Lent) (vs : List ℕ) → (read_step s ptr w b).told ≡ accepted vs → ReadAccepted s ptr w b
read_accepted s ptr w b vs e =
    ⊎_elim
    (λ (a : ReadAccepted s ptr w b). a)
    (λ (r : ReadRefused s ptr w b). clash (sym (tells r.leaves) ∙ e))
    (read-cases s ptr w b)

pub read_refused : (s : CircuitEvaluation) (ptr : ℕ) (w : List (List ℕ)) (b : Lent) (n k : ℕ) → (read_step s ptr w b).told ≡ refused n k → read_step s ptr w b ≡ outcome (refused n k) s b
read_refused s ptr w b n k e =
    ⊎_elim
    (λ (a : ReadAccepted s ptr w b). clash (sym e ∙ tells a.leaves))
    (λ (r : ReadRefused s ptr w b). r.leaves ∙ ap (λ (t : Told). outcome t s b) (sym (tells r.leaves) ∙ e))
    (read-cases s ptr w b)

-- ---- EVAL

-- an operand that is made, with its cells below p and its count below the last, when it is looked at
pub record Readable (s : CircuitEvaluation) (id : ℕ) (b : Lent) : Type 0 where
  pub wire : id < wires_of s
  pub made : position (wires_of s) id < made_of s
  pub low : get_or b.values (2 * position (wires_of s) id) 0 < p
  pub high : get_or b.values (2 * position (wires_of s) id + 1) 0 < p
  pub count : get_or b.counts (position (wires_of s) id) 0 < 2 ^ 32 - 1

operand_passed : (number : ℕ) (s : CircuitEvaluation) (id : ℕ) (b : Lent) (vs : List ℕ) → operand number s id b ≡ accepted vs → Readable s id b
unfolding operand_answer stored_answer
operand_passed number s id b vs e =
    let a = passes _ _ number s.evals_done vs e in
    let m = both _ _ a.0 in
    let d = passes _ _ 7 (2 * position (wires_of s) id) vs a.1 in
    let f = passes _ _ 7 (2 * position (wires_of s) id + 1) vs d.1 in
    let g = passes _ _ 13 0 vs f.1 in
    record {
      wire = ltb-true _ _ m.0;
      made = ltb-true _ _ m.1;
      low = ltb-true _ _ d.0;
      high = ltb-true _ _ f.0;
      count = ltb-true _ _ g.0;
    }

-- an EVAL step that comes to its right operand, with the left one counted
pub record LeftTaken (s : CircuitEvaluation) (ptr word : ℕ) (b : Lent) : Type 0 where
  pub is_sound : Sound s
  pub all_read : s.reads_done ≡ s.num_read
  pub turn : s.evals_done < s.num_eval
  pub has_room : HasRoom s b
  pub word_element : word < p
  pub ptr_element : ptr < p
  pub operation : opcode word < 3
  pub left : Readable s (left_id word) b

-- an accepted EVAL step looked at its right operand in the buffers in which the left one was counted, counted that too, made the gate's wire and wrote its node
pub record EvalAccepted (s : CircuitEvaluation) (ptr word : ℕ) (b : Lent) : Type 0 where
  pub taken : LeftTaken s ptr word b
  pub right : Readable s (right_id word) (counted s (left_id word) b)
  pub leaves : eval_step s ptr word b ≡ gate_step s ptr (left_id word) (right_id word) (opcode word) (counted s (right_id word) (counted s (left_id word) b))

-- "the left count is raised before the right operand is looked at, and stays raised where the right is refused; nothing else changes on a refused step"
pub record EvalRefused (s : CircuitEvaluation) (ptr word : ℕ) (b : Lent) : Type 0 where
  pub number : ℕ
  pub place : ℕ
  pub leaves : eval_step s ptr word b ≡ outcome (refused number place) s (cond (left_counted s ptr word b) (counted s (left_id word) b) b)

module _ (s : CircuitEvaluation) (ptr word : ℕ) (b : Lent) where
  -- what the step does once its left operand is counted
  abbrev counting : Outcome
  counting =
      unless_refused (operand 10 s (right_id word) (counted s (left_id word) b)) s (counted s (left_id word) b)
      (gate_step s ptr (left_id word) (right_id word) (opcode word) (counted s (right_id word) (counted s (left_id word) b)))

  taken_of : (vs us ls : List ℕ) → eval_tests s (fits s b) ptr word ≡ accepted vs → decode_answer word ≡ accepted us → operand 9 s (left_id word) b ≡ accepted ls → LeftTaken s ptr word b
  unfolding eval_tests
  taken_of vs us ls e d l =
      let a = passes (eval_turn s) _ 13 0 vs e in
      let f = passes (fits s b) _ 6 0 vs a.1 in
      let t = eval_turn_of s a.0 in
      let x = elements_of (word ∷ ptr ∷ []) vs _ f.1 in
      let i = decodes_small word us d in
      record {
        is_sound = t.0;
        all_read = t.1;
        turn = t.2;
        has_room = room_of _ _ _ _ _ f.0;
        word_element = x 0 (omega arith);
        ptr_element = x 1 (omega arith);
        operation = omega arith;
        left = operand_passed 9 s (left_id word) b ls l;
      }

  pub left_taken : left_counted s ptr word b ≡ true → LeftTaken s ptr word b
  unfolding left_counted
  left_taken e =
      let a = both _ _ e in
      let d = both _ _ a.1 in
      let vs = told_accepted _ a.0 in
      let us = told_accepted _ d.0 in
      let ls = told_accepted _ d.1 in
      taken_of vs.0 us.0 ls.0 vs.1 us.1 ls.1

  left-not-counted : (n k : ℕ) → eval_step s ptr word b ≡ outcome (refused n k) s b → left_counted s ptr word b ≡ false → EvalRefused s ptr word b
  left-not-counted n k e f = record { number = n; place = k; leaves = e ∙ rw f }

  left-counted : (n k : ℕ) → eval_step s ptr word b ≡ outcome (refused n k) s (counted s (left_id word) b) → left_counted s ptr word b ≡ true → EvalRefused s ptr word b
  left-counted n k e f = record { number = n; place = k; leaves = e ∙ rw f }

  first_stops : (n k : ℕ) → eval_tests s (fits s b) ptr word ≡ refused n k → EvalRefused s ptr word b
  unfolding left_counted
  first_stops n k e = left-not-counted n k (sym (ways.eval_refused s ptr word b n k (sym e))) (rw e)

  word-stops : (vs : List ℕ) (n k : ℕ) → eval_tests s (fits s b) ptr word ≡ accepted vs → at_gate s.evals_done (decode_answer word) ≡ refused n k → is_accepted (decode_answer word) ≡ false
      → EvalRefused s ptr word b
  unfolding eval_step left_counted
  word-stops vs n k e d f = left-not-counted n k (rw (e, d)) (rw (e, f))

  left-stops : (vs us : List ℕ) (n k : ℕ) → eval_tests s (fits s b) ptr word ≡ accepted vs → decode_answer word ≡ accepted us → operand 9 s (left_id word) b ≡ refused n k → EvalRefused s ptr word b
  unfolding eval_step operands_step left_counted
  left-stops vs us n k e d l = left-not-counted n k (rw (e, d, l)) (rw (e, d, l))

  right-comes : (vs us ls : List ℕ) → eval_tests s (fits s b) ptr word ≡ accepted vs → decode_answer word ≡ accepted us → operand 9 s (left_id word) b ≡ accepted ls
      → (eval_step s ptr word b ≡ counting) × (left_counted s ptr word b ≡ true)
  unfolding eval_step operands_step left_counted
  right-comes vs us ls e d l = (rw (e, d, l), rw (e, d, l))

  -- each test in its turn
  at_right : (vs us ls : List ℕ) → eval_tests s (fits s b) ptr word ≡ accepted vs → decode_answer word ≡ accepted us → operand 9 s (left_id word) b ≡ accepted ls
      → EvalAccepted s ptr word b ⊎ EvalRefused s ptr word b
  at_right vs us ls e d l =
      let c = right-comes vs us ls e d l in
      ⊎_elim
      (λ (a : (rs : List ℕ) × (operand 10 s (right_id word) (counted s (left_id word) b) ≡ accepted rs)).
      inl (record {
        taken = taken_of vs us ls e d l;
        right = operand_passed 10 s (right_id word) (counted s (left_id word) b) a.0 a.1;
        leaves = c.0 ∙ goes_on _ s (counted s (left_id word) b) _ a.0 a.1;
      }))
      (λ (r : (n : ℕ) × (k : ℕ) × (operand 10 s (right_id word) (counted s (left_id word) b) ≡ refused n k)).
      inr (left-counted r.0 r.1 (c.0 ∙ ends _ s (counted s (left_id word) b) _ r.0 r.1 r.2) c.1))
      (told? (operand 10 s (right_id word) (counted s (left_id word) b)))

  at_left : (vs us : List ℕ) → eval_tests s (fits s b) ptr word ≡ accepted vs → decode_answer word ≡ accepted us → EvalAccepted s ptr word b ⊎ EvalRefused s ptr word b
  at_left vs us e d =
      ⊎_elim
      (λ (a : (ls : List ℕ) × (operand 9 s (left_id word) b ≡ accepted ls)). at_right vs us a.0 e d a.1)
      (λ (r : (n : ℕ) × (k : ℕ) × (operand 9 s (left_id word) b ≡ refused n k)). inr (left-stops vs us r.0 r.1 e d r.2))
      (told? (operand 9 s (left_id word) b))

  at-word : (vs : List ℕ) → eval_tests s (fits s b) ptr word ≡ accepted vs → EvalAccepted s ptr word b ⊎ EvalRefused s ptr word b
  at-word vs e =
      ⊎_elim
      (λ (a : (us : List ℕ) × (at_gate s.evals_done (decode_answer word) ≡ accepted us) × (decode_answer word ≡ accepted us)). at_left vs a.0 e a.2)
      (λ (r : (n : ℕ) × (at_gate s.evals_done (decode_answer word) ≡ refused n s.evals_done) × (is_accepted (decode_answer word) ≡ false)). inr (word-stops vs r.0 _ e r.1 r.2))
      (at_gate_lem s.evals_done (decode_answer word))

  pub eval_cases : EvalAccepted s ptr word b ⊎ EvalRefused s ptr word b
  eval_cases =
      ⊎_elim
      (λ (a : (vs : List ℕ) × (eval_tests s (fits s b) ptr word ≡ accepted vs)). at-word a.0 a.1)
      (λ (r : (n : ℕ) × (k : ℕ) × (eval_tests s (fits s b) ptr word ≡ refused n k)). inr (first_stops r.0 r.1 r.2))
      (told? (eval_tests s (fits s b) ptr word))

  pub eval_accepted : (vs : List ℕ) → (eval_step s ptr word b).told ≡ accepted vs → EvalAccepted s ptr word b
  eval_accepted vs e =
      ⊎_elim
      (λ (a : EvalAccepted s ptr word b). a)
      (λ (r : EvalRefused s ptr word b). clash (sym (tells r.leaves) ∙ e))
      eval_cases

  pub eval_refused : (n k : ℕ) → (eval_step s ptr word b).told ≡ refused n k
      → eval_step s ptr word b ≡ outcome (refused n k) s (cond (left_counted s ptr word b) (counted s (left_id word) b) b)
  eval_refused n k e =
      ⊎_elim
      (λ (a : EvalAccepted s ptr word b). clash (sym e ∙ tells a.leaves))
      (λ (r : EvalRefused s ptr word b). r.leaves ∙ ap (λ (t : Told). outcome t s (cond (left_counted s ptr word b) (counted s (left_id word) b) b)) (sym (tells r.leaves) ∙ e))
      eval_cases
