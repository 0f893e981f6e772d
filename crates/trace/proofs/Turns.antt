-- On a state and buffers that opening and calls give, 13 tells a step out of turn or a count at its end, and 6 is never told.
-- Assumes nothing.
use mathlib.Core.Path.{◌≡◌, refl, sym, ap, ◌∙◌}
use mathlib.Core.Bool.{Bool, true, false, cond}
use mathlib.Core.List.{List, [], ◌∷◌}
use mathlib.Core.Logic.{◌⊎◌, ⊎_elim, inl, inr}
use Prim.Native.Nat.{ℕ, ◌+◌, ◌-◌, ◌*◌, ◌^◌, ◌≤◌, ◌<◌}
use native.Mathlib.Omega.{arith}
use lib.Dec.{ltb, eqb}
use borrow.Author.Tests.{lt-ltb}
use lib.ListN.{length, get_or}
use Rattle.refusal.specs.Told.{Told, accepted, refused}
use Rattle.field.specs.Field.{p, first_over}
use Rattle.field.specs.Pair.{cells}
use Rattle.field.specs.Answer.{of_elements}
use Rattle.field.proofs.Cases.{below?}
use Rattle.refusal.proofs.Tellings.{clash}
use Rattle.instruction.specs.Decode.{left_id, right_id, opcode, decode_answer}
use Rattle.trace.specs.declared.CircuitEvaluation.{CircuitEvaluation}
use Rattle.trace.specs.State.{wires_of, made_of, sound, read_turn, eval_turn}
use Rattle.trace.specs.Outcome.{Lent, Outcome, outcome, fits, unless_refused, value_at}
use Rattle.trace.specs.Read.{read_handed, read_tests, read_step}
use Rattle.trace.specs.Eval.{eval_tests, at_gate, position, is_made, counted, value_of, stored_answer, operand_answer, operand, operands_step, eval_step}
use Rattle.trace.specs.Output.{header_numbers, header_of, is_zero, output_answer}
use Rattle.trace.proofs.Tests.{sound_is, read_turn_is, eval_turn_is, read_late, eval_early, eval_late}
use Rattle.trace.proofs.StepTests.{read_out_of_turn, read-cells, eval_out_of_turn, eval_cells_lem}
use Rattle.trace.proofs.Ways.{read_refused, eval_refused}
use Rattle.trace.proofs.Reached.{Ready, room_is}

-- ---- a number that is not told

abbrev pub Never : ℕ → Told → Type 0
Never n t = (place : ℕ) → t ≡ refused n place → ⊥

never_accepted : (n : ℕ) (vs : List ℕ) → Never n (accepted vs)
never_accepted n vs k e = clash (sym e)

never_refused : (n m j : ℕ) → (m ≡ n → ⊥) → Never n (refused m j)
never_refused n m j h k e = h cc

never_cond : (n : ℕ) (c : Bool) (t u : Told) → Never n t → Never n u → Never n (cond c t u)
never_cond n true t u h i = h
never_cond n false t u h i = i

never_unless : (n : ℕ) (t : Told) (s : CircuitEvaluation) (b : Lent) (o : Outcome) → Never n t → Never n o.told → Never n (unless_refused t s b o).told
never_unless n (accepted vs) s b o h i = i
never_unless n (refused m j) s b o h i = h

never_gate : (n gate : ℕ) (t : Told) → Never n t → Never n (at_gate gate t)
never_gate n gate (accepted vs) h = never_accepted n vs
never_gate n gate (refused m j) h = never_refused n m gate (λ e. h j (ap (λ (i : ℕ). refused i j) e))

never_elements : (n : ℕ) (xs : List ℕ) (t : Told) → (7 ≡ n → ⊥) → Never n t → Never n (of_elements xs t)
unfolding of_elements
never_elements n xs t h i = never_cond n (ltb (first_over xs) (length xs)) (refused 7 (first_over xs)) t (never_refused n 7 (first_over xs) h) i

-- what the count of an operand comes to, once the operand is made and its cells are elements
abbrev counting : CircuitEvaluation → ℕ → Lent → Told
counting t id d = cond (ltb (get_or d.counts (position (wires_of t) id) 0) (2 ^ 32 - 1)) (accepted (cells (value_of t id d))) (refused 13 0)

never_operand : (n number : ℕ) (t : CircuitEvaluation) (id : ℕ) (d : Lent) → (7 ≡ n → ⊥) → (number ≡ n → ⊥) → Never n (counting t id d) → Never n (operand number t id d)
unfolding operand_answer stored_answer
never_operand n number t id d h₇ h i =
    never_cond n (is_made (wires_of t) (made_of t) id) _ _
    (never_cond n (ltb (get_or d.values (2 * position (wires_of t) id) 0) p) _ _
    (never_cond n (ltb (get_or d.values (2 * position (wires_of t) id + 1) 0) p) _ _ i (never_refused n 7 _ h₇))
    (never_refused n 7 _ h₇))
    (never_refused n number _ h)

never_counting : (n : ℕ) (t : CircuitEvaluation) (id : ℕ) (d : Lent) → (13 ≡ n → ⊥) → Never n (counting t id d)
never_counting n t id d h = never_cond n (ltb (get_or d.counts (position (wires_of t) id) 0) (2 ^ 32 - 1)) _ _ (never_accepted n _) (never_refused n 13 0 h)

never_full : (n : ℕ) (t : CircuitEvaluation) (id : ℕ) (d : Lent) → get_or d.counts (position (wires_of t) id) 0 < 2 ^ 32 - 1 → Never n (counting t id d)
never_full n t id d h = rw (lt-ltb _ _ h) (never_accepted n (cells (value_of t id d)))

never_decode : (n word : ℕ) → (7 ≡ n → ⊥) → (8 ≡ n → ⊥) → Never n (decode_answer word)
unfolding decode_answer
never_decode n word h₇ h₈ = never_elements n (word ∷ []) _ h₇ (never_cond n (ltb (opcode word) 3) _ _ (never_accepted n _) (never_refused n 8 0 h₈))

-- an EVAL step, by its parts
never_eval : (n : ℕ) (t : CircuitEvaluation) (ptr word : ℕ) (d : Lent) → (7 ≡ n → ⊥) → (8 ≡ n → ⊥) → (9 ≡ n → ⊥) → (10 ≡ n → ⊥)
    → Never n (eval_tests t (fits t d) ptr word) → Never n (counting t (left_id word) d) → Never n (counting t (right_id word) (counted t (left_id word) d))
    → Never n (eval_step t ptr word d).told
unfolding eval_step operands_step
never_eval n t ptr word d h₇ h₈ h₉ h₁₀ first left right =
    never_unless n (eval_tests t (fits t d) ptr word) t d _ first
    (never_unless n (at_gate t.evals_done (decode_answer word)) t d _ (never_gate n _ _ (never_decode n word h₇ h₈))
    (never_unless n (operand 9 t (left_id word) d) t d _ (never_operand n 9 t (left_id word) d h₇ h₉ left)
    (never_unless n (operand 10 t (right_id word) (counted t (left_id word) d)) t (counted t (left_id word) d) _ (never_operand n 10 t (right_id word) (counted t (left_id word) d) h₇ h₁₀ right)
    (never_accepted n []))))

-- what a step tells where its tests say only that a number it was handed is p or more
tells_elements : (xs : List ℕ) (s : CircuitEvaluation) (b : Lent) (o : Outcome) → o.told ≡ accepted [] → (unless_refused (of_elements xs (accepted [])) s b o).told ≡ of_elements xs (accepted [])
unfolding of_elements
tells_elements xs s b o e = by_test (ltb (first_over xs) (length xs)) (first_over xs)
  where
    by_test : (c : Bool) (k : ℕ) → (unless_refused (cond c (refused 7 k) (accepted [])) s b o).told ≡ cond c (refused 7 k) (accepted [])
    by_test true k = refl
    by_test false k = e

module _ (o : Outcome) (ready : Ready o) where
  abbrev s : CircuitEvaluation
  s = o.state

  abbrev b : Lent
  b = o.buffers

  sound-here : sound s ≡ true
  sound-here = sound_is s ready.is_sound

  fits-here : fits s b ≡ true
  fits-here = room_is _ _ _ _ _ ready.has_room

  -- ---- READ

  -- while READ steps lack, a READ step is accepted or tells 7
  pub read_in_turn : (ptr : ℕ) (w : List (List ℕ)) → o.state.reads_done < o.state.num_read → (read_step o.state ptr w o.buffers).told ≡ of_elements (read_handed ptr w) (accepted [])
  unfolding read_step
  read_in_turn ptr w h = rw (← read-cells s (fits s b) ptr w (read_turn_is s sound-here h) _ fits-here refl) (tells_elements (read_handed ptr w) s b _ refl)

  pub read_over : (ptr : ℕ) (w : List (List ℕ)) → o.state.reads_done ≡ o.state.num_read → read_step o.state ptr w o.buffers ≡ outcome (refused 13 0) o.state o.buffers
  read_over ptr w e = sym (read_refused s ptr w b 13 0 (read_out_of_turn s (fits s b) ptr w (sym (read_late s (omega arith)))))

  pub read_13 : (ptr : ℕ) (w : List (List ℕ)) (k : ℕ) → (read_step o.state ptr w o.buffers).told ≡ refused 13 k → o.state.reads_done ≡ o.state.num_read
  read_13 ptr w k e =
      ⊎_elim
      (λ (l : o.state.reads_done < o.state.num_read).
      absurd (never_elements 13 (read_handed ptr w) (accepted []) (λ q. omega arith) (never_accepted 13 []) k (sym (read_in_turn ptr w l) ∙ e)))
      (λ (l : o.state.num_read ≤ o.state.reads_done). let r = ready.is_sound.reads_end in omega arith)
      (below? o.state.reads_done o.state.num_read)

  -- nor is 6 told
  pub read_not_6 : (ptr : ℕ) (w : List (List ℕ)) → Never 6 (read_step o.state ptr w o.buffers).told
  unfolding read_step read_tests
  read_not_6 ptr w =
      rw fits-here
      (never_unless 6 (cond (read_turn s) (of_elements (read_handed ptr w) (accepted [])) (refused 13 0)) s b _
      (never_cond 6 (read_turn s) _ _ (never_elements 6 (read_handed ptr w) (accepted []) (λ q. omega arith) (never_accepted 6 [])) (never_refused 6 13 0 (λ q. omega arith)))
      (never_accepted 6 []))

  -- ---- EVAL

  -- with all READ steps done and while EVAL steps lack, the first tests of an EVAL step pass or tell 7
  pub eval_in_turn : (ptr word : ℕ) → o.state.reads_done ≡ o.state.num_read → o.state.evals_done < o.state.num_eval
      → eval_tests o.state (fits o.state o.buffers) ptr word ≡ of_elements (word ∷ ptr ∷ []) (accepted [])
  eval_in_turn ptr word e h = sym (eval_cells_lem s (fits s b) ptr word (eval_turn_is s sound-here e h) _ fits-here refl)

  pub eval_over : (ptr word : ℕ) → (o.state.reads_done < o.state.num_read) ⊎ (o.state.evals_done ≡ o.state.num_eval)
      → (eval_tests o.state (fits o.state o.buffers) ptr word ≡ refused 13 0) × (eval_step o.state ptr word o.buffers ≡ outcome (refused 13 0) o.state o.buffers)
  eval_over ptr word h = (sym late, sym (eval_refused s ptr word b 13 0 late))
    where
      late : refused 13 0 ≡ eval_tests s (fits s b) ptr word
      late =
          ⊎_elim
          (λ (l : o.state.reads_done < o.state.num_read). eval_out_of_turn s (fits s b) ptr word (sym (eval_early s (λ e. omega arith))))
          (λ (e : o.state.evals_done ≡ o.state.num_eval). eval_out_of_turn s (fits s b) ptr word (sym (eval_late s (omega arith))))
          h

  -- the two cases of an EVAL step's turn
  abbrev Out : Type 0
  Out = (o.state.reads_done < o.state.num_read) ⊎ (o.state.evals_done ≡ o.state.num_eval)

  abbrev In : Type 0
  In = (o.state.reads_done ≡ o.state.num_read) × (o.state.evals_done < o.state.num_eval)

  turn? : Out ⊎ In
  turn? =
      ⊎_elim
      (λ (l : o.state.reads_done < o.state.num_read). inl (inl l))
      (λ (l : o.state.num_read ≤ o.state.reads_done). ⊎_elim
      (λ (m : o.state.evals_done < o.state.num_eval). inr (omega arith, m))
      (λ (m : o.state.num_eval ≤ o.state.evals_done). inl (inr (omega arith)))
      (below? o.state.evals_done o.state.num_eval))
      (below? o.state.reads_done o.state.num_read)

  in-turn-not-13 : (ptr word : ℕ) → In → Never 13 (eval_tests s (fits s b) ptr word)
  in-turn-not-13 ptr word t = rw (eval_in_turn ptr word t.0 t.1) (never_elements 13 (word ∷ ptr ∷ []) (accepted []) (λ q. omega arith) (never_accepted 13 []))

  pub eval_13 : (ptr word k : ℕ) → eval_tests o.state (fits o.state o.buffers) ptr word ≡ refused 13 k
      → (o.state.reads_done < o.state.num_read) ⊎ (o.state.evals_done ≡ o.state.num_eval)
  eval_13 ptr word k e =
      ⊎_elim
      (λ (t : Out). t)
      (λ (t : In). absurd (in-turn-not-13 ptr word t k e))
      turn?

  -- so a step in its turn tells 13 only for "count at 4294967295", of an operand as it is when it is looked at
  pub eval_step_13 : (ptr word k : ℕ) → (eval_step o.state ptr word o.buffers).told ≡ refused 13 k
      → ((o.state.reads_done < o.state.num_read) ⊎ (o.state.evals_done ≡ o.state.num_eval))
      ⊎ ((2 ^ 32 - 1 ≤ get_or o.buffers.counts (position (wires_of o.state) (left_id word)) 0)
      ⊎ (2 ^ 32 - 1 ≤ get_or (counted o.state (left_id word) o.buffers).counts (position (wires_of o.state) (right_id word)) 0))
  eval_step_13 ptr word k e =
      ⊎_elim
      (λ (t : Out). inl t)
      (λ (t : In). inr (⊎_elim
      (λ (l : left < 2 ^ 32 - 1). ⊎_elim
      (λ (r : right < 2 ^ 32 - 1).
      absurd (never_eval 13 s ptr word b (λ q. omega arith) (λ q. omega arith) (λ q. omega arith) (λ q. omega arith) (in-turn-not-13 ptr word t)
      (never_full 13 s (left_id word) b l)
      (never_full 13 s (right_id word) (counted s (left_id word) b) r)
      k e))
      (λ (r : 2 ^ 32 - 1 ≤ right). inr r)
      (below? right (2 ^ 32 - 1)))
      (λ (l : 2 ^ 32 - 1 ≤ left). inl l)
      (below? left (2 ^ 32 - 1))))
      turn?
    where
      left : ℕ
      left = get_or o.buffers.counts (position (wires_of o.state) (left_id word)) 0

      right : ℕ
      right = get_or (counted o.state (left_id word) o.buffers).counts (position (wires_of o.state) (right_id word)) 0

  first-tests : (n : ℕ) (ptr word : ℕ) → (7 ≡ n → ⊥) → (13 ≡ n → ⊥) → Never n (eval_tests s (fits s b) ptr word)
  unfolding eval_tests
  first-tests n ptr word h₇ h₁₃ =
      rw fits-here (never_cond n (eval_turn s) _ _ (never_elements n (word ∷ ptr ∷ []) (accepted []) h₇ (never_accepted n [])) (never_refused n 13 0 h₁₃))

  pub eval_not_6 : (ptr word : ℕ) → Never 6 (eval_step o.state ptr word o.buffers).told
  eval_not_6 ptr word =
      never_eval 6 s ptr word b (λ q. omega arith) (λ q. omega arith) (λ q. omega arith) (λ q. omega arith) (first-tests 6 ptr word (λ q. omega arith) (λ q. omega arith))
      (never_counting 6 s (left_id word) b (λ q. omega arith))
      (never_counting 6 s (right_id word) (counted s (left_id word) b) (λ q. omega arith))

  -- ---- the result

  -- "13, 6, 11, 12": of these the last two are left
  pub output_in_turn : output_answer o.state o.buffers
      ≡ cond (eqb (made_of o.state) (wires_of o.state))
      (cond (is_zero (value_at o.buffers.values (wires_of o.state - 1))) (accepted (header_numbers (header_of o.state))) (refused 12 0))
      (refused 11 0)
  unfolding output_answer
  output_in_turn = rw (sound-here, fits-here)

  never-output : (n : ℕ) → (11 ≡ n → ⊥) → (12 ≡ n → ⊥) → Never n (output_answer o.state o.buffers)
  never-output n h₁₁ h₁₂ =
      rw output_in_turn
      (never_cond n (eqb (made_of s) (wires_of s)) _ _
      (never_cond n (is_zero (value_at b.values (wires_of s - 1))) _ _ (never_accepted n _) (never_refused n 12 0 h₁₂))
      (never_refused n 11 0 h₁₁))

  pub output_not_13 : Never 13 (output_answer o.state o.buffers)
  output_not_13 = never-output 13 (λ q. omega arith) (λ q. omega arith)

  pub output_not_6 : Never 6 (output_answer o.state o.buffers)
  output_not_6 = never-output 6 (λ q. omega arith) (λ q. omega arith)
