-- What a step's tests, the opening's and the result's come to, in document 01's order.
-- Assumes nothing.
use mathlib.Core.Path.{◌≡◌, sym, ◌∙◌}
use mathlib.Core.Bool.{Bool, true, false, cond}
use mathlib.Core.List.{List, [], ◌∷◌}
use Prim.Native.Nat.{ℕ, ◌+◌, ◌-◌, ◌*◌, ◌^◌, ◌≤◌, ◌<◌}
use lib.Dec.{ltb, eqb}
use lib.ListN.{get_or}
use borrow.Author.Tests.{lt-ltb, le-ltb, eq-eqb, ne_eqb}
use Rattle.refusal.specs.Told.{Told, accepted, refused}
use Rattle.field.specs.Field.{p}
use Rattle.field.specs.Answer.{of_elements}
use Rattle.refusal.proofs.Tellings.{clash}
use Rattle.trace.specs.declared.CircuitEvaluation.{CircuitEvaluation}
use Rattle.trace.specs.Counts.{most_wires, wires, of_counts}
use Rattle.trace.specs.State.{wires_of, made_of, next_id, sound, read_turn, eval_turn}
use Rattle.trace.specs.Outcome.{Lent, fits, value_at}
use Rattle.trace.specs.Open.{opened, open_answer}
use Rattle.trace.specs.Read.{read_handed, read_tests}
use Rattle.trace.specs.Eval.{eval_tests, position, stored_answer, operand_answer}
use Rattle.trace.specs.Output.{header_numbers, header_of, is_zero, output_answer}
use Rattle.trace.proofs.Choices.{both_hold, first_fails, second_fails}
use Rattle.trace.proofs.Tests.{counts_of, counts_pass}

-- READ
module _ (s : CircuitEvaluation) (fit : Bool) (ptr : ℕ) (w : List (List ℕ)) where
  pub read_out_of_turn : read_turn s ≡ false → refused 13 0 ≡ read_tests s fit ptr w
  unfolding read_tests
  read_out_of_turn h = rw h

  module _ (h : read_turn s ≡ true) where
    pub read-cells : (x : Told) → fit ≡ true → x ≡ of_elements (read_handed ptr w) (accepted []) → x ≡ read_tests s fit ptr w
    unfolding read_tests
    read-cells x f q = rw (h, f) q

-- EVAL
module _ (s : CircuitEvaluation) (fit : Bool) (ptr word : ℕ) where
  pub eval_out_of_turn : eval_turn s ≡ false → refused 13 0 ≡ eval_tests s fit ptr word
  unfolding eval_tests
  eval_out_of_turn h = rw h

  module _ (h : eval_turn s ≡ true) where
    pub eval_cells_lem : (x : Told) → fit ≡ true → x ≡ of_elements (word ∷ ptr ∷ []) (accepted []) → x ≡ eval_tests s fit ptr word
    unfolding eval_tests
    eval_cells_lem x f q = rw (h, f) q

-- an operand
module _ (number gate num-wires made id : ℕ) (vs cs : List ℕ) where
  pub no_wire : num-wires ≤ id → refused number gate ≡ operand_answer number gate num-wires made id vs cs
  unfolding operand_answer
  no_wire h = rw (first_fails (ltb id num-wires) (ltb (position num-wires id) made) (le-ltb _ _ h))

  pub not_made : made ≤ position num-wires id → refused number gate ≡ operand_answer number gate num-wires made id vs cs
  unfolding operand_answer
  not_made h = rw (second_fails (ltb id num-wires) (ltb (position num-wires id) made) (le-ltb _ _ h))

  pub as_stored : (x : Told) → id < num-wires → position num-wires id < made → x ≡ stored_answer (position num-wires id) vs cs → x ≡ operand_answer number gate num-wires made id vs cs
  unfolding operand_answer
  as_stored x h l q = rw (both_hold (ltb id num-wires) (ltb (position num-wires id) made) (lt-ltb _ _ h) (lt-ltb _ _ l)) q

module _ (k : ℕ) (vs cs : List ℕ) where
  pub first_over_p : p ≤ get_or vs (2 * k) 0 → refused 7 (2 * k) ≡ stored_answer k vs cs
  unfolding stored_answer
  first_over_p h = rw (le-ltb (get_or vs (2 * k) 0) p h)

  module _ (l₀ : get_or vs (2 * k) 0 < p) where
    pub second_over_p : p ≤ get_or vs (2 * k + 1) 0 → refused 7 (2 * k + 1) ≡ stored_answer k vs cs
    unfolding stored_answer
    second_over_p h = rw (lt-ltb (get_or vs (2 * k) 0) p l₀, le-ltb (get_or vs (2 * k + 1) 0) p h)

    module _ (l₁ : get_or vs (2 * k + 1) 0 < p) where
      pub count_full : 2 ^ 32 - 1 ≤ get_or cs k 0 → refused 13 0 ≡ stored_answer k vs cs
      unfolding stored_answer
      count_full h = rw (lt-ltb (get_or vs (2 * k) 0) p l₀, lt-ltb (get_or vs (2 * k + 1) 0) p l₁, le-ltb (get_or cs k 0) (2 ^ 32 - 1) h)

      pub stored-value : get_or cs k 0 < 2 ^ 32 - 1 → accepted (get_or vs (2 * k) 0 ∷ get_or vs (2 * k + 1) 0 ∷ []) ≡ stored_answer k vs cs
      unfolding stored_answer
      stored-value h = rw (lt-ltb (get_or vs (2 * k) 0) p l₀, lt-ltb (get_or vs (2 * k + 1) 0) p l₁, lt-ltb (get_or cs k 0) (2 ^ 32 - 1) h)

-- opening
counts_stop : (a b d : Bool) (x y z u : Told) (vs : List ℕ) (number place : ℕ) → refused number place ≡ cond a x (cond b y (cond d z (accepted vs)))
    → refused number place ≡ cond a x (cond b y (cond d z u))
counts_stop true b d x y z u vs n k e = e
counts_stop false true d x y z u vs n k e = e
counts_stop false false true x y z u vs n k e = e
counts_stop false false false x y z u vs n k e = clash e

module _ (ctx clk num-read num-eval : ℕ) (b : Lent) where
  abbrev state : CircuitEvaluation
  state = opened ctx clk num-read num-eval

  pub open_refused : (number place : ℕ) → refused number place ≡ of_counts most_wires num-read num-eval (accepted []) → refused number place ≡ open_answer ctx clk num-read num-eval b
  unfolding open_answer of_counts
  open_refused n k e =
      counts_stop (ltb most_wires (2 * num-read + num-eval)) (eqb num-read 0) (eqb num-eval 0) (refused 1 0) (refused 2 0) (refused 3 0) _ [] n k e

  module _ (h : accepted [] ≡ of_counts most_wires num-read num-eval (accepted [])) where
    pub open_short : fits state b ≡ false → refused 6 0 ≡ open_answer ctx clk num-read num-eval b
    unfolding open_answer
    open_short f = sym (counts_pass _ _ _ _ (counts_of _ _ _ _ _ (sym h)).0 ∙ rw f)

    pub open_opened : (id : ℕ) → fits state b ≡ true → id ≡ next_id (wires num-read num-eval) 0
        → accepted (ctx ∷ clk ∷ num-read ∷ num-eval ∷ 0 ∷ 0 ∷ id ∷ []) ≡ open_answer ctx clk num-read num-eval b
    unfolding open_answer
    open_opened id f e = sym (counts_pass _ _ _ _ (counts_of _ _ _ _ _ (sym h)).0 ∙ rw (f, ← e))

-- the result
module _ (s : CircuitEvaluation) (b : Lent) where
  pub output_unsound : sound s ≡ false → refused 13 0 ≡ output_answer s b
  unfolding output_answer
  output_unsound h = rw h

  module _ (h : sound s ≡ true) where
    pub output_short : fits s b ≡ false → refused 6 0 ≡ output_answer s b
    unfolding output_answer
    output_short f = rw (h, f)

    module _ (f : fits s b ≡ true) where
      pub output_early : (made_of s ≡ wires_of s → ⊥) → refused 11 0 ≡ output_answer s b
      unfolding output_answer
      output_early n = rw (h, f, ne_eqb (made_of s) (wires_of s) n)

      module _ (n : ℕ) (e : made_of s ≡ wires_of s) (w : n ≡ wires_of s) where
        not-zero : is_zero (value_at b.values (n - 1)) ≡ false → refused 12 0 ≡ output_answer s b
        unfolding output_answer
        not-zero z = rw (h, f, eq-eqb (made_of s) (wires_of s) e, ← w, z)

        pub first_not_zero : (get_or b.values (2 * (n - 1)) 0 ≡ 0 → ⊥) → refused 12 0 ≡ output_answer s b
        first_not_zero z = not-zero (first_fails _ _ (ne_eqb _ _ z))

        pub second_not_zero : (get_or b.values (2 * (n - 1) + 1) 0 ≡ 0 → ⊥) → refused 12 0 ≡ output_answer s b
        second_not_zero z = not-zero (second_fails (eqb (get_or b.values (2 * (n - 1)) 0) 0) _ (ne_eqb _ _ z))

        pub output_zero : get_or b.values (2 * (n - 1)) 0 ≡ 0 → get_or b.values (2 * (n - 1) + 1) 0 ≡ 0 → accepted (header_numbers (header_of s)) ≡ output_answer s b
        unfolding output_answer
        output_zero z₀ z₁ =
            rw (
              h,
              f,
              eq-eqb (made_of s) (wires_of s) e,
              ← w,
              both_hold (eqb (get_or b.values (2 * (n - 1)) 0) 0) (eqb (get_or b.values (2 * (n - 1) + 1) 0) 0) (eq-eqb _ _ z₀) (eq-eqb _ _ z₁),
            )
