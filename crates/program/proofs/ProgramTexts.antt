-- The program's text, and the buffer that it is written into.
-- Assumes nothing.
use Prim.Native.Nat.{ℕ, ◌+◌, ◌≤◌, ◌<◌}
use mathlib.Core.Path.{◌≡◌, sym, ap, ap₂, ◌∙◌}
use native.Mathlib.Omega.{arith}
use mathlib.Core.Bool.{false}
use mathlib.Core.List.{List}
use lib.ListN.{length, take}
use lib.Seq.{sets, length-sets}
use borrow.Author.Tests.{le-leb, lt-leb}
use Rattle.refusal.specs.Told.{Told, accepted, refused, or_else}
use Rattle.eval_circuit.specs.Evaluated.{circuit_at, eval_answer}
use Rattle.record.proofs.Places.{length_from}
use Rattle.record.proofs.Used.{front_taken}
use Rattle.program.specs.Input.{ctx_in, clk_in, ptr_in, vars_in, evals_in, cells_in, cells_at, memory_in, most_cells, over_room, input_answer}
use Rattle.program.specs.Answer.{here, refuse_text, circuit_text, text_of, program_answer, program_text, most_text, text_length, text_after}
use Rattle.program.specs.declared.read.Head.{Head}
use Rattle.record.specs.Numbers.{numbers_from}
use Rattle.program.specs.Inside.{head_numbers, eval_text}
use Rattle.program.proofs.Heads.{ctx_is, clk_is, ptr_is, vars_are, evals_are, cells_are}
use Rattle.program.proofs.Inputs.{input_good}

module _ (s out : List ℕ) where
  pub no_text : length out < most_text → (0 ≡ text_length s out) × (out ≡ text_after s out)
  unfolding text_length text_after
  no_text h = (rw (lt-leb most_text (length out) h), rw (lt-leb most_text (length out) h))

  pub text_there : (text : List ℕ) (n : ℕ) (new : List ℕ) → n ≡ length text → new ≡ sets out 0 text → text ≡ program_text s → most_text ≤ length out
      → (n ≡ text_length s out) × (new ≡ text_after s out)
  unfolding text_length text_after
  text_there text n new e q t h =
      (rw (le-leb most_text (length out) h) (e ∙ ap length t), rw (le-leb most_text (length out) h) (q ∙ ap (sets out 0) t))

module _ (s : List ℕ) where
  abbrev text : Told → List ℕ
  text t =
      text_of (or_else t (eval_answer (ctx_in s) (clk_in s) (ptr_in s) (vars_in s) (evals_in s) (memory_in s) here))
      (circuit_text (ctx_in s) (clk_in s) (ptr_in s) (circuit_at (memory_in s) (ptr_in s) (vars_in s) (evals_in s)))

  pub input_refused : (number place : ℕ) → input_answer s ≡ refused number place → refuse_text number ≡ program_text s
  unfolding program_text program_answer
  input_refused number place e = ap text (sym e)

  six : (f : ℕ → ℕ → ℕ → ℕ → ℕ → List ℕ → List ℕ) {a a' b b' c c' d d' e e' : ℕ} {m m' : List ℕ}
      → a ≡ a' → b ≡ b' → c ≡ c' → d ≡ d' → e ≡ e' → m ≡ m' → f a b c d e m ≡ f a' b' c' d' e' m'
  six f p q r t u v = cc

  pub input_evaluated : (ctx clk ptr num-vars num-eval : ℕ) (memory vs : List ℕ) → input_answer s ≡ accepted vs
      → ctx ≡ ctx_in s → clk ≡ clk_in s → ptr ≡ ptr_in s → num-vars ≡ vars_in s → num-eval ≡ evals_in s → memory ≡ memory_in s
      → eval_text ctx clk ptr num-vars num-eval memory ≡ program_text s
  unfolding program_text program_answer
  input_evaluated ctx clk ptr num-vars num-eval memory vs e p q r t u v = six eval_text p q r t u v ∙ ap text (sym e)

  -- the memory that is read is the first n cells of what it is read into
  memory-taken : (n : ℕ) (old new : List ℕ) → new ≡ sets old 0 (memory_in s) → n ≡ cells_in s → n ≤ length old → take n new ≡ memory_in s
  unfolding memory_in
  memory-taken n old new q e h = ap (take n) q ∙ front_taken n (memory_in s) old (length_from (cells_in s) s (cells_at s) ∙ sym e) h

-- input that is not refused, as it was read
pub record Given (s : List ℕ) (h : Head) (memory : List ℕ) : Type 0 where
  pub held : h.num_cells ≤ length memory
  pub room : over_room (h.num_vars + h.num_eval) ≡ false
  pub text_is : eval_text h.ctx h.clk h.ptr h.num_vars h.num_eval (take h.num_cells memory) ≡ program_text s

pub input_given : (s : List ℕ) (h : Head) (memory old vs : List ℕ) → input_answer s ≡ accepted vs → head_numbers h ≡ numbers_from 6 s 0 → memory ≡ sets old 0 (memory_in s) → length old ≡ most_cells → Given s h memory
input_given s h memory old vs e q m l =
    let g = input_good s vs e in
    let few : h.num_cells ≤ most_cells = omega (arith, cells_are s h q, g.few_cells) in
    record {
      held = omega (arith, few, ap length m, length-sets old 0 (memory_in s), l);
      room = ap₂ (λ (x y : ℕ). over_room (x + y)) (vars_are s h q) (evals_are s h q) ∙ g.room;
      text_is = input_evaluated s _ _ _ _ _ _ vs e (ctx_is s h q) (clk_is s h q) (ptr_is s h q) (vars_are s h q) (evals_are s h q)
          (memory-taken s h.num_cells old memory m (cells_are s h q) (omega (arith, few, l)));
    }
