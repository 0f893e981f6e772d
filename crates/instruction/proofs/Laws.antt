-- Laws of `decode_answer`: its three cases, and what a word that decodes is.
-- Assumes nothing.
use mathlib.Core.Path.{◌≡◌, sym, ap, ◌∙◌}
use mathlib.Core.List.{List, [], ◌∷◌}
use mathlib.Core.Logic.{⊎_elim}
use Prim.Native.Nat.{ℕ, ◌+◌, ◌*◌, ◌/◌, ◌%◌, ◌^◌, ◌≤◌, ◌<◌}
use native.Mathlib.Omega.{arith}
use borrow.Author.Tests.{lt-ltb, le-ltb}
use Rattle.refusal.specs.Told.{accepted, refused}
use Rattle.field.specs.Field.{p, first_over}
use Rattle.field.proofs.Over.{over_here, over_later, refused_at, of_elements_lem}
use Rattle.field.proofs.Cases.{below?}
use Rattle.refusal.proofs.Tellings.{clash}
use Rattle.instruction.specs.Decode.{left_id, right_id, opcode, op_number, decode_answer}
use Rattle.instruction.specs.declared.Op.{Op}
use Rattle.instruction.specs.declared.Op.TheVariants.{Sub, Mul, Add}

-- the three cases
pub not_element : (v : ℕ) → p ≤ v → decode_answer v ≡ refused 7 0
unfolding decode_answer
not_element v h = sym (refused_at (v ∷ []) _ 0 (sym (over_here v [] h)) (omega arith))

element : (v : ℕ) → v < p → 1 ≤ first_over (v ∷ [])
element v h = omega (arith, over_later v [] h)

pub not_instruction : (v : ℕ) → v < p → 3 ≤ opcode v → decode_answer v ≡ refused 8 0
unfolding decode_answer
not_instruction v h l = of_elements_lem (v ∷ []) _ (element v h) ∙ rw (le-ltb (opcode v) 3 l)

pub instruction : (v : ℕ) → v < p → opcode v < 3 → decode_answer v ≡ accepted (left_id v ∷ right_id v ∷ opcode v ∷ [])
unfolding decode_answer
instruction v h l = of_elements_lem (v ∷ []) _ (element v h) ∙ rw (lt-ltb (opcode v) 3 l)

-- the opcode as the code takes it out, thirty bits at a time
pub op_above : (v : ℕ) → v / 2 ^ 30 / 2 ^ 30 ≡ opcode v
op_above v = omega arith

pub op_below : (op : Op) → op_number op < 3
op_below Sub = omega arith
op_below Mul = omega arith
op_below Add = omega arith

pub known : (v op : ℕ) → v < p → v / 2 ^ 30 / 2 ^ 30 ≡ op → op < 3 → accepted (left_id v ∷ right_id v ∷ op ∷ []) ≡ decode_answer v
known v op h e l =
    let o : op ≡ opcode v = sym e ∙ op_above v in
    ap (λ (k : ℕ). accepted (left_id v ∷ right_id v ∷ k ∷ [])) o ∙ sym (instruction v h (omega arith))

pub unknown : (v : ℕ) → 3 ≤ v / 2 ^ 30 / 2 ^ 30 → 3 ≤ opcode v
unknown v h = omega arith

-- a word that decodes, by its parts
pub record Word (v left right op : ℕ) : Type 0 where
  pub word : v ≡ left + right * 2 ^ 30 + op * 2 ^ 60
  pub left_id_lem : left < 2 ^ 30
  pub right_id_lem : right < 2 ^ 30
  pub operation : op < 3

-- what decodes is exactly the words below 3 * 2 ^ 60
pub small_decodes : (v : ℕ) → v < 3 * 2 ^ 60 → decode_answer v ≡ accepted (left_id v ∷ right_id v ∷ opcode v ∷ [])
small_decodes v h = instruction v (omega arith) (omega arith)

pub decodes_small : (v : ℕ) (vs : List ℕ) → decode_answer v ≡ accepted vs → v < 3 * 2 ^ 60
decodes_small v vs e =
    ⊎_elim
    (λ l. l)
    (λ l. ⊎_elim
    (λ m. clash (sym (not_instruction v m (omega arith)) ∙ e))
    (λ m. clash (sym (not_element v m) ∙ e))
    (below? v p))
    (below? v (3 * 2 ^ 60))

-- what is answered of it are its parts
pub decoded : (v left right op : ℕ) → decode_answer v ≡ accepted (left ∷ right ∷ op ∷ []) → Word v left right op
decoded v left right op e = same (sym (small_decodes v small) ∙ e)
  where
    small : v < 3 * 2 ^ 60
    small = decodes_small v _ e

    same : accepted (left_id v ∷ right_id v ∷ opcode v ∷ []) ≡ accepted (left ∷ right ∷ op ∷ []) → Word v left right op
    same q =
        let l : left_id v ≡ left = cc in
        let r : right_id v ≡ right = cc in
        let o : opcode v ≡ op = cc in
        record { word = omega arith; left_id_lem = omega arith; right_id_lem = omega arith; operation = omega (arith, small) }

-- and every choice of parts is the word of them
pub word_decodes : (left right op : ℕ) → left < 2 ^ 30 → right < 2 ^ 30 → op < 3 → decode_answer (left + right * 2 ^ 30 + op * 2 ^ 60) ≡ accepted (left ∷ right ∷ op ∷ [])
word_decodes left right op hl hr ho =
    let l : left_id (left + right * 2 ^ 30 + op * 2 ^ 60) ≡ left = omega arith in
    let q : (left + right * 2 ^ 30 + op * 2 ^ 60) / 2 ^ 30 ≡ right + op * 2 ^ 30 = omega arith in
    let m : (right + op * 2 ^ 30) % 2 ^ 30 ≡ right = omega arith in
    let r : right_id (left + right * 2 ^ 30 + op * 2 ^ 60) ≡ right = ap (λ (x : ℕ). x % 2 ^ 30) q ∙ m in
    let o : opcode (left + right * 2 ^ 30 + op * 2 ^ 60) ≡ op = omega arith in
    small_decodes _ (omega arith) ∙ cc
