-- A decode answer is known from what it tells, and an operation from its number.
-- Assumes nothing.
use Rattle.std.proofs.Common.{◌≡◌, ℕ, ◌<◌, ◌≤◌, [], ◌∷◌, Result, Ok, Err, sym, ap, ◌∙◌, arith}
use Rattle.instruction.specs.Decode.{op_number, Numbered, decode_told}
use Rattle.instruction.specs.declared.Op.{Op}
use Rattle.instruction.specs.declared.Op.TheVariants.{Sub, Mul, Add}
use Rattle.refusal.specs.declared.Refusal.{Refusal}
use Rattle.refusal.proofs.Known.{told_determined}

op_determined : (o q : Op) → op_number o ≡ op_number q → o ≡ q
op_determined Sub Sub e = cc
op_determined Sub Mul e = cc
op_determined Sub Add e = cc
op_determined Mul Sub e = cc
op_determined Mul Mul e = cc
op_determined Mul Add e = cc
op_determined Add Sub e = cc
op_determined Add Mul e = cc
op_determined Add Add e = cc

same_word : (v w : ℕ × ℕ × Op) → v.0 ∷ v.1 ∷ op_number v.2 ∷ [] ≡ w.0 ∷ w.1 ∷ op_number w.2 ∷ [] → v ≡ w
same_word (l, r, o) (k, s, q) e =
    let h : op_number o ≡ op_number q = cc in
    let i : o ≡ q = op_determined o q h in
    cc

pub decode_determined : (r s : Result (ℕ × ℕ × Op) Refusal) → decode_told r ≡ decode_told s → r ≡ s
decode_determined = told_determined (λ word. word.0 ∷ word.1 ∷ op_number word.2 ∷ []) same_word

few : (o : Op) → op_number o < 3
few Sub = omega arith
few Mul = omega arith
few Add = omega arith

pub numbered_determined : (v : ℕ) (r s : Result Op ℕ) → Numbered v r → Numbered v s → r ≡ s
numbered_determined v (Ok o) (Ok q) e f = ap Ok (op_determined o q (e ∙ sym f))
numbered_determined v (Ok o) (Err n) e f = absurd (omega (arith, e, f.1, few o))
numbered_determined v (Err n) (Ok q) e f = absurd (omega (arith, f, e.1, few q))
numbered_determined v (Err n) (Err m) e f = ap Err (e.0 ∙ sym f.0)
