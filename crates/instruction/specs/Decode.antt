-- What a gate word says.
-- Assumes nothing.
use Rattle.std.specs.Prelude.{◌≡◌, ◌≤◌, ℕ, Result, MatchResult, ◌/◌, ◌%◌, ◌^◌, cond, [], ◌∷◌, ltb}
use Rattle.refusal.specs.Told.{Told, accepted, refused}
use Rattle.refusal.specs.Refusal.{told}
use Rattle.refusal.specs.declared.Refusal.{Refusal}
use Rattle.field.specs.Answer.{of_elements}
use Rattle.instruction.specs.declared.Op.{Op}
use Rattle.instruction.specs.declared.Op.TheVariants.{Sub, Mul, Add}

abbrev pub left_id : ℕ → ℕ
left_id v = v % 2 ^ 30

abbrev pub right_id : ℕ → ℕ
right_id v = v / 2 ^ 30 % 2 ^ 30

abbrev pub opcode : ℕ → ℕ
opcode v = v / 2 ^ 60

abbrev pub op_number : Op → ℕ
op_number Sub = 0
op_number Mul = 1
op_number Add = 2

-- the operation with a number, and of no other number
abbrev pub Numbered : ℕ → Result Op ℕ → Type 0
Numbered v r = MatchResult r (λ op. op_number op ≡ v) (λ e. (e ≡ v) × (3 ≤ v))

-- each case of an answer, by number, place and values
abbrev pub decode_told : Result (ℕ × ℕ × Op) Refusal → Told
decode_told = told (λ word. word.0 ∷ word.1 ∷ op_number word.2 ∷ [])

-- the ids and the opcode of an element whose opcode is 0 to 2; else 8, at gate 0
unfoldable pub decode_answer : ℕ → Told
decode_answer v = of_elements (v ∷ []) (cond (ltb (opcode v) 3) (accepted (left_id v ∷ right_id v ∷ opcode v ∷ [])) (refused 8 0))
