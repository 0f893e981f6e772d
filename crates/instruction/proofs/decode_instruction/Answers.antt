-- `instruction::decode_instruction` meets its contract.
-- Assumes nothing.
use Rattle.std.proofs.Common.{◌≡◌, ℕ, ◌/◌, ◌^◌, ◌<◌, [], ◌∷◌, sym, arith, rules}
use Rattle.field.specs.Field.{p}
use Rattle.refusal.specs.Told.{accepted}
use Rattle.instruction.specs.Decode.{left_id, right_id, decode_answer}
use Rattle.instruction.proofs.Laws.{not_element, not_instruction, known, unknown, op_below}
use Rattle.instruction.proofs.decode_instruction.Goals as goal

pub returns-then-instruction-ge-P : goal.returns-then-instruction-ge-P
returns-then-instruction-ge-P c = sym (not_element _ (search rules))

known_parts : (v left right op : ℕ) → v < p → left ≡ left_id v → right ≡ right_id v → v / 2 ^ 30 / 2 ^ 30 ≡ op → op < 3 → accepted (left ∷ right ∷ op ∷ []) ≡ decode_answer v
known_parts v left right op h l r e o = rw (l, r) (known v op h e o)

pub returns-in-Err : goal.returns-in-Err
returns-in-Err c = let h = c.in-Err.ensures in sym (not_instruction _ (search rules) (unknown _ (omega arith)))

pub returns-in-Ok : goal.returns-in-Ok
returns-in-Ok c = let h = c.in-Ok.ensures in known_parts _ _ _ _ (search rules) (omega arith) (omega arith) (omega arith) (op_below c.in-Ok.op)
