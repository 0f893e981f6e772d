-- The contracts of crate `instruction`.
-- Assumes nothing.
use Rattle.determined.specs.Determined.{Determined}
use Rattle.determined.proofs.Same.{same}
use Rattle.instruction.proofs.Answers.{decode_determined, numbered_determined}
use Rattle.instruction.proofs.decode_instruction.Reads as decode-instruction
use Rattle.instruction.specs.contracts.decode_instruction as decode-instruction-contract
use Rattle.instruction.proofs.OpTryFromU64.try_from.Reads as op-by-number
use Rattle.instruction.specs.contracts.OpTryFromU64.try_from as op-by-number-contract

pub decode_instruction_determined : Determined decode-instruction-contract.ended decode-instruction.Learnt
decode_instruction_determined κs a (r, _) (s, _) e f = λ i. (decode_determined r s (same e f) i, _)

pub op_by_number_determined : Determined op-by-number-contract.ended op-by-number.Learnt
op_by_number_determined κs a (r, _) (s, _) e f = λ i. (numbered_determined _ r s e f i, _)
