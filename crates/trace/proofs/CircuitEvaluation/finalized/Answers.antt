-- `trace::CircuitEvaluation::finalized` meets its contract.
-- Assumes nothing.
use mathlib.Core.Path.{sym, ap, ◌∙◌}
use borrow.Author.Rules.{rules}
use Rattle.refusal.specs.Told.{accepted}
use Rattle.trace.specs.declared.RecordHeader.{RecordHeader}
use Rattle.trace.specs.Output.{header_numbers}
use Rattle.trace.proofs.Records.{not_sound, not_finalized, is_finalized}
use Rattle.trace.proofs.CircuitEvaluation.finalized.Goals as goal

pub returns-then-not-is_sound : goal.returns-then-not-is_sound
returns-then-not-is_sound c = not_sound _ _ (sym c.is_sound.ensures ∙ c.if-not-is_sound.true)

pub returns-then-made-num_wires : goal.returns-then-made-num_wires
returns-then-made-num_wires c = not_finalized _ _ (sym c.is_sound.ensures ∙ c.if-not-is_sound.false) (search rules)

pub returns-else-made-num_wires : goal.returns-else-made-num_wires
returns-else-made-num_wires c = ap (λ (h : RecordHeader). accepted (header_numbers h)) c.header.ensures ∙ is_finalized _ _ (sym c.is_sound.ensures ∙ c.if-not-is_sound.false) (search rules)
