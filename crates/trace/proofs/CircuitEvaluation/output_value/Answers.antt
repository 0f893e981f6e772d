-- `trace::CircuitEvaluation::output_value` meets its contract.
-- Assumes nothing.
use Rattle.std.proofs.Common.{sym, ap, ◌∙◌, arith, rules}
use Rattle.refusal.specs.Told.{accepted}
use Rattle.trace.specs.declared.RecordHeader.{RecordHeader}
use Rattle.trace.specs.Output.{header_numbers}
use Rattle.trace.proofs.Tests.{sound_of, room_of}
use Rattle.trace.proofs.StepTests.{output_unsound, output_short, output_early, first_not_zero, second_not_zero, output_zero}
use Rattle.trace.proofs.CircuitEvaluation.output_value.Goals as goal

pub returns-then-not-is_sound : goal.returns-then-not-is_sound
returns-then-not-is_sound c = output_unsound _ _ (sym c.is_sound.ensures ∙ c.if-not-is_sound.true)

pub returns-then-not-has_room : goal.returns-then-not-has_room
returns-then-not-has_room c = output_short _ _ (sym c.is_sound.ensures ∙ c.if-not-is_sound.false) (sym c.has_room.ensures ∙ c.if-not-has_room.true)

pub returns-then-made-num_wires : goal.returns-then-made-num_wires
returns-then-made-num_wires c = output_early _ _ (sym c.is_sound.ensures ∙ c.if-not-is_sound.false) (sym c.has_room.ensures ∙ c.if-not-has_room.false) (search rules)

pub overflow_sub-num_wires : goal.overflow_sub-num_wires
overflow_sub-num_wires c = let h = sound_of _ (sym c.is_sound.ensures ∙ c.if-not-is_sound.false) in omega arith

pub bounds-values-num_wires : goal.bounds-values-num_wires
bounds-values-num_wires c = let h = sound_of _ (sym c.is_sound.ensures ∙ c.if-not-is_sound.false) in let r = room_of _ _ _ _ _ (sym c.has_room.ensures ∙ c.if-not-has_room.false) in omega arith

pub returns-then-values-num_wires-ne0 : goal.returns-then-values-num_wires-ne0
returns-then-values-num_wires-ne0 c = first_not_zero _ _ (sym c.is_sound.ensures ∙ c.if-not-is_sound.false) (sym c.has_room.ensures ∙ c.if-not-has_room.false) c.num_wires-num_wires.result (search rules) (search rules) (search rules)

pub overflow_sub-num_wires-2 : goal.overflow_sub-num_wires-2
overflow_sub-num_wires-2 c = let h = sound_of _ (sym c.is_sound.ensures ∙ c.if-not-is_sound.false) in omega arith

pub bounds-values-num_wires-2 : goal.bounds-values-num_wires-2
bounds-values-num_wires-2 c = let h = sound_of _ (sym c.is_sound.ensures ∙ c.if-not-is_sound.false) in let r = room_of _ _ _ _ _ (sym c.has_room.ensures ∙ c.if-not-has_room.false) in omega arith

pub returns-then-values-num_wires-ne0-2 : goal.returns-then-values-num_wires-ne0-2
returns-then-values-num_wires-ne0-2 c = second_not_zero _ _ (sym c.is_sound.ensures ∙ c.if-not-is_sound.false) (sym c.has_room.ensures ∙ c.if-not-has_room.false) c.num_wires-num_wires.result (search rules) (search rules) (search rules)

pub returns : goal.returns
returns c =
    ap (λ (h : RecordHeader). accepted (header_numbers h)) c.header.ensures
    ∙ output_zero _ _ (sym c.is_sound.ensures ∙ c.if-not-is_sound.false) (sym c.has_room.ensures ∙ c.if-not-has_room.false) c.num_wires-num_wires.result (search rules) (search rules) (search rules) (search rules)
