-- `numbers::write` meets its contract.
-- Assumes nothing.
use Prim.Native.Nat.{ℕ, ◌+◌, ◌≤◌}
use mathlib.Core.Path.{sym, ap, ◌∙◌}
use mathlib.Core.List.{[], ◌∷◌}
use lib.ListN.{length}
use Rattle.refusal.specs.Told.{accepted}
use Rattle.std.proofs.lemmas.List.Edits.{length-between}
use native.Mathlib.Omega.{arith}
use Rattle.numbers.specs.Form.{width_of}
use Rattle.numbers.proofs.Groups.{width_some}
use Rattle.numbers.proofs.Writing.{no_room_answer, no_room-written, room_answer, left_start, left_next, left_within, left_done}
use Rattle.numbers.proofs.write.Goals as goal

pub returns-then-room-width-clause-result_value : goal.returns-then-room-width-clause-result_value
returns-then-room-width-clause-result_value c = sym (no_room_answer _ _ _ (grind (arith, width_some c.args.v)))

pub returns-then-room-width-clause-out_after : goal.returns-then-room-width-clause-out_after
returns-then-room-width-clause-out_after c = sym (no_room-written _ _ _ (grind (arith, width_some c.args.v)))

pub loop-byte-init : goal.loop-byte-init
loop-byte-init c = left_start _ _ c.ranges.v.fits

pub loop-byte-preserved : goal.loop-byte-preserved
loop-byte-preserved c = left_next c.loop-byte.invariant (omega arith) (omega arith)

pub returns-then-rest-lt128-clause-result_value : goal.returns-then-rest-lt128-clause-result_value
returns-then-rest-lt128-clause-result_value c =
    ap (λ (n : ℕ). accepted (n ∷ [])) (omega arith) ∙ sym (room_answer _ _ _ (grind (arith, width_some c.args.v)))

pub returns-then-rest-lt128-clause-out_after : goal.returns-then-rest-lt128-clause-out_after
returns-then-rest-lt128-clause-out_after c =
    let room : c.args.at + width_of c.args.v ≤ length c.args.out.now = grind (arith, width_some c.args.v) in
    let k = length-between c.args.out.now c.args.at (c.args.at + c.width-2.result) in
    left_done c.loop-byte.invariant c.args.out.now c.args.at _ (omega arith) (omega (arith, k (omega arith))) (omega arith) (omega arith)

pub returns-after-loop-byte-clause-result_value : goal.returns-after-loop-byte-clause-result_value
returns-after-loop-byte-clause-result_value c =
    let room : c.args.at + width_of c.args.v ≤ length c.args.out.now = grind (arith, width_some c.args.v) in
    absurd (omega (arith, left_within c.loop-byte.invariant, length-between c.args.out.now c.args.at (c.args.at + c.width-2.result)))

pub returns-after-loop-byte-clause-out_after : goal.returns-after-loop-byte-clause-out_after
returns-after-loop-byte-clause-out_after c =
    let room : c.args.at + width_of c.args.v ≤ length c.args.out.now = grind (arith, width_some c.args.v) in
    absurd (omega (arith, left_within c.loop-byte.invariant, length-between c.args.out.now c.args.at (c.args.at + c.width-2.result)))
