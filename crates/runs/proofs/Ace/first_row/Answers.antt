-- `runs::Ace::first_row` meets its contract.
-- Assumes nothing.
use Rattle.std.proofs.Common.{◌≡◌, sym, length, arith}
use Rattle.runs.proofs.Calls.{sound_of, told_there, told_lacking, place_most}
use Rattle.runs.proofs.Ways.{row_refused, row_unknown, row_given}
use Rattle.runs.proofs.Ace.first_row.Goals as goal

pub returns-then-not-is_sound : goal.returns-then-not-is_sound
returns-then-not-is_sound c = row_refused _ _ (sym c.if-not-is_sound.ensures)

pub returns-in_default : goal.returns-in_default
returns-in_default c = row_unknown _ _ (sym c.if-not-is_sound.ensures) (told_lacking _ _ _ c.in_default.ensures).0

pub total_of-requires : goal.total_of-requires
total_of-requires c =
    let l : length c.args.self.entries ≡ 32 = omega arith in
    let sound = sound_of _ (sym c.if-not-is_sound.ensures) in
    let there = told_there _ _ _ c.in-Ok.ensures in
    place_most c.args.self c.args.clk _ there.1 l sound

pub returns : goal.returns
returns c =
    let l : length c.args.self.entries ≡ 32 = omega arith in
    let there = told_there _ _ _ c.in-Ok.ensures in
    row_given _ _ _ _ there.0 there.1 c.total_of.ensures l (sym c.if-not-is_sound.ensures)
