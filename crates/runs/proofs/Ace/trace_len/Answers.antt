-- `runs::Ace::trace_len` meets its contract.
-- Assumes nothing.
use Rattle.std.proofs.Common.{sym}
use Rattle.runs.proofs.Calls.{sound_of}
use Rattle.runs.proofs.Ways.{total_refused, total_given}
use Rattle.runs.proofs.Ace.trace_len.Goals as goal

pub returns-then-not-is_sound : goal.returns-then-not-is_sound
returns-then-not-is_sound c = total_refused _ (sym c.if-not-is_sound.ensures)

pub total_of-requires : goal.total_of-requires
total_of-requires c = (sound_of _ (sym c.if-not-is_sound.ensures)).few

pub returns : goal.returns
returns c = total_given _ _ (sym c.if-not-is_sound.ensures) c.total_of.ensures
