-- `program::read::over_room` meets its contract.
-- Assumes nothing.
use native.Mathlib.Omega.{arith}
use Rattle.program.proofs.Inputs.{room_past, room_is}
use Rattle.program.proofs.read.over_room.Goals as goal

pub returns-then-most-num_vars : goal.returns-then-most-num_vars
returns-then-most-num_vars c = room_past _ (omega arith)

pub returns : goal.returns
returns c = room_is _ (omega arith)
