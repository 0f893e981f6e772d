-- `record::find::find_wire_list` meets its contract.
-- Assumes nothing.
use Rattle.std.proofs.Common.{arith, ◌∙◌}
use Rattle.record.proofs.Heads.{list-fits}
use Rattle.record.proofs.find.find_wire_list.Goals as goal

-- answered, so that a room which is not looked at is seen here: `search` would give up on it
pub returns : goal.returns
returns c = c.find_wires.ensures ∙ list-fits _ _ _ _ _ (omega arith) (omega arith)
