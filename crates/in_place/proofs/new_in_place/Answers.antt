-- `in_place::new_in_place` meets its contract.
-- Assumes nothing.
use Rattle.std.proofs.Common.{Ok}
use Rattle.in_place.proofs.Laws.{opens_in_place}
use Rattle.in_place.proofs.new_in_place.Goals as goal

pub returns : goal.returns
returns c = opens_in_place _ _ _ _ _ c.args.state.now (Ok _) c.in_ok-opened.ensures
