-- `ace_c::records::ace_write_into` meets its contract.
-- Assumes nothing.
use Rattle.ace_c.proofs.records.ace_write_into.Goals as goal

-- answered, so that other bytes are seen here: `search` would give up on them
pub returns-clause-out_after : goal.returns-clause-out_after
returns-clause-out_after c = c.write_into-written.ensures.out_after
