-- `ace_c::fill::ace_fill` meets its contract.
-- Assumes nothing.
use Rattle.ace_c.proofs.fill.ace_fill.Goals as goal

-- answered, so that other rows are seen here: `search` would give up on them
pub returns-clause-rows_after : goal.returns-clause-rows_after
returns-clause-rows_after c = c.fill.ensures.rows_after
