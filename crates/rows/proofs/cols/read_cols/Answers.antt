-- `rows::cols::read_cols` meets its contract.
-- Assumes nothing.
use Rattle.std.proofs.Common.{rules}
use Rattle.rows.proofs.cols.read_cols.Goals as goal

-- answered, so that a cell that differs is seen here: `search` would give up on it
pub returns : goal.returns
returns c =
    rw (c.from.ensures, c.from-2.ensures, c.from-3.ensures, c.from-last_eval.ensures, c.from-m_0.ensures, c.from-m_1.ensures) (search rules)
