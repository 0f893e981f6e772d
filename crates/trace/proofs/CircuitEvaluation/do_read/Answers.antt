-- `trace::CircuitEvaluation::do_read` meets its contract.
-- Assumes nothing.
use Rattle.std.proofs.Common.{arith, refl}
use Rattle.trace.proofs.Ways.{read_refused, read_ready, read_accepted}
use Rattle.trace.proofs.CircuitEvaluation.do_read.Goals as goal

pub returns-in-Err : goal.returns-in-Err
returns-in-Err c = rw (c.refused.ensures, read_refused _ _ _ _ _ _ c.in-Err.ensures)

pub read-requires : goal.read-requires
read-requires c = read_ready _ _ _ _ c.in_default.ensures refl

pub overflow_add-self : goal.overflow_add-self
overflow_add-self c = let h = read_ready _ _ _ _ c.in_default.ensures refl in omega arith

pub overflow_sub-self : goal.overflow_sub-self
overflow_sub-self c = let h = read_ready _ _ _ _ c.in_default.ensures refl in omega arith

pub returns : goal.returns
returns c =
    let h = read_ready _ _ _ _ c.in_default.ensures refl in
    read_accepted _ _ _ _ c.in_default.ensures refl (omega arith) c.read.ensures
