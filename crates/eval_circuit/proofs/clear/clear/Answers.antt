-- `eval_circuit::clear::clear` meets its contract.
-- Assumes nothing.
use Rattle.std.proofs.Common.{◌≡◌, ◌≤◌, ℕ, List, ◌++◌, length, replicate, take, drop, arith, length-take-le}
use Rattle.eval_circuit.specs.Evaluated.{zeroed}
use Rattle.eval_circuit.proofs.clear.clear.Goals as goal

cleared_to : (n m : ℕ) (part values : List ℕ) → part ≡ replicate (length (take n values)) 0 → n ≡ m → m ≤ length values → part ++ drop n values ≡ zeroed m values
cleared_to n m part values e q h = rw (e, q, length-take-le m values h)

-- answered, so that cells which are not cleared are seen here: `search` would give up on them
pub returns-clause-values_after : goal.returns-clause-values_after
returns-clause-values_after c = cleared_to _ _ _ _ (c.fill.ensures.after (λ y h. h)) (omega arith) c.requires.room-values
