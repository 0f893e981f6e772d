-- `runs::Ace::insert_at` meets its contract.
-- Assumes nothing.
use Rattle.runs.proofs.Opened.{Carried}
use Rattle.runs.proofs.Ace.insert_at.Given as goal

abbrev pub invariant-loop-place : goal.invariant-loop-place
invariant-loop-place l = Carried l.initial.place-items l.initial.carried l.place-items l.carried l.place-index
