-- `eval_circuit::steps::do_reads` meets its contract.
-- Assumes nothing.
use mathlib.Core.Path.{◌≡◌}
use Rattle.trace.specs.Outcome.{lent}
use Rattle.eval_circuit.specs.Inside.{circuit_of, after, stage}
use Rattle.eval_circuit.proofs.steps.do_reads.Given as goal

abbrev pub invariant-loop-i : goal.invariant-loop-i
invariant-loop-i l =
    (l.read ≡ after l.initial.read l.i 0)
    × (lent l.values l.counts l.nodes ≡ stage (circuit_of l.initial.read l.memory l.start) l.start l.i 0 (lent l.initial.values l.initial.counts l.initial.nodes))
