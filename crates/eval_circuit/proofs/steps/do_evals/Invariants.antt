-- `eval_circuit::steps::do_evals` meets its contract.
-- Assumes nothing.
use mathlib.Core.List.{[]}
use mathlib.Core.Path.{◌≡◌}
use Prim.Native.Nat.{ℕ, ◌<◌}
use Rattle.refusal.specs.Told.{accepted}
use Rattle.trace.specs.Outcome.{lent}
use Rattle.eval_circuit.specs.Circuit.{gate_answer}
use Rattle.eval_circuit.specs.Inside.{circuit_of, after, stage}
use Rattle.eval_circuit.proofs.steps.do_evals.Given as goal

abbrev pub invariant-loop-i : goal.invariant-loop-i
invariant-loop-i l =
    (l.made ≡ after l.initial.made l.initial.made.num_read l.i)
    × (lent l.values l.counts l.nodes ≡ stage (circuit_of l.initial.made l.memory l.start) l.start l.initial.made.num_read l.i (lent l.initial.values l.initial.counts l.initial.nodes))
    × ((j : ℕ) → j < l.i → gate_answer (circuit_of l.initial.made l.memory l.start) j ≡ accepted [])
