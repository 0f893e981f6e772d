-- `trace::CircuitEvaluation::new` meets its contract.
-- Assumes nothing.
use Rattle.std.proofs.Common.{sym, ◌∙◌, arith}
use Rattle.refusal.proofs.Passing.{told_up}
use Rattle.trace.specs.Open.{numbers_of}
use Rattle.trace.proofs.StepTests.{open_refused, open_short, open_opened}
use Rattle.trace.proofs.Tests.{counts_of}
use Rattle.trace.proofs.CircuitEvaluation.new.Goals as goal

pub returns-in_err-test_counts : goal.returns-in_err-test_counts
returns-in_err-test_counts c =
    told_up numbers_of _ _ c.from_residual.ensures ∙ open_refused _ _ _ _ _ _ _ c.in_err-test_counts.ensures

pub returns-then-not-has_room : goal.returns-then-not-has_room
returns-then-not-has_room c = open_short _ _ _ _ _ c.in_ok-test_counts.ensures (sym c.has_room.ensures ∙ c.if-not-has_room.true)

pub overflow_sub-result : goal.overflow_sub-result
overflow_sub-result c = let h = (counts_of _ _ _ _ _ (sym c.in_ok-test_counts.ensures)).0 in omega arith

pub returns : goal.returns
returns c =
    open_opened _ _ _ _ _ c.in_ok-test_counts.ensures _
    (sym c.has_room.ensures ∙ c.if-not-has_room.false)
    (let h = (counts_of _ _ _ _ _ (sym c.in_ok-test_counts.ensures)).0 in omega arith)
