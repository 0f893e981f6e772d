-- `eval_circuit::steps::do_reads` meets its contract.
-- Assumes nothing.
use Rattle.std.proofs.Common.{refl, sym, arith}
use Rattle.eval_circuit.proofs.Turns.{read_on, read_off}
use Rattle.eval_circuit.proofs.Stages.{first_stage}
use Rattle.eval_circuit.proofs.steps.do_reads.Goals as goal

pub loop-i-init : goal.loop-i-init
loop-i-init c = (c.requires.1, sym (first_stage _ _ _ _ c.requires.0))

pub returns-in_err-next : goal.returns-in_err-next
returns-in_err-next c =
    let l = c.loop-i in
    absurd (read_off _ _ _ _ c.requires.0 _ _ _ _ _ _ _ (omega arith) c.do_read.ensures l.invariant.0 refl c.word_at-word.ensures l.invariant.1 _ c.in_err-next.was)

pub loop-i-preserved : goal.loop-i-preserved
loop-i-preserved c =
    let l = c.loop-i in
    read_on _ _ _ _ c.requires.0 _ _ _ _ _ _ _ (omega arith) c.do_read.ensures l.invariant.0 refl c.word_at-word.ensures l.invariant.1 _ c.in_ok-next.was
