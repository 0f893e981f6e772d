-- `runs::Ace::insert_at` meets its contract.
-- Assumes nothing.
use Rattle.std.proofs.Common.{◌+◌, ◌<◌, List, length, ap, arith}
use Rattle.runs.specs.declared.Entry.{Entry}
use Rattle.runs.proofs.Scans.{list_of}
use Rattle.runs.proofs.Opened.{carried_start, carried_next, put_carried}
use Rattle.runs.proofs.Ace.insert_at.Goals as goal

pub loop-place-init : goal.loop-place-init
loop-place-init c = carried_start _ _

pub loop-place-preserved : goal.loop-place-preserved
loop-place-preserved c = rw (c.swap.ensures.x_after, c.swap.ensures.y_after) (carried_next c.loop-place.invariant c.loop-place-test.true)

pub returns : goal.returns
returns c =
    let a = c.args in
    let within : a.self.now.len < length a.self.now.entries = omega arith in
    ap (λ (es : List Entry). list_of es (a.self.now.len + 1))
    (put_carried a.self.now.entries _ _ a.at a.self.now.len _ a.entry c.requires.0 within (c.loop-place.invariant, c.loop-place-test.false))
