-- `record::read_from` meets its contract.
-- Assumes nothing.
use Rattle.std.proofs.Common.{sym, ap, ◌∙◌}
use Rattle.refusal.specs.Told.{accepted}
use Rattle.refusal.proofs.Passing.{told_up}
use Rattle.trace.specs.Output.{header_numbers}
use Rattle.record.proofs.Ways.{passed, refused_first}
use Rattle.record.proofs.Standing.{stands, refusal_answered, header-answered, leaves}
use Rattle.record.proofs.read_from.Goals as goal

pub returns-in_err-find : goal.returns-in_err-find
returns-in_err-find c =
    let q = refusal_answered _ _ _ _ (refused_first _ _ _ _ c.in_err-find.ensures) in
    record { result_value = told_up header_numbers _ _ c.from_residual.ensures ∙ q; nodes_after = leaves _ _ _ q }

pub load-requires : goal.load-requires
load-requires c = let a = passed _ _ _ (sym c.in_ok-find.ensures) in stands _ _ _ _ a.values a.first

pub returns : goal.returns
returns c =
    let a = passed _ _ _ (sym c.in_ok-find.ensures) in
    let q = header-answered _ _ a.values a.first in
    let l = c.load.ensures in
    record { result_value = ap accepted l.result_value ∙ q; nodes_after = l.nodes_after ∙ leaves _ _ _ q }
