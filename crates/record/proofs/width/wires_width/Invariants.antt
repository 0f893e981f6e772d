-- `record::width::wires_width` meets its contract.
-- Assumes nothing.
use Rattle.std.proofs.Common.{◌≡◌}
use Rattle.record.proofs.Widths.{wires_taken}
use Rattle.record.proofs.width.wires_width.Given as goal

abbrev pub invariant-loop-k : goal.invariant-loop-k
invariant-loop-k l = l.total ≡ wires_taken l.values l.counts l.k
