-- `record::load::load_wires` meets its contract.
-- Assumes nothing.
use Rattle.std.proofs.Common.{◌+◌, ◌*◌, ◌∙◌, arith}
use Rattle.std.proofs.lemmas.List.Edits.{length-between}
use Rattle.record.proofs.WireLoads.{count_is_u32, loaded_none, loaded_next}
use Rattle.record.proofs.load.load_wires.Goals as goal

pub loop-k-init : goal.loop-k-init
loop-k-init c = loaded_none _ _ _ _

pub overflow_cast-counts : goal.overflow_cast-counts
overflow_cast-counts c = grind (arith, length-between, count_is_u32 c.args.source.now c.args.at _ c.loop-k.k c.requires.0)

pub loop-k-preserved : goal.loop-k-preserved
loop-k-preserved c =
    let l = c.loop-k in
    let cells = c.load_cells-count_at.ensures in
    let count = c.number_at-count.ensures in
    loaded_next l.invariant _ _ _ _ _ _ (length-between l.values (2 * l.k) (2 * l.k + 2) (omega arith) ∙ omega arith) cells.value cells.cells_after count.value count.next (omega arith) (omega arith)
