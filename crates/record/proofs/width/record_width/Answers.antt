-- `record::width::record_width` meets its contract.
-- Assumes nothing.
use Rattle.std.proofs.Common.{ℕ, [], ◌∷◌, length, ap, arith, length-take}
use Rattle.trace.specs.Outcome.{lent}
use Rattle.record.proofs.Widths.{taken_most, handed_most}
use Rattle.record.proofs.RecordParts.{handed_taken}
use Rattle.record.proofs.width.record_width.Goals as goal

pub overflow_add-result-5 : goal.overflow_add-result-5
overflow_add-result-5 c =
    let n = c.node_cells in
    omega (
      arith,
      taken_most c.head.result,
      ap length c.head.ensures,
      handed_most c.args.values.now c.args.counts.now c.num_wires-num_wires.result,
      taken_most (c.num_wires-num_wires.result ∷ c.from.result ∷ []),
      taken_most n.result.0.now,
      ap length n.ensures.reads,
      taken_most (c.from-2.result ∷ []),
      taken_most n.result.1.now,
      ap length n.ensures.evals,
      length-take {A = ℕ},
    )

pub returns : goal.returns
returns c =
    let a = c.args in
    cc (handed_taken a.header (lent a.values.now a.counts.now a.nodes.now) _ c.num_wires-num_wires.ensures c.requires.held-counts)
