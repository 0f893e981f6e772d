-- `record::put::put_record` meets its contract.
-- Assumes nothing.
use Rattle.std.proofs.Common.{◌*◌, arith, length-take-le}
use Rattle.trace.specs.Outcome.{lent}
use Rattle.record.proofs.Putting.{Wrote, wrote_on}
use Rattle.record.proofs.RecordParts.{handed_taken, handed_in_order}
use Rattle.record.proofs.put.put_record.Goals as goal

pub put_numbers-wires_at-requires : goal.put_numbers-wires_at-requires
put_numbers-wires_at-requires c = let a = c.args in grind (arith, handed_taken a.header (lent a.values.now a.counts.now a.nodes.now) _ c.num_wires-num_wires.ensures c.requires.0.held-counts)

pub put_wires-declared_at-requires : goal.put_wires-declared_at-requires
put_wires-declared_at-requires c =
    let a = c.args in
    let n = c.num_wires-num_wires in (
      grind (arith, length-take-le (2 * n.result) a.values.now, length-take-le n.result a.counts.now),
      grind (arith, handed_taken a.header (lent a.values.now a.counts.now a.nodes.now) _ c.num_wires-num_wires.ensures c.requires.0.held-counts),
    )

pub put_numbers-reads_at-requires : goal.put_numbers-reads_at-requires
put_numbers-reads_at-requires c = let a = c.args in grind (arith, handed_taken a.header (lent a.values.now a.counts.now a.nodes.now) _ c.num_wires-num_wires.ensures c.requires.0.held-counts)

pub put_numbers-num_eval_at-requires : goal.put_numbers-num_eval_at-requires
put_numbers-num_eval_at-requires c = let a = c.args in grind (arith, handed_taken a.header (lent a.values.now a.counts.now a.nodes.now) _ c.num_wires-num_wires.ensures c.requires.0.held-counts)

pub put_numbers-evals_at-requires : goal.put_numbers-evals_at-requires
put_numbers-evals_at-requires c = let a = c.args in grind (arith, handed_taken a.header (lent a.values.now a.counts.now a.nodes.now) _ c.num_wires-num_wires.ensures c.requires.0.held-counts)

pub put_numbers-requires : goal.put_numbers-requires
put_numbers-requires c = let a = c.args in grind (arith, handed_taken a.header (lent a.values.now a.counts.now a.nodes.now) _ c.num_wires-num_wires.ensures c.requires.0.held-counts)

pub returns : goal.returns
returns c =
    let a = c.args in
    let head = c.put_numbers-wires_at.ensures in
    let wires = c.put_wires-declared_at.ensures in
    let lengths = c.put_numbers-reads_at.ensures in
    let reads = c.put_numbers-num_eval_at.ensures in
    let len = c.put_numbers-evals_at.ensures in
    let evals = c.put_numbers.ensures in
    let w₁ : Wrote a.out.now 0 c.head.result _ _ = record { place = head.value; bytes = head.out_after } in
    let w₂ = wrote_on w₁ _ _ _ (record { place = wires.value; bytes = wires.out_after }) in
    let w₃ = wrote_on w₂ _ _ _ (record { place = lengths.value; bytes = lengths.out_after }) in
    let w₄ = wrote_on w₃ _ _ _ (record { place = reads.value; bytes = reads.out_after }) in
    let w₅ = wrote_on w₄ _ _ _ (record { place = len.value; bytes = len.out_after }) in
    let w₆ = wrote_on w₅ _ _ _ (record { place = evals.value; bytes = evals.out_after }) in
    cc (w₆.bytes, handed_in_order a.header (lent a.values.now a.counts.now a.nodes.now) _ c.num_wires-num_wires.ensures c.requires.0.held-counts)
