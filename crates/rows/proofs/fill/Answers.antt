-- `rows::fill` meets its contract.
-- Assumes nothing.
use Rattle.std.proofs.Common.{◌∙◌, arith, rules, refl}
use Rattle.refusal.specs.Refusal.{nothing}
use Rattle.refusal.proofs.Passing.{told_up}
use Rattle.trace.specs.Outcome.{lent}
use Rattle.rows.specs.Rows.{record_read_row, record_eval_row}
use Rattle.rows.proofs.Filling.{held, fill_stops, fill_short, fill_done}
use Rattle.rows.proofs.fill.Goals as goal

pub returns-in_err-test : goal.returns-in_err-test
returns-in_err-test c =
    let stops = fill_stops _ _ _ _ _ _ c.in_err-test.ensures in
    record { result_value = told_up nothing _ _ c.from_residual.ensures ∙ stops.0; rows_after = stops.1 }

pub returns-then-room-num_rows : goal.returns-then-room-num_rows
returns-then-room-num_rows c =
    let short = fill_short c.args.header (lent c.args.values.now c.args.counts.now c.args.nodes.now) c.args.offset c.args.rows.now c.in_ok-test.ensures (omega arith) in
    record { result_value = short.0; rows_after = short.1 }

-- what is left out is of a call of the closure
pub fill_rows-requires-clause-made : goal.fill_rows-requires-clause-made
fill_rows-requires-clause-made c i h _ _ _ _ _ _ _ _ _ = (held c.args.header (lent c.args.values.now c.args.counts.now c.args.nodes.now) c.in_ok-test.ensures, h)

pub fill_rows-requires-2-clause-made : goal.fill_rows-requires-2-clause-made
fill_rows-requires-2-clause-made c j h _ _ _ _ _ _ _ _ _ = (held c.args.header (lent c.args.values.now c.args.counts.now c.args.nodes.now) c.in_ok-test.ensures, h)

pub returns : goal.returns
returns c =
    let a = c.args in
    let reads = c.fill_rows.ensures (record_read_row a.header a.counts.now a.nodes.now) ((λ i cols l made. search rules), (λ k. refl)) in
    let evals = c.fill_rows-2.ensures (record_eval_row a.header a.counts.now a.nodes.now) ((λ i cols l made. search rules), (λ k. refl)) in
    let done = fill_done a.header (lent a.values.now a.counts.now a.nodes.now) a.offset a.rows.now c.in_ok-test.ensures (omega arith) reads evals in
    record { result_value = done.0; rows_after = done.1 }
