-- `record::width::numbers_width` meets its contract.
-- Assumes nothing.
use Rattle.std.proofs.Common.{◌∙◌, rules, arith}
use Rattle.std.proofs.lemmas.Iterator.{YieldsList-from_slice, YieldsList-from_map}
use Rattle.std.proofs.lemmas.Iterator.Consumers.{sum_by_from_yields_List, fits_by_from_yields_list}
use Rattle.numbers.specs.Form.{width_of}
use Rattle.record.proofs.Widths.{widths_taken, taken_most}
use Rattle.record.proofs.width.numbers_width.Goals as goal

pub sum-requires-clause-fits : goal.sum-requires-clause-fits
sum-requires-clause-fits c =
    let n = c.args.numbers.now in
    fits_by_from_yields_list _ _ c.map.result _ (YieldsList-from_map _ width_of (YieldsList-from_slice n cc) c.map.ensures.closure (λ x r q k. search rules))
    (omega (arith, widths_taken n, taken_most n))

pub returns : goal.returns
returns c =
    let n = c.args.numbers.now in
    sum_by_from_yields_List _ _ c.map.result _ c.sum.ensures.ran (YieldsList-from_map _ width_of (YieldsList-from_slice n cc) c.map.ensures.closure (λ x r q k. search rules))
    ∙ widths_taken n
