-- `ace_c::convert::AceFromListNumbers::from` meets its contract.
-- Assumes nothing.
use Rattle.std.proofs.Common.{ap, rules, List}
use Rattle.runs.specs.declared.Entry.{Entry}
use Rattle.ace_c.proofs.Threes.{entries_at, no_entry}
use Rattle.ace_c.proofs.convert.AceFromListNumbers.from.Goals as goal

pub returns : goal.returns
returns c = ap (λ (es : List Entry). record { entries = es; len = c.args.numbers.1 })
    (entries_at 32 _ _ (search rules) c.from_fn-entries.ensures.items.long (λ i h. let w = c.from_fn-entries.ensures.items.at i no_entry h in search rules))
