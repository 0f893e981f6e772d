-- `runs::Ace::place_of` meets its contract.
-- Assumes nothing.
use Rattle.std.proofs.Common.{rules}
use Rattle.std.specs.Ordering.{nat_cmp}
use Rattle.std.proofs.lemmas.Fn.{always_returns_same}
use Rattle.runs.specs.declared.Entry.{Entry}
use Rattle.runs.proofs.Calls.{sound_of}
use Rattle.runs.proofs.Search.{search_told}
use Rattle.runs.proofs.Ace.place_of.Goals as goal

pub used-requires : goal.used-requires
used-requires c = (sound_of _ c.requires).few

pub returns : goal.returns
returns c =
    let order = (sound_of _ c.requires).order in
    let found = c.binary_search_by.ensures in
    let by_clock = found.position (λ (e : Entry). nat_cmp e.clk c.args.clk) (always_returns_same _ _ _ (λ a r f called. (search rules, search rules))) in
    rw c.used.ensures at (search_told c.used.result.now c.args.clk c.binary_search_by.result (rw c.used.ensures order) found.bound by_clock)
