-- `trace::wire_bus::WireBus::read_value` meets its contract.
-- Assumes nothing.
use mathlib.Core.Path.{refl}
use borrow.Author.Rules.{rules}
use Rattle.trace.proofs.StepTests.{no_wire, not_made, as_stored, first_over_p, second_over_p, count_full, stored-value}
use Rattle.trace.proofs.wire_bus.WireBus.read_value.Goals as goal

pub returns-then-self-id : goal.returns-then-self-id
returns-then-self-id c = record { result_value = no_wire _ _ _ _ _ _ _ (search rules); counts_after = refl }

pub returns-then-self-at : goal.returns-then-self-at
returns-then-self-at c = record { result_value = not_made _ _ _ _ _ _ _ (search rules); counts_after = refl }

pub returns-then-v_0-ge-P : goal.returns-then-v_0-ge-P
returns-then-v_0-ge-P c = record { result_value = as_stored _ _ _ _ _ _ _ _ (search rules) (search rules) (first_over_p _ _ _ (search rules)); counts_after = refl }

pub returns-then-v_1-ge-P : goal.returns-then-v_1-ge-P
returns-then-v_1-ge-P c = record { result_value = as_stored _ _ _ _ _ _ _ _ (search rules) (search rules) (second_over_p _ _ _ (search rules) (search rules)); counts_after = refl }

pub returns-then-count : goal.returns-then-count
returns-then-count c = record { result_value = as_stored _ _ _ _ _ _ _ _ (search rules) (search rules) (count_full _ _ _ (search rules) (search rules) (search rules)); counts_after = refl }

pub returns : goal.returns
returns c = record { result_value = as_stored _ _ _ _ _ _ _ _ (search rules) (search rules) (stored-value _ _ _ (search rules) (search rules) (search rules)); counts_after = refl }
