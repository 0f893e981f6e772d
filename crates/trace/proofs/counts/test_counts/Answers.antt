-- `trace::counts::test_counts` meets its contract.
-- Assumes nothing.
use borrow.Author.Rules.{rules}
use Rattle.trace.proofs.Tests.{too_many, no_reads, no_evals, counts_in_order}
use Rattle.trace.proofs.counts.test_counts.Goals as goal

pub returns-then-num_read-num_eval : goal.returns-then-num_read-num_eval
returns-then-num_read-num_eval c = too_many _ _ _ _ (search rules)

pub returns-then-num_read-eq0 : goal.returns-then-num_read-eq0
returns-then-num_read-eq0 c = no_reads _ _ _ _ (search rules) (search rules)

pub returns-then-num_eval-eq0 : goal.returns-then-num_eval-eq0
returns-then-num_eval-eq0 c = no_evals _ _ _ _ (search rules) (search rules) (search rules)

pub returns : goal.returns
returns c = counts_in_order _ _ _ _ (search rules) (search rules) (search rules)
