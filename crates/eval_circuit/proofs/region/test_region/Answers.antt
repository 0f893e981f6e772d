-- `eval_circuit::region::test_region` meets its contract.
-- Assumes nothing.
use Rattle.std.proofs.Common.{arith, rules}
use Rattle.eval_circuit.proofs.RegionTests.{too_large, no_vars, odd_vars, no_evals, odd_evals, unaligned, outside, inside}
use Rattle.eval_circuit.proofs.region.test_region.Goals as goal
use Rattle.eval_circuit.proofs.region.test_region.Goals.{then-most-num_vars-via-then-most-num_vars, then-most-num_vars-via-else-most-num_vars+then-most-num_vars-2, then-num_vars-eq0-via-then-num_vars-eq0, then-num_vars-eq0-via-else-num_vars-eq0+then-num_vars-eq1, then-num_eval-eq0-via-then-num_eval-eq0, then-num_eval-eq0-via-else-num_eval-eq0+then-num_eval-gt0, then-cells-region-via-then-cells-region, then-cells-region-via-else-cells-region+then-cells-region-2}

pub returns-then-most-num_vars : goal.returns-then-most-num_vars
returns-then-most-num_vars c =
    elim c.then-most-num_vars.branch [
      | then-most-num_vars-via-then-most-num_vars w ↦ too_large _ _ _ _ _ (omega arith)
      | then-most-num_vars-via-else-most-num_vars+then-most-num_vars-2 w ↦ too_large _ _ _ _ _ (omega arith)
    ]

pub returns-then-num_vars-eq0 : goal.returns-then-num_vars-eq0
returns-then-num_vars-eq0 c =
    elim c.then-num_vars-eq0.branch [
      | then-num_vars-eq0-via-then-num_vars-eq0 w ↦ no_vars _ _ _ _ _ (omega arith) w.if-num_vars-eq0.true
      | then-num_vars-eq0-via-else-num_vars-eq0+then-num_vars-eq1 w ↦ odd_vars _ _ _ _ _ (omega arith) w.if-num_vars-eq1.true
    ]

pub returns-then-num_eval-eq0 : goal.returns-then-num_eval-eq0
returns-then-num_eval-eq0 c =
    elim c.then-num_eval-eq0.branch [
      | then-num_eval-eq0-via-then-num_eval-eq0 w ↦
          no_evals _ _ _ _ _ (omega arith) (search rules) c.if-num_vars-eq1.false w.if-num_eval-eq0.true
      | then-num_eval-eq0-via-else-num_eval-eq0+then-num_eval-gt0 w ↦
          odd_evals _ _ _ _ _ (omega arith) (search rules) c.if-num_vars-eq1.false w.if-num_eval-gt0.true
    ]

pub returns-then-ptr-gt0 : goal.returns-then-ptr-gt0
returns-then-ptr-gt0 c =
    unaligned _ _ _ _ _ (omega arith) (search rules) c.if-num_vars-eq1.false (search rules) c.if-num_eval-gt0.false (search rules)

pub returns-then-cells-region : goal.returns-then-cells-region
returns-then-cells-region c =
    elim c.then-cells-region.branch [
      | then-cells-region-via-then-cells-region w ↦
          outside _ _ _ _ _ (omega arith) (search rules) c.if-num_vars-eq1.false (search rules) c.if-num_eval-gt0.false (search rules) (omega arith)
      | then-cells-region-via-else-cells-region+then-cells-region-2 w ↦
          outside _ _ _ _ _ (omega arith) (search rules) c.if-num_vars-eq1.false (search rules) c.if-num_eval-gt0.false (search rules) (omega arith)
    ]

pub returns : goal.returns
returns c =
    inside _ _ _ _ _ (omega arith) (search rules) c.if-num_vars-eq1.false (search rules) c.if-num_eval-gt0.false (search rules) (omega arith)
