-- `program::read::read_numbers` meets its contract.
-- Assumes nothing.
use Prim.Native.Nat.{ℕ, ◌^◌}
use native.Mathlib.Nat.{sub-zero}
use Rattle.record.specs.Numbers.{numbers_answer}
use Rattle.std.proofs.Common.{[], ◌∷◌, sym, ap, ◌∙◌, arith, rules}
use Rattle.std.proofs.lemmas.Grind.{common_steps}
use Rattle.refusal.proofs.Passing.{told_up}
use Rattle.numbers.proofs.Below.{below_accepted, below_refused}
use Rattle.record.proofs.Numbers.{numbers_on, numbers_off, numbers_end}
use Rattle.record.proofs.Places.{number_is, next_is, after_none, after_next, from_none, from_next}
use Rattle.program.proofs.read.read_numbers.Goals as goal

pub loop-cell-init : goal.loop-cell-init
loop-cell-init c = record { refusals = ap (λ (k : ℕ). numbers_answer (2 ^ 64) k c.args.input.now c.args.at) (sub-zero _); place = sym (after_none _ _); stored = sym (from_none _ _) }

pub returns-in_err-cell-clause-result_value : goal.returns-in_err-cell-clause-result_value
returns-in_err-cell-clause-result_value c =
    told_up (λ (at : ℕ). 0 ∷ at ∷ []) c.from_residual.result _ c.from_residual.ensures
    ∙ numbers_off _ _ _ _ _ _ _ _ (below_refused _ _ _ _ _ (sym c.in_err-cell.ensures)) c.loop-cell.invariant.refusals (search rules)

pub loop-cell-preserved : goal.loop-cell-preserved
loop-cell-preserved c =
    let i = c.loop-cell.invariant in
    let e = sym c.in_ok-cell.ensures in
    record {
      refusals = numbers_on _ _ _ _ _ _ _ _ (below_accepted _ _ _ _ _ e (search rules)) i.refusals (search rules);
      place = grind (arith, common_steps, after_next, next_is _ _ _ _ e);
      stored = grind (arith, common_steps, from_next, number_is _ _ _ _ e);
    }

pub returns-clause-result_value : goal.returns-clause-result_value
returns-clause-result_value c = numbers_end _ _ _ _ _ _ c.loop-cell.invariant.refusals (search rules)
