-- `program::read::read_head` meets its contract.
-- Assumes nothing.
use Rattle.std.proofs.Common.{[], ◌∷◌, sym, ◌∙◌}
use Rattle.refusal.proofs.Passing.{told_up}
use Rattle.numbers.proofs.Below.{below_is_read}
use Rattle.program.proofs.Heads.{ctx_off, clk_off, head_rest, head_stored}
use Rattle.program.proofs.read.read_head.Goals as goal

pub returns-in_err-ctx-clause-result_value : goal.returns-in_err-ctx-clause-result_value
returns-in_err-ctx-clause-result_value c =
    told_up (λ read. 0 ∷ read.1 ∷ []) _ _ c.from_residual.ensures ∙ ctx_off _ _ _ (sym c.in_err-ctx.ensures)

pub returns-in_err-clk-clause-result_value : goal.returns-in_err-clk-clause-result_value
returns-in_err-clk-clause-result_value c =
    told_up (λ read. 0 ∷ read.1 ∷ []) _ _ c.from_residual-in_err-clk.ensures
    ∙ clk_off _ _ _ (sym c.in_ok-ctx.ensures) _ _ (sym c.in_err-clk.ensures)

pub returns-in_err-cells_at-clause-result_value : goal.returns-in_err-cells_at-clause-result_value
returns-in_err-cells_at-clause-result_value c =
    told_up (λ read. 0 ∷ read.1 ∷ []) _ _ c.from_residual-in_err-cells_at.ensures
    ∙ c.in_err-cells_at.ensures.result_value
    ∙ head_rest _ _ _ (sym c.in_ok-ctx.ensures) _ _ (sym c.in_ok-clk.ensures)

pub overflow_cast-head : goal.overflow_cast-head
overflow_cast-head c = record { fits = (below_is_read _ _ _ _ _ (sym c.in_ok-ctx.ensures)).below }

pub overflow_cast-head-2 : goal.overflow_cast-head-2
overflow_cast-head-2 c = record { fits = (below_is_read _ _ _ _ _ (sym c.in_ok-clk.ensures)).below }

pub returns-clause-result_value : goal.returns-clause-result_value
returns-clause-result_value c = c.in_ok-cells_at.ensures.result_value ∙ head_rest _ _ _ (sym c.in_ok-ctx.ensures) _ _ (sym c.in_ok-clk.ensures)

pub returns-clause-head : goal.returns-clause-head
returns-clause-head c = head_stored _ _ _ (sym c.in_ok-ctx.ensures) _ _ (sym c.in_ok-clk.ensures) _ c.in_ok-cells_at.ensures.cells_after
