-- `program::read::read_input` meets its contract.
-- Assumes nothing.
use Rattle.std.proofs.Common.{sym, ◌∙◌}
use Rattle.refusal.proofs.Passing.{told_up}
use Rattle.program.proofs.Heads.{cells_at_lem, vars_are, evals_are, cells_are}
use Rattle.program.proofs.Inputs.{head_off, input_cells_off, input_over, input_end, memory-stored}
use Rattle.program.proofs.read.read_input.Goals as goal

pub returns-in_err-head-clause-result_value : goal.returns-in_err-head-clause-result_value
returns-in_err-head-clause-result_value c =
    told_up _ _ _ c.from_residual.ensures ∙ head_off _ _ _ (sym c.in_err-head.ensures.result_value)

pub returns-in_err-read_cells-clause-result_value : goal.returns-in_err-read_cells-clause-result_value
returns-in_err-read_cells-clause-result_value c =
    let k = c.in_ok-head.ensures in
    let e = sym k.result_value in
    told_up _ _ _ c.from_residual-in_err-read_cells.ensures
    ∙ input_cells_off _ _ e _ _ (cells_are _ _ k.head) (cells_at_lem _ _ _ e) _ _ (sym c.in_err-read_cells.ensures.result_value)

pub returns-then-over_room-clause-result_value : goal.returns-then-over_room-clause-result_value
returns-then-over_room-clause-result_value c =
    let k = c.in_ok-head.ensures in
    let e = sym k.result_value in
    input_over _ _ e _ _ (cells_are _ _ k.head) (cells_at_lem _ _ _ e) _ _ (sym c.in_ok-read_cells.ensures.result_value) _ _ (vars_are _ _ k.head) (evals_are _ _ k.head)
    (sym c.over_room.ensures ∙ c.if-over_room.true)

pub returns-clause-result_value : goal.returns-clause-result_value
returns-clause-result_value c =
    let k = c.in_ok-head.ensures in
    let e = sym k.result_value in
    input_end _ _ e _ _ (cells_are _ _ k.head) (cells_at_lem _ _ _ e) _ _ (sym c.in_ok-read_cells.ensures.result_value) _ _ (vars_are _ _ k.head) (evals_are _ _ k.head)
    (sym c.over_room.ensures ∙ c.if-over_room.false)

pub returns-clause-memory_after : goal.returns-clause-memory_after
returns-clause-memory_after c =
    let k = c.in_ok-head.ensures in
    let e = sym k.result_value in
    memory-stored _ _ e _ _ (cells_are _ _ k.head) (cells_at_lem _ _ _ e) _ _ c.in_ok-read_cells.ensures.memory_after
