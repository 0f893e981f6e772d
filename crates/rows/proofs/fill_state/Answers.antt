-- `rows::fill_state` meets its contract.
-- Assumes nothing.
use Rattle.std.proofs.Common.{◌∙◌}
use Rattle.refusal.specs.Refusal.{nothing}
use Rattle.refusal.proofs.Passing.{told_up}
use Rattle.rows.proofs.Filling.{state_stops, state_fills}
use Rattle.rows.proofs.fill_state.Goals as goal

pub returns-in_err-header : goal.returns-in_err-header
returns-in_err-header c =
    let stops = state_stops _ _ _ _ _ _ c.in_err-header.ensures in
    record { result_value = told_up nothing _ _ c.from_residual.ensures ∙ stops.0; rows_after = stops.1 }

pub returns : goal.returns
returns c =
    let fills = state_fills _ _ _ _ _ _ _ c.in_ok-header.ensures c.fill.ensures.result_value c.fill.ensures.rows_after in
    record { result_value = fills.0; rows_after = fills.1 }
