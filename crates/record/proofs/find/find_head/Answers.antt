-- `record::find::find_head` meets its contract.
-- Assumes nothing.
use Rattle.std.proofs.Common.{[], ◌∷◌, sym, ◌∙◌, arith}
use Rattle.refusal.proofs.Passing.{told_up}
use Rattle.record.specs.Reading.{head_answer}
use Rattle.record.proofs.Ways.{goes_on, stops}
use Rattle.record.proofs.Numbers.{place_after, place_behind}
use Rattle.record.proofs.find.find_head.Goals as goal

pub returns-in_err-wires_at : goal.returns-in_err-wires_at
unfolding head_answer
returns-in_err-wires_at c =
    let at = place_after _ _ _ _ _ _ (sym c.in_ok-id_next_at.ensures) in
    told_up (λ number. number.0 ∷ number.1 ∷ []) _ _ c.from_residual-in_err-wires_at.ensures ∙ grind (arith, goes_on, stops)

pub returns : goal.returns
unfolding head_answer
returns c =
    let e = sym c.in_ok-id_next_at.ensures in
    let at = place_after _ _ _ _ _ _ e in
    let next = place_behind _ _ _ _ _ _ _ _ _ _ e (sym c.in_ok-wires_at.ensures) in
    grind (arith, goes_on, stops)
