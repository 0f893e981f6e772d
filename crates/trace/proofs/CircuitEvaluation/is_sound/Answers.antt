-- `trace::CircuitEvaluation::is_sound` meets its contract.
-- Assumes nothing.
use Rattle.std.proofs.Common.{ℕ, sym, ap, ap₂, ◌∙◌, eqb, rules}
use Rattle.trace.specs.State.{next_id}
use Rattle.trace.proofs.Tests.{refused_counts, taken_counts, reads_past, evals_past, out_of_order, sound_by_id}
use Rattle.trace.proofs.CircuitEvaluation.is_sound.Goals as goal

pub returns-then-is_err : goal.returns-then-is_err
returns-then-is_err c = refused_counts _ _ c.test_counts.ensures (sym c.is_err.ensures.value ∙ c.if-is_err.true)

pub returns-then-self : goal.returns-then-self
returns-then-self c = reads_past _ (search rules)

pub returns-then-self-2 : goal.returns-then-self-2
returns-then-self-2 c = evals_past _ (search rules)

pub returns-then-not-in_order : goal.returns-then-not-in_order
returns-then-not-in_order c = out_of_order _ (sym c.in_order.ensures ∙ c.if-not-in_order.true)

pub returns : goal.returns
returns c =
    ap (λ (n : ℕ). eqb c.args.self.id_next n)
    (c.next_id.ensures ∙ ap₂ next_id c.num_wires.ensures c.made.ensures)
    ∙ sound_by_id
    c.args.self
    (taken_counts c.args.self _ c.test_counts.ensures (sym c.is_err.ensures.value ∙ c.if-is_err.false))
    (search rules)
    (search rules)
    (sym c.in_order.ensures ∙ c.if-not-in_order.false)
