-- `runs::Ace::is_sound` meets its contract.
-- Assumes nothing.
use Rattle.std.proofs.Common.{◌≡◌, ◌∙◌, ap, true, rules, IsTrue, ◌↔◌, All}
use Rattle.std.proofs.lemmas.List.Sorted.{answers_always}
use lib.Dec.{ltb}
use Rattle.runs.specs.declared.Entry.{Entry}
use Rattle.runs.specs.Entries.{opens, in_order}
use Rattle.runs.proofs.Scans.{sound_long, sound_short}
use Rattle.runs.proofs.Rising.{sound_told, unsound_told}
use Rattle.runs.proofs.Ace.is_sound.Goals as goal

pub returns-then-self-gt-MAX_EVAL_CIRCUIT_INVOCATIONS : goal.returns-then-self-gt-MAX_EVAL_CIRCUIT_INVOCATIONS
returns-then-self-gt-MAX_EVAL_CIRCUIT_INVOCATIONS c = sound_long _ c.if-self-gt-MAX_EVAL_CIRCUIT_INVOCATIONS.true

pub returns-then-is_sorted_by : goal.returns-then-is_sorted_by
returns-then-is_sorted_by c =
    let opening : IsTrue c.all.result ↔ All (λ (e : Entry). opens e ≡ true) c.used-used.result.now = search rules in
    let rising = c.if-is_sorted_by.ensures.cases (λ (x y : Entry). ltb x.clk y.clk) (answers_always _ _ _ (λ f a r g called. search rules)) in
    sound_told c.used-used.result.now _ rising opening ∙ ap (in_order 0) c.used-used.ensures ∙ sound_short _ c.if-self-gt-MAX_EVAL_CIRCUIT_INVOCATIONS.false

pub returns-else-is_sorted_by : goal.returns-else-is_sorted_by
returns-else-is_sorted_by c =
    let low = c.if-is_sorted_by.ensures.cases (λ (x y : Entry). ltb x.clk y.clk) (answers_always _ _ _ (λ f a r g called. search rules)) in
    c.if-is_sorted_by.false ∙ unsound_told c.used-used.result.now low ∙ ap (in_order 0) c.used-used.ensures ∙ sound_short _ c.if-self-gt-MAX_EVAL_CIRCUIT_INVOCATIONS.false
