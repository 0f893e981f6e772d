-- `program::evaluate::evaluate` meets its contract.
-- Assumes nothing.
use mathlib.Core.Path.{ap, ◌∙◌}
use lib.ListN.{length}
use lib.Seq.{sets}
use mathlib.Core.List.{List}
use Prim.Native.Nat.{ℕ}
use Rattle.program.proofs.Evaluations.{told, refused_text, accepted_text, accepted_fits}
use Rattle.program.proofs.evaluate.evaluate.Goals as goal

pub put_record-requires : goal.put_record-requires
put_record-requires c =
    let s = c in
    let k = c.eval_circuit-answer in
    accepted_fits _ _ _ _ _ _ _ _ (told k.ensures.result_value c.in-Ok.is) k.ensures.nodes_after s.requires.0 _ s.requires.1

pub returns-in-Ok : goal.returns-in-Ok
returns-in-Ok c =
    let k = c.eval_circuit-answer in
    let p = c.put_record in
    let t = accepted_text _ _ _ _ _ _ _ _ (told k.ensures.result_value c.in-Ok.is) k.ensures.nodes_after in
    record { value = p.ensures.value ∙ ap length t; out_after = p.ensures.out_after ∙ ap (λ (l : List ℕ). sets c.args.out.now 0 l) t }

pub returns-in-Err : goal.returns-in-Err
returns-in-Err c =
    let k = c.eval_circuit-answer in
    let p = c.put_refusal in
    let t = refused_text _ _ _ _ _ _ _ _ (told k.ensures.result_value c.in-Err.is) in
    record { value = p.ensures.value ∙ ap length t; out_after = p.ensures.out_after ∙ ap (λ (l : List ℕ). sets c.args.out.now 0 l) t }
