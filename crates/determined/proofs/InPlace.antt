-- The contracts of crate `in_place`.
-- Assumes nothing.
use mathlib.Core.Path.{◌≡◌, refl}
use Rattle.determined.specs.Determined.{Determined, Contract, ClausesDetermined}
use Rattle.determined.proofs.Same.{same}
use Rattle.trace.specs.Outcome.{lent, outcome}
use Rattle.trace.specs.Read.{read_step}
use Rattle.trace.specs.Eval.{eval_step}
use Rattle.trace.specs.Output.{output_told, output_answer}
use Rattle.trace.specs.Record.{tested_told}
use Rattle.trace.proofs.Answers.{output_determined, step_determined}
use Rattle.in_place.specs.InPlace.{open_step}
use Rattle.in_place.proofs.Surfaces.{in_place_determined}
use Rattle.in_place.specs.contracts.new_in_place as new-in-place
use Rattle.in_place.specs.contracts.read_in_place as read-in-place
use Rattle.in_place.specs.contracts.eval_in_place as eval-in-place
use Rattle.in_place.specs.contracts.output_in_place as output-in-place
use Rattle.in_place.proofs.through.new.Reads as through-new
use Rattle.in_place.specs.contracts.through.new as through-new-contract
use Rattle.in_place.proofs.through.do_read.Reads as through-do-read
use Rattle.in_place.specs.contracts.through.do_read as through-do-read-contract
use Rattle.in_place.proofs.through.do_eval.Reads as through-do-eval
use Rattle.in_place.specs.contracts.through.do_eval as through-do-eval-contract
use Rattle.in_place.proofs.through.output_value.Reads as through-output-value
use Rattle.in_place.specs.contracts.through.output_value as through-output-value-contract

abbrev new_contract : Contract new-in-place.ended
new_contract κs (s, (ctx, (clk, (num-read, (num-eval, (vs, (cs, (ns, _)))))))) r (t, _) =
    outcome (tested_told r) t.now (lent vs.now cs.now ns.now) ≡ open_step s.now ctx clk num-read num-eval (lent vs.now cs.now ns.now)

pub new_in_place_determined : ClausesDetermined new-in-place.ended (λ M 𝓤 𝓛. new-in-place.clauses 𝓛)
new_in_place_determined = record {
  contract = new_contract;
  says = λ M 𝓤 𝓛 mem run κs a g r w. refl;
  determined = λ κs a o q e f.
      let h = in_place_determined o.0 q.0 _ _ _ _ (same e f) in
      λ i. (h.0 i, (h.1 i, _));
}

abbrev read_contract : Contract read-in-place.ended
read_contract κs (s, (ptr, (word, (vs, (cs, (ns, _)))))) r (t, (_, (_, (us, (ds, (ms, _)))))) =
    outcome (tested_told r) t.now (lent us.now ds.now ms.now) ≡ read_step s.now ptr word (lent vs.now cs.now ns.now)

pub read_in_place_determined : ClausesDetermined read-in-place.ended (λ M 𝓤 𝓛. read-in-place.clauses 𝓛)
read_in_place_determined = record {
  contract = read_contract;
  says = λ M 𝓤 𝓛 mem run κs a g r w. refl;
  determined = λ κs a o q e f.
      let h = in_place_determined o.0 q.0 _ _ _ _ (same e f) in
      λ i. (h.0 i, (h.1 i, (_, (_, ((h.2 i).values, ((h.2 i).counts, ((h.2 i).nodes, _)))))));
}

abbrev eval_contract : Contract eval-in-place.ended
eval_contract κs (s, (ptr, (instruction, (vs, (cs, (ns, _)))))) r (t, (_, (_, (us, (ds, (ms, _)))))) =
    outcome (tested_told r) t.now (lent us.now ds.now ms.now) ≡ eval_step s.now ptr instruction (lent vs.now cs.now ns.now)

pub eval_in_place_determined : ClausesDetermined eval-in-place.ended (λ M 𝓤 𝓛. eval-in-place.clauses 𝓛)
eval_in_place_determined = record {
  contract = eval_contract;
  says = λ M 𝓤 𝓛 mem run κs a g r w. refl;
  determined = λ κs a o q e f.
      let h = in_place_determined o.0 q.0 _ _ _ _ (same e f) in
      λ i. (h.0 i, (h.1 i, (_, (_, ((h.2 i).values, ((h.2 i).counts, ((h.2 i).nodes, _)))))));
}

abbrev output_contract : Contract output-in-place.ended
output_contract κs (s, (vs, (cs, (ns, _)))) r w = output_told r ≡ output_answer s.now (lent vs.now cs.now ns.now)

pub output_in_place_determined : ClausesDetermined output-in-place.ended (λ M 𝓤 𝓛. output-in-place.clauses 𝓛)
output_in_place_determined = record {
  contract = output_contract;
  says = λ M 𝓤 𝓛 mem run κs a g r w. refl;
  determined = λ κs a o q e f i. (output_determined o.0 q.0 (same e f) i, _);
}

pub through_new_determined : Determined through-new-contract.ended through-new.Learnt
through_new_determined κs a (r, _) (s, _) e f = λ i. ((step_determined r s _ _ (same e f)).0 i, _)

pub through_do_read_determined : Determined through-do-read-contract.ended through-do-read.Learnt
through_do_read_determined κs a (r, _) (s, _) e f =
    let h = step_determined r s _ _ (same e f) in
    λ i. (h.0 i, (_, (_, (_, ((h.1 i).values, ((h.1 i).counts, ((h.1 i).nodes, _)))))))

pub through_do_eval_determined : Determined through-do-eval-contract.ended through-do-eval.Learnt
through_do_eval_determined κs a (r, _) (s, _) e f =
    let h = step_determined r s _ _ (same e f) in
    λ i. (h.0 i, (_, (_, (_, ((h.1 i).values, ((h.1 i).counts, ((h.1 i).nodes, _)))))))

pub through_output_value_determined : Determined through-output-value-contract.ended through-output-value.Learnt
through_output_value_determined κs a (r, _) (s, _) e f = λ i. (output_determined r s (same e f) i, _)
