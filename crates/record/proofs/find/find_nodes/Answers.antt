-- `record::find::find_nodes` meets its contract.
-- Assumes nothing.
use Rattle.std.proofs.Common.{[], ◌∷◌, sym, ◌∙◌, arith}
use Rattle.std.proofs.lemmas.Bool.Decides.{nat_tests}
use Rattle.refusal.proofs.Passing.{told_up}
use Rattle.record.specs.Reading.{nodes_answer}
use Rattle.record.proofs.Ways.{goes_on, stops}
use Rattle.record.proofs.Places.{number_is, next_is}
use Rattle.record.proofs.Numbers.{place_after}
use Rattle.record.proofs.Tests.{node_room, no_node_room}
use Rattle.record.proofs.find.find_nodes.Goals as goal

pub returns-then-nodes-used : goal.returns-then-nodes-used
unfolding nodes_answer
returns-then-nodes-used c =
    let e = sym c.in_ok-len.ensures in
    let n = number_is _ _ _ _ e in
    let room = no_node_room c.args.used c.args.width c.args.nodes c.in_ok-len.len (omega arith) (omega arith) (omega arith) in
    grind (arith, nat_tests, goes_on)

pub overflow_mul-width : goal.overflow_mul-width
overflow_mul-width c = omega (arith, node_room c.args.used c.args.width c.args.nodes c.in_ok-len.len (omega arith) (omega arith) (omega arith))

pub returns-in_err-next : goal.returns-in_err-next
unfolding nodes_answer
returns-in_err-next c =
    let e = sym c.in_ok-len.ensures in
    let n = number_is _ _ _ _ e in
    let at = next_is _ _ _ _ e in
    let room = node_room c.args.used c.args.width c.args.nodes c.in_ok-len.len (omega arith) (omega arith) (omega arith) in
    told_up (λ number. number.0 ∷ number.1 ∷ []) _ _ c.from_residual-in_err-next.ensures ∙ grind (arith, nat_tests, goes_on, stops)

pub returns : goal.returns
unfolding nodes_answer
returns c =
    let e = sym c.in_ok-len.ensures in
    let n = number_is _ _ _ _ e in
    let at = next_is _ _ _ _ e in
    let room = node_room c.args.used c.args.width c.args.nodes c.in_ok-len.len (omega arith) (omega arith) (omega arith) in
    let next = place_after _ _ _ _ _ _ (sym c.in_ok-next.ensures) in
    grind (arith, nat_tests, goes_on)
