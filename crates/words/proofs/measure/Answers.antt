-- `measure` meets its contract.
-- Assumes nothing.
use mathlib.Core.Path.{◌≡◌, refl, ◌∙◌}
use native.Mathlib.Omega.{arith}
use Rattle.std.specs.Prelude.{Err}
use Rattle.std.proofs.lemmas.List.{length_push}
use borrow.Author.Rules.{rules}
use Rattle.std.proofs.iter.Serving.{serving}
use Rattle.words.proofs.Words.{each, turn, ended, words-within}
use Rattle.words.proofs.Turns.{left_refused, left_no_room, left_next, left_none}
use Rattle.words.proofs.measure.Goals as goal

pub loop-i-init : goal.loop-i-init
loop-i-init c =
    let h = words-within c.args.text.now in
    record {
      can = grind (arith, serving);
      finite = grind (arith, serving);
      each = each c.args.text.now (search rules) (search rules);
      within = search rules;
      left = refl;
    }

pub number_of-requires : goal.number_of-requires
number_of-requires c = (turn c.args.text.now _ c.loop-i.invariant.each c.loop-i.yielded_by c.next.new.self _ c.in-Some.is c.next.ensures.steps).some

pub returns-in_err-number_of : goal.returns-in_err-number_of
returns-in_err-number_of c =
    let t = turn c.args.text.now _ c.loop-i.invariant.each c.loop-i.yielded_by c.next.new.self _ c.in-Some.is c.next.ensures.steps in
    let q : c.from_residual.result ≡ Err c.in_err-number_of.field-0.0 = search rules in
    q ∙ left_refused t c.args.room c.loop-i.at c.loop-i.invariant.left c.in_err-number_of.field-0.0 (search rules)

pub returns-then-room-at : goal.returns-then-room-at
returns-then-room-at c =
    let t = turn c.args.text.now _ c.loop-i.invariant.each c.loop-i.yielded_by c.next.new.self _ c.in-Some.is c.next.ensures.steps in
    left_no_room t c.args.room c.loop-i.at c.loop-i.invariant.left c.in_ok-number_of.field-0 (search rules) (omega (arith, c.width-bytes.ensures))

pub loop-i-preserved : goal.loop-i-preserved
loop-i-preserved c =
    let t = turn c.args.text.now _ c.loop-i.invariant.each c.loop-i.yielded_by c.next.new.self _ c.in-Some.is c.next.ensures.steps in
    let i = c.loop-i.invariant in
    record {
      can = grind serving;
      finite = grind serving;
      each = i.each;
      within = search rules;
      left = rw c.width-bytes.ensures (left_next t c.args.room c.loop-i.at i.left c.in_ok-number_of.field-0 _ (search rules) (omega (arith, c.width-bytes.ensures)) (length_push c.loop-i.yielded _));
    }

pub returns : goal.returns
returns c =
    let h = ended c.args.text.now _ c.loop-i.invariant.each c.loop-i.yielded_by c.next.new.self c.in-None.is c.next.ensures.steps in
    left_none _ c.args.room c.loop-i.at c.loop-i.invariant.left h
