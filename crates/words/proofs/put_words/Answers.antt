-- `put_words` meets its contract.
-- Assumes nothing.
use mathlib.Core.Path.{◌≡◌, refl, sym, ap, ◌∙◌}
use Prim.Native.Nat.{◌+◌}
use lib.ListN.{length}
use lib.Seq.{length-sets}
use Rattle.refusal.specs.Refusal.{number_alone}
use Rattle.refusal.proofs.Passing.{told_is_ok}
use Rattle.refusal.proofs.Tellings.{same_values}
use Rattle.numbers.specs.Answer.{write_told}
use Rattle.numbers.specs.Form.{bytes_of, width_of}
use Rattle.numbers.proofs.Writing.{room_answer, room-written}
use Rattle.std.proofs.lemmas.List.{length_push}
use Rattle.words.proofs.Turns.{put_number, put_room, put_fits, put_left, put_none}
use native.Mathlib.Omega.{arith}
use borrow.Author.Rules.{rules}
use Rattle.std.proofs.iter.Serving.{serving}
use Rattle.words.proofs.Words.{each, turn, ended, words-within}
use Rattle.words.proofs.put_words.Goals as goal

pub loop-i-init : goal.loop-i-init
loop-i-init c =
    let h = words-within c.args.text.now in
    record {
      can = grind (arith, serving);
      finite = grind (arith, serving);
      each = each c.args.text.now (search rules) (search rules);
      fits = c.requires;
      left = refl;
    }

pub number_of-requires : goal.number_of-requires
number_of-requires c = (turn c.args.text.now _ c.loop-i.invariant.each c.loop-i.yielded_by c.next.new.self _ c.in-Some.is c.next.ensures.steps).some

pub unwrap-number-requires : goal.unwrap-number-requires
unwrap-number-requires c =
    let t = turn c.args.text.now _ c.loop-i.invariant.each c.loop-i.yielded_by c.next.new.self _ c.in-Some.is c.next.ensures.steps in
    put_number t c.loop-i.out c.loop-i.at c.loop-i.invariant.fits c.number_of.result c.number_of.ensures

pub unwrap-at-requires : goal.unwrap-at-requires
unwrap-at-requires c =
    let t = turn c.args.text.now _ c.loop-i.invariant.each c.loop-i.yielded_by c.next.new.self _ c.in-Some.is c.next.ensures.steps in
    let q = sym c.unwrap-number.ensures ∙ c.number_of.ensures in
    let h = put_room t c.loop-i.out c.loop-i.at c.loop-i.invariant.fits c.unwrap-number.result q in
    told_is_ok number_alone _ _ (c.write.ensures.result_value ∙ room_answer c.unwrap-number.result c.loop-i.out c.loop-i.at h)

pub loop-i-preserved : goal.loop-i-preserved
loop-i-preserved c =
    let t = turn c.args.text.now _ c.loop-i.invariant.each c.loop-i.yielded_by c.next.new.self _ c.in-Some.is c.next.ensures.steps in
    let i = c.loop-i.invariant in
    let q = sym c.unwrap-number.ensures ∙ c.number_of.ensures in
    let h = put_room t c.loop-i.out c.loop-i.at i.fits c.unwrap-number.result q in
    let place : c.unwrap-at.result ≡ c.loop-i.at + width_of c.unwrap-number.result = cc (same_values (ap write_told (sym c.unwrap-at.ensures) ∙ c.write.ensures.result_value ∙ room_answer c.unwrap-number.result c.loop-i.out c.loop-i.at h)) in
    let bytes = c.write.ensures.out_after ∙ room-written c.unwrap-number.result c.loop-i.out c.loop-i.at h in
    let size = ap length bytes ∙ length-sets c.loop-i.out c.loop-i.at (bytes_of c.unwrap-number.result) in
    record {
      can = grind serving;
      finite = grind serving;
      each = i.each;
      fits = rw place (put_fits t c.loop-i.out c.loop-i.at i.fits c.unwrap-number.result q c.write.new.out _ size (length_push c.loop-i.yielded _));
      left = rw (place, bytes) (put_left t c.loop-i.out c.loop-i.at i.fits c.unwrap-number.result q _ (length_push c.loop-i.yielded _) ∙ i.left);
    }

pub returns : goal.returns
returns c =
    let h = ended c.args.text.now _ c.loop-i.invariant.each c.loop-i.yielded_by c.next.new.self c.in-None.is c.next.ensures.steps in
    sym (put_none _ c.loop-i.out c.loop-i.at h) ∙ c.loop-i.invariant.left
