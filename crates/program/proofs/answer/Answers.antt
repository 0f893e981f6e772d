-- `program::answer` meets its contract.
-- Assumes nothing.
use Rattle.std.proofs.Common.{refl, sym, rules}
use lib.Seq.{length-take-le}
use Rattle.program.proofs.ProgramTexts.{no_text, text_there, input_refused, input_given}
use Rattle.program.proofs.answer.Goals as goal

pub returns-then-out-lt-MOST_TEXT : goal.returns-then-out-lt-MOST_TEXT
returns-then-out-lt-MOST_TEXT c = let t = no_text _ _ (search rules) in record { value = t.0; out_after = t.1 }

pub slice_bounds-memory-end : goal.slice_bounds-memory-end
slice_bounds-memory-end c =
    let k = c.in-Ok.ensures in
    (input_given _ _ _ _ _ (sym k.result_value) k.head k.memory_after refl).held

pub slice_bounds-evaluate-end : goal.slice_bounds-evaluate-end
slice_bounds-evaluate-end c =
    let k = c.in-Ok.ensures in
    sym (length-take-le _ _ (input_given _ _ _ _ _ (sym k.result_value) k.head k.memory_after refl).held)

pub evaluate-requires : goal.evaluate-requires
evaluate-requires c =
    let k = c.in-Ok.ensures in
    ((input_given _ _ _ _ _ (sym k.result_value) k.head k.memory_after refl).room, search rules)

pub returns-in-Ok : goal.returns-in-Ok
returns-in-Ok c =
    let k = c.in-Ok.ensures in
    let g = input_given _ _ _ _ _ (sym k.result_value) k.head k.memory_after refl in
    let t = text_there c.args.input.now c.args.out.now _ _ _ c.evaluate.ensures.value c.evaluate.ensures.out_after g.text_is (search rules) in
    record { value = t.0; out_after = t.1 }

pub returns-in-Err : goal.returns-in-Err
returns-in-Err c =
    let t = text_there c.args.input.now c.args.out.now _ _ _ c.put_refusal.ensures.value c.put_refusal.ensures.out_after (input_refused _ _ _ (sym c.in-Err.ensures.result_value)) (search rules) in
    record { value = t.0; out_after = t.1 }
