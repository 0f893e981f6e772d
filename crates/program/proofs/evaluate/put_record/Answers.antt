-- `program::evaluate::put_record` meets its contract.
-- Assumes nothing.
use mathlib.Core.Path.{refl}
use borrow.Author.Rules.{rules}
use Rattle.program.proofs.RecordTexts.{lines_fit, record_wrote}
use Rattle.program.proofs.evaluate.put_record.Goals as goal

pub put_lines-requires : goal.put_lines-requires
put_lines-requires c =
    let s = c in
    let w = c.put_word-first_at in
    let f = c.put_lines-rows_at in (
      search rules,
      lines_fit _ _ _ s.requires _ c.fill.ensures.rows_after _ _ _ _ _ w.ensures.value w.ensures.out_after f.ensures.value f.ensures.out_after refl,
    )

pub returns : goal.returns
returns c =
    let s = c in
    let w = c.put_word-first_at in
    let f = c.put_lines-rows_at in
    let l = c.put_lines in
    record { value = (record_wrote _ _ _ s.requires _ c.fill.ensures.rows_after _ _ _ _ _ w.ensures.value w.ensures.out_after f.ensures.value f.ensures.out_after refl _ _ l.ensures.value l.ensures.out_after).0; out_after = (record_wrote _ _ _ s.requires _ c.fill.ensures.rows_after _ _ _ _ _ w.ensures.value w.ensures.out_after f.ensures.value f.ensures.out_after refl _ _ l.ensures.value l.ensures.out_after).1 }
