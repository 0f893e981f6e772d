-- `program::text::put_word` meets its contract.
-- Assumes nothing.
use Rattle.program.proofs.Texts.{word_put}
use Rattle.program.proofs.text.put_word.Goals as goal

pub returns-clause-out_after : goal.returns-clause-out_after
returns-clause-out_after c = word_put c.args.word.now _ c.args.out.now c.requires c.copy_from_slice.ensures.after
