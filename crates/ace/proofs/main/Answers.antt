-- The text that `program::answer` writes fits the room for it.
use Rattle.std.proofs.Common.{rules}
use Rattle.program.proofs.Lengths.{text_held}
use Rattle.ace.proofs.main.Goals as goal

pub slice_bounds-out-end : goal.slice_bounds-out-end
slice_bounds-out-end c = text_held _ _ _ _ c.answer-written.ensures.value c.answer-written.ensures.out_after

pub slice_bounds-write_all-end : goal.slice_bounds-write_all-end
slice_bounds-write_all-end c =
    let h = text_held _ _ _ _ c.answer-written.ensures.value c.answer-written.ensures.out_after in
    search rules
