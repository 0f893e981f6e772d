-- What `words::encode` writes fits the bytes.
-- Assumes nothing.
use Rattle.std.proofs.Common.{rules, sym}
use Rattle.words.specs.Text.{words_of}
use Rattle.words.proofs.Turns.{bytes-within}
use Rattle.encode.proofs.encode.Goals as goal

pub slice_bounds-bytes-end : goal.slice_bounds-bytes-end
slice_bounds-bytes-end g c =
    let h = bytes-within 65536 (words_of c.args.text.now) 1 0 _ (search rules) (sym c.in-Ok.ensures.value) in
    search rules

pub slice_bounds-write_all-end : goal.slice_bounds-write_all-end
slice_bounds-write_all-end g c =
    let h = bytes-within 65536 (words_of c.args.text.now) 1 0 _ (search rules) (sym c.in-Ok.ensures.value) in
    search rules
