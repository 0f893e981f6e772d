-- What is read next stands behind what was read.
use Rattle.std.proofs.Common.{◌≡◌, ℕ, ◌+◌, ◌-◌, ◌≤◌, List, ◌++◌, rules, length, take, sym, ap, ◌∙◌, subst, le_refl, drop_at, length-take-le}
use mathlib.Core.Path.{ap₂}
use Rattle.std.proofs.lemmas.Slice.{take-put_mid_below}
use Rattle.std.specs.Io.KnownBytes.{Consumes}
use Rattle.std.proofs.KnownBytes.{Consumes-trans}
use borrow.Rule.Slice.PartMut.{put_mid, post_of}
use lib.Seq.{take-add, take-append-le}
use Rattle.reads.proofs.read_full.Goals as goal

take_read : (a k n : ℕ) (xs ys : List ℕ) → a ≤ length xs → n ≤ length ys → take a xs ++ take n ys ≡ take (a + n) (put_mid a k xs ys)
take_read a k n xs ys within fits =
    let after = post_of a k xs in
    sym
    (take-add a n (put_mid a k xs ys)
    ∙ ap₂ (λ (p q : List ℕ). p ++ q) (take-put_mid_below a k xs ys a (le_refl a) within)
    (ap (take n) (drop_at (take a xs) (ys ++ after) a (length-take-le a xs within)) ∙ take-append-le n ys after fits))

pub loop-done-preserved : goal.loop-done-preserved
loop-done-preserved g c =
    let i = c.loop-done.invariant in
    let n = c.in_ok-n.n in
    let joined = take_read c.loop-done.done (length c.loop-done.buffer - c.loop-done.done) n c.loop-done.buffer c.read.new.buf i.within c.in_ok-n.ensures.bound.0 in
    record { within = search rules; read = subst (Consumes _ _) joined (Consumes-trans _ _ _ _ _ i.read c.in_ok-n.ensures.bytes.0) }
