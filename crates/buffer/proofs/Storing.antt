-- Laws of storing: what its loop does, and what a caller uses of it.
-- Assumes nothing.
use Rattle.std.proofs.Common.{◌≡◌, ℕ, suc, ◌+◌, ◌≤◌, ◌<◌, List, length, get_or, arith}
use Rattle.std.proofs.lemmas.List.Edits.{sets}
use borrow.Author.Tests.{le-leb}
use lib.ListN.{set, drop, drop_of_length-le}
use lib.Seq.{drop-cons}
use Rattle.buffer.specs.Stored.{stored}

-- what is left to store after one cell more, whatever text makes its places, and after the last
pub one_more : (cells buffer : List ℕ) (at i from to : ℕ) → i < length cells → from ≡ i → to ≡ at + i
    → sets (set buffer to (get_or cells from 0)) (at + (i + 1)) (drop (i + 1) cells) ≡ sets buffer (at + i) (drop i cells)
one_more cells buffer at i from to h k l =
    let e : at + (i + 1) ≡ suc (at + i) = omega arith in
    let f : i + 1 ≡ suc i = omega arith in
    rw (k, l, e, f, drop-cons cells i 0 h)

pub none_left : (cells buffer : List ℕ) (at i : ℕ) → length cells ≤ i → sets buffer (at + i) (drop i cells) ≡ buffer
none_left cells buffer at i h = rw (drop_of_length-le cells {i = i} h)

pub stored_all : (cells : List ℕ) (at : ℕ) (buffer : List ℕ) → at + length cells ≤ length buffer → stored cells at buffer ≡ sets buffer at cells
stored_all cells at buffer h = rw (le-leb _ _ h)
