-- `buffer::put` meets its contract.
-- Assumes nothing.
use mathlib.Core.Path.{◌≡◌}
use Prim.Native.Nat.{◌+◌, ◌≤◌}
use lib.ListN.{length, drop}
use lib.Seq.{sets}
use Rattle.buffer.proofs.put.Given as goal

abbrev pub invariant-loop-i : goal.invariant-loop-i
invariant-loop-i l = (l.fn.at + length l.fn.cells ≤ length l.initial.buffer) × (sets l.buffer (l.fn.at + l.i) (drop l.i l.fn.cells) ≡ sets l.initial.buffer l.fn.at l.fn.cells) × (length l.buffer ≡ length l.initial.buffer)
