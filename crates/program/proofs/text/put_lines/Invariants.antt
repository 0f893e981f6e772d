-- `program::text::put_lines` meets its contract.
-- Assumes nothing.
use Rattle.field.specs.Lists.{each}
use Rattle.program.specs.Text.{part}
use Rattle.program.proofs.Texts.{Wrote}
use Rattle.program.proofs.text.put_lines.Given as goal

abbrev pub invariant-loop-i : goal.invariant-loop-i
invariant-loop-i l = Wrote l.initial.out l.at (each (part l.width l.cells) l.i) l.out l.next
