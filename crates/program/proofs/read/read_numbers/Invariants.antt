-- `program::read::read_numbers` meets its contract.
-- Assumes nothing.
use Rattle.std.proofs.Common.{◌≡◌, ◌-◌, ◌^◌, length, take}
use Rattle.record.specs.Numbers.{after, numbers_from, numbers_answer}
use Rattle.program.proofs.read.read_numbers.Given as goal

abbrev pub invariant-loop-cell : goal.invariant-loop-cell
invariant-loop-cell l = record {
  refusals : numbers_answer (2 ^ 64) (length l.fn.cells - l.cell-index) l.input l.next ≡ numbers_answer (2 ^ 64) (length l.fn.cells) l.input l.at;
  place : l.next ≡ after l.cell-index l.input l.at;
  stored : take l.cell-index l.cell-items ≡ numbers_from l.cell-index l.input l.at;
}
