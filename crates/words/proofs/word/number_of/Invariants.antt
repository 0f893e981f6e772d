-- All bytes so far are digits, and those that are left go on from their number.
use Rattle.std.proofs.Common.{◌≡◌, ◌^◌, ◌<◌, drop}
use Rattle.words.specs.Text.{digits, value_after, value_of}
use Rattle.words.proofs.word.number_of.Given as goal

abbrev pub invariant-loop-byte : goal.invariant-loop-byte
invariant-loop-byte l =
    record {
      fits : l.value < 2 ^ 64;
      digits : digits (drop l.byte-index l.word) ≡ digits l.word;
      left : value_after l.value (drop l.byte-index l.word) ≡ value_of l.word;
    }
