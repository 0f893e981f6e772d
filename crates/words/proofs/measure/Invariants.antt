-- The words that are left get the answer of all.
use Rattle.std.proofs.Common.{◌≡◌, ◌+◌, ◌≤◌, length, drop}
use Rattle.words.specs.Text.{words_of}
use Rattle.words.specs.Answer.{answer_from}
use Rattle.words.proofs.Words.{Each}
use Rattle.words.proofs.measure.Given as goal

abbrev pub invariant-loop-i : goal.invariant-loop-i
invariant-loop-i l =
    record {
      can : goal.iterator-loop-i.can_next l.i-iterator;
      finite : goal.iterator-loop-i.is_finite l.i-iterator;
      each : Each goal.iterator-loop-i.next_gives l.initial.i-iterator l.text;
      within : l.at ≤ l.room;
      left : answer_from l.room (length l.yielded + 1) l.at (drop (length l.yielded) (words_of l.text)) ≡ answer_from l.room 1 0 (words_of l.text);
    }
