-- The words that are left fit, and with their bytes put from here on, all is written.
use Rattle.std.proofs.Common.{◌≡◌, ◌+◌, length, drop}
use Rattle.std.proofs.lemmas.List.Edits.{sets}
use Rattle.record.specs.Bytes.{bytes_of_all}
use Rattle.words.specs.Text.{words_of, numbers_of}
use Rattle.words.specs.Inside.{Fits}
use Rattle.words.proofs.Words.{Each}
use Rattle.words.proofs.put_words.Given as goal

abbrev pub invariant-loop-i : goal.invariant-loop-i
invariant-loop-i l =
    record {
      can : goal.iterator-loop-i.can_next l.i-iterator;
      finite : goal.iterator-loop-i.is_finite l.i-iterator;
      each : Each goal.iterator-loop-i.next_gives l.initial.i-iterator l.text;
      fits : Fits (length l.out) (length l.yielded + 1) l.at (drop (length l.yielded) (words_of l.text));
      left : sets l.out l.at (bytes_of_all (numbers_of (drop (length l.yielded) (words_of l.text)))) ≡ sets l.initial.out 0 (bytes_of_all (numbers_of (words_of l.text)));
    }
