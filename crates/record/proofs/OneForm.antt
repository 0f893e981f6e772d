-- One form: a record has one list of bytes that the reader accepts for it.
-- Assumes nothing.
use Prim.Native.Nat.{ℕ}
use mathlib.Core.Path.{◌≡◌, refl, sym, ap, ◌∙◌}
use mathlib.Core.List.{List}
use Rattle.refusal.specs.Told.{accepted}
use Rattle.numbers.proofs.RoundTrip.{Bytes}
use Rattle.trace.specs.declared.RecordHeader.{RecordHeader}
use Rattle.trace.specs.Outcome.{Lent}
use Rattle.trace.specs.Output.{header_numbers}
use Rattle.record.specs.Bytes.{bytes_of_all, record_numbers, record_bytes}
use Rattle.record.specs.Reading.{read_from_answer, read_buffers}
use Rattle.record.proofs.Used.{used, used_numbers}
use Rattle.record.proofs.WritesBack.{writes_back}

-- Bytes that the reader accepts with the header h, leaving the used value cells, counts and node cells of c, are the bytes of the record of h and c,
-- whatever the buffers b that it was lent.
pub only_form : (s : List ℕ) (b c : Lent) (h : RecordHeader) → Bytes s → read_from_answer s b ≡ accepted (header_numbers h) → used h (read_buffers s b) ≡ used h c
    → s ≡ record_bytes h c
only_form s b c h hs e u =
    sym (writes_back s b (header_numbers h) h hs e refl).bytes
    ∙ ap bytes_of_all (sym (used_numbers h (read_buffers s b)) ∙ ap (record_numbers h) u ∙ used_numbers h c)

-- So two lists of bytes that the reader accepts with the same header, and that leave the same used cells, are one list.
pub one_form : (s t : List ℕ) (b c : Lent) (h : RecordHeader) → Bytes s → Bytes t
    → read_from_answer s b ≡ accepted (header_numbers h) → read_from_answer t c ≡ accepted (header_numbers h)
    → used h (read_buffers s b) ≡ used h (read_buffers t c)
    → s ≡ t
one_form s t b c h hs ht e f u = only_form s b (read_buffers t c) h hs e u ∙ (writes_back t c (header_numbers h) h ht f refl).bytes
