-- The record of document 01's listing, worked out from the definitions: its bytes, and what reading finds in them.
-- Assumes nothing.
use Rattle.std.specs.Prelude.{ℕ, ◌-◌, ◌≡◌, refl, List, [], ◌∷◌, replicate}
use Rattle.refusal.specs.Told.{accepted, refused}
use Rattle.field.specs.Lists.{each}
use Rattle.field.specs.Field.{p, first_over}
use Rattle.numbers.specs.Form.{bytes_of, bytes_in, ill_formed, find_from}
use Rattle.numbers.specs.Answer.{read_answer, read_below_answer}
use Rattle.trace.specs.declared.RecordHeader.{RecordHeader}
use Rattle.trace.specs.Counts.{room}
use Rattle.trace.specs.Outcome.{Lent, lent}
use Rattle.trace.specs.Record.{elements, in_field, of_record}
use Rattle.record.specs.Bytes.{bytes_of_all, record_bytes, of_bytes, write_into_answer}
use Rattle.record.specs.Numbers.{number_at, next_at, after, numbers_answer}
use Rattle.record.specs.Reading.{ctx_in, clk_in, id_next_in, wires_in, wires_at, declared_at, declared_in, read_list_at, reads_in, reads_at, eval_list_at, evals_in, evals_at, end_at, head_answer, wire_answer, wires_answer, wire_list_answer, declared_answer, nodes_answer, end_answer, fields_answer, read_from_answer}

abbrev pub header : RecordHeader
header = record { ctx = 0; clk = 7; num_read = 1; num_eval = 4; id_next = p - 1 }

abbrev pub values : List ℕ
values = 3 ∷ 0 ∷ 4 ∷ 0 ∷ 7 ∷ 0 ∷ 12 ∷ 0 ∷ 0 ∷ 0 ∷ 0 ∷ 0 ∷ []

abbrev pub counts : List ℕ
counts = 2 ∷ 2 ∷ 2 ∷ 1 ∷ 1 ∷ 0 ∷ []

abbrev pub nodes : List ℕ
nodes =
    0 ∷ 5 ∷ 3 ∷ 0 ∷ 4 ∷ 4 ∷ 0
    ∷ 4 ∷ 1 ∷ 3 ∷ 7 ∷ 0 ∷ 5 ∷ 3 ∷ 0 ∷ 4 ∷ 4 ∷ 0
    ∷ 5 ∷ 0 ∷ 2 ∷ 12 ∷ 0 ∷ 5 ∷ 3 ∷ 0 ∷ 4 ∷ 4 ∷ 0
    ∷ 6 ∷ (p - 1) ∷ 1 ∷ 0 ∷ 0 ∷ 3 ∷ 7 ∷ 0 ∷ 3 ∷ 7 ∷ 0
    ∷ 7 ∷ 0 ∷ 0 ∷ 0 ∷ 0 ∷ 1 ∷ 0 ∷ 0 ∷ 2 ∷ 12 ∷ 0 ∷ []

-- with a cell more at the end of each buffer
abbrev pub held : Lent
held = lent (3 ∷ 0 ∷ 4 ∷ 0 ∷ 7 ∷ 0 ∷ 12 ∷ 0 ∷ 0 ∷ 0 ∷ 0 ∷ 0 ∷ p ∷ []) (2 ∷ 2 ∷ 2 ∷ 1 ∷ 1 ∷ 0 ∷ 9 ∷ []) nodes

abbrev pub bytes : List ℕ
bytes =
    0 ∷ 7 ∷ 128 ∷ 128 ∷ 128 ∷ 128 ∷ 240 ∷ 255 ∷ 255 ∷ 255 ∷ 255 ∷ 1
    ∷ 6 ∷ 3 ∷ 0 ∷ 2 ∷ 4 ∷ 0 ∷ 2 ∷ 7 ∷ 0 ∷ 2 ∷ 12 ∷ 0 ∷ 1 ∷ 0 ∷ 0 ∷ 1 ∷ 0 ∷ 0 ∷ 0
    ∷ 6
    ∷ 1 ∷ 0 ∷ 5 ∷ 3 ∷ 0 ∷ 4 ∷ 4 ∷ 0
    ∷ 4
    ∷ 4 ∷ 1 ∷ 3 ∷ 7 ∷ 0 ∷ 5 ∷ 3 ∷ 0 ∷ 4 ∷ 4 ∷ 0
    ∷ 5 ∷ 0 ∷ 2 ∷ 12 ∷ 0 ∷ 5 ∷ 3 ∷ 0 ∷ 4 ∷ 4 ∷ 0
    ∷ 6 ∷ 128 ∷ 128 ∷ 128 ∷ 128 ∷ 240 ∷ 255 ∷ 255 ∷ 255 ∷ 255 ∷ 1 ∷ 1 ∷ 0 ∷ 0 ∷ 3 ∷ 7 ∷ 0 ∷ 3 ∷ 7 ∷ 0
    ∷ 7 ∷ 0 ∷ 0 ∷ 0 ∷ 0 ∷ 1 ∷ 0 ∷ 0 ∷ 2 ∷ 12 ∷ 0 ∷ []

pub written : record_bytes header held ≡ bytes
unfolding bytes_of_all bytes_of bytes_in each
written = refl

pub answered : write_into_answer header held (replicate 94 9) ≡ accepted (94 ∷ [])
unfolding write_into_answer of_record room in_field elements first_over of_bytes bytes_of_all bytes_of bytes_in each
answered = refl

-- a byte of room less
pub no_room : write_into_answer header held (replicate 93 9) ≡ refused 24 0
unfolding write_into_answer of_record room in_field elements first_over of_bytes bytes_of_all bytes_of bytes_in each
no_room = refl

abbrev pub before : Lent
before = lent (replicate 13 9) (replicate 7 9) (replicate 52 9)

pub read : read_from_answer bytes before ≡ accepted (0 ∷ 7 ∷ 1 ∷ 4 ∷ (p - 1) ∷ [])
unfolding read_from_answer fields_answer head_answer wire_list_answer wires_answer wire_answer declared_answer nodes_answer end_answer numbers_answer read_answer read_below_answer find_from ill_formed
    number_at next_at after ctx_in clk_in id_next_in wires_in wires_at declared_at declared_in read_list_at reads_in reads_at eval_list_at evals_in evals_at end_at
read = refl
