-- The record reader: for every input the answer, and all three lent buffers after it.
-- Assumes nothing.
use Rattle.std.specs.Prelude.{ℕ, zero, suc, ◌+◌, ◌*◌, ◌^◌, Bool, cond, ◌&&◌, List, [], ◌∷◌, ◌++◌, ltb, leb, eqb, length}
use Rattle.std.proofs.lemmas.List.Edits.{sets}
use Rattle.refusal.specs.Told.{Told, accepted, refused, or_else}
use Rattle.field.specs.Field.{p}
use Rattle.numbers.specs.Answer.{read_answer, read_below_answer}
use Rattle.trace.specs.Counts.{wires}
use Rattle.trace.specs.Outcome.{Lent, lent}
use Rattle.trace.specs.Record.{most_record_wires}
use Rattle.record.specs.Numbers.{number_at, next_at, after, numbers_from, numbers_answer}

-- "ctx, clk, counts and declared wires must be below 2^32"
abbrev pub u32 : ℕ
u32 = 2 ^ 32

-- what the fields of a record's bytes hold, and where its lists start: each behind the one before
unfoldable pub ctx_in : List ℕ → ℕ
ctx_in s = number_at s 0

unfoldable pub clk_in : List ℕ → ℕ
clk_in s = number_at s (after 1 s 0)

unfoldable pub id_next_in : List ℕ → ℕ
id_next_in s = number_at s (after 2 s 0)

unfoldable pub wires_in : List ℕ → ℕ
wires_in s = number_at s (after 3 s 0)

unfoldable pub wires_at : List ℕ → ℕ
wires_at s = after 4 s 0

-- "each wire as two elements and its count"
unfoldable pub declared_at : List ℕ → ℕ
declared_at s = after (3 * wires_in s) s (wires_at s)

unfoldable pub declared_in : List ℕ → ℕ
declared_in s = number_at s (declared_at s)

unfoldable pub read_list_at : List ℕ → ℕ
read_list_at s = next_at s (declared_at s)

unfoldable pub reads_in : List ℕ → ℕ
reads_in s = number_at s (read_list_at s)

unfoldable pub reads_at : List ℕ → ℕ
reads_at s = next_at s (read_list_at s)

unfoldable pub eval_list_at : List ℕ → ℕ
eval_list_at s = after (7 * reads_in s) s (reads_at s)

unfoldable pub evals_in : List ℕ → ℕ
evals_in s = number_at s (eval_list_at s)

unfoldable pub evals_at : List ℕ → ℕ
evals_at s = next_at s (eval_list_at s)

unfoldable pub end_at : List ℕ → ℕ
end_at s = after (11 * evals_in s) s (evals_at s)

-- "in field order 15, 16, 17 at each number and 24 at each list length that passes the room"

-- ctx, clk, id_next, and the wire list's length, which has no range of its own
unfoldable pub head_answer : List ℕ → Told
head_answer s =
    or_else (numbers_answer u32 2 s 0)
    (or_else (numbers_answer p 1 s (after 2 s 0))
    (read_answer s (after 3 s 0)))

-- "each wire as two elements and its count"
unfoldable pub wire_answer : List ℕ → ℕ → Told
wire_answer s at = or_else (numbers_answer p 2 s at) (numbers_answer u32 1 s (after 2 s at))

unfoldable pub wires_answer : ℕ → List ℕ → ℕ → Told
wires_answer zero s at = accepted (0 ∷ at ∷ [])
wires_answer (suc n) s at = or_else (wire_answer s at) (wires_answer n s (after 3 s at))

-- 24: "room lent for output too small"
abbrev pub within_room : Bool → Told → Told
within_room b t = cond b t (refused 24 0)

-- a list of n wires from a place on, for so many value cells and counts
unfoldable pub wire_list_answer : ℕ → List ℕ → ℕ → ℕ → ℕ → Told
wire_list_answer n s at values counts = within_room (leb (2 * n) values && leb n counts) (wires_answer n s at)

-- the declared count of wires, behind a list of n: "after the declared count 18, 19, 20"
unfoldable pub declared_answer : ℕ → List ℕ → ℕ → Told
declared_answer n s at =
    or_else (read_below_answer u32 s at)
    (cond (eqb (number_at s at) 0) (refused 18 0)
    (cond (ltb most_record_wires (number_at s at)) (refused 19 0)
    (cond (eqb n (number_at s at)) (accepted (number_at s at ∷ next_at s at ∷ []))
    (refused 20 0))))

-- a list of nodes of so many cells each, its length first, for so many node cells, of which some are used before it
unfoldable pub nodes_answer : ℕ → ℕ → ℕ → List ℕ → ℕ → Told
nodes_answer used width nodes s at =
    or_else (read_answer s at)
    (within_room (leb (used + width * number_at s at) nodes)
    (or_else (numbers_answer p (width * number_at s at) s (next_at s at))
    (accepted (number_at s at ∷ after (width * number_at s at) s (next_at s at) ∷ []))))

-- "at the end 21, 19, 22, 23", by the lengths of the node lists, the declared wires, the place after the last node, and how many bytes there are
unfoldable pub end_answer : ℕ → ℕ → ℕ → ℕ → ℕ → Told
end_answer reads evals declared end len =
    cond (eqb evals 0) (refused 21 0)
    (cond (ltb most_record_wires (wires reads evals)) (refused 19 0)
    (cond (eqb (wires reads evals) declared)
    (cond (ltb end len) (refused 23 0) (accepted (declared ∷ end ∷ [])))
    (refused 22 0)))

-- all fields in their order, for so many value cells, counts and node cells
unfoldable pub fields_answer : List ℕ → ℕ → ℕ → ℕ → Told
fields_answer s values counts nodes =
    or_else (head_answer s)
    (or_else (wire_list_answer (wires_in s) s (wires_at s) values counts)
    (or_else (declared_answer (wires_in s) s (declared_at s))
    (or_else (nodes_answer 0 7 nodes s (read_list_at s))
    (or_else (nodes_answer (7 * reads_in s) 11 nodes s (eval_list_at s))
    (end_answer (reads_in s) (evals_in s) (declared_in s) (end_at s) (length s))))))

-- the header takes the lengths of the node lists, and id_next as it was read
abbrev pub header_in : List ℕ → List ℕ
header_in s = ctx_in s ∷ clk_in s ∷ reads_in s ∷ evals_in s ∷ id_next_in s ∷ []

unfoldable pub read_from_answer : List ℕ → Lent → Told
read_from_answer s b = or_else (fields_answer s (length b.values) (length b.counts) (length b.nodes)) (accepted (header_in s))

-- the values and the counts of n wires from a place on
unfoldable pub values_from : ℕ → List ℕ → ℕ → List ℕ
values_from zero s at = []
values_from (suc n) s at = numbers_from 2 s at ++ values_from n s (after 3 s at)

unfoldable pub counts_from : ℕ → List ℕ → ℕ → List ℕ
counts_from zero s at = []
counts_from (suc n) s at = number_at s (after 2 s at) ∷ counts_from n s (after 3 s at)

-- values and counts in list order from the first cell on, the READ nodes, then the EVAL nodes
unfoldable pub record_in : List ℕ → Lent → Lent
record_in s b =
    lent
    (sets b.values 0 (values_from (wires_in s) s (wires_at s)))
    (sets b.counts 0 (counts_from (wires_in s) s (wires_at s)))
    (sets b.nodes 0 (numbers_from (7 * reads_in s) s (reads_at s) ++ numbers_from (11 * evals_in s) s (evals_at s)))

-- "a refusal changes nothing"
abbrev pub buffers_read : Told → List ℕ → Lent → Lent
buffers_read (accepted vs) s b = record_in s b
buffers_read (refused number place) s b = b

abbrev pub read_buffers : List ℕ → Lent → Lent
read_buffers s b = buffers_read (read_from_answer s b) s b
