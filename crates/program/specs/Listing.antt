-- Document 01's listing: the bytes of its input, and all of its text; and inputs that are refused.
-- Assumes nothing.
use Rattle.std.specs.Prelude.{ℕ, ◌≡◌, refl, List, [], ◌∷◌, ◌++◌}
use Rattle.refusal.specs.Told.{refused}
use Rattle.field.specs.Lists.{each}
use Rattle.field.specs.Field.{first_over}
use Rattle.field.specs.Answer.{of_elements}
use Rattle.instruction.specs.Decode.{decode_answer}
use Rattle.trace.specs.Counts.{room}
use Rattle.numbers.specs.Form.{ill_formed, find_from}
use Rattle.numbers.specs.Answer.{read_answer, read_below_answer}
use Rattle.record.specs.Numbers.{number_at, next_at, after, numbers_from, numbers_answer}
use Rattle.eval_circuit.specs.Circuit.{value_by, named_by, gate_answer, gates_answer}
use Rattle.eval_circuit.specs.Evaluated.{of_region, of_cells, eval_answer}
use Rattle.program.specs.Input.{ctx_in, clk_in, ptr_in, vars_in, evals_in, cells_in, cells_at, memory_in, head_answer, cells_answer, over_room, input_answer}
use Rattle.program.specs.Text.{digits_in, decimal}
use Rattle.program.specs.Answer.{program_answer, program_text}

-- ctx 0, clk 7, ptr 0, counts 2 and 4, eight cells, and the cells
abbrev pub listing : List ℕ
listing =
    0 ∷ 7 ∷ 0 ∷ 2 ∷ 4 ∷ 8 ∷ 3 ∷ 0 ∷ 4 ∷ 0
    ∷ 133 ∷ 128 ∷ 128 ∷ 128 ∷ 144 ∷ 128 ∷ 128 ∷ 128 ∷ 32
    ∷ 133 ∷ 128 ∷ 128 ∷ 128 ∷ 144 ∷ 128 ∷ 128 ∷ 128 ∷ 16
    ∷ 131 ∷ 128 ∷ 128 ∷ 128 ∷ 12
    ∷ 129 ∷ 128 ∷ 128 ∷ 128 ∷ 136 ∷ 128 ∷ 128 ∷ 128 ∷ 16 ∷ []

-- the listing's text, a line of it to a line
abbrev pub listed : List ℕ
listed =
    97 ∷ 99 ∷ 99 ∷ 101 ∷ 112 ∷ 116 ∷ 32 ∷ 53 ∷ 32 ∷ 54 ∷ 10
    ∷ 49 ∷ 32 ∷ 48 ∷ 32 ∷ 48 ∷ 32 ∷ 48 ∷ 32 ∷ 55 ∷ 32 ∷ 48 ∷ 32 ∷ 53 ∷ 32 ∷ 51 ∷ 32 ∷ 48 ∷ 32 ∷ 52 ∷ 32 ∷ 52 ∷ 32 ∷ 48 ∷ 32 ∷ 51 ∷ 32 ∷ 48 ∷ 32 ∷ 50 ∷ 32 ∷ 50 ∷ 10
    ∷ 48 ∷ 32 ∷ 49 ∷ 32 ∷ 48 ∷ 32 ∷ 52 ∷ 32 ∷ 55 ∷ 32 ∷ 49 ∷ 32 ∷ 51 ∷ 32 ∷ 55 ∷ 32 ∷ 48 ∷ 32 ∷ 53 ∷ 32 ∷ 51 ∷ 32 ∷ 48 ∷ 32 ∷ 52 ∷ 32 ∷ 52 ∷ 32 ∷ 48 ∷ 32 ∷ 50 ∷ 10
    ∷ 48 ∷ 32 ∷ 49 ∷ 32 ∷ 48 ∷ 32 ∷ 53 ∷ 32 ∷ 55 ∷ 32 ∷ 48 ∷ 32 ∷ 50 ∷ 32 ∷ 49 ∷ 50 ∷ 32 ∷ 48 ∷ 32 ∷ 53 ∷ 32 ∷ 51 ∷ 32 ∷ 48 ∷ 32 ∷ 52 ∷ 32 ∷ 52 ∷ 32 ∷ 48 ∷ 32 ∷ 49 ∷ 10
    ∷ 48 ∷ 32 ∷ 49 ∷ 32 ∷ 48 ∷ 32 ∷ 54 ∷ 32 ∷ 55 ∷ 32 ∷ 49 ∷ 56 ∷ 52 ∷ 52 ∷ 54 ∷ 55 ∷ 52 ∷ 52 ∷ 48 ∷ 54 ∷ 57 ∷ 52 ∷ 49 ∷ 52 ∷ 53 ∷ 56 ∷ 52 ∷ 51 ∷ 50 ∷ 48 ∷ 32 ∷ 49 ∷ 32 ∷ 48 ∷ 32 ∷ 48 ∷ 32 ∷ 51 ∷ 32 ∷ 55 ∷ 32 ∷ 48 ∷ 32 ∷ 51 ∷ 32 ∷ 55 ∷ 32 ∷ 48 ∷ 32 ∷ 49 ∷ 10
    ∷ 48 ∷ 32 ∷ 49 ∷ 32 ∷ 48 ∷ 32 ∷ 55 ∷ 32 ∷ 55 ∷ 32 ∷ 48 ∷ 32 ∷ 48 ∷ 32 ∷ 48 ∷ 32 ∷ 48 ∷ 32 ∷ 49 ∷ 32 ∷ 48 ∷ 32 ∷ 48 ∷ 32 ∷ 50 ∷ 32 ∷ 49 ∷ 50 ∷ 32 ∷ 48 ∷ 32 ∷ 48 ∷ 10 ∷ []

pub written : program_text listing ≡ listed
unfolding program_text read_below_answer read_answer find_from ill_formed number_at next_at after numbers_from numbers_answer
    ctx_in clk_in ptr_in vars_in evals_in cells_in cells_at memory_in head_answer cells_answer over_room input_answer program_answer
    eval_answer of_region of_cells room first_over gates_answer gate_answer decode_answer of_elements value_by named_by each digits_in decimal
written = refl

-- empty input
abbrev pub empty : List ℕ
empty = []

-- a byte behind the last cell
abbrev pub left_over : List ℕ
left_over = listing ++ (0 ∷ [])

-- ctx of 2^32
abbrev pub over_u32 : List ℕ
over_u32 = 128 ∷ 128 ∷ 128 ∷ 128 ∷ 16 ∷ []

-- n of 1025, right at n: no cell is looked at
abbrev pub many_cells : List ℕ
many_cells = 0 ∷ 7 ∷ 0 ∷ 2 ∷ 4 ∷ 129 ∷ 8 ∷ []

-- n of 1024, and no cell
abbrev pub cells_at_most : List ℕ
cells_at_most = 0 ∷ 7 ∷ 0 ∷ 2 ∷ 4 ∷ 128 ∷ 8 ∷ []

-- 129 wires, and with a byte behind
abbrev pub many_wires : List ℕ
many_wires = 0 ∷ 7 ∷ 0 ∷ 2 ∷ 127 ∷ 0 ∷ []

abbrev pub left_first : List ℕ
left_first = 0 ∷ 7 ∷ 0 ∷ 2 ∷ 127 ∷ 0 ∷ 0 ∷ []

-- 128 wires, and no memory
abbrev pub wires_at_most : List ℕ
wires_at_most = 0 ∷ 7 ∷ 0 ∷ 4 ∷ 124 ∷ 0 ∷ []

-- 32768 wires, and one more
abbrev pub last_here : List ℕ
last_here = 0 ∷ 7 ∷ 0 ∷ 128 ∷ 128 ∷ 2 ∷ 0 ∷ 0 ∷ []

abbrev pub past_here : List ℕ
past_here = 0 ∷ 7 ∷ 0 ∷ 129 ∷ 128 ∷ 2 ∷ 0 ∷ 0 ∷ []

-- the sum is a whole number, and does not wrap: 2^64 - 1 and 130
abbrev pub no_wrap : List ℕ
no_wrap = 0 ∷ 7 ∷ 0 ∷ 255 ∷ 255 ∷ 255 ∷ 255 ∷ 255 ∷ 255 ∷ 255 ∷ 255 ∷ 255 ∷ 1 ∷ 130 ∷ 1 ∷ 0 ∷ []

-- each, with its refusal
pub refusals :
    program_answer empty
    ∷ program_answer left_over
    ∷ program_answer over_u32
    ∷ program_answer many_cells
    ∷ program_answer cells_at_most
    ∷ program_answer many_wires
    ∷ program_answer left_first
    ∷ program_answer wires_at_most
    ∷ program_answer last_here
    ∷ program_answer past_here
    ∷ program_answer no_wrap
    ∷ []
    ≡ refused 15 0 ∷ refused 23 0 ∷ refused 17 0 ∷ refused 24 0 ∷ refused 15 7 ∷ refused 24 0 ∷ refused 23 0 ∷ refused 5 0 ∷ refused 24 0 ∷ refused 1 0 ∷ refused 1 0 ∷ []
unfolding read_below_answer read_answer find_from ill_formed number_at next_at after numbers_from numbers_answer
    ctx_in clk_in ptr_in vars_in evals_in cells_in cells_at memory_in head_answer cells_answer over_room input_answer program_answer
    eval_answer of_region of_cells room first_over gates_answer gate_answer decode_answer of_elements value_by
refusals = refl

-- "refuse" and the number, in a line
pub refused_line : program_text empty ≡ 114 ∷ 101 ∷ 102 ∷ 117 ∷ 115 ∷ 101 ∷ 32 ∷ 49 ∷ 53 ∷ 10 ∷ []
unfolding program_text read_below_answer read_answer find_from ill_formed number_at next_at after numbers_from numbers_answer
    ctx_in clk_in ptr_in vars_in evals_in cells_in cells_at memory_in head_answer cells_answer over_room input_answer program_answer digits_in decimal each
refused_line = refl
