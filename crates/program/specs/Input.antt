-- What the program reads: "ctx, clk, ptr, num_vars, num_eval, n and n cells as such numbers".
-- Assumes nothing.
use Rattle.std.specs.Prelude.{ℕ, ◌+◌, ◌^◌, Bool, cond, ◌&&◌, List, [], ◌∷◌, ltb, leb, length}
use Rattle.refusal.specs.Told.{Told, accepted, refused, or_else}
use Rattle.trace.specs.Counts.{most_wires}
use Rattle.record.specs.Numbers.{number_at, after, numbers_from, numbers_answer}

-- what its fields hold
unfoldable pub ctx_in : List ℕ → ℕ
ctx_in s = number_at s 0

unfoldable pub clk_in : List ℕ → ℕ
clk_in s = number_at s (after 1 s 0)

unfoldable pub ptr_in : List ℕ → ℕ
ptr_in s = number_at s (after 2 s 0)

unfoldable pub vars_in : List ℕ → ℕ
vars_in s = number_at s (after 3 s 0)

unfoldable pub evals_in : List ℕ → ℕ
evals_in s = number_at s (after 4 s 0)

unfoldable pub cells_in : List ℕ → ℕ
cells_in s = number_at s (after 5 s 0)

unfoldable pub cells_at : List ℕ → ℕ
cells_at s = after 6 s 0

unfoldable pub memory_in : List ℕ → List ℕ
memory_in s = numbers_from (cells_in s) s (cells_at s)

-- "ctx and clk below 2^32 (else 17), the others any 64-bit number"
unfoldable pub head_answer : List ℕ → Told
head_answer s = or_else (numbers_answer (2 ^ 32) 2 s 0) (numbers_answer (2 ^ 64) 4 s (after 2 s 0))

-- "n at most 1024 (else 24)"
abbrev pub most_cells : ℕ
most_cells = 1024

-- n cells from a place on, and then 23
unfoldable pub cells_answer : ℕ → List ℕ → ℕ → Told
cells_answer n s at =
    cond (ltb most_cells n) (refused 24 0)
    (or_else (numbers_answer (2 ^ 64) n s at)
    (cond (ltb (after n s at) (length s)) (refused 23 0)
    (accepted (0 ∷ after n s at ∷ []))))

-- the most wires that the program has room for
abbrev pub most_here : ℕ
most_here = 128

-- "num_vars + num_eval is 129 to 32768"
unfoldable pub over_room : ℕ → Bool
over_room wires = ltb most_here wires && leb wires most_wires

-- "after 23 comes 24 where num_vars + num_eval is 129 to 32768"; else the place after all that is read
unfoldable pub input_answer : List ℕ → Told
input_answer s =
    or_else (head_answer s)
    (or_else (cells_answer (cells_in s) s (cells_at s))
    (cond (over_room (vars_in s + evals_in s)) (refused 24 0)
    (accepted (0 ∷ after (cells_in s) s (cells_at s) ∷ []))))
