-- The rows of a record: "16 cells, order ours", READ rows first.
-- Assumes nothing.
use Rattle.std.specs.Prelude.{ℕ, ◌+◌, ◌-◌, ◌*◌, cond, List, [], ◌∷◌, ◌++◌, eqb, get_or}
use Rattle.field.specs.Lists.{each}
use Rattle.field.specs.Pair.{Pair, pair}
use Rattle.trace.specs.declared.RecordHeader.{RecordHeader}
use Rattle.trace.specs.Outcome.{Lent}

-- "s_start, s_block, ctx, ptr, clk, eval_op, id_0, v_0 (two), id_1, v_1 (two)"; then four cells more
abbrev pub row : ℕ → ℕ → ℕ → ℕ → ℕ → ℕ → ℕ → Pair → ℕ → Pair → List ℕ → List ℕ
row s-start s-block ctx ptr clk eval-op id₀ v₀ id₁ v₁ four =
    s-start ∷ s-block ∷ ctx ∷ ptr ∷ clk ∷ eval-op ∷ id₀ ∷ v₀.c0 ∷ v₀.c1 ∷ id₁ ∷ v₁.c0 ∷ v₁.c1 ∷ four

-- "s_start is 1 only on the first READ row"
abbrev pub s_start_of : ℕ → ℕ
s_start_of i = cond (eqb i 0) 1 0

-- READ row i: "num_eval, 0, m_1, m_0" at its end; "a READ row's eval_op is 0; its num_eval cell holds num_eval - 1"
abbrev pub read_row : ℕ → ℕ → ℕ → ℕ → ℕ → ℕ → Pair → ℕ → Pair → ℕ → ℕ → List ℕ
read_row ctx clk num-eval i ptr id₀ v₀ id₁ v₁ m₀ m₁ =
    row (s_start_of i) 0 ctx ptr clk 0 id₀ v₀ id₁ v₁ ((num-eval - 1) ∷ 0 ∷ m₁ ∷ m₀ ∷ [])

-- an EVAL row: "id_2, v_2 (two), m_0" at its end; "s_block is 1 on EVAL rows"
abbrev pub eval_row : ℕ → ℕ → ℕ → ℕ → ℕ → Pair → ℕ → Pair → ℕ → Pair → ℕ → List ℕ
eval_row ctx clk ptr eval-op id₀ v₀ id₁ v₁ id₂ v₂ m₀ =
    row 0 1 ctx ptr clk eval-op id₀ v₀ id₁ v₁ (id₂ ∷ v₂.c0 ∷ v₂.c1 ∷ m₀ ∷ [])

-- READ row i of a record, by its counts and node cells, from the node whose cells begin at a place: "READ row i takes positions 2i (m_0) and 2i + 1 (m_1)"
abbrev pub read_row_at : RecordHeader → List ℕ → List ℕ → ℕ → ℕ → List ℕ
read_row_at h cs ns i at =
    read_row h.ctx h.clk h.num_eval i
    (get_or ns at 0)
    (get_or ns (at + 1) 0) (pair (get_or ns (at + 2) 0) (get_or ns (at + 3) 0))
    (get_or ns (at + 4) 0) (pair (get_or ns (at + 5) 0) (get_or ns (at + 6) 0))
    (get_or cs (2 * i) 0) (get_or cs (2 * i + 1) 0)

-- EVAL row j of a record: "EVAL row j position 2·num_read + j"
abbrev pub eval_row_at : RecordHeader → List ℕ → List ℕ → ℕ → ℕ → List ℕ
eval_row_at h cs ns j at =
    eval_row h.ctx h.clk
    (get_or ns at 0) (get_or ns (at + 1) 0)
    (get_or ns (at + 2) 0) (pair (get_or ns (at + 3) 0) (get_or ns (at + 4) 0))
    (get_or ns (at + 5) 0) (pair (get_or ns (at + 6) 0) (get_or ns (at + 7) 0))
    (get_or ns (at + 8) 0) (pair (get_or ns (at + 9) 0) (get_or ns (at + 10) 0))
    (get_or cs (2 * h.num_read + j) 0)

abbrev pub record_read_row : RecordHeader → List ℕ → List ℕ → ℕ → List ℕ
record_read_row h cs ns i = read_row_at h cs ns i (7 * i)

abbrev pub record_eval_row : RecordHeader → List ℕ → List ℕ → ℕ → List ℕ
record_eval_row h cs ns j = eval_row_at h cs ns j (7 * h.num_read + 11 * j)

abbrev pub record_rows : RecordHeader → Lent → List ℕ
record_rows h b = each (record_read_row h b.counts b.nodes) h.num_read ++ each (record_eval_row h b.counts b.nodes) h.num_eval
