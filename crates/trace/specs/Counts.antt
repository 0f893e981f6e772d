-- A circuit's counts, and the room that its wires and nodes take.
-- Assumes nothing.
use Rattle.std.specs.Prelude.{ℕ, ◌+◌, ◌*◌, Bool, cond, ◌&&◌, ltb, leb, eqb}
use Rattle.refusal.specs.Told.{Told, refused}

abbrev pub most_wires : ℕ
most_wires = 32768

-- "num_wires = 2·num_read + num_eval"
abbrev pub wires : ℕ → ℕ → ℕ
wires num-read num-eval = 2 * num-read + num-eval

-- "1 (2·num_read + num_eval over 32768), 2 (num_read zero), 3 (num_eval zero)"; t where the counts are in order
unfoldable pub of_counts : ℕ → ℕ → ℕ → Told → Told
of_counts most num-read num-eval t =
    cond (ltb most (wires num-read num-eval)) (refused 1 0)
    (cond (eqb num-read 0) (refused 2 0)
    (cond (eqb num-eval 0) (refused 3 0)
    t))

-- node cells: "7 a READ node", "then 11 an EVAL node"
abbrev pub node_cells : ℕ → ℕ → ℕ
node_cells reads evals = 7 * reads + 11 * evals

-- "value cells (two u64 a wire), counts (one u32 a wire) and node cells", by the lengths of the lent buffers
unfoldable pub room : ℕ → ℕ → ℕ → ℕ → ℕ → Bool
room num-read num-eval values counts nodes =
    leb (2 * wires num-read num-eval) values
    && (leb (wires num-read num-eval) counts
    && leb (node_cells num-read num-eval) nodes)

-- 6: "a lent value, count or node buffer is shorter than the whole circuit needs"
abbrev pub with_room : Bool → Told → Told
with_room b t = cond b t (refused 6 0)
