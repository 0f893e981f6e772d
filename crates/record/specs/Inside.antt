-- What the private functions promise each other. No public contract cites this file.
-- Assumes nothing.
use Rattle.std.specs.Prelude.{◌≡◌, ℕ, ◌+◌, ◌*◌, ◌≤◌, ◌<◌, List, [], ◌∷◌, length}
use Rattle.refusal.specs.Told.{accepted}
use Rattle.trace.specs.declared.RecordHeader.{RecordHeader}
use Rattle.trace.specs.Outcome.{Lent}
use Rattle.trace.specs.Counts.{wires}
use Rattle.trace.specs.Record.{most_record_wires, record_wires, record_cells}
use Rattle.record.specs.Numbers.{after}
use Rattle.record.specs.Reading.{u32, wires_answer, ctx_in, clk_in, wires_in, wires_at, reads_in, evals_in}

-- a record whose cells and counts are there
pub record Held (h : RecordHeader) (b : Lent) : Type 0 where
  pub few : record_wires h ≤ most_record_wires
  pub held-values : 2 * record_wires h ≤ length b.values
  pub held-counts : record_wires h ≤ length b.counts
  pub held-nodes : record_cells h ≤ length b.nodes

-- n wires that stand in bytes from a place on
abbrev pub Wires : ℕ → List ℕ → ℕ → Type 0
Wires n s at = wires_answer n s at ≡ accepted (0 ∷ after (3 * n) s at ∷ [])

-- a record that stands in bytes, with room for it
pub record Found (s : List ℕ) (values counts nodes : ℕ) : Type 0 where
  pub ctx_fits : ctx_in s < u32
  pub clk_fits : clk_in s < u32
  pub room-values : 2 * wires_in s ≤ values
  pub room-counts : wires_in s ≤ counts
  pub wires_stand : Wires (wires_in s) s (wires_at s)
  pub room-nodes : 7 * reads_in s + 11 * evals_in s ≤ nodes
  pub few : wires (reads_in s) (evals_in s) ≤ most_record_wires
