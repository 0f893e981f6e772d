-- The next id: what it is while wires lack and after the last, and what a step takes off it.
-- Assumes nothing.
use mathlib.Core.Path.{◌≡◌}
use Prim.Native.Nat.{ℕ, ◌+◌, ◌-◌, ◌≤◌, ◌<◌}
use native.Mathlib.Omega.{arith}
use Rattle.field.specs.Field.{p, sub_f}
use Rattle.trace.specs.Counts.{most_wires}
use Rattle.trace.specs.State.{next_id}

pub next_lacking : (num-wires made : ℕ) → num-wires ≤ most_wires → made < num-wires → next_id num-wires made ≡ num-wires - 1 - made
next_lacking w m few h = omega arith

pub next_none : (num-wires : ℕ) → num-wires ≤ most_wires → next_id num-wires num-wires ≡ p - 1
next_none w few = omega arith

pub next_later : (num-wires made more : ℕ) → num-wires ≤ most_wires → 0 < more → made + more ≤ num-wires → sub_f (next_id num-wires made) more ≡ next_id num-wires (made + more)
next_later w m k few pos h = omega arith
