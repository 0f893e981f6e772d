-- What the stores of a step come to.
-- Assumes nothing.
use mathlib.Core.Path.{◌≡◌}
use mathlib.Core.List.{List}
use Prim.Native.Nat.{ℕ, ◌-◌, ◌*◌}
use native.Mathlib.Omega.{arith}
use lib.ListN.{set}
use lib.Seq.{sets}
use Rattle.field.specs.Pair.{cells}
use Rattle.field.specs.Answer.{pair_of}
use Rattle.trace.specs.declared.CircuitEvaluation.{CircuitEvaluation}
use Rattle.trace.specs.declared.wire_bus.WireBus.{WireBus}
use Rattle.trace.specs.Counts.{node_cells}
use Rattle.trace.specs.Outcome.{lent}
use Rattle.trace.specs.Read.{read_node, read_made}
use Rattle.trace.specs.Eval.{combine, eval_op, eval_node, eval_made}
use Rattle.trace.specs.Inside.{bus_of, inserted}

module _ (s : CircuitEvaluation) (ptr : ℕ) {w : WireBus} (vs cs ns : List ℕ) {vs₁ cs₁ ns₁ : List ℕ} (bus : w ≡ bus_of s) where
  pub read_made_lem : (v₀ v₁ : List ℕ) {x : WireBus} {vs₂ cs₂ : List ℕ} → x ≡ inserted w
      → vs₁ ≡ sets vs (2 * w.made) (cells (pair_of v₀))
      → cs₁ ≡ set cs w.made 0
      → vs₂ ≡ sets vs₁ (2 * x.made) (cells (pair_of v₁))
      → cs₂ ≡ set cs₁ x.made 0
      → ns₁ ≡ sets ns (7 * s.reads_done) (read_node ptr s.id_next (pair_of v₀) (s.id_next - 1) (pair_of v₁))
      → lent vs₂ cs₂ ns₁ ≡ read_made s ptr (pair_of v₀) (pair_of v₁) (lent vs cs ns)
  read_made_lem v₀ v₁ e ev ec ev₂ ec₂ en =
      let z : node_cells s.reads_done 0 ≡ 7 * s.reads_done = omega arith in
      rw (ev₂, ec₂, en, ev, ec, e, bus, z)

  pub gate_made : (left right op : ℕ) (l r v : List ℕ) (o : ℕ) → v ≡ cells (combine op (pair_of l) (pair_of r)) → o ≡ eval_op op
      → vs₁ ≡ sets vs (2 * w.made) (cells (pair_of v))
      → cs₁ ≡ set cs w.made 0
      → ns₁ ≡ sets ns (node_cells s.num_read s.evals_done) (eval_node ptr o s.id_next (pair_of v) left (pair_of l) right (pair_of r))
      → lent vs₁ cs₁ ns₁ ≡ eval_made s ptr left right op (pair_of l) (pair_of r) (lent vs cs ns)
  gate_made left right op l r v o e eo ev ec en = rw (ev, ec, en, e, eo, bus)
