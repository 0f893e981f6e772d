-- The rows of the two accepted evaluations of one shape: `UnseenRows` is no empty statement.
-- Assumes nothing.
use Prim.Native.Nat.{ℕ}
use mathlib.Core.Path.{◌≡◌, refl, sym, ap, ◌∙◌}
use mathlib.Core.Bool.{cond}
use mathlib.Core.List.{List, [], ◌∷◌}
use native.Mathlib.Omega.{arith}
use lib.Dec.{eqb}
use lib.ListN.{get_or}
use Rattle.field.specs.Lists.{each}
use Rattle.eval_circuit.specs.Circuit.{value_by, named_by}
use Rattle.eval_circuit.specs.Evaluated.{circuit_at, eval_buffers}
use Rattle.eval_circuit.specs.Listing.{memory, before, answered}
use Rattle.eval_circuit.proofs.Twins.{other, other_answered, twins}
use Rattle.rows.specs.Rows.{record_rows}
use Rattle.rows.specs.ByWire.{circuit_rows, is_wire_value}
use Rattle.rows.specs.Listing.{listed, by_wire, header}
use Rattle.rows.proofs.EvaluatedRows.{rows_by_wire}
use Rattle.rows.proofs.RowSecrets.{RowsAlike, unseen_rows}

-- the listing's rows with other READ cells, 5 1 6 2 for 3 0 4 0
abbrev pub other_listed : List ℕ
other_listed =
    1 ∷ 0 ∷ 0 ∷ 0 ∷ 7 ∷ 0 ∷ 5 ∷ 5 ∷ 1 ∷ 4 ∷ 6 ∷ 2 ∷ 3 ∷ 0 ∷ 2 ∷ 2
    ∷ 0 ∷ 1 ∷ 0 ∷ 4 ∷ 7 ∷ 1 ∷ 3 ∷ 11 ∷ 3 ∷ 5 ∷ 5 ∷ 1 ∷ 4 ∷ 6 ∷ 2 ∷ 2
    ∷ 0 ∷ 1 ∷ 0 ∷ 5 ∷ 7 ∷ 0 ∷ 2 ∷ 44 ∷ 16 ∷ 5 ∷ 5 ∷ 1 ∷ 4 ∷ 6 ∷ 2 ∷ 1
    ∷ 0 ∷ 1 ∷ 0 ∷ 6 ∷ 7 ∷ 18446744069414584320 ∷ 1 ∷ 0 ∷ 0 ∷ 3 ∷ 11 ∷ 3 ∷ 3 ∷ 11 ∷ 3 ∷ 1
    ∷ 0 ∷ 1 ∷ 0 ∷ 7 ∷ 7 ∷ 0 ∷ 0 ∷ 0 ∷ 0 ∷ 1 ∷ 0 ∷ 0 ∷ 2 ∷ 44 ∷ 16 ∷ 0 ∷ []

pub other_by_wire : circuit_rows 0 7 0 (circuit_at other 0 2 4) ≡ other_listed
unfolding each value_by named_by
other_by_wire = refl

-- which cells of the five rows are wire values, marked by 1
pub marked : each (λ k. cond (is_wire_value 1 k) 1 0 ∷ []) 80
    ≡ 0 ∷ 0 ∷ 0 ∷ 0 ∷ 0 ∷ 0 ∷ 0 ∷ 1 ∷ 1 ∷ 0 ∷ 1 ∷ 1 ∷ 0 ∷ 0 ∷ 0 ∷ 0
    ∷ 0 ∷ 0 ∷ 0 ∷ 0 ∷ 0 ∷ 0 ∷ 0 ∷ 1 ∷ 1 ∷ 0 ∷ 1 ∷ 1 ∷ 0 ∷ 1 ∷ 1 ∷ 0
    ∷ 0 ∷ 0 ∷ 0 ∷ 0 ∷ 0 ∷ 0 ∷ 0 ∷ 1 ∷ 1 ∷ 0 ∷ 1 ∷ 1 ∷ 0 ∷ 1 ∷ 1 ∷ 0
    ∷ 0 ∷ 0 ∷ 0 ∷ 0 ∷ 0 ∷ 0 ∷ 0 ∷ 1 ∷ 1 ∷ 0 ∷ 1 ∷ 1 ∷ 0 ∷ 1 ∷ 1 ∷ 0
    ∷ 0 ∷ 0 ∷ 0 ∷ 0 ∷ 0 ∷ 0 ∷ 0 ∷ 1 ∷ 1 ∷ 0 ∷ 1 ∷ 1 ∷ 0 ∷ 1 ∷ 1 ∷ 0 ∷ []
unfolding each
marked = refl

-- and which of them tell the two evaluations apart: all but those of the last two gates, which are zero in both
pub told_apart : each (λ k. cond (eqb (get_or listed k 0) (get_or other_listed k 0)) 0 1 ∷ []) 80
    ≡ 0 ∷ 0 ∷ 0 ∷ 0 ∷ 0 ∷ 0 ∷ 0 ∷ 1 ∷ 1 ∷ 0 ∷ 1 ∷ 1 ∷ 0 ∷ 0 ∷ 0 ∷ 0
    ∷ 0 ∷ 0 ∷ 0 ∷ 0 ∷ 0 ∷ 0 ∷ 0 ∷ 1 ∷ 1 ∷ 0 ∷ 1 ∷ 1 ∷ 0 ∷ 1 ∷ 1 ∷ 0
    ∷ 0 ∷ 0 ∷ 0 ∷ 0 ∷ 0 ∷ 0 ∷ 0 ∷ 1 ∷ 1 ∷ 0 ∷ 1 ∷ 1 ∷ 0 ∷ 1 ∷ 1 ∷ 0
    ∷ 0 ∷ 0 ∷ 0 ∷ 0 ∷ 0 ∷ 0 ∷ 0 ∷ 0 ∷ 0 ∷ 0 ∷ 1 ∷ 1 ∷ 0 ∷ 1 ∷ 1 ∷ 0
    ∷ 0 ∷ 0 ∷ 0 ∷ 0 ∷ 0 ∷ 0 ∷ 0 ∷ 0 ∷ 0 ∷ 0 ∷ 0 ∷ 0 ∷ 0 ∷ 1 ∷ 1 ∷ 0 ∷ []
unfolding each
told_apart = refl

-- both are accepted, with the same header
pub twins_alike : RowsAlike 2 4 header header (eval_buffers 0 7 0 2 4 memory before) (eval_buffers 0 7 0 2 4 other before)
twins_alike = (unseen_rows 0 7 0 2 4 memory other twins before).accepted_rows header header answered other_answered

-- and the rows of their records are the two lists
pub first_listed : record_rows header (eval_buffers 0 7 0 2 4 memory before) ≡ listed
first_listed = rows_by_wire 0 7 0 2 4 memory before header answered ∙ by_wire

pub second_listed : record_rows header (eval_buffers 0 7 0 2 4 other before) ≡ other_listed
second_listed = rows_by_wire 0 7 0 2 4 other before header other_answered ∙ other_by_wire

pub twins_differ : record_rows header (eval_buffers 0 7 0 2 4 memory before) ≡ record_rows header (eval_buffers 0 7 0 2 4 other before) → ⊥
twins_differ e =
    let q : ◌≡◌ {A = ℕ} 3 5 = ap (λ (xs : List ℕ). get_or xs 7 0) (sym first_listed ∙ e ∙ second_listed) in
    omega arith
