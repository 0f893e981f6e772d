-- The writer accepts a record exactly where its tests pass and there is room; then the bytes stand first, and all after them is as it was.
-- Assumes nothing.
use Prim.Native.Nat.{ℕ, ◌*◌, ◌≤◌, ◌<◌}
use mathlib.Core.Path.{◌≡◌, refl, sym, ◌∙◌}
use mathlib.Core.Bool.{true}
use mathlib.Core.List.{List, [], ◌∷◌, ◌++◌}
use native.Mathlib.Omega.{arith}
use lib.Dec.{leb}
use lib.ListN.{length, get_or, take, drop}
use lib.Seq.{get_or-take, length-take-le}
use borrow.Author.Tests.{leb-true, lt-ltb, le-leb}
use Rattle.refusal.specs.Told.{accepted}
use Rattle.field.specs.Field.{p, first_over}
use Rattle.field.proofs.Over.{over_all}
use Rattle.refusal.proofs.Tellings.{same_values}
use Rattle.trace.specs.declared.RecordHeader.{RecordHeader}
use Rattle.trace.specs.Outcome.{Lent}
use Rattle.trace.specs.Record.{record_wires, record_cells, elements, in_field}
use Rattle.trace.proofs.Choices.{both_hold, passes}
use Rattle.trace.proofs.Reached.{room_is}
use Rattle.trace.proofs.Records.{Recorded, record_of, in_order}
use Rattle.record.specs.Bytes.{record_bytes, of_bytes, write_into_answer, written_into}
use Rattle.record.proofs.RecordWriting.{write_left, write_goes}
use Rattle.record.proofs.Used.{front_set}

elements_hold : (n : ℕ) (xs : List ℕ) → n ≤ length xs → ((k : ℕ) → k < n → get_or xs k 0 < p) → elements n xs ≡ true
unfolding elements
elements_hold n xs l h =
    let m = length-take-le n xs l in
    let e = over_all (take n xs) (λ k i. let j : k < n = omega arith in rw (get_or-take n xs k 0 j) (h k j)) in
    le-leb n (first_over (take n xs)) (omega arith)

field_holds : (h : RecordHeader) (b : Lent) → Recorded h b → in_field h b ≡ true
unfolding in_field
field_holds h b r =
    both_hold _ _ (elements_hold (2 * record_wires h) b.values r.fits.for_values r.values_in_lem)
    (both_hold _ _ (elements_hold (record_cells h) b.nodes r.fits.for_nodes r.nodes_in)
    (lt-ltb _ _ r.id_in))

pub writer_accepts : (h : RecordHeader) (b : Lent) (out : List ℕ) → Recorded h b → length (record_bytes h b) ≤ length out
    → write_into_answer h b out ≡ accepted (length (record_bytes h b) ∷ [])
writer_accepts h b out r l =
    let n : (h.num_eval ≡ 0 → ⊥) = λ q. omega (arith, r.some_evals) in
    let tested = in_order h b (accepted []) n r.few (room_is _ _ _ _ _ r.fits) (field_holds h b r) in
    sym (write_goes h b out tested (length (record_bytes h b)) refl l)

-- a record that the writer accepts
pub record Written (h : RecordHeader) (b : Lent) (out vs : List ℕ) : Type 0 where
  pub recorded : Recorded h b
  pub answer : vs ≡ length (record_bytes h b) ∷ []
  pub inside : length (record_bytes h b) ≤ length out
  pub bytes : written_into h b out ≡ record_bytes h b ++ drop (length (record_bytes h b)) out

pub written_of : (h : RecordHeader) (b : Lent) (out vs : List ℕ) → write_into_answer h b out ≡ accepted vs → Written h b out vs
unfolding write_into_answer of_bytes
written_of h b out vs e =
    let r = record_of h b (of_bytes (record_bytes h b) out) vs e in
    let q = passes (leb (length (record_bytes h b)) (length out)) _ 24 0 vs r.1 in
    let l = leb-true _ _ q.0 in
    record {
      recorded = r.0;
      answer = sym (same_values q.1);
      inside = l;
      bytes = sym (write_left h b out (accepted vs) (sym e)) ∙ front_set (length (record_bytes h b)) (record_bytes h b) out refl l;
    }
