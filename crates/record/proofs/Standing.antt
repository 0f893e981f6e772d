-- A record that is accepted stands in the bytes, with room for it; and what reading answers and leaves.
-- Assumes nothing.
use Prim.Native.Nat.{ℕ}
use mathlib.Core.Path.{◌≡◌, sym, ap}
use mathlib.Core.List.{List}
use native.Mathlib.Omega.{arith}
use lib.ListN.{length}
use Rattle.refusal.specs.Told.{Told, accepted, refused}
use Rattle.trace.specs.Outcome.{Lent}
use Rattle.record.specs.Reading.{wires_in, wires_at, fields_answer, header_in, read_from_answer, buffers_read, read_buffers}
use Rattle.record.specs.Inside.{Found}
use Rattle.record.proofs.Ways.{goes_on, stops}
use Rattle.record.proofs.WireList.{found_accepted}
use Rattle.record.proofs.FieldsFound.{fields_of}

pub stands : (s : List ℕ) (values counts nodes : ℕ) (vs : List ℕ) → fields_answer s values counts nodes ≡ accepted vs → Found s values counts nodes
stands s values counts nodes vs e =
    let a = fields_of s values counts nodes vs e in
    record {
      ctx_fits = a.ctx_below;
      clk_fits = a.clk_below;
      room-values = a.room-values;
      room-counts = a.room-counts;
      wires_stand = found_accepted (wires_in s) s (wires_at s) a.list;
      room-nodes = a.room-nodes;
      few = omega (arith, a.few, a.of_nodes);
    }

module _ (s : List ℕ) (b : Lent) where
  abbrev looked : Told
  looked = fields_answer s (length b.values) (length b.counts) (length b.nodes)

  pub refusal_answered : (number place : ℕ) → looked ≡ refused number place → refused number place ≡ read_from_answer s b
  unfolding read_from_answer
  refusal_answered n k e = sym (stops _ (accepted (header_in s)) n k e)

  pub header-answered : (vs : List ℕ) → looked ≡ accepted vs → accepted (header_in s) ≡ read_from_answer s b
  unfolding read_from_answer
  header-answered vs e = sym (goes_on _ (accepted (header_in s)) vs e)

  -- what is left after an answer
  pub leaves : (t : Told) → t ≡ read_from_answer s b → buffers_read t s b ≡ read_buffers s b
  leaves t e = ap (λ (x : Told). buffers_read x s b) e
