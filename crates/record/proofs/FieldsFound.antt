-- What the reader accepts: which numbers stand in the bytes, and what is known of them.
-- Assumes nothing.
use Prim.Native.Nat.{ℕ, ◌*◌, ◌≤◌, ◌<◌}
use mathlib.Core.Path.{◌≡◌, refl, sym}
use mathlib.Core.List.{List, [], ◌∷◌, ◌++◌}
use native.Mathlib.Omega.{arith}
use lib.ListN.{length}
use lib.Seq.{sets}
use Rattle.refusal.specs.Told.{accepted}
use Rattle.field.specs.Field.{p}
use Rattle.field.specs.Lists.{each}
use Rattle.refusal.proofs.Tellings.{same_values}
use Rattle.trace.specs.Counts.{wires, node_cells}
use Rattle.trace.specs.Outcome.{Lent, lent}
use Rattle.trace.specs.Record.{most_record_wires}
use Rattle.record.specs.Bytes.{wire_numbers}
use Rattle.record.specs.Numbers.{numbers_from}
use Rattle.record.specs.Reading.{
  u32,
  ctx_in,
  clk_in,
  id_next_in,
  wires_in,
  wires_at,
  declared_at,
  declared_in,
  read_list_at,
  reads_in,
  reads_at,
  eval_list_at,
  evals_in,
  evals_at,
  end_at,
  fields_answer,
  header_in,
  read_from_answer,
  values_from,
  counts_from,
  record_in,
}
use Rattle.record.proofs.Ways.{passed}
use Rattle.record.proofs.Bounds.{AllBelow}
use Rattle.record.proofs.Sequence.{Stand, stand_join}
use Rattle.record.proofs.WireList.{WiresFound, wires_of_lem}
use Rattle.record.proofs.Heads.{head_of, list_of}
use Rattle.record.proofs.Tests.{declared_of, nodes_of, end_of}

-- the lists that stand in bytes
abbrev pub values_in : List ℕ → List ℕ
values_in s = values_from (wires_in s) s (wires_at s)

abbrev pub counts_in : List ℕ → List ℕ
counts_in s = counts_from (wires_in s) s (wires_at s)

abbrev pub read_cells_in : List ℕ → List ℕ
read_cells_in s = numbers_from (7 * reads_in s) s (reads_at s)

abbrev pub eval_cells_in : List ℕ → List ℕ
eval_cells_in s = numbers_from (11 * evals_in s) s (evals_at s)

-- all numbers, in the order of `record_numbers`
abbrev pub numbers_in : List ℕ → List ℕ
numbers_in s =
    (ctx_in s ∷ clk_in s ∷ id_next_in s ∷ wires_in s ∷ each (wire_numbers (values_in s) (counts_in s)) (wires_in s))
    ++ ((declared_in s ∷ reads_in s ∷ read_cells_in s)
    ++ (evals_in s ∷ eval_cells_in s))

-- bytes that the reader accepts, for so many value cells, counts and node cells
pub record Accepted (s : List ℕ) (values counts nodes : ℕ) : Type 0 where
  pub stand : Stand (numbers_in s) s 0 (end_at s)
  pub all_read : length s ≤ end_at s
  pub ctx_below : ctx_in s < u32
  pub clk_below : clk_in s < u32
  pub id_below : id_next_in s < p
  pub list : WiresFound (wires_in s) s (wires_at s)
  pub reads_below : AllBelow p (read_cells_in s)
  pub evals_below : AllBelow p (eval_cells_in s)
  pub some_evals : 0 < evals_in s
  pub few : wires_in s ≤ most_record_wires
  pub declared : declared_in s ≡ wires_in s
  pub of_nodes : wires (reads_in s) (evals_in s) ≡ wires_in s
  pub room-values : 2 * wires_in s ≤ values
  pub room-counts : wires_in s ≤ counts
  pub room-nodes : node_cells (reads_in s) (evals_in s) ≤ nodes

pub fields_of : (s : List ℕ) (values counts nodes : ℕ) (vs : List ℕ) → fields_answer s values counts nodes ≡ accepted vs → Accepted s values counts nodes
unfolding fields_answer declared_at declared_in read_list_at reads_in reads_at eval_list_at evals_in evals_at end_at
fields_of s values counts nodes vs e =
    let a = passed _ _ vs e in
    let b = passed _ _ vs a.then in
    let c = passed _ _ vs b.then in
    let d = passed _ _ vs c.then in
    let f = passed _ _ vs d.then in
    let head = head_of s a.values a.first in
    let room = list_of (wires_in s) s (wires_at s) values counts b.values b.first in
    let list = wires_of_lem (wires_in s) s (wires_at s) b.values room.2 in
    let declared = declared_of (wires_in s) s (declared_at s) c.values c.first in
    let reads = nodes_of 0 7 nodes s (read_list_at s) d.values d.first in
    let evals = nodes_of (7 * reads_in s) 11 nodes s (eval_list_at s) f.values f.first in
    let end = end_of (reads_in s) (evals_in s) (declared_in s) (end_at s) (length s) vs f.then in
    let same : wires_in s ≡ declared_in s = declared.same in
    let most : declared_in s ≤ most_record_wires = declared.few in
    let nodes-declared : wires (reads_in s) (evals_in s) ≡ declared_in s = end.1 in
    let eval-list = evals_in s ∷ eval_cells_in s in
    let node_lists = declared_in s ∷ reads_in s ∷ read_cells_in s ++ eval-list in
    let wire-list = each (wire_numbers (values_in s) (counts_in s)) (wires_in s) in
    record {
      stand =
          stand_join (ctx_in s ∷ clk_in s ∷ id_next_in s ∷ wires_in s ∷ []) (wire-list ++ node_lists) s 0 (wires_at s) (end_at s) head.stand
          (stand_join wire-list node_lists s (wires_at s) (declared_at s) (end_at s) list.stand
          (declared.read, (reads.read, stand_join (read_cells_in s) eval-list s (reads_at s) (eval_list_at s) (end_at s) reads.cells.0 (evals.read, evals.cells.0))));
      all_read = end.2;
      ctx_below = head.ctx_below;
      clk_below = head.clk_below;
      id_below = head.id_below;
      list = list;
      reads_below = reads.cells.1;
      evals_below = evals.cells.1;
      some_evals = end.0;
      few = omega arith;
      declared = sym same;
      of_nodes = omega arith;
      room-values = room.0;
      room-counts = room.1;
      room-nodes = evals.room;
    }

pub accepted_of : (s : List ℕ) (b : Lent) (vs : List ℕ) → read_from_answer s b ≡ accepted vs
    → Accepted s (length b.values) (length b.counts) (length b.nodes) × (header_in s ≡ vs)
unfolding read_from_answer
accepted_of s b vs e =
    let a = passed _ _ vs e in
    (fields_of s (length b.values) (length b.counts) (length b.nodes) a.values a.first, same_values a.then)

-- the buffers after reading
pub record_in_lem : (s : List ℕ) (b : Lent)
    → record_in s b ≡ lent (sets b.values 0 (values_in s)) (sets b.counts 0 (counts_in s)) (sets b.nodes 0 (read_cells_in s ++ eval_cells_in s))
unfolding record_in
record_in_lem s b = refl
