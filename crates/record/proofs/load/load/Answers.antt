-- `record::load::load` meets its contract.
-- Assumes nothing.
use Rattle.std.proofs.Common.{◌≡◌, ◌*◌, ◌-◌, ℕ, List, length, get_or, take, drop, refl, sym, ap, ap₂, ◌∙◌, arith, length-take-le}
use Rattle.std.proofs.lemmas.List.Edits.{sets}
use Rattle.trace.proofs.Answers.{lent_equal}
use Rattle.record.specs.Numbers.{number_at, next_at, after, numbers_from}
use Rattle.record.specs.Reading.{wires_in, wires_at, declared_at, read_list_at, reads_in, reads_at, eval_list_at, evals_in, evals_at, values_from, counts_from, record_in}
use Rattle.record.proofs.Places.{length_from}
use Rattle.record.proofs.WireList.{values_length, counts-length}
use Rattle.record.proofs.Loads.{front_loaded, both_loaded}
use Rattle.record.proofs.load.load.Goals as goal

pub returns-clause-nodes_after : goal.returns-clause-nodes_after
unfolding after numbers_from wires_in wires_at declared_at read_list_at reads_in reads_at eval_list_at evals_in evals_at record_in
returns-clause-nodes_after c =
    let s = c.args.source.now in
    let b = c.args in
    let cells = c.load_cells-wires_at in
    let n : get_or cells.new.cells 3 0 ≡ wires_in s = ap (λ (l : List ℕ). get_or l 3 0) cells.ensures.cells_after in
    let m : length (take (get_or cells.new.cells 3 0) b.counts.now) ≡ wires_in s = length-take-le _ _ (omega (arith, n, c.requires.room-counts)) ∙ n in
    let w = c.load_wires-declared_at.ensures in
    let l : c.number_at-read_list_at.result.1 ≡ read_list_at s = c.number_at-read_list_at.ensures.next ∙ ap (next_at s) (w.value ∙ ap₂ (λ (i j : ℕ). after (3 * i) s j) m cells.ensures.value) in
    let r : c.load_nodes-num_read.result.0 ≡ reads_in s = c.load_nodes-num_read.ensures.len ∙ ap (number_at s) l in
    let reads = c.load_nodes-num_read in
    let rest = take (length reads.new.nodes - 7 * reads.result.0) (drop (7 * reads.result.0) reads.new.nodes) in
    lent_equal
    (front_loaded _ (w.values_after ∙ ap₂ (λ (i j : ℕ). values_from i s j) m cells.ensures.value) (ap (λ (k : ℕ). 2 * k) n) (values_length _ _ _) c.requires.room-values)
    (front_loaded _ (w.counts_after ∙ ap₂ (λ (i j : ℕ). counts_from i s j) m cells.ensures.value) n (counts-length _ _ _) c.requires.room-counts)
    (both_loaded _ _ _ _ _ b.nodes.now _ _
    (reads.ensures.nodes_after ∙ ap (λ (j : ℕ). sets b.nodes.now 0 (numbers_from (7 * number_at s j) s (next_at s j))) l)
    (c.load_nodes-num_eval.ensures.nodes_after ∙ ap (λ (j : ℕ). sets rest 0 (numbers_from (11 * number_at s j) s (next_at s j))) (reads.ensures.next ∙ ap (λ (j : ℕ). after (7 * number_at s j) s (next_at s j)) l))
    refl
    (length_from _ _ _ ∙ ap (λ (j : ℕ). 7 * j) (sym r))
    (length_from _ _ _)
    (omega (arith, r, c.requires.room-nodes)))
