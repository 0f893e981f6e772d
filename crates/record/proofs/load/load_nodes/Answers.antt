-- `record::load::load_nodes` meets its contract.
-- Assumes nothing.
use Rattle.std.proofs.Common.{◌≡◌, ℕ, ◌*◌, length, take, ap, ap₂, ◌∙◌, arith, length-take-le}
use Rattle.record.specs.Numbers.{number_at, numbers_from}
use Rattle.record.proofs.Places.{length_from}
use Rattle.record.proofs.Loads.{front_loaded}
use Rattle.record.proofs.load.load_nodes.Goals as goal

pub returns-clause-nodes_after : goal.returns-clause-nodes_after
returns-clause-nodes_after c =
    let a = c.args in
    let s = a.source.now in
    let len = c.number_at-len in
    let n : a.width * len.result.0 ≡ a.width * number_at s a.at = ap (λ (k : ℕ). a.width * k) len.ensures.value in
    let m : length (take (a.width * len.result.0) a.nodes.now) ≡ a.width * number_at s a.at = length-take-le _ _ (omega (arith, n)) ∙ n in
    front_loaded _ (c.load_cells-next.ensures.cells_after ∙ ap₂ (λ (i j : ℕ). numbers_from i s j) m len.ensures.next) n (length_from _ _ _) c.requires
