-- `program::read::read_cells` meets its contract.
-- Assumes nothing.
use Rattle.record.specs.Numbers.{numbers_from}
use Rattle.record.proofs.Places.{length_from}
use Rattle.record.proofs.Used.{front_set}
use Rattle.std.proofs.Common.{ℕ, List, [], ◌∷◌, ◌++◌, drop, sym, ap, ◌∙◌, rules}
use lib.Seq.{length-take-le}
use Rattle.refusal.proofs.Passing.{told_up}
use Rattle.program.proofs.Inputs.{cells_over, cells_off, cells_left, cells_end}
use Rattle.program.proofs.read.read_cells.Goals as goal

pub returns-then-n-clause-result_value : goal.returns-then-n-clause-result_value
returns-then-n-clause-result_value c = cells_over c.args.n c.args.input.now c.args.at (search rules)

pub returns-in_err-end-clause-result_value : goal.returns-in_err-end-clause-result_value
returns-in_err-end-clause-result_value c =
    let n = length-take-le c.args.n c.args.memory.now (search rules) in
    told_up (λ (at : ℕ). 0 ∷ at ∷ []) _ _ c.from_residual.ensures ∙ cells_off _ _ _ _ _ (sym (rw n at c.in_err-end.ensures.result_value)) (search rules)

pub returns-then-end-input-clause-result_value : goal.returns-then-end-input-clause-result_value
returns-then-end-input-clause-result_value c =
    let n = length-take-le c.args.n c.args.memory.now (search rules) in
    cells_left _ _ _ _ _ (sym (rw n at c.in_ok-end.ensures.result_value)) (search rules) (search rules)

pub returns-clause-result_value : goal.returns-clause-result_value
returns-clause-result_value c =
    let n = length-take-le c.args.n c.args.memory.now (search rules) in
    cells_end _ _ _ _ _ (sym (rw n at c.in_ok-end.ensures.result_value)) (search rules) (search rules)

pub returns-clause-memory_after : goal.returns-clause-memory_after
returns-clause-memory_after c =
    let n = length-take-le c.args.n c.args.memory.now (search rules) in
    ap (λ (l : List ℕ). l ++ drop c.args.n c.args.memory.now) (rw n at c.in_ok-end.ensures.cells_after)
    ∙ sym (front_set c.args.n (numbers_from c.args.n c.args.input.now c.args.at) c.args.memory.now (length_from _ _ _) (search rules))
