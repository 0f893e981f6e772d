-- `record::load::number_at` meets its contract.
-- Assumes nothing.
use Rattle.std.proofs.Common.{◌≡◌, ℕ, Result, Ok, Err, refl, ap, ◌∙◌}
use Rattle.std.specs.Result.{result_unwrap_or}
use Rattle.refusal.specs.declared.Refusal.{Refusal}
use Rattle.numbers.specs.Answer.{read_told}
use Rattle.record.specs.Numbers.{number_told, next_told, number_at, next_at}
use Rattle.record.proofs.load.number_at.Goals as goal

-- a number that was read, or 0 and its own place
number_or : (r : Result (ℕ × ℕ) Refusal) (at : ℕ) → result_unwrap_or r (0, at) ≡ (number_told (read_told r), next_told at (read_told r))
number_or (Ok number) at = refl
number_or (Err e) at = refl

pub returns : goal.returns
unfolding number_at next_at
returns c =
    let h = c.unwrap_or.ensures ∙ number_or c.read.result c.args.at in
    record {
      value = ap (λ (x : ℕ × ℕ). x.0) h ∙ ap number_told c.read.ensures;
      next = ap (λ (x : ℕ × ℕ). x.1) h ∙ ap (next_told c.args.at) c.read.ensures;
    }
