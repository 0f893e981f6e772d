-- What the public contracts determine: an answer is known from what it tells.
-- Assumes nothing.
use Rattle.std.proofs.Common.{◌≡◌, ℕ, Result}
use Rattle.refusal.specs.Refusal.{number_alone}
use Rattle.refusal.specs.declared.Refusal.{Refusal}
use Rattle.refusal.proofs.Known.{told_determined, nothing_determined}
use Rattle.runs.specs.Calls.{rows_told, add_told}

-- "any two outcomes it allows are the same one", of each contract
pub rows_determined : (r s : Result ℕ Refusal) → rows_told r ≡ rows_told s → r ≡ s
rows_determined = told_determined number_alone (λ v w e. cc)

pub add_determined : (r s : Result Unit Refusal) → add_told r ≡ add_told s → r ≡ s
add_determined = nothing_determined
