-- A fill's answer is known from what it tells.
-- Assumes nothing.
use Rattle.std.proofs.Common.{◌≡◌, Result}
use Rattle.refusal.specs.declared.Refusal.{Refusal}
use Rattle.refusal.proofs.Known.{nothing_determined}
use Rattle.rows.specs.Fill.{fill_told}

pub fill_determined : (r s : Result Unit Refusal) → fill_told r ≡ fill_told s → r ≡ s
fill_determined = nothing_determined
