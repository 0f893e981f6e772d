-- An answer is known from what it tells.
-- Assumes nothing.
use Rattle.std.proofs.Common.{◌≡◌, ℕ, [], ◌∷◌, Result}
use Rattle.refusal.specs.Refusal.{number_alone}
use Rattle.refusal.specs.declared.Refusal.{Refusal}
use Rattle.refusal.proofs.Known.{told_determined}
use Rattle.numbers.specs.Answer.{write_told, read_told}

pub write_determined : (r s : Result ℕ Refusal) → write_told r ≡ write_told s → r ≡ s
write_determined = told_determined number_alone (λ v w e. cc)

same_number : (v w : ℕ × ℕ) → v.0 ∷ v.1 ∷ [] ≡ w.0 ∷ w.1 ∷ [] → v ≡ w
same_number (v, i) (w, j) e = cc

pub read_determined : (r s : Result (ℕ × ℕ) Refusal) → read_told r ≡ read_told s → r ≡ s
read_determined = told_determined (λ number. number.0 ∷ number.1 ∷ []) same_number
