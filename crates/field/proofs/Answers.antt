-- What the public contracts determine: an answer is known from what it tells, and of elements it is the value.
-- Assumes nothing.
use Rattle.std.proofs.Common.{◌≡◌, ℕ, ◌<◌, List, [], ◌∷◌, Result, get_or, arith}
use Rattle.refusal.specs.Told.{accepted}
use Rattle.refusal.specs.Refusal.{number_alone}
use Rattle.refusal.specs.declared.Refusal.{Refusal}
use Rattle.refusal.proofs.Known.{told_determined}
use Rattle.field.specs.Answer.{felt_told, quad_told, felt_answer, quad_answer, pair_of, cells_of}
use Rattle.field.specs.Field.{p}
use Rattle.field.specs.Pair.{Pair, Elements, cells}
use Rattle.field.proofs.Over.{over_later, of_elements_lem}

pub felt_determined : (r s : Result ℕ Refusal) → felt_told r ≡ felt_told s → r ≡ s
felt_determined = told_determined number_alone (λ v w e. cc)

pub quad_determined : (r s : Result (List ℕ) Refusal) → quad_told r ≡ quad_told s → r ≡ s
quad_determined = told_determined (λ a. a) (λ v w e. e)

-- of elements the answer is the value
pub felt_value : (f : ℕ → ℕ → ℕ) (a b : ℕ) → a < p → b < p → felt_answer f a b ≡ accepted (f a b ∷ [])
felt_value f a b ha hb = of_elements_lem (a ∷ b ∷ []) _ (omega (arith, over_later a (b ∷ []) ha, over_later b [] hb))

pub quad_value : (f : Pair → Pair → Pair) (a b : List ℕ) → Elements (pair_of a) → Elements (pair_of b) → quad_answer f a b ≡ accepted (cells (f (pair_of a) (pair_of b)))
quad_value f a b ea eb =
    of_elements_lem (cells_of a b) _
    (omega (
      arith,
      over_later _ (get_or a 1 0 ∷ get_or b 0 0 ∷ get_or b 1 0 ∷ []) ea.low,
      over_later _ (get_or b 0 0 ∷ get_or b 1 0 ∷ []) ea.high,
      over_later _ (get_or b 1 0 ∷ []) eb.low,
      over_later _ [] eb.high,
    ))
