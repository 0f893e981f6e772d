-- What the private functions answer.
-- Assumes nothing.
use Rattle.std.specs.Prelude.{ℕ, ◌^◌, ◌≡◌, cond, List, ltb, Result, Ok, Err}
use Rattle.words.specs.Text.{digits, value_of}
use Rattle.words.specs.Answer.{answer_from}
use Rattle.words.specs.declared.EncodeError.{EncodeError}
use Rattle.words.specs.declared.EncodeError.TheVariants.{NotANumber, TooLarge}

-- the number of the k-th word, or why it has none
unfoldable pub judged : List ℕ → ℕ → Result ℕ EncodeError
judged w k = cond (digits w) (cond (ltb (value_of w) (2 ^ 64)) (Ok (value_of w)) (Err (TooLarge k))) (Err (NotANumber k))

-- each word is a number, and there is room for all
abbrev pub Fits : ℕ → ℕ → ℕ → List (List ℕ) → Type 0
Fits room k at ws = (n : ℕ) × (answer_from room k at ws ≡ Ok n)
