-- Some texts, and what becomes of them: `7 128`, `0007`, `1 2x`, 2^64 - 1 and 2^64, and a text of spaces.
-- Assumes nothing.
use Prim.Native.Nat.{ℕ}
use mathlib.Core.Path.{◌≡◌, refl}
use mathlib.Core.List.{List, [], ◌∷◌}
use Rattle.std.proofs.Common.{Ok, Err}
use Rattle.numbers.specs.Form.{bytes_in, bytes_of, groups_in, width_of}
use Rattle.record.specs.Bytes.{bytes_of_all}
use Rattle.words.specs.Text.{parting, pieces, filled, words_of, digit, digits, value_after, numbers_of}
use Rattle.words.specs.Answer.{answer_from, encode_answer, encoded}
use Rattle.words.specs.declared.EncodeError.TheVariants.{NotANumber, TooLarge, NoRoom}

abbrev pub two : List ℕ
two = 55 ∷ 32 ∷ 49 ∷ 50 ∷ 56 ∷ 10 ∷ []

abbrev pub zeros : List ℕ
zeros = 48 ∷ 48 ∷ 48 ∷ 55 ∷ []

abbrev pub letter : List ℕ
letter = 49 ∷ 10 ∷ 50 ∷ 120 ∷ []

abbrev pub largest : List ℕ
largest = 49 ∷ 56 ∷ 52 ∷ 52 ∷ 54 ∷ 55 ∷ 52 ∷ 52 ∷ 48 ∷ 55 ∷ 51 ∷ 55 ∷ 48 ∷ 57 ∷ 53 ∷ 53 ∷ 49 ∷ 54 ∷ 49 ∷ 53 ∷ []

abbrev pub one_more : List ℕ
one_more = 49 ∷ 56 ∷ 52 ∷ 52 ∷ 54 ∷ 55 ∷ 52 ∷ 52 ∷ 48 ∷ 55 ∷ 51 ∷ 55 ∷ 48 ∷ 57 ∷ 53 ∷ 53 ∷ 49 ∷ 54 ∷ 49 ∷ 54 ∷ []

abbrev pub room : List ℕ
room = 9 ∷ 9 ∷ 9 ∷ 9 ∷ []

pub two_words : encode_answer two room ≡ Ok 3
unfolding parting pieces filled words_of digit digits value_after answer_from groups_in width_of
two_words = refl

pub two_bytes : encoded two room ≡ 7 ∷ 0x80 ∷ 1 ∷ 9 ∷ []
unfolding parting pieces filled words_of digit digits value_after numbers_of answer_from groups_in width_of bytes_in bytes_of bytes_of_all
two_bytes = refl

pub leading_zeros : encoded zeros room ≡ 7 ∷ 9 ∷ 9 ∷ 9 ∷ []
unfolding parting pieces filled words_of digit digits value_after numbers_of answer_from groups_in width_of bytes_in bytes_of bytes_of_all
leading_zeros = refl

pub no_number : encode_answer letter room ≡ Err (NotANumber 2)
unfolding parting pieces filled words_of digit digits value_after answer_from groups_in width_of
no_number = refl

pub largest_word : encode_answer largest room ≡ Err (NoRoom 1)
unfolding parting pieces filled words_of digit digits value_after answer_from groups_in width_of
largest_word = refl

pub too_large : encode_answer one_more room ≡ Err (TooLarge 1)
unfolding parting pieces filled words_of digit digits value_after answer_from groups_in width_of
too_large = refl

pub spaces : encode_answer (32 ∷ 10 ∷ []) room ≡ Ok 0
unfolding parting pieces filled words_of answer_from
spaces = refl
