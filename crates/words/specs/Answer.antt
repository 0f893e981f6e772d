-- What `encode` answers and leaves, for every text and every room.
-- Assumes nothing.
use Rattle.std.specs.Prelude.{ℕ, suc, ◌+◌, ◌^◌, cond, List, [], ◌∷◌, ltb, leb, length, Result, Ok, Err, is_ok}
use Rattle.std.proofs.lemmas.List.Edits.{sets}
use Rattle.numbers.specs.Form.{width_of}
use Rattle.record.specs.Bytes.{bytes_of_all}
use Rattle.words.specs.Text.{words_of, digits, value_of, numbers_of}
use Rattle.words.specs.declared.EncodeError.{EncodeError}
use Rattle.words.specs.declared.EncodeError.TheVariants.{NotANumber, TooLarge, NoRoom}

-- word by word, k the number of the next and at the bytes that those before it take: the first that is no number, or 2^64 or more, or has no room; else all bytes
unfoldable pub answer_from : ℕ → ℕ → ℕ → List (List ℕ) → Result ℕ EncodeError
answer_from room k at [] = Ok at
answer_from room k at (w ∷ ws) =
    cond (digits w)
    (cond (ltb (value_of w) (2 ^ 64))
    (cond (leb (at + width_of (value_of w)) room) (answer_from room (suc k) (at + width_of (value_of w)) ws) (Err (NoRoom k)))
    (Err (TooLarge k)))
    (Err (NotANumber k))

-- words are counted from 1
abbrev pub encode_answer : List ℕ → List ℕ → Result ℕ EncodeError
encode_answer text out = answer_from (length out) 1 0 (words_of text)

-- the bytes of the words' numbers; or all as it was, where a word is refused
abbrev pub encoded : List ℕ → List ℕ → List ℕ
encoded text out = cond (is_ok (encode_answer text out)) (sets out 0 (bytes_of_all (numbers_of (words_of text)))) out
