-- What the loops over the words hold from turn to turn.
-- Assumes nothing.
use Prim.Native.Nat.{ℕ, suc, ◌+◌, ◌^◌, ◌≤◌, ◌<◌}
use mathlib.Core.Path.{◌≡◌, refl, sym, ap, ap₂, subst, ◌∙◌}
use mathlib.Core.Bool.{Bool, true, false, cond}
use mathlib.Core.List.{List, [], ◌∷◌}
use mathlib.Core.Logic.{⊎_elim}
use native.Mathlib.Omega.{arith}
use lib.Dec.{ltb, leb}
use lib.ListN.{length, drop, drop_of_length-le}
use lib.Seq.{sets}
use borrow.Author.Tests.{le-leb, lt-leb}
use Rattle.std.specs.Prelude.{Result, Ok, Err, IsOk}
use Rattle.field.proofs.Cases.{below?}
use Rattle.numbers.specs.Form.{bytes_of, width_of}
use Rattle.numbers.proofs.Groups.{width_counts}
use Rattle.trace.proofs.Stores.{sets_append}
use Rattle.record.specs.Bytes.{bytes_of_all}
use Rattle.words.specs.Text.{digits, value_of, words_of, numbers_of}
use Rattle.words.specs.Answer.{answer_from}
use Rattle.words.specs.Inside.{judged, Fits}
use Rattle.words.specs.declared.EncodeError.{EncodeError}
use Rattle.words.specs.declared.EncodeError.TheVariants.{NotANumber, TooLarge, NoRoom}
use Rattle.words.proofs.Words.{Turn}

-- the answer by what the first word is
abbrev on_word : ℕ → ℕ → ℕ → List (List ℕ) → Result ℕ EncodeError → Result ℕ EncodeError
on_word room k at ws (Ok v) = cond (leb (at + width_of v) room) (answer_from room (suc k) (at + width_of v) ws) (Err (NoRoom k))
on_word room k at ws (Err e) = Err e

by_word : (room k at : ℕ) (ws : List (List ℕ)) (v : ℕ) (b d : Bool)
    → cond b (cond d (on_word room k at ws (Ok v)) (Err (TooLarge k))) (Err (NotANumber k)) ≡ on_word room k at ws (cond b (cond d (Ok v) (Err (TooLarge k))) (Err (NotANumber k)))
by_word room k at ws v true true = refl
by_word room k at ws v true false = refl
by_word room k at ws v false d = refl

one_word : (room k at : ℕ) (w : List ℕ) (ws : List (List ℕ)) → answer_from room k at (w ∷ ws) ≡ on_word room k at ws (judged w k)
unfolding answer_from judged
one_word room k at w ws = by_word room k at ws (value_of w) (digits w) (ltb (value_of w) (2 ^ 64))

module _ (room k at : ℕ) (w : List ℕ) (ws : List (List ℕ)) where
  pub answer_refused : (e : EncodeError) → Err e ≡ judged w k → Err e ≡ answer_from room k at (w ∷ ws)
  answer_refused e q = ap (on_word room k at ws) q ∙ sym (one_word room k at w ws)

  module _ (v : ℕ) (q : Ok v ≡ judged w k) where
    pub answer_no_room : room < at + width_of v → Err (NoRoom k) ≡ answer_from room k at (w ∷ ws)
    answer_no_room h = rw (lt-leb (at + width_of v) room h) at (ap (on_word room k at ws) q ∙ sym (one_word room k at w ws))

    pub answer_next : at + width_of v ≤ room → answer_from room (suc k) (at + width_of v) ws ≡ answer_from room k at (w ∷ ws)
    answer_next h = rw (le-leb (at + width_of v) room h) at (ap (on_word room k at ws) q ∙ sym (one_word room k at w ws))

pub answer_none : (room k at : ℕ) → Ok at ≡ answer_from room k at []
unfolding answer_from
answer_none room k at = refl

-- a turn of `measure`, where all is what is left to answer
module _ {text : List ℕ} {k i : ℕ} {w : List ℕ} (t : Turn text k i w) (room at : ℕ) {all : Result ℕ EncodeError} (left : answer_from room (k + 1) at (drop k (words_of text)) ≡ all) where
  here : answer_from room (i + 1) at (w ∷ drop (k + 1) (words_of text)) ≡ all
  here = ap₂ (λ (p : ℕ) (ws : List (List ℕ)). answer_from room (p + 1) at ws) t.place (sym t.word) ∙ left

  pub left_refused : (e : EncodeError) → Err e ≡ judged w (i + 1) → Err e ≡ all
  left_refused e q = answer_refused room (i + 1) at w (drop (k + 1) (words_of text)) e q ∙ here

  pub left_no_room : (v : ℕ) → Ok v ≡ judged w (i + 1) → room < at + width_of v → Err (NoRoom (i + 1)) ≡ all
  left_no_room v q h = answer_no_room room (i + 1) at w (drop (k + 1) (words_of text)) v q h ∙ here

  pub left_next : (v n : ℕ) → Ok v ≡ judged w (i + 1) → at + width_of v ≤ room → n ≡ k + 1
      → answer_from room (n + 1) (at + width_of v) (drop n (words_of text)) ≡ all
  left_next v n q h e =
      let p : n + 1 ≡ suc (i + 1) = omega (arith, t.place) in
      ap₂ (λ (p m : ℕ). answer_from room p (at + width_of v) (drop m (words_of text))) p e
      ∙ answer_next room (i + 1) at w (drop (k + 1) (words_of text)) v q h
      ∙ here

pub left_none : (ws : List (List ℕ)) {k : ℕ} (room at : ℕ) {all : Result ℕ EncodeError} → answer_from room (k + 1) at (drop k ws) ≡ all → length ws ≤ k → Ok at ≡ all
left_none ws {k} room at left h = answer_none room (k + 1) at ∙ ap (answer_from room (k + 1) at) (sym (drop_of_length-le ws h)) ∙ left

-- a word that fits is a number and has room, and the others fit behind it
record Fitting (room k at : ℕ) (w : List ℕ) (ws : List (List ℕ)) (n : ℕ) : Type 0 where
  value : ℕ
  number : judged w k ≡ Ok value
  enough : at + width_of value ≤ room
  others : answer_from room (suc k) (at + width_of value) ws ≡ Ok n

fitting : (room k at : ℕ) (w : List ℕ) (ws : List (List ℕ)) (n : ℕ) → answer_from room k at (w ∷ ws) ≡ Ok n → Fitting room k at w ws n
fitting room k at w ws n f = go (judged w k) refl (sym (one_word room k at w ws) ∙ f)
  where
    go : (r : Result ℕ EncodeError) → judged w k ≡ r → on_word room k at ws r ≡ Ok n → Fitting room k at w ws n
    go (Ok v) q p =
        ⊎_elim
        (λ l. let e : ◌≡◌ {A = Result ℕ EncodeError} (Err (NoRoom k)) (Ok n) = rw (lt-leb (at + width_of v) room l) at p in absurd (cc))
        (λ l. record { value = v; number = q; enough = l; others = rw (le-leb (at + width_of v) room l) at p })
        (below? room (at + width_of v))
    go (Err e) q p = absurd (cc)

-- an accepted text's bytes have room, as a program that writes them out has to know
pub bytes-within : (room : ℕ) (ws : List (List ℕ)) (k at n : ℕ) → at ≤ room → answer_from room k at ws ≡ Ok n → n ≤ room
bytes-within room [] k at n h e =
    let q : at ≡ n = let p : Ok at ≡ Ok n = answer_none room k at ∙ e in cc in
    omega arith
bytes-within room (w ∷ ws) k at n h e =
    let f = fitting room k at w ws n e in
    bytes-within room ws (suc k) (at + width_of f.value) n f.enough f.others

value_judged : (w : List ℕ) (k v : ℕ) → judged w k ≡ Ok v → v ≡ value_of w
unfolding judged
value_judged w k v q = go (digits w) (ltb (value_of w) (2 ^ 64)) q
  where
    go : (b d : Bool) → cond b (cond d (Ok (value_of w)) (Err (TooLarge k))) (Err (NotANumber k)) ≡ Ok v → v ≡ value_of w
    go true true e = cc
    go true false e = cc
    go false d e = cc

bytes_next : (w : List ℕ) (ws : List (List ℕ)) (out : List ℕ) (at : ℕ)
    → sets out at (bytes_of_all (numbers_of (w ∷ ws))) ≡ sets (sets out at (bytes_of (value_of w))) (at + width_of (value_of w)) (bytes_of_all (numbers_of ws))
unfolding bytes_of_all numbers_of
bytes_next w ws out at =
    sym (sets_append (bytes_of (value_of w)) (bytes_of_all (numbers_of ws)) out at)
    ∙ ap (λ (n : ℕ). sets (sets out at (bytes_of (value_of w))) (at + n) (bytes_of_all (numbers_of ws))) (width_counts (value_of w))

bytes_none : (out : List ℕ) (at : ℕ) → sets out at (bytes_of_all (numbers_of [])) ≡ out
unfolding bytes_of_all numbers_of
bytes_none out at = refl

-- a turn of `put_words`
module _ {text : List ℕ} {k i : ℕ} {w : List ℕ} (t : Turn text k i w) (out : List ℕ) (at : ℕ) (f : Fits (length out) (k + 1) at (drop k (words_of text))) where
  first : Fitting (length out) (i + 1) at w (drop (k + 1) (words_of text)) f.0
  first = fitting _ _ _ _ _ _ (ap₂ (λ (p : ℕ) (ws : List (List ℕ)). answer_from (length out) (p + 1) at ws) t.place (sym t.word) ∙ f.1)

  pub put_number : (r : Result ℕ EncodeError) → r ≡ judged w (i + 1) → IsOk r
  put_number r q = subst IsOk (sym (q ∙ first.number)) refl

  module _ (v : ℕ) (q : Ok v ≡ judged w (i + 1)) where
    same : first.value ≡ v
    same = let p : Ok v ≡ Ok first.value = q ∙ first.number in cc

    pub put_room : at + width_of v ≤ length out
    put_room = rw same at first.enough

    pub put_fits : (out' : List ℕ) (n : ℕ) → length out' ≡ length out → n ≡ k + 1 → Fits (length out') (n + 1) (at + width_of v) (drop n (words_of text))
    put_fits out' n l e =
        let ws = words_of text in
        let p : n + 1 ≡ suc (i + 1) = omega (arith, t.place) in (
          f.0,
          ap (λ (m : ℕ). answer_from m (n + 1) (at + width_of v) (drop n ws)) l
              ∙ ap₂ (λ (j m : ℕ). answer_from (length out) j (at + width_of v) (drop m ws)) p e
              ∙ rw same at first.others,
        )

    pub put_left : (n : ℕ) → n ≡ k + 1 → sets (sets out at (bytes_of v)) (at + width_of v) (bytes_of_all (numbers_of (drop n (words_of text))))
        ≡ sets out at (bytes_of_all (numbers_of (drop k (words_of text))))
    put_left n e =
        let ws = words_of text in
        ap (λ (m : ℕ). sets (sets out at (bytes_of v)) (at + width_of v) (bytes_of_all (numbers_of (drop m ws)))) e
        ∙ ap (λ (x : ℕ). sets (sets out at (bytes_of x)) (at + width_of x) (bytes_of_all (numbers_of (drop (k + 1) ws)))) (value_judged w (i + 1) v (sym q))
        ∙ sym (bytes_next w (drop (k + 1) ws) out at)
        ∙ ap (λ (l : List (List ℕ)). sets out at (bytes_of_all (numbers_of l))) (sym t.word)

pub put_none : (ws : List (List ℕ)) {k : ℕ} (out : List ℕ) (at : ℕ) → length ws ≤ k → sets out at (bytes_of_all (numbers_of (drop k ws))) ≡ out
put_none ws out at h = ap (λ (l : List (List ℕ)). sets out at (bytes_of_all (numbers_of l))) (drop_of_length-le ws h) ∙ bytes_none out at
