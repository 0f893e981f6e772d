-- Laws of `write_answer` and `written`, and what holds in the loop of `write`.
-- Assumes nothing.
use Prim.Native.Nat.{ℕ, ◌+◌, ◌/◌, ◌%◌, ◌^◌, ◌≤◌, ◌<◌}
use mathlib.Core.Path.{◌≡◌, refl, sym, ap, ◌∙◌}
use mathlib.Core.Logic.{⊎_elim}
use mathlib.Core.List.{List, [], ◌∷◌, ◌++◌, append_assoc}
use native.Mathlib.Omega.{arith}
use lib.ListN.{length, set, drop, take, length-set}
use lib.Seq.{sets, sets-eq, length-sets, drop-drop}
use borrow.Author.Tests.{le-leb, lt-leb}
use borrow.Rule.Slice.PartMut.{put_mid}
use Rattle.std.proofs.lemmas.List.{take_more_set, take_all}
use Rattle.refusal.specs.Told.{accepted, refused}
use Rattle.field.proofs.Cases.{below?}
use Rattle.numbers.specs.Form.{bytes_of, width_of}
use Rattle.numbers.specs.Answer.{write_answer, written}
use Rattle.numbers.proofs.Groups.{width_some, width_last, width_more, bytes_of_last, bytes_of_more}

module _ (v : ℕ) (out : List ℕ) (at : ℕ) where
  pub room_answer : at + width_of v ≤ length out → write_answer v out at ≡ accepted ((at + width_of v) ∷ [])
  unfolding write_answer
  room_answer h = rw (le-leb (at + width_of v) (length out) h)

  pub room-written : at + width_of v ≤ length out → written v out at ≡ sets out at (bytes_of v)
  unfolding written
  room-written h = rw (le-leb (at + width_of v) (length out) h)

  pub no_room_answer : length out < at + width_of v → write_answer v out at ≡ refused 24 0
  unfolding write_answer
  no_room_answer h = rw (lt-leb (at + width_of v) (length out) h)

  pub no_room-written : length out < at + width_of v → written v out at ≡ out
  unfolding written
  no_room-written h = rw (lt-leb (at + width_of v) (length out) h)

  pub written-length : length (written v out at) ≡ length out
  written-length =
      ⊎_elim
      (λ l. ap length (no_room-written l))
      (λ l. ap length (room-written l) ∙ length-sets out at (bytes_of v))
      (below? (length out) (at + width_of v))

-- the bytes stand in out from at on
sets_mid : (out : List ℕ) (at k : ℕ) (bytes : List ℕ) → length bytes ≡ k → at + k ≤ length out → put_mid at k out bytes ≡ sets out at bytes
sets_mid out at k bytes e h =
    let t : drop k (drop at out) ≡ drop (at + length bytes) out = drop-drop k at out ∙ ap (λ (n : ℕ). drop n out) (omega arith) in
    ap (λ (x : List ℕ). take at out ++ (bytes ++ x)) t ∙ sym (rw append_assoc at (sets-eq bytes out at (omega arith)))

-- where rest is to be written after the first n of the groups
pub record Left (v : ℕ) (groups : List ℕ) (n rest : ℕ) : Type 0 where
  pub small : rest < 2 ^ 64
  pub width : n + width_of rest ≡ width_of v
  pub bytes : take n groups ++ bytes_of rest ≡ bytes_of v

pub left_start : (v : ℕ) (groups : List ℕ) → v < 2 ^ 64 → Left v groups 0 v
left_start v groups h = record { small = h; width = omega arith; bytes = refl }

module _ {v : ℕ} {groups : List ℕ} {n rest : ℕ} (l : Left v groups n rest) where
  pub left_within : n < width_of v
  left_within = omega (arith, l.width, width_some rest)

  -- a byte that is not the last
  pub left_next : 128 ≤ rest → n < length groups → Left v (set groups n (rest % 128 + 128)) (n + 1) (rest / 128)
  left_next h i =
      record {
        small = omega (arith, l.small);
        width = omega (arith, l.width, width_more rest h l.small);
        bytes =
            rw (take_more_set groups n (rest % 128 + 128) i)
            (rw append_assoc (ap (λ (t : List ℕ). take n groups ++ t) (sym (bytes_of_more rest h l.small)) ∙ l.bytes));
      }

  -- the last
  pub left_done : (out : List ℕ) (at k : ℕ) → rest < 128 → length groups ≡ k → k ≡ width_of v → at + k ≤ length out
      → put_mid at k out (set groups n rest) ≡ written v out at
  left_done out at k h e f room =
      let w : n + 1 ≡ width_of v = omega (arith, l.width, width_last rest h) in
      let m : length (set groups n rest) ≡ n + 1 = omega (arith, length-set groups n rest) in
      let bytes : set groups n rest ≡ bytes_of v =
      sym (take_all (n + 1) (set groups n rest) (omega arith))
      ∙ take_more_set groups n rest (omega arith)
      ∙ ap (λ (t : List ℕ). take n groups ++ t) (sym (bytes_of_last rest h))
      ∙ l.bytes in
      sets_mid out at k (set groups n rest) (omega arith) room
      ∙ ap (sets out at) bytes
      ∙ sym (room-written v out at (omega arith))
