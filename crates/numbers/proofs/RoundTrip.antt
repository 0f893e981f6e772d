-- What is written is read, what is read is written back to the same bytes, and so a number has one form.
-- Assumes nothing.
use Prim.Native.Nat.{ℕ, zero, suc, ◌+◌, ◌-◌, ◌*◌, ◌/◌, ◌%◌, ◌^◌, ◌≤◌, ◌<◌}
use mathlib.Core.Path.{◌≡◌, refl, sym, ap, ◌∙◌, subst}
use mathlib.Core.Logic.{⊎_elim}
use mathlib.Core.Bool.{Bool, true, false}
use mathlib.Core.List.{List, [], ◌∷◌, ◌++◌, append_assoc}
use native.Mathlib.Nat.{pow-suc}
use native.Mathlib.Omega.{arith}
use lib.ListN.{length, get_or, take, drop, take-append-drop, length-drop}
use lib.Seq.{sets, sets-eq, slice, drop_at, get_or-drop, take-add, length-take-le}
use Rattle.refusal.specs.Told.{accepted}
use Rattle.field.proofs.Cases.{below?}
use Rattle.refusal.proofs.Tellings.{clash}
use Rattle.numbers.specs.Form.{bytes_in, bytes_of, groups_in, width_of, Found, found, cut_off, not_shortest, under, ill_formed, find_from}
use Rattle.numbers.specs.Answer.{found_at, read_answer, written}
use Rattle.numbers.proofs.Groups.{bytes_last, bytes_more, groups_last, groups_more, width_counts, width_some, width_most}
use Rattle.numbers.proofs.Finding.{WellFormed, good_form, in_good_form, find_end, find_ill, find_last, find_more}
use Rattle.numbers.proofs.Writing.{room-written}

-- What is written is read.

find_one : (k n v : ℕ) (t : List ℕ) → v < 128 → WellFormed n v → find_from n (bytes_in (suc k) v ++ t) ≡ found v (groups_in (suc k) v)
find_one k n v t h w = rw (bytes_last k v h, groups_last k v h) (find_last n v t (good_form n v w) h)

find_next : (k n v : ℕ) (t : List ℕ) → 128 ≤ v → n < 9 → find_from (suc n) (bytes_in k (v / 128) ++ t) ≡ found (v / 128) (groups_in k (v / 128))
    → find_from n (bytes_in (suc k) v ++ t) ≡ found v (groups_in (suc k) v)
find_next k n v t h l ih =
    let b : ℕ = v % 128 + 128 in
    let w : WellFormed n b = record { shortest = λ p. omega arith; tenth = λ e. absurd (omega arith) } in
    let e : b - 128 + 128 * (v / 128) ≡ v = omega arith in
    rw (bytes_more k v h, groups_more k v h)
    (find_more n b (bytes_in k (v / 128) ++ t) (good_form n b w) (omega arith)
    ∙ ap (under b) ih
    ∙ ap (λ (x : ℕ). found x (suc (groups_in k (v / 128)))) e)

-- after n bytes there is room for k more and the last
find_bytes : (k n v : ℕ) (t : List ℕ) → k + n ≡ 9 → v < 2 * 128 ^ k → (0 < n → 0 < v) → find_from n (bytes_in (suc k) v ++ t) ≡ found v (groups_in (suc k) v)
find_bytes zero n v t e h p = find_one 0 n v t (omega arith) (record { shortest = p; tenth = λ q. omega arith })
find_bytes (suc k) n v t e h p =
    ⊎_elim (λ l. find_one (suc k) n v t l (record { shortest = p; tenth = λ q. absurd (omega arith) }))
    (λ l. find_next (suc k) n v t l (omega arith) (find_bytes k (suc n) (v / 128) t (omega arith) (omega (arith, pow-suc 128 k)) (λ q. omega arith)))
    (below? v 128)

-- a number's bytes are read to the number, whatever stands before and after them
pub written_is_read : (before after : List ℕ) (v : ℕ) → v < 2 ^ 64
    → read_answer (before ++ (bytes_of v ++ after)) (length before) ≡ accepted (v ∷ (length before + width_of v) ∷ [])
unfolding read_answer bytes_of width_of
written_is_read before after v h =
    ap (λ (l : List ℕ). found_at (length before) (find_from 0 l)) (drop_at before (bytes_in 10 v ++ after) (length before) refl)
    ∙ ap (found_at (length before)) (find_bytes 9 0 v after refl h (λ p. absurd (omega arith)))

-- so is what `write` leaves
pub reads_back : (v : ℕ) (out : List ℕ) (at : ℕ) → v < 2 ^ 64 → at + width_of v ≤ length out → read_answer (written v out at) at ≡ accepted (v ∷ (at + width_of v) ∷ [])
reads_back v out at h room =
    let w = width_counts v in
    let l : length (take at out) ≡ at = length-take-le at out (omega arith) in
    let d = written_is_read (take at out) (drop (at + length (bytes_of v)) out) v h in
    rw (room-written v out at room, sets-eq (bytes_of v) out at (omega arith), append_assoc) (rw l at d)

-- What is read is written back to the same bytes.

-- a list whose numbers are bytes
abbrev pub Bytes : List ℕ → Type 0
Bytes s = (i : ℕ) → get_or s i 0 < 256

-- v, whose last byte may be k bytes on, takes the first m bytes of s
record Back (k : ℕ) (s : List ℕ) (v m : ℕ) : Type 0 where
  bytes : take m s ≡ bytes_in (suc k) v
  count : m ≡ groups_in (suc k) v
  within : m ≤ length s
  size : v < 2 * 128 ^ k
  some : k < 9 → 0 < v

-- a claim of what was found, if it was
abbrev Of : (ℕ → ℕ → Type 0) → Found → Type 0
Of P (found v m) = P v m
Of P cut_off = Unit {0}
Of P not_shortest = Unit {0}

pos : (k : ℕ) → 0 < 128 ^ k
pos zero = omega arith
pos (suc k) = omega (arith, pow-suc 128 k, pos k)

small : (k b : ℕ) → b < 128 → (k ≡ 0 → b ≤ 1) → b < 2 * 128 ^ k
small zero b h one = omega (arith, one refl)
small (suc k) b h one = omega (arith, pow-suc 128 k, pos k)

back_last : (k n b : ℕ) (s : List ℕ) → k + n ≡ 9 → b < 128 → WellFormed n b → Back k (b ∷ s) b 1
back_last k n b s e h w =
    record {
      bytes = sym (bytes_last k b h);
      count = sym (groups_last k b h);
      within = omega arith;
      size = small k b h (λ z. w.tenth (omega arith));
      some = λ l. w.shortest (omega arith);
    }

back_more : (k b : ℕ) (s : List ℕ) (v m : ℕ) → 128 ≤ b → b < 256 → k < 9 → Back k s v m → Back (suc k) (b ∷ s) (b - 128 + 128 * v) (suc m)
back_more k b s v m l h q r =
    let w : ℕ = b - 128 + 128 * v in
    let z : 0 < v = r.some q in
    let f : w / 128 ≡ v = omega arith in
    let g : w % 128 + 128 ≡ b = omega arith in
    let big : 128 ≤ w = omega arith in
    record {
      bytes = sym (rw (bytes_more (suc k) w big, f, g) (ap (λ (t : List ℕ). b ∷ t) (sym r.bytes)));
      count = rw (groups_more (suc k) w big, f) (ap suc r.count);
      within = omega (arith, r.within);
      size = omega (arith, pow-suc 128 k, r.size);
      some = λ p. omega arith;
    }

back_under : (k b : ℕ) (s : List ℕ) → 128 ≤ b → b < 256 → k < 9 → (g : Found) → Of (Back k s) g → Of (Back (suc k) (b ∷ s)) (under b g)
back_under k b s l h q (found v m) r = back_more k b s v m l h q r
back_under k b s l h q cut_off r = tt
back_under k b s l h q not_shortest r = tt

back_byte : (k n b : ℕ) (s : List ℕ) → k + n ≡ 9 → (128 ≤ b → WellFormed n b → Of (Back k (b ∷ s)) (under b (find_from (suc n) s))) → Of (Back k (b ∷ s)) (find_from n (b ∷ s))
back_byte k n b s e more = go (ill_formed n b) refl
  where
    go : (t : Bool) → ill_formed n b ≡ t → Of (Back k (b ∷ s)) (find_from n (b ∷ s))
    go true q = subst (Of (Back k (b ∷ s))) (sym (find_ill n b s q)) tt
    go false q =
        ⊎_elim (λ l. subst (Of (Back k (b ∷ s))) (sym (find_last n b s q l)) (back_last k n b s e l (in_good_form n b q)))
        (λ l. subst (Of (Back k (b ∷ s))) (sym (find_more n b s q l)) (more l (in_good_form n b q)))
        (below? b 128)

back : (k n : ℕ) (s : List ℕ) → k + n ≡ 9 → Bytes s → Of (Back k s) (find_from n s)
back k n [] e hb = subst (Of (Back k [])) (sym (find_end n)) tt
back zero n (b ∷ s) e hb = back_byte 0 n b s e (λ l w. absurd (omega (arith, w.tenth (omega arith))))
back (suc k) n (b ∷ s) e hb =
    back_byte (suc k) n b s e
    (λ l w. back_under k b s l (hb 0) (omega arith) (find_from (suc n) s) (back k (suc n) s (omega arith) (λ i. hb (suc i))))

-- the bytes from at on, and that writing them where they stand changes nothing
middle : (at m : ℕ) (s : List ℕ) → at ≤ length s → slice at (at + m) s ≡ take m (drop at s)
middle at m s h = ap (drop at) (take-add at m s) ∙ drop_at (take at s) (take m (drop at s)) at (length-take-le at s h)

put_back : (at : ℕ) (s b : List ℕ) → at + length b ≤ length s → slice at (at + length b) s ≡ b → sets s at b ≡ s
put_back at s b h e =
    let p : take at s ++ b ≡ take (at + length b) s = ap (λ (x : List ℕ). take at s ++ x) (sym e ∙ middle at (length b) s (omega arith)) ∙ sym (take-add at (length b) s) in
    sets-eq b s at h ∙ ap (λ (x : List ℕ). x ++ drop (at + length b) s) p ∙ take-append-drop (at + length b) s

-- v is read from the bytes of s from at up to next
pub record Read (s : List ℕ) (at v next : ℕ) : Type 0 where
  pub bytes : slice at next s ≡ bytes_of v
  pub width : next ≡ at + width_of v
  pub moves_on : at < next
  pub ten_at_most : next ≤ at + 10
  pub inside : next ≤ length s
  pub fits : v < 2 ^ 64

-- what is read at a place are the bytes that `write` writes, of a number of 64 bits; reading never goes past ten bytes, always moves on and stays inside
pub read_is_written : (s : List ℕ) (at v next : ℕ) → Bytes s → read_answer s at ≡ accepted (v ∷ next ∷ []) → Read s at v next
unfolding read_answer width_of bytes_of
read_is_written s at v next hb e = go (find_from 0 (drop at s)) (back 9 0 (drop at s) refl (λ i. rw get_or-drop (hb (at + i)))) e
  where
    go : (g : Found) → Of (Back 9 (drop at s)) g → found_at at g ≡ accepted (v ∷ next ∷ []) → Read s at v next
    go (found w m) r q =
        let x : w ≡ v = cc in
        let y : at + m ≡ next = cc in
        let c : m ≡ width_of v = r.count ∙ ap (groups_in 10) x in
        let d = length-drop at s in
        record {
          bytes =
              ap (λ (j : ℕ). slice at j s) (sym y)
              ∙ middle at m s (omega (arith, r.within, c, width_some v))
              ∙ r.bytes
              ∙ ap (bytes_in 10) x;
          width = omega (arith, c);
          moves_on = omega (arith, c, width_some v);
          ten_at_most = omega (arith, c, width_most v);
          inside = omega (arith, r.within, c, width_some v);
          fits = omega (arith, r.size);
        }
    go cut_off r q = clash q
    go not_shortest r q = clash q

-- so writing a number where it was read changes nothing
pub writes_back : (s : List ℕ) (at v next : ℕ) → Bytes s → read_answer s at ≡ accepted (v ∷ next ∷ []) → written v s at ≡ s
writes_back s at v next hb e =
    let r = read_is_written s at v next hb e in
    let q : at + length (bytes_of v) ≡ next = omega (arith, width_counts v, r.width) in
    room-written v s at (omega (arith, r.width, r.inside))
    ∙ put_back at s (bytes_of v) (omega (arith, r.inside)) (ap (λ (j : ℕ). slice at j s) q ∙ r.bytes)

-- a number has one form: what is read to the same number are the same bytes
pub one_form : (s t : List ℕ) (at to v m n : ℕ) → Bytes s → Bytes t
    → read_answer s at ≡ accepted (v ∷ m ∷ []) → read_answer t to ≡ accepted (v ∷ n ∷ []) → slice at m s ≡ slice to n t
one_form s t at to v m n hs ht e f = (read_is_written s at v m hs e).bytes ∙ sym (read_is_written t to v n ht f).bytes

-- No more than ten bytes are looked at.

find_same : (n b : ℕ) (s t : List ℕ) → (128 ≤ b → WellFormed n b → find_from (suc n) s ≡ find_from (suc n) t) → find_from n (b ∷ s) ≡ find_from n (b ∷ t)
find_same n b s t more = go (ill_formed n b) refl
  where
    go : (x : Bool) → ill_formed n b ≡ x → find_from n (b ∷ s) ≡ find_from n (b ∷ t)
    go true q = find_ill n b s q ∙ sym (find_ill n b t q)
    go false q =
        ⊎_elim (λ l. find_last n b s q l ∙ sym (find_last n b t q l))
        (λ l. find_more n b s q l ∙ ap (under b) (more l (in_good_form n b q)) ∙ sym (find_more n b t q l))
        (below? b 128)

find_firsts : (k n : ℕ) (s : List ℕ) → k + n ≡ 9 → find_from n (take (suc k) s) ≡ find_from n s
find_firsts k n [] e = refl
find_firsts zero n (b ∷ s) e = find_same n b [] s (λ l w. absurd (omega (arith, w.tenth (omega arith))))
find_firsts (suc k) n (b ∷ s) e = find_same n b (take (suc k) s) s (λ l w. find_firsts k (suc n) s (omega arith))

-- two lists whose ten bytes from a place on are the same are read the same there
pub ten_decide : (s t : List ℕ) (at : ℕ) → take 10 (drop at s) ≡ take 10 (drop at t) → read_answer s at ≡ read_answer t at
unfolding read_answer
ten_decide s t at e =
    ap (found_at at) (sym (find_firsts 9 0 (drop at s) refl) ∙ ap (find_from 0) e ∙ find_firsts 9 0 (drop at t) refl)
