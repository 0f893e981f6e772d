-- The wire list: values and counts that are read from bytes are those whose numbers stand in them.
-- Assumes nothing.
use Prim.Native.Nat.{ℕ, zero, suc, ◌+◌, ◌*◌, ◌≤◌, ◌<◌}
use mathlib.Core.Path.{◌≡◌, refl, sym, ap, ap₂, ◌∙◌, subst}
use mathlib.Core.List.{List, [], ◌∷◌, ◌++◌, append_assoc, append-nil}
use native.Mathlib.Omega.{arith}
use lib.ListN.{length, get_or, take}
use lib.Seq.{get_or-take, length-take-le}
use Rattle.refusal.specs.Told.{accepted}
use Rattle.field.specs.Field.{p}
use Rattle.field.specs.Lists.{each}
use Rattle.field.proofs.Each.{each_none, each_more, each_equal, each-length}
use Rattle.record.specs.Bytes.{wire_numbers}
use Rattle.record.specs.Numbers.{number_at, next_at, after, numbers_from}
use Rattle.record.specs.Reading.{u32, wire_answer, wires_answer, values_from, counts_from}
use Rattle.record.specs.Inside.{Wires}
use Rattle.record.proofs.Ways.{passed}
use Rattle.record.proofs.Places.{number_is, after_none, after_two, from_none}
use Rattle.record.proofs.Bounds.{AllBelow}
use Rattle.record.proofs.Sequence.{Stand, stand_join, stand_split_at}
use Rattle.record.proofs.Numbers.{numbers_of, numbers_pass}
use Rattle.record.proofs.Wires.{wires_none, wires_more, wire_on, counted}

-- the numbers of wires

each_front : (f : ℕ → List ℕ) (n : ℕ) → each f (suc n) ≡ f 0 ++ each (λ (k : ℕ). f (suc k)) n
each_front f zero =
    each_more f 0
    ∙ ap (λ (l : List ℕ). l ++ f 0) (each_none f)
    ∙ sym (append-nil (f 0))
    ∙ ap (λ (l : List ℕ). f 0 ++ l) (sym (each_none (λ (k : ℕ). f (suc k))))
each_front f (suc n) =
    each_more f (suc n)
    ∙ ap (λ (l : List ℕ). l ++ f (suc n)) (each_front f n)
    ∙ append_assoc (f 0) (each (λ (k : ℕ). f (suc k)) n) (f (suc n))
    ∙ ap (λ (l : List ℕ). f 0 ++ l) (sym (each_more (λ (k : ℕ). f (suc k)) n))

-- the first wire's, then the others'
wires_cons : (a b c : ℕ) (vs cs : List ℕ) (n : ℕ) → each (wire_numbers (a ∷ b ∷ vs) (c ∷ cs)) (suc n) ≡ a ∷ b ∷ c ∷ each (wire_numbers vs cs) n
wires_cons a b c vs cs n =
    each_front (wire_numbers (a ∷ b ∷ vs) (c ∷ cs)) n
    ∙ ap (λ (l : List ℕ). a ∷ b ∷ c ∷ l) (each_equal (λ (k : ℕ). wire_numbers (a ∷ b ∷ vs) (c ∷ cs) (suc k)) (wire_numbers vs cs) n (λ k l. shifted k))
  where
    shifted : (k : ℕ) → wire_numbers (a ∷ b ∷ vs) (c ∷ cs) (suc k) ≡ wire_numbers vs cs k
    shifted k =
        let e : 2 * suc k ≡ suc (suc (2 * k)) = omega arith in
        let f : 2 * suc k + 1 ≡ suc (suc (2 * k + 1)) = omega arith in
        ap₂ (λ (i j : ℕ). get_or (a ∷ b ∷ vs) i 0 ∷ get_or (a ∷ b ∷ vs) j 0 ∷ get_or cs k 0 ∷ []) e f

pub wires-length : (vs cs : List ℕ) (n : ℕ) → length (each (wire_numbers vs cs) n) ≡ 3 * n
wires-length vs cs n = each-length (wire_numbers vs cs) 3 (λ k. refl) n

-- they are told by the used cells and counts alone
pub wires-used : (vs cs : List ℕ) (n : ℕ) → each (wire_numbers (take (2 * n) vs) (take n cs)) n ≡ each (wire_numbers vs cs) n
wires-used vs cs n =
    each_equal (wire_numbers (take (2 * n) vs) (take n cs)) (wire_numbers vs cs) n
    (λ k l.
    rw (get_or-take (2 * n) vs (2 * k) 0 (omega arith), get_or-take (2 * n) vs (2 * k + 1) 0 (omega arith), get_or-take n cs k 0 l))

-- and as many as the used counts
pub wires-handed : (vs cs : List ℕ) (n : ℕ) → n ≤ length cs → each (wire_numbers (take (2 * n) vs) (take n cs)) (length (take n cs)) ≡ each (wire_numbers vs cs) n
wires-handed vs cs n h = ap (each (wire_numbers (take (2 * n) vs) (take n cs))) (length-take-le n cs h) ∙ wires-used vs cs n

-- values and counts from bytes

pub values_more : (n : ℕ) (s : List ℕ) (at : ℕ) → values_from (suc n) s at ≡ number_at s at ∷ number_at s (next_at s at) ∷ values_from n s (after 3 s at)
unfolding values_from numbers_from
values_more n s at = refl

pub counts_more : (n : ℕ) (s : List ℕ) (at : ℕ) → counts_from (suc n) s at ≡ number_at s (after 2 s at) ∷ counts_from n s (after 3 s at)
unfolding counts_from
counts_more n s at = refl

pub values_length : (n : ℕ) (s : List ℕ) (at : ℕ) → length (values_from n s at) ≡ 2 * n
unfolding values_from numbers_from
values_length zero s at = refl
values_length (suc n) s at = let h = values_length n s (after 3 s at) in omega arith

pub counts-length : (n : ℕ) (s : List ℕ) (at : ℕ) → length (counts_from n s at) ≡ n
unfolding counts_from
counts-length zero s at = refl
counts-length (suc n) s at = ap suc (counts-length n s (after 3 s at))

-- the place after a wire's three numbers
pub after_wire : (n : ℕ) (s : List ℕ) (at : ℕ) → after (3 * suc n) s at ≡ after (3 * n) s (after 3 s at)
unfolding after
after_wire n s at = let e : 3 * suc n ≡ suc (suc (suc (3 * n))) = omega arith in ap (λ (k : ℕ). after k s at) e

from_wire : (n : ℕ) (s : List ℕ) (at : ℕ)
    → numbers_from (3 * suc n) s at ≡ number_at s at ∷ number_at s (next_at s at) ∷ number_at s (after 2 s at) ∷ numbers_from (3 * n) s (after 3 s at)
unfolding after numbers_from
from_wire n s at = let e : 3 * suc n ≡ suc (suc (suc (3 * n))) = omega arith in ap (λ (k : ℕ). numbers_from k s at) e

wires_from : (n : ℕ) (s : List ℕ) (at : ℕ)
    → each (wire_numbers (values_from (suc n) s at) (counts_from (suc n) s at)) (suc n)
    ≡ number_at s at ∷ number_at s (next_at s at) ∷ number_at s (after 2 s at)
    ∷ each (wire_numbers (values_from n s (after 3 s at)) (counts_from n s (after 3 s at))) n
wires_from n s at =
    ap₂ (λ (vs cs : List ℕ). each (wire_numbers vs cs) (suc n)) (values_more n s at) (counts_more n s at)
    ∙ wires_cons (number_at s at) (number_at s (next_at s at)) (number_at s (after 2 s at)) (values_from n s (after 3 s at)) (counts_from n s (after 3 s at)) n

-- the values and counts that are read, wire by wire, are the numbers that are read, one after the other
pub wires_are_numbers : (n : ℕ) (s : List ℕ) (at : ℕ) → each (wire_numbers (values_from n s at) (counts_from n s at)) n ≡ numbers_from (3 * n) s at
wires_are_numbers zero s at = each_none (wire_numbers (values_from 0 s at) (counts_from 0 s at)) ∙ sym (from_none s at)
wires_are_numbers (suc n) s at =
    wires_from n s at
    ∙ ap (λ (l : List ℕ). number_at s at ∷ number_at s (next_at s at) ∷ number_at s (after 2 s at) ∷ l) (wires_are_numbers n s (after 3 s at))
    ∙ sym (from_wire n s at)

-- what the answers say of wires, both ways

-- the three numbers of a wire, two elements and a count, stand from a place on
record WireStands (a b c : ℕ) (s : List ℕ) (at : ℕ) : Type 0 where
  stand : Stand (a ∷ b ∷ c ∷ []) s at (after 3 s at)
  first : a < p
  second : b < p
  count : c < u32

wire_of : (s : List ℕ) (at : ℕ) (vs : List ℕ) → wire_answer s at ≡ accepted vs → WireStands (number_at s at) (number_at s (next_at s at)) (number_at s (after 2 s at)) s at
unfolding wire_answer after numbers_from
wire_of s at vs e =
    let a = passed _ _ vs e in
    let f = numbers_of p s 2 at a.values a.first in
    let g = numbers_of u32 s 1 (after 2 s at) vs a.then in
    record { stand = (f.0.0, (f.0.1.0, (g.0.0, refl))); first = f.1.0; second = f.1.1.0; count = g.1.0 }

wire_pass : (a b c : ℕ) (s : List ℕ) (at : ℕ) → WireStands a b c s at → wire_answer s at ≡ accepted (0 ∷ after 3 s at ∷ [])
unfolding after
wire_pass a b c s at w =
    counted s at 0 (after 2 s at) _
    (numbers_pass p s (a ∷ b ∷ []) at (after 2 s at) (w.stand.0, (w.stand.1.0, refl)) (w.first, (w.second, tt)))
    (numbers_pass u32 s (c ∷ []) (after 2 s at) (after 3 s at) (w.stand.1.1.0, refl) (w.count, tt))

-- n wires from a place on are accepted: their numbers stand there, the values are elements, and the counts are below 2^32
pub record WiresFound (n : ℕ) (s : List ℕ) (at : ℕ) : Type 0 where
  pub stand : Stand (each (wire_numbers (values_from n s at) (counts_from n s at)) n) s at (after (3 * n) s at)
  pub elements : AllBelow p (values_from n s at)
  pub counts : AllBelow u32 (counts_from n s at)

pub wires_of_lem : (n : ℕ) (s : List ℕ) (at : ℕ) (vs : List ℕ) → wires_answer n s at ≡ accepted vs → WiresFound n s at
unfolding values_from counts_from
wires_of_lem zero s at vs e =
    record {
      stand = subst (λ (l : List ℕ). Stand l s at (after 0 s at)) (sym (each_none (wire_numbers [] []))) (sym (after_none s at));
      elements = tt;
      counts = tt;
    }
wires_of_lem (suc n) s at vs e =
    let b = passed _ _ vs (sym (wires_more s n at) ∙ e) in
    let w = wire_of s at b.values b.first in
    let r = wires_of_lem n s (after 3 s at) vs b.then in
    let a = number_at s at ∷ number_at s (next_at s at) ∷ number_at s (after 2 s at) ∷ [] in
    let l = each (wire_numbers (values_from n s (after 3 s at)) (counts_from n s (after 3 s at))) n in
    let j = stand_join a l s at (after 3 s at) (after (3 * n) s (after 3 s at)) w.stand r.stand in
    record {
      stand =
          subst (λ (k : ℕ). Stand (each (wire_numbers (values_from (suc n) s at) (counts_from (suc n) s at)) (suc n)) s at k) (sym (after_wire n s at))
          (subst (λ (l : List ℕ). Stand l s at (after (3 * n) s (after 3 s at))) (sym (wires_from n s at)) j);
      elements = subst (AllBelow p) (sym (values_more n s at)) (w.first, (w.second, r.elements));
      counts = subst (AllBelow u32) (sym (counts_more n s at)) (w.count, r.counts);
    }

-- wires whose numbers stand from a place on are read there
pub record WiresRead (n : ℕ) (vs cs s : List ℕ) (at end : ℕ) : Type 0 where
  pub values : values_from n s at ≡ vs
  pub counts : counts_from n s at ≡ cs
  pub answer : wires_answer n s at ≡ accepted (0 ∷ end ∷ [])

pub wires-read : (n : ℕ) (vs cs s : List ℕ) (at end : ℕ) → Stand (each (wire_numbers vs cs) n) s at end → length vs ≡ 2 * n → length cs ≡ n
    → AllBelow p vs → AllBelow u32 cs → WiresRead n vs cs s at end
unfolding values_from counts_from
wires-read zero [] [] s at end h lv lc bv bc =
    let e : at ≡ end = subst (λ (l : List ℕ). Stand l s at end) (each_none (wire_numbers [] [])) h in
    record { values = refl; counts = refl; answer = wires_none s at ∙ ap (λ (k : ℕ). accepted (0 ∷ k ∷ [])) e }
wires-read zero (v ∷ vs) cs s at end h lv lc bv bc = absurd (omega arith)
wires-read zero [] (c ∷ cs) s at end h lv lc bv bc = absurd (omega arith)
wires-read (suc n) [] cs s at end h lv lc bv bc = absurd (omega arith)
wires-read (suc n) (a ∷ []) cs s at end h lv lc bv bc = absurd (omega arith)
wires-read (suc n) (a ∷ b ∷ vs) [] s at end h lv lc bv bc = absurd (omega arith)
wires-read (suc n) (a ∷ b ∷ vs) (c ∷ cs) s at end h lv lc bv bc =
    let g = stand_split_at 3 (a ∷ b ∷ c ∷ []) (each (wire_numbers vs cs) n) s at (after 3 s at) end refl refl
    (subst (λ (l : List ℕ). Stand l s at end) (wires_cons a b c vs cs n) h) in
    let r = wires-read n vs cs s (after 3 s at) end g.1 (omega arith) (omega arith) bv.1.1 bc.1 in
    let w = wire_pass a b c s at (record { stand = g.0; first = bv.0; second = bv.1.0; count = bc.0 }) in
    let x = sym (number_is s at a (next_at s at) g.0.0) in
    let y = sym (number_is s (next_at s at) b (next_at s (next_at s at)) g.0.1.0) in
    let z = ap (number_at s) (after_two s at) ∙ sym (number_is s (next_at s (next_at s at)) c (next_at s (next_at s (next_at s at))) g.0.1.1.0) in
    record {
      values = values_more n s at ∙ rw (x, y, r.values);
      counts = counts_more n s at ∙ rw (z, r.counts);
      answer = wire_on s n at _ w ∙ r.answer;
    }

-- so wires that are accepted end where three numbers for each end
pub found_accepted : (n : ℕ) (s : List ℕ) (at : ℕ) → WiresFound n s at → Wires n s at
found_accepted n s at f =
    (wires-read n (values_from n s at) (counts_from n s at) s at (after (3 * n) s at) f.stand (values_length n s at) (counts-length n s at) f.elements f.counts).answer

pub wires_accepted : (n : ℕ) (s : List ℕ) (at : ℕ) (vs : List ℕ) → wires_answer n s at ≡ accepted vs → Wires n s at
wires_accepted n s at vs e = found_accepted n s at (wires_of_lem n s at vs e)
