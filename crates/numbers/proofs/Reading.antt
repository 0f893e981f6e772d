-- What holds in the loop of `read`.
-- Assumes nothing.
use Prim.Native.Nat.{ℕ, suc, ◌+◌, ◌-◌, ◌*◌, ◌^◌, ◌≤◌, ◌<◌}
use mathlib.Core.Path.{◌≡◌, refl, sym, ap, ap₂, ◌∙◌}
use mathlib.Core.Logic.{⊎_elim}
use mathlib.Core.Bool.{Bool, true, false}
use mathlib.Core.List.{List, ◌∷◌}
use native.Mathlib.Nat.{add-mul, mul_comm, mul_assoc, mul-le-mul_right}
use native.Mathlib.Numerals.{add-one}
use native.Mathlib.Omega.{arith}
use lib.ListN.{length, get_or, drop, drop_of_length-le}
use lib.Pow.{pow-add, pow_mono}
use lib.Seq.{drop-cons, drop-drop}
use Rattle.numbers.specs.Answer.{found_at, read_answer}
use Rattle.field.proofs.Cases.{below?}
use Rattle.numbers.specs.Form.{Found, found, cut_off, not_shortest, under, ill_formed, find_from}
use Rattle.numbers.proofs.Finding.{WellFormed, in_good_form, find_end, find_ill, find_last, find_more}

-- what is found, where value is read from the first n bytes, and what is found after them counts in units of scale
abbrev pub join : ℕ → ℕ → ℕ → Found → Found
join value scale n (found v k) = found (value + v * scale) (n + k)
join value scale n cut_off = cut_off
join value scale n not_shortest = not_shortest

join_under : (value scale n b : ℕ) (g : Found) → join value scale n (under b g) ≡ join (value + (b - 128) * scale) (scale * 128) (n + 1) g
join_under value scale n b (found v k) =
    let p : (b - 128 + 128 * v) * scale ≡ (b - 128) * scale + 128 * v * scale = add-mul (b - 128) (128 * v) scale in
    let q : 128 * v * scale ≡ v * (scale * 128) = mul_assoc 128 v scale ∙ mul_comm 128 (v * scale) ∙ mul_assoc v scale 128 in
    ap₂ found (omega (arith, p, q)) (omega arith)
join_under value scale n b cut_off = refl
join_under value scale n b not_shortest = refl

join_start : (g : Found) → join 0 1 0 g ≡ g
join_start (found v k) = ap₂ found (omega arith) (omega arith)
join_start cut_off = refl
join_start not_shortest = refl

-- the first n bytes are read, and none of them is the last
pub record Reading (t : List ℕ) (value scale n : ℕ) : Type 0 where
  pub most : n ≤ 9
  pub unit : scale ≡ 2 ^ (7 * n)
  pub low : value < scale
  pub rest : join value scale n (find_from n (drop n t)) ≡ find_from 0 t

pub reading_start : (t : List ℕ) (n : ℕ) → n ≡ 0 → Reading t 0 1 n
reading_start t n e =
    record {
      most = omega arith;
      unit = ap (λ (k : ℕ). 2 ^ (7 * k)) (sym e);
      low = omega arith;
      rest = ap (λ (k : ℕ). join 0 1 k (find_from k (drop k t))) e ∙ join_start (find_from 0 t);
    }

module _ {t : List ℕ} {value scale n : ℕ} (r : Reading t value scale n) where
  -- the bytes end
  pub read_short : length t ≤ n → cut_off ≡ find_from 0 t
  read_short h = ap (join value scale n) (sym (find_end n) ∙ ap (find_from n) (sym (drop_of_length-le t h))) ∙ r.rest

  units : n < 9 → scale ≤ 2 ^ 56
  units l = let p : 2 ^ (7 * n) ≤ 2 ^ 56 = pow_mono {j = 56} (omega arith) in omega (arith, r.unit)

  tenth : 9 ≤ n → scale ≡ 2 ^ 63
  tenth l = let e : n ≡ 9 = omega (arith, r.most) in r.unit ∙ ap (λ (k : ℕ). 2 ^ (7 * k)) e

  head : {b : ℕ} {rest : List ℕ} → drop n t ≡ b ∷ rest → (g : Found) → find_from n (b ∷ rest) ≡ g → join value scale n g ≡ find_from 0 t
  head h g e = ap (join value scale n) (sym e ∙ ap (find_from n) (sym h)) ∙ r.rest

-- b is the next byte, which is in no good form
pub read_ill : {t : List ℕ} {value scale n b : ℕ} → Reading t value scale n → drop n t ≡ b ∷ drop (n + 1) t → ill_formed n b ≡ true → not_shortest ≡ find_from 0 t
read_ill {t} {value} {scale} {n} {b} r h e = head r h not_shortest (find_ill n b (drop (n + 1) t) e)

-- it is in good form
pub record Passed (t : List ℕ) (value scale n b : ℕ) : Type 0 where
  pub reading : Reading t value scale n
  pub next : drop n t ≡ b ∷ drop (n + 1) t
  pub byte : b < 256
  pub good : ill_formed n b ≡ false

module _ {t : List ℕ} {value scale n b : ℕ} (p : Passed t value scale n b) where
  well : WellFormed n b
  well = in_good_form n b p.good

  -- it is the last
  pub last_fits : b < 128 → value + b * scale < 2 ^ 64
  last_fits h =
      let r = p.reading in
      ⊎_elim
      (λ l. omega (arith, units r l, r.low, mul-le-mul_right {m = b} {n = 127} scale (omega arith)))
      (λ l. omega (arith, tenth r l, r.low, mul-le-mul_right {m = b} {n = 1} scale (well.tenth (omega (arith, r.most)))))
      (below? n 9)

  pub read_last : b < 128 → found (value + b * scale) (n + 1) ≡ find_from 0 t
  read_last l = head p.reading p.next (found b 1) (find_last n b (drop (n + 1) t) p.good l)

  -- it is not the last
  not-tenth : 128 ≤ b → n < 9
  not-tenth h = ⊎_elim (λ l. l) (λ l. absurd (omega (arith, well.tenth (omega (arith, p.reading.most))))) (below? n 9)

  pub unit_fits : 128 ≤ b → scale * 128 ≤ 2 ^ 63
  unit_fits h = omega (arith, units p.reading (not-tenth h))

  pub more_fits : 128 ≤ b → value + (b - 128) * scale < scale * 128
  more_fits l = omega (arith, p.byte, p.reading.low, mul-le-mul_right {m = b - 128} {n = 127} scale (omega (arith, p.byte)))

  pub read_next : (m : ℕ) → m ≡ n + 1 → 128 ≤ b → Reading t (value + (b - 128) * scale) (scale * 128) m
  read_next m e l =
      let k : 7 * m ≡ 7 * n + 7 = omega arith in
      let u : 2 ^ (7 * m) ≡ 2 ^ (7 * n) * 128 = ap (λ (j : ℕ). 2 ^ j) k ∙ pow-add 2 (7 * n) 7 in
      let f : find_from n (b ∷ drop (n + 1) t) ≡ under b (find_from (n + 1) (drop (n + 1) t)) =
      find_more n b (drop (n + 1) t) p.good l ∙ ap (λ (j : ℕ). under b (find_from j (drop (n + 1) t))) (sym (add-one n)) in
      record {
        most = omega (arith, not-tenth l);
        unit = omega (arith, p.reading.unit, u);
        low = more_fits l;
        rest =
            ap (λ (j : ℕ). join (value + (b - 128) * scale) (scale * 128) j (find_from j (drop j t))) e
            ∙ sym (join_under value scale n b (find_from (n + 1) (drop (n + 1) t)))
            ∙ head p.reading p.next (under b (find_from (n + 1) (drop (n + 1) t))) f;
      }

-- the byte at i, of those from at on
pub next_byte : (s : List ℕ) (at i : ℕ) → at ≤ i → i < length s → drop (i - at) (drop at s) ≡ get_or s i 0 ∷ drop (i - at + 1) (drop at s)
next_byte s at i h l =
    let here : at + (i - at) ≡ i = omega arith in
    let next : suc i ≡ at + (i - at + 1) = omega arith in
    drop-drop (i - at) at s
    ∙ ap (λ (k : ℕ). drop k s) here
    ∙ drop-cons s i 0 l
    ∙ ap (λ (r : List ℕ). get_or s i 0 ∷ r) (ap (λ (k : ℕ). drop k s) next ∙ sym (drop-drop (i - at + 1) at s))

pub byte_passed : (s : List ℕ) (at i : ℕ) {value scale : ℕ} {bad : Bool} → Reading (drop at s) value scale (i - at) → at ≤ i → i < length s → get_or s i 0 < 256
    → bad ≡ ill_formed (i - at) (get_or s i 0) → bad ≡ false → Passed (drop at s) value scale (i - at) (get_or s i 0)
byte_passed s at i r h l k e is = record { reading = r; next = next_byte s at i h l; byte = k; good = sym e ∙ is }

pub answer_from : (s : List ℕ) (at : ℕ) {g : Found} → g ≡ find_from 0 (drop at s) → found_at at g ≡ read_answer s at
unfolding read_answer
answer_from s at e = ap (found_at at) e
