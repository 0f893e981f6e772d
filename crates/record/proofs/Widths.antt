-- The bytes of numbers, one after the other, and how many they are.
-- Assumes nothing.
use mathlib.Core.Path.{◌≡◌, refl, sym, ap, ◌∙◌}
use mathlib.Core.List.{List, [], ◌∷◌, ◌++◌, append_assoc, append-nil}
use mathlib.Core.Logic.{⊎_elim}
use Prim.Native.Nat.{ℕ, zero, suc, ◌+◌, ◌*◌, ◌≤◌, ◌<◌}
use native.Mathlib.Numerals.{add-one}
use native.Mathlib.Omega.{arith}
use lib.ListN.{length, get_or, take, drop, length-append, length-take, take-append-drop}
use Rattle.std.specs.List.{sum_by}
use Rattle.std.proofs.lemmas.List.{take_more}
use Rattle.std.proofs.lemmas.List.Sums.{sum_by-cons}
use Rattle.field.specs.Lists.{each}
use Rattle.field.proofs.Cases.{below?}
use Rattle.field.proofs.Each.{each_none, each_more, each-length}
use Rattle.numbers.specs.Form.{bytes_of, width_of}
use Rattle.numbers.proofs.Groups.{width_counts, width_most}
use Rattle.record.specs.Bytes.{bytes_of_all, wire_numbers}

abbrev pub taken : List ℕ → ℕ
taken vs = length (bytes_of_all vs)

pub bytes_none : bytes_of_all [] ≡ []
unfolding bytes_of_all
bytes_none = refl

pub bytes_more : (v : ℕ) (vs : List ℕ) → bytes_of_all (v ∷ vs) ≡ bytes_of v ++ bytes_of_all vs
unfolding bytes_of_all
bytes_more v vs = refl

pub taken_none : taken [] ≡ 0
taken_none = ap length bytes_none

pub bytes_one : (v : ℕ) → bytes_of_all (v ∷ []) ≡ bytes_of v
unfolding bytes_of_all
bytes_one v = append-nil (bytes_of v)

pub bytes-append : (vs ws : List ℕ) → bytes_of_all (vs ++ ws) ≡ bytes_of_all vs ++ bytes_of_all ws
unfolding bytes_of_all
bytes-append [] ws = refl
bytes-append (v ∷ vs) ws = ap (λ (l : List ℕ). bytes_of v ++ l) (bytes-append vs ws) ∙ sym (append_assoc (bytes_of v) (bytes_of_all vs) (bytes_of_all ws))

pub taken_more : (v : ℕ) (vs : List ℕ) → taken (v ∷ vs) ≡ width_of v + taken vs
taken_more v vs = ap length (bytes_more v vs) ∙ length-append (bytes_of v) (bytes_of_all vs) ∙ ap (λ (n : ℕ). n + taken vs) (width_counts v)

pub taken_append : (vs ws : List ℕ) → taken (vs ++ ws) ≡ taken vs + taken ws
taken_append vs ws = ap length (bytes-append vs ws) ∙ length-append (bytes_of_all vs) (bytes_of_all ws)

-- the widths of numbers add up to their bytes, and are at most ten each
pub widths_taken : (vs : List ℕ) → sum_by width_of vs ≡ taken vs
widths_taken [] = sym taken_none
widths_taken (v ∷ vs) = omega (arith, sum_by-cons width_of v vs, widths_taken vs, taken_more v vs)

pub taken_most : (vs : List ℕ) → taken vs ≤ 10 * length vs
taken_most [] = omega (arith, taken_none)
taken_most (v ∷ vs) = omega (arith, taken_more v vs, width_most v, taken_most vs)

-- the first i of a list of numbers, and one more
module _ (numbers : List ℕ) where
  pub taken_next : (i : ℕ) → i < length numbers → taken (take (i + 1) numbers) ≡ taken (take i numbers) + width_of (get_or numbers i 0)
  taken_next i h =
      let v : ℕ = get_or numbers i 0 in
      omega (arith, ap taken (take_more numbers i 0 h), taken_append (take i numbers) (v ∷ []), taken_more v [], taken_none)

  pub taken_within : (i : ℕ) → taken (take i numbers) ≤ taken numbers
  taken_within i = omega (arith, ap taken (take-append-drop i numbers), taken_append (take i numbers) (drop i numbers))

-- wires, each by its three numbers
module _ (values counts : List ℕ) where
  abbrev pub wires_taken : ℕ → ℕ
  wires_taken k = taken (each (wire_numbers values counts) k)

  pub wires_taken_none : wires_taken 0 ≡ 0
  wires_taken_none = ap taken (each_none (wire_numbers values counts)) ∙ taken_none

  pub wires_next : (k : ℕ) → each (wire_numbers values counts) (k + 1) ≡ each (wire_numbers values counts) k ++ wire_numbers values counts k
  wires_next k = ap (each (wire_numbers values counts)) (add-one k) ∙ each_more (wire_numbers values counts) k

  pub wires_taken_next : (k : ℕ) → wires_taken (k + 1) ≡ wires_taken k + taken (wire_numbers values counts k)
  wires_taken_next k = ap taken (wires_next k) ∙ taken_append (each (wire_numbers values counts) k) (wire_numbers values counts k)

  pub wires_most : (k : ℕ) → wires_taken k ≤ 30 * k
  wires_most k = let vs = each (wire_numbers values counts) k in omega (arith, taken_most vs, each-length (wire_numbers values counts) 3 (λ j. refl) k)

  pub wires-within : (k n : ℕ) → k ≤ n → wires_taken k ≤ wires_taken n
  wires-within zero zero h = omega arith
  wires-within (suc k) zero h = absurd (omega arith)
  wires-within k (suc n) h =
      ⊎_elim
      (λ (l : k < suc n). let i = wires-within k n (omega arith) in omega (arith, wires_taken_next n, ap wires_taken (add-one n)))
      (λ (l : suc n ≤ k). let e : k ≡ suc n = omega arith in omega (arith, ap wires_taken e))
      (below? k (suc n))

-- wires that are handed as the first n alone
pub handed_most : (values counts : List ℕ) (n : ℕ) → taken (each (wire_numbers (take (2 * n) values) (take n counts)) (length (take n counts))) ≤ 30 * n
handed_most values counts n = omega (arith, wires_most (take (2 * n) values) (take n counts) (length (take n counts)), length-take n counts)
