-- Numbers in threes and entries: each gives the other back, and each is known from its places.
-- Assumes nothing.
use Rattle.std.proofs.Common.{◌≡◌, refl, sym, ap, ap₂, ◌∙◌, List, [], ◌∷◌, ◌++◌, ℕ, zero, suc, ◌+◌, ◌*◌, ◌≤◌, ◌<◌, length, get_or, arith}
use mathlib.Core.List.{append-nil}
use lib.ListN.{set, drop, drop_of_length-le}
use lib.Seq.{sets, sets-eq, drop-cons}
use Rattle.runs.specs.declared.Entry.{Entry}
use Rattle.ace_c.specs.Lists.{entry_by, entries_of, threes_of}

pub entries_of_threes : (es : List Entry) → entries_of (threes_of es) ≡ es
unfolding entries_of threes_of
entries_of_threes [] = refl
entries_of_threes (e ∷ es) = ap (λ (r : List Entry). e ∷ r) (entries_of_threes es)

pub threes_of_entries : (n : ℕ) (xs : List ℕ) → length xs ≡ 3 * n → threes_of (entries_of xs) ≡ xs
unfolding entries_of threes_of
threes_of_entries n [] h = refl
threes_of_entries n (a ∷ []) h = absurd (omega arith)
threes_of_entries n (a ∷ b ∷ []) h = absurd (omega arith)
threes_of_entries zero (a ∷ b ∷ c ∷ xs) h = absurd (omega arith)
threes_of_entries (suc n) (a ∷ b ∷ c ∷ xs) h = ap (λ (r : List ℕ). a ∷ b ∷ c ∷ r) (threes_of_entries n xs (omega arith))

abbrev pub no_entry : Entry
no_entry = entry_by 0 0 0

abbrev entry_at : List ℕ → ℕ → Entry
entry_at xs i = entry_by (get_or xs (3 * i) 0) (get_or xs (3 * i + 1) 0) (get_or xs (3 * i + 2) 0)

next_entry : (a b c : ℕ) (xs : List ℕ) (i : ℕ) → entry_at (a ∷ b ∷ c ∷ xs) (suc i) ≡ entry_at xs i
next_entry a b c xs i =
    let e₀ : 3 * suc i ≡ suc (suc (suc (3 * i))) = omega arith in
    let e₁ : 3 * suc i + 1 ≡ suc (suc (suc (3 * i + 1))) = omega arith in
    let e₂ : 3 * suc i + 2 ≡ suc (suc (suc (3 * i + 2))) = omega arith in
    rw (e₁, e₂, e₀)

pub entries_at : (n : ℕ) (xs : List ℕ) (es : List Entry) → length xs ≡ 3 * n → length es ≡ n → ((i : ℕ) → i < n → get_or es i no_entry ≡ entry_at xs i) → es ≡ entries_of xs
unfolding entries_of
entries_at zero [] [] l k at = refl
entries_at zero [] (e ∷ es) l k at = absurd (omega arith)
entries_at zero (a ∷ xs) es l k at = absurd (omega arith)
entries_at (suc n) [] es l k at = absurd (omega arith)
entries_at (suc n) (a ∷ []) es l k at = absurd (omega arith)
entries_at (suc n) (a ∷ b ∷ []) es l k at = absurd (omega arith)
entries_at (suc n) (a ∷ b ∷ c ∷ xs) [] l k at = absurd (omega arith)
entries_at (suc n) (a ∷ b ∷ c ∷ xs) (e ∷ es) l k at =
    ap₂ ◌∷◌ (at 0 (omega arith)) (entries_at n xs es (omega arith) (omega arith) (λ i h. at (suc i) (omega arith) ∙ next_entry a b c xs i))

length_threes : (es : List Entry) → length (threes_of es) ≡ 3 * length es
unfolding threes_of
length_threes [] = refl
length_threes (e ∷ es) = let i = length_threes es in omega arith

-- the numbers of the first i entries stand, and those of the rest are stored next
pub record Written (es : List Entry) (xs : List ℕ) (i : ℕ) : Type 0 where
  pub within : i ≤ length es
  pub left : sets xs (3 * i) (threes_of (drop i es)) ≡ threes_of es

pub written_start : (es : List Entry) (xs : List ℕ) → length xs ≡ 3 * length es → Written es xs 0
written_start es xs l =
    let n = length_threes es in
    record {
      within = omega arith;
      left =
          sets-eq (threes_of es) xs 0 (omega arith)
          ∙ ap (λ (r : List ℕ). threes_of es ++ r) (drop_of_length-le xs {i = 0 + length (threes_of es)} (omega arith))
          ∙ append-nil (threes_of es);
    }

abbrev stored : List ℕ → ℕ → Entry → List ℕ
stored xs k e = set (set (set xs k e.clk) (k + 1) e.num_read) (k + 2) e.num_eval

three-stored : (xs : List ℕ) (k : ℕ) (e : Entry) (es : List Entry) → sets xs k (threes_of (e ∷ es)) ≡ sets (stored xs k e) (k + 3) (threes_of es)
unfolding threes_of
three-stored xs k e es =
    let e₁ : k + 1 ≡ suc k = omega arith in
    let e₂ : k + 2 ≡ suc (suc k) = omega arith in
    let e₃ : k + 3 ≡ suc (suc (suc k)) = omega arith in
    rw (e₁, e₂, e₃)

pub written_next : (es : List Entry) (xs : List ℕ) (i : ℕ) → Written es xs i → i < length es → Written es (stored xs (3 * i) (get_or es i no_entry)) (i + 1)
written_next es xs i w h =
    let e = get_or es i no_entry in
    let s : i + 1 ≡ suc i = omega arith in
    let t : 3 * (i + 1) ≡ 3 * i + 3 = omega arith in
    record {
      within = omega arith;
      left =
          ap₂ (λ (j k : ℕ). sets (stored xs (3 * i) e) k (threes_of (drop j es))) s t
          ∙ sym (three-stored xs (3 * i) e (drop (suc i) es))
          ∙ ap (λ (r : List Entry). sets xs (3 * i) (threes_of r)) (sym (drop-cons es i no_entry h))
          ∙ w.left;
    }

no_numbers_left : threes_of [] ≡ []
unfolding threes_of
no_numbers_left = refl

pub written_all : (es : List Entry) (xs : List ℕ) (i : ℕ) → Written es xs i → length es ≤ i → xs ≡ threes_of es
written_all es xs i w h =
    ap (sets xs (3 * i)) (sym (ap threes_of (drop_of_length-le es {i = i} h) ∙ no_numbers_left)) ∙ w.left
