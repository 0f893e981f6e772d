-- Rows that are equal but for the cells of wire values: what it means, and how it is shown cell by cell.
-- Assumes nothing.
use mathlib.Core.Path.{◌≡◌, refl, sym, ap, ◌∙◌}
use mathlib.Core.Bool.{Bool, true, false, ◌&&◌, ◌||◌}
use mathlib.Core.List.{List, ◌∷◌}
use mathlib.Core.Logic.{⊎_elim}
use Prim.Native.Nat.{ℕ, zero, suc, ◌+◌, ◌-◌, ◌*◌, ◌/◌, ◌%◌, ◌≤◌, ◌<◌}
use native.Mathlib.Omega.{arith}
use lib.Dec.{leb, eqb}
use lib.ListN.{length, get_or, get_or-eq_default}
use borrow.Author.Tests.{le-leb}
use Rattle.field.specs.Pair.{Pair}
use Rattle.field.proofs.Cases.{below?}
use Rattle.refusal.proofs.Tellings.{true_not_false}
use Rattle.rows.specs.Rows.{row}
use Rattle.rows.specs.ByWire.{is_wire_value}

-- rows that are equal in every cell that is no wire value
pub record SameRows (num-read : ℕ) (first second : List ℕ) : Type 0 where
  pub same_length : length first ≡ length second
  pub same_cells : (k : ℕ) → is_wire_value num-read k ≡ false → get_or first k 0 ≡ get_or second k 0

-- row buffers that are equal in every cell but the wire values of the rows from an offset on
pub record SameBuffers (offset num-read num-eval : ℕ) (first second : List ℕ) : Type 0 where
  pub same_length : length first ≡ length second
  pub same_named : (k : ℕ) → k < 16 * (num-read + num-eval) → is_wire_value num-read k ≡ false → get_or first (16 * offset + k) 0 ≡ get_or second (16 * offset + k) 0
  pub same_before : (k : ℕ) → k < 16 * offset → get_or first k 0 ≡ get_or second k 0
  pub same_behind : (k : ℕ) → 16 * (offset + (num-read + num-eval)) ≤ k → get_or first k 0 ≡ get_or second k 0

-- which cell of a row is a wire value, of an EVAL row (true) or of a READ row (false)
abbrev pub hidden : Bool → ℕ → Bool
hidden evals j = (eqb j 7 || eqb j 8) || ((eqb j 10 || eqb j 11) || (evals && (eqb j 13 || eqb j 14)))

-- lists that are equal where a test of the place fails
pub record SameBut (hides : ℕ → Bool) (xs ys : List ℕ) : Type 0 where
  pub cell : (j : ℕ) → hides j ≡ false → get_or xs j 0 ≡ get_or ys j 0

module _ (hides : ℕ → Bool) (x y : ℕ) (xs ys : List ℕ) where
  pub shown : x ≡ y → SameBut (λ j. hides (suc j)) xs ys → SameBut hides (x ∷ xs) (y ∷ ys)
  shown e s = record { cell = at }
    where
      at : (j : ℕ) → hides j ≡ false → get_or (x ∷ xs) j 0 ≡ get_or (y ∷ ys) j 0
      at zero h = e
      at (suc j) h = s.cell j h

  pub unshown : hides 0 ≡ true → SameBut (λ j. hides (suc j)) xs ys → SameBut hides (x ∷ xs) (y ∷ ys)
  unshown e s = record { cell = at }
    where
      at : (j : ℕ) → hides j ≡ false → get_or (x ∷ xs) j 0 ≡ get_or (y ∷ ys) j 0
      at zero h = true_not_false (sym e ∙ h)
      at (suc j) h = s.cell j h

pub same_all : (hides : ℕ → Bool) (xs : List ℕ) → SameBut hides xs xs
same_all hides xs = record { cell = (λ j h. refl) }

-- a row: s_start, s_block, ctx, ptr, clk, eval_op and id_0, then v_0; id_1, then v_1; then its four last cells
pub row_same : (evals : Bool) (s-start s-block ctx ptr clk op oq id₀ id₁ jd₁ : ℕ) (v₀ w₀ v₁ w₁ : Pair) (xs ys : List ℕ) → op ≡ oq → id₁ ≡ jd₁
    → SameBut (λ j. hidden evals (suc (suc (suc (suc (suc (suc (suc (suc (suc (suc (suc (suc j))))))))))))) xs ys
    → SameBut (hidden evals) (row s-start s-block ctx ptr clk op id₀ v₀ id₁ v₁ xs) (row s-start s-block ctx ptr clk oq id₀ w₀ jd₁ w₁ ys)
row_same evals s-start s-block ctx ptr clk op oq id₀ id₁ jd₁ v₀ w₀ v₁ w₁ xs ys e f s =
    shown _ _ _ _ _ refl (shown _ _ _ _ _ refl (shown _ _ _ _ _ refl (shown _ _ _ _ _ refl (shown _ _ _ _ _ refl (shown _ _ _ _ _ e (shown _ _ _ _ _ refl
    (unshown _ _ _ _ _ refl (unshown _ _ _ _ _ refl
    (shown _ _ _ _ _ f
    (unshown _ _ _ _ _ refl (unshown _ _ _ _ _ refl
    s)))))))))))

-- two lists of rows, by row and cell
pub by_row : (num-read num-eval : ℕ) (xs ys : List ℕ) → length xs ≡ 16 * (num-read + num-eval) → length ys ≡ 16 * (num-read + num-eval)
    → ((i j : ℕ) → i < num-read → j < 16 → hidden (leb (16 * num-read) (16 * i + j)) j ≡ false → get_or xs (16 * i + j) 0 ≡ get_or ys (16 * i + j) 0)
    → ((k j : ℕ) → k < num-eval → j < 16 → hidden true j ≡ false → get_or xs (16 * (num-read + k) + j) 0 ≡ get_or ys (16 * (num-read + k) + j) 0)
    → SameRows num-read xs ys
by_row num-read num-eval xs ys lx ly reads evals = record { same_length = lx ∙ sym ly; same_cells = cell }
  where
    past : (k : ℕ) → 16 * (num-read + num-eval) ≤ k → get_or xs k 0 ≡ get_or ys k 0
    past k m = get_or-eq_default xs 0 (omega arith) ∙ sym (get_or-eq_default ys 0 (omega arith))

    of-read : (k : ℕ) → k / 16 < num-read → is_wire_value num-read k ≡ false → get_or xs k 0 ≡ get_or ys k 0
    of-read k l h =
        let e : 16 * (k / 16) + k % 16 ≡ k = omega arith in
        let s = reads (k / 16) (k % 16) l (omega arith) (ap (λ (i : ℕ). hidden (leb (16 * num-read) i) (k % 16)) e ∙ h) in
        ap (λ (i : ℕ). get_or xs i 0) (sym e) ∙ s ∙ ap (λ (i : ℕ). get_or ys i 0) e

    of-eval : (k : ℕ) → num-read ≤ k / 16 → k / 16 < num-read + num-eval → is_wire_value num-read k ≡ false → get_or xs k 0 ≡ get_or ys k 0
    of-eval k l m h =
        let e : 16 * (num-read + (k / 16 - num-read)) + k % 16 ≡ k = omega arith in
        let t : leb (16 * num-read) k ≡ true = le-leb (16 * num-read) k (omega arith) in
        let s = evals (k / 16 - num-read) (k % 16) (omega arith) (omega arith) (ap (λ (q : Bool). hidden q (k % 16)) (sym t) ∙ h) in
        ap (λ (i : ℕ). get_or xs i 0) (sym e) ∙ s ∙ ap (λ (i : ℕ). get_or ys i 0) e

    cell : (k : ℕ) → is_wire_value num-read k ≡ false → get_or xs k 0 ≡ get_or ys k 0
    cell k h =
        ⊎_elim
        (λ l. of-read k l h)
        (λ l. ⊎_elim (λ m. of-eval k l m h) (λ m. past k (omega arith)) (below? (k / 16) (num-read + num-eval)))
        (below? (k / 16) num-read)
