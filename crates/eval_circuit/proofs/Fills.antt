-- Stores into a list whose first cells are already made: the next ones, and a count that is raised.
-- Assumes nothing.
use mathlib.Core.Path.{◌≡◌, refl, sym, ap, ap₂, ◌∙◌}
use mathlib.Core.List.{List, [], ◌∷◌, ◌++◌}
use Prim.Native.Nat.{ℕ, suc, ◌+◌, ◌*◌, ◌≤◌, ◌<◌}
use native.Mathlib.Nat.{mul-suc}
use native.Mathlib.Omega.{arith}
use lib.ListN.{length, get_or, set, drop, length-set, get_or-append}
use lib.Seq.{sets, sets-eq, take_at, drop-append-add, drop-drop, ext_get_or, set-append_left}
use Rattle.trace.specs.Eval.{raised}
use Rattle.trace.specs.Calls.{names}
use Rattle.trace.proofs.Stores.{raised_at}
use Rattle.field.specs.Lists.{each}
use Rattle.field.proofs.Each.{each_more, each-length, each_at, front_length}

-- the next cells, where the first n are made
pub fills : (front old vs : List ℕ) (n : ℕ) → length front ≡ n → n + length vs ≤ length old
    → sets (front ++ drop n old) n vs ≡ front ++ vs ++ drop (n + length vs) old
fills front old vs n e h =
    sets-eq vs (front ++ drop n old) n (omega (arith, front_length front old n e (omega arith)))
    ∙ ap₂ (λ (x y : List ℕ). x ++ vs ++ y)
    (take_at front (drop n old) n e)
    (ap (λ (k : ℕ). drop (k + length vs) (front ++ drop n old)) (sym e) ∙ drop-append-add front (drop n old) (length vs) ∙ drop-drop (length vs) n old)

-- the next part of lists of one width
pub each_fills : (f : ℕ → List ℕ) (width : ℕ) → ((k : ℕ) → length (f k) ≡ width) → (n : ℕ) (old : List ℕ) → width * n + width ≤ length old
    → sets (each f n ++ drop (width * n) old) (width * n) (f n) ≡ each f (suc n) ++ drop (width * suc n) old
each_fills f width wide n old h =
    let w = wide n in
    fills (each f n) old (f n) (width * n) (each-length f width wide n) (omega arith)
    ∙ ap₂ (λ (x : List ℕ) (k : ℕ). x ++ drop k old) (sym (each_more f n)) (ap (λ (k : ℕ). width * n + k) w ∙ sym (mul-suc width n))

-- a count of those that are made
pub each-raised : (f : ℕ → ℕ) (n k : ℕ) (rest : List ℕ) → k < n
    → raised k (each (λ j. f j ∷ []) n ++ rest) ≡ each (λ j. (f j + names k j) ∷ []) n ++ rest
each-raised f n k rest h =
    let l = each-length (λ j. f j ∷ []) 1 (λ j. refl) n in
    let l' = each-length (λ j. (f j + names k j) ∷ []) 1 (λ j. refl) n in
    ap (λ (v : ℕ). set (each (λ j. f j ∷ []) n ++ rest) k (v + 1)) (get_or-append (each (λ j. f j ∷ []) n) rest 0 k (omega arith))
    ∙ set-append_left (each (λ j. f j ∷ []) n) rest k _ (omega arith)
    ∙ ap (λ (x : List ℕ). x ++ rest)
    (ext_get_or 0 (raised k (each (λ j. f j ∷ []) n)) (each (λ j. (f j + names k j) ∷ []) n)
    (length-set (each (λ j. f j ∷ []) n) k _ ∙ l ∙ sym l')
    (λ i hi.
    let m : i < n = omega (arith, length-set (each (λ j. f j ∷ []) n) k (get_or (each (λ j. f j ∷ []) n) k 0 + 1)) in
    raised_at (each (λ j. f j ∷ []) n) k i (omega arith)
    ∙ ap (λ (v : ℕ). v + names k i) (one_at f n i m)
    ∙ sym (one_at (λ j. f j + names k j) n i m)))
  where
    one_at : (g : ℕ → ℕ) (n i : ℕ) → i < n → get_or (each (λ j. g j ∷ []) n) i 0 ≡ g i
    one_at g n i m =
        let e : i ≡ 1 * i + 0 = omega arith in
        ap (λ (x : ℕ). get_or (each (λ j. g j ∷ []) n) x 0) e ∙ each_at (λ j. g j ∷ []) 1 (λ j. refl) n i 0 m (omega arith)
