-- The cells that a record uses: they alone tell its numbers.
-- Assumes nothing.
use Prim.Native.Nat.{ℕ, zero, suc, ◌+◌, ◌*◌, ◌≤◌}
use mathlib.Core.Path.{◌≡◌, refl, sym, ap, ap₂, ◌∙◌}
use mathlib.Core.List.{List, [], ◌∷◌, ◌++◌}
use native.Mathlib.Nat.{zero-add, suc-add}
use native.Mathlib.Omega.{arith}
use lib.ListN.{length, take, drop}
use lib.Seq.{sets, sets-eq, take-take, take-nil, take_at, drop_at, take_all}
use Rattle.field.specs.Lists.{each}
use Rattle.trace.specs.declared.RecordHeader.{RecordHeader}
use Rattle.trace.specs.Outcome.{Lent, lent}
use Rattle.trace.specs.Record.{record_wires, record_cells}
use Rattle.record.specs.Bytes.{wire_numbers, record_numbers}
use Rattle.record.proofs.WireList.{wires-used}

-- the value cells, the counts and the node cells that a record uses
abbrev pub used : RecordHeader → Lent → Lent
used h b = lent (take (2 * record_wires h) b.values) (take (record_wires h) b.counts) (take (record_cells h) b.nodes)

-- a record's numbers, from its fields and lists
abbrev pub laid : ℕ → ℕ → ℕ → ℕ → List ℕ → ℕ → ℕ → List ℕ → ℕ → List ℕ → List ℕ
laid ctx clk id n wire-list declared reads read-cells evals eval_cells_lem =
    (ctx ∷ clk ∷ id ∷ n ∷ wire-list) ++ ((declared ∷ reads ∷ read-cells) ++ (evals ∷ eval_cells_lem))

pub laid_equal : {ctx clk id n d r e ctx' clk' id' n' d' r' e' : ℕ} {ws rc ec ws' rc' ec' : List ℕ}
    → ctx ≡ ctx' → clk ≡ clk' → id ≡ id' → n ≡ n' → ws ≡ ws' → d ≡ d' → r ≡ r' → rc ≡ rc' → e ≡ e' → ec ≡ ec'
    → laid ctx clk id n ws d r rc e ec ≡ laid ctx' clk' id' n' ws' d' r' rc' e' ec'
laid_equal p₁ p₂ p₃ p₄ p₅ p₆ p₇ p₈ p₉ p₁₀ = rw (p₁, p₂, p₃, p₄, p₅, p₆, p₇, p₈, p₉, p₁₀)

drop-take : (n m : ℕ) (l : List ℕ) → drop n (take (n + m) l) ≡ take m (drop n l)
drop-take zero m l = ap (λ (k : ℕ). take k l) (zero-add m)
drop-take (suc n) m [] = ap (drop (suc n)) (take-nil (suc n + m)) ∙ sym (take-nil m)
drop-take (suc n) m (x ∷ xs) = ap (λ (k : ℕ). drop (suc n) (take k (x ∷ xs))) (suc-add n m) ∙ drop-take n m xs

-- the first n of n and m cells, and the m behind them, among the first n + m of a list
first_cells : (n m : ℕ) (l : List ℕ) → take n (take (n + m) l) ≡ take n l
first_cells n m l = take-take n (n + m) l (omega arith)

last_cells : (n m : ℕ) (l : List ℕ) → take m (drop n (take (n + m) l)) ≡ take m (drop n l)
last_cells n m l = ap (take m) (drop-take n m l) ∙ take-take m m (drop n l) (omega arith)

pub used_numbers : (h : RecordHeader) (b : Lent) → record_numbers h (used h b) ≡ record_numbers h b
used_numbers h b =
    let r = 7 * h.num_read in
    let e = 11 * h.num_eval in
    laid_equal refl refl refl refl
    (wires-used b.values b.counts (record_wires h))
    refl refl
    (first_cells r e b.nodes)
    refl
    (last_cells r e b.nodes)

-- the numbers of a record whose used cells are known
pub held_numbers : (h : RecordHeader) (b : Lent) (vs cs rc ec : List ℕ) → used h b ≡ lent vs cs (rc ++ ec) → length rc ≡ 7 * h.num_read → length ec ≡ 11 * h.num_eval
    → record_numbers h b ≡ laid h.ctx h.clk h.id_next (record_wires h) (each (wire_numbers vs cs) (record_wires h)) (record_wires h) h.num_read rc h.num_eval ec
held_numbers h b vs cs rc ec u lr le =
    sym (used_numbers h b)
    ∙ ap (record_numbers h) u
    ∙ ap₂ (λ (x y : List ℕ). laid h.ctx h.clk h.id_next (record_wires h) (each (wire_numbers vs cs) (record_wires h)) (record_wires h) h.num_read x h.num_eval y)
    (take_at rc ec (7 * h.num_read) lr)
    (ap (take (11 * h.num_eval)) (drop_at rc ec (7 * h.num_read) lr) ∙ take_all (11 * h.num_eval) ec (omega arith))

-- cells put in the place of a list's first
pub front_set : (n : ℕ) (vs l : List ℕ) → length vs ≡ n → n ≤ length l → sets l 0 vs ≡ vs ++ drop n l
front_set n vs l e h =
    let q : 0 + length vs ≡ n = omega arith in
    sets-eq vs l 0 (omega arith) ∙ ap (λ (k : ℕ). vs ++ drop k l) q

pub front_taken : (n : ℕ) (vs l : List ℕ) → length vs ≡ n → n ≤ length l → take n (sets l 0 vs) ≡ vs
front_taken n vs l e h = ap (take n) (front_set n vs l e h) ∙ take_at vs (drop n l) n e
