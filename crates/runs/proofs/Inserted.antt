-- Entries in order after one is put in its place.
-- Assumes nothing.
use mathlib.Core.Path.{◌≡◌, refl, sym, ap, subst, ◌∙◌}
use mathlib.Core.Bool.{true, false, true≢false}
use mathlib.Core.List.{List, [], ◌∷◌}
use mathlib.Core.Logic.{⊎_elim, inl, inr}
use Prim.Native.Nat.{ℕ, suc, ◌+◌, ◌≤◌, ◌<◌}
use native.Mathlib.Omega.{arith}
use lib.ListN.{length}
use Rattle.runs.specs.declared.Entry.{Entry}
use Rattle.runs.specs.Entries.{rows_of, opens, in_order, total, has_clock, insert}
use Rattle.runs.proofs.Orders.{compare, first_of, first_is, order_nil, total_nil, total_cons, has_nil, has_here, has_later, has_none, insert_nil, insert_later, insert_same, insert-here}
use Rattle.runs.proofs.Among.{Among}
use Rattle.runs.proofs.Rising.{clock_after}

-- how many there are
pub length_same : (e : Entry) (es : List Entry) → has_clock e.clk es ≡ true → (least : ℕ) → in_order least es ≡ true → length (insert e es) ≡ length es
length_same e [] q least o = absurd (true≢false (sym q ∙ has_nil e.clk))
length_same e (x ∷ xs) q least o =
    let f = first_of least x xs o in
    ⊎_elim
    (λ (h : x.clk < e.clk). ap length (insert_later e x xs h) ∙ ap suc (length_same e xs (sym (has_later e.clk x xs (λ z. omega arith)) ∙ q) (suc x.clk) f.rest))
    (⊎_elim
    (λ (h : x.clk ≡ e.clk). ap length (insert_same e x xs h))
    (λ (h : e.clk < x.clk). absurd (true≢false (sym q ∙ has_later e.clk x xs (λ z. omega arith) ∙ has_none xs (suc x.clk) e.clk f.rest (omega arith)))))
    (compare x.clk e.clk)

pub length_more : (e : Entry) (es : List Entry) → has_clock e.clk es ≡ false → length (insert e es) ≡ suc (length es)
length_more e [] q = ap length (insert_nil e)
length_more e (x ∷ xs) q =
    ⊎_elim
    (λ (h : x.clk < e.clk). ap length (insert_later e x xs h) ∙ ap suc (length_more e xs (sym (has_later e.clk x xs (λ z. omega arith)) ∙ q)))
    (⊎_elim
    (λ (h : x.clk ≡ e.clk). absurd (true≢false (sym (has_here e.clk x xs h) ∙ q)))
    (λ (h : e.clk < x.clk). ap length (insert-here e x xs h)))
    (compare x.clk e.clk)

-- they are in order
pub insert_order : (e : Entry) (es : List Entry) (least : ℕ) → opens e ≡ true → least ≤ e.clk → in_order least es ≡ true → in_order least (insert e es) ≡ true
insert_order e [] least o h q = ap (in_order least) (insert_nil e) ∙ first_is least e [] (record { rises = h; counts = o; rest = order_nil (suc e.clk) })
insert_order e (x ∷ xs) least o h q =
    let f = first_of least x xs q in
    let r = f.rises in
    ⊎_elim
    (λ (k : x.clk < e.clk).
    ap (in_order least) (insert_later e x xs k)
    ∙ first_is least x (insert e xs) (record { rises = r; counts = f.counts; rest = insert_order e xs (suc x.clk) o (omega arith) f.rest }))
    (⊎_elim
    (λ (k : x.clk ≡ e.clk).
    ap (in_order least) (insert_same e x xs k)
    ∙ first_is least e xs (record { rises = h; counts = o; rest = ap (λ (n : ℕ). in_order (suc n) xs) (sym k) ∙ f.rest }))
    (λ (k : e.clk < x.clk).
    ap (in_order least) (insert-here e x xs k)
    ∙ first_is least e (x ∷ xs) (record {
      rises = h;
      counts = o;
      rest = first_is (suc e.clk) x xs (record { rises = omega arith; counts = f.counts; rest = f.rest });
    })))
    (compare x.clk e.clk)

-- which they are
to_insert : (x e : Entry) (es fs : List Entry) → insert e es ≡ fs → Among x fs → Among x (insert e es)
to_insert x e es fs q m = subst (Among x) (sym q) m

pub insert_in : (e : Entry) (es : List Entry) → Among e (insert e es)
insert_in e [] = to_insert e e [] (e ∷ []) (insert_nil e) (inl refl)
insert_in e (x ∷ xs) =
    ⊎_elim
    (λ (h : x.clk < e.clk). to_insert e e (x ∷ xs) (x ∷ insert e xs) (insert_later e x xs h) (inr (insert_in e xs)))
    (⊎_elim
    (λ (h : x.clk ≡ e.clk). to_insert e e (x ∷ xs) (e ∷ xs) (insert_same e x xs h) (inl refl))
    (λ (h : e.clk < x.clk). to_insert e e (x ∷ xs) (e ∷ x ∷ xs) (insert-here e x xs h) (inl refl)))
    (compare x.clk e.clk)

pub insert_keeps : (x e : Entry) (es : List Entry) → (x.clk ≡ e.clk → ⊥) → Among x es → Among x (insert e es)
insert_keeps x e [] n m = absurd m
insert_keeps x e (y ∷ ys) n m =
    ⊎_elim
    (λ (h : y.clk < e.clk).
    to_insert x e (y ∷ ys) (y ∷ insert e ys) (insert_later e y ys h)
    (⊎_elim (λ (q : x ≡ y). inl q) (λ (r : Among x ys). inr (insert_keeps x e ys n r)) m))
    (⊎_elim
    (λ (h : y.clk ≡ e.clk).
    to_insert x e (y ∷ ys) (e ∷ ys) (insert_same e y ys h)
    (⊎_elim (λ (q : x ≡ y). absurd (n (ap (λ (z : Entry). z.clk) q ∙ h))) (λ (r : Among x ys). inr r) m))
    (λ (h : e.clk < y.clk). to_insert x e (y ∷ ys) (e ∷ y ∷ ys) (insert-here e y ys h) (inr m)))
    (compare y.clk e.clk)

pub insert_back : (x e : Entry) (es : List Entry) → (x.clk ≡ e.clk → ⊥) → Among x (insert e es) → Among x es
insert_back x e [] n m =
    ⊎_elim (λ (q : x ≡ e). absurd (n (ap (λ (z : Entry). z.clk) q))) (λ (r : ⊥). r) (subst (Among x) (insert_nil e) m)
insert_back x e (y ∷ ys) n m =
    ⊎_elim
    (λ (h : y.clk < e.clk).
    ⊎_elim (λ (q : x ≡ y). inl q) (λ (r : Among x (insert e ys)). inr (insert_back x e ys n r)) (subst (Among x) (insert_later e y ys h) m))
    (⊎_elim
    (λ (h : y.clk ≡ e.clk).
    ⊎_elim (λ (q : x ≡ e). absurd (n (ap (λ (z : Entry). z.clk) q))) (λ (r : Among x ys). inr r) (subst (Among x) (insert_same e y ys h) m))
    (λ (h : e.clk < y.clk).
    ⊎_elim (λ (q : x ≡ e). absurd (n (ap (λ (z : Entry). z.clk) q))) (λ (r : Among x (y ∷ ys)). r) (subst (Among x) (insert-here e y ys h) m)))
    (compare y.clk e.clk)

-- how many rows they have
pub insert_total_new : (e : Entry) (es : List Entry) → has_clock e.clk es ≡ false → total (insert e es) ≡ total es + rows_of e
insert_total_new e [] q =
    let t = total_cons e [] in
    let z = total_nil in
    let s : total (e ∷ []) ≡ total [] + rows_of e = omega arith in
    ap total (insert_nil e) ∙ s
insert_total_new e (x ∷ xs) q =
    let t = total_cons x xs in
    ⊎_elim
    (λ (h : x.clk < e.clk).
    let i = insert_total_new e xs (sym (has_later e.clk x xs (λ z. omega arith)) ∙ q) in
    let u = total_cons x (insert e xs) in
    let s : total (x ∷ insert e xs) ≡ total (x ∷ xs) + rows_of e = omega arith in
    ap total (insert_later e x xs h) ∙ s)
    (⊎_elim
    (λ (h : x.clk ≡ e.clk). absurd (true≢false (sym (has_here e.clk x xs h) ∙ q)))
    (λ (h : e.clk < x.clk).
    let u = total_cons e (x ∷ xs) in
    let s : total (e ∷ x ∷ xs) ≡ total (x ∷ xs) + rows_of e = omega arith in
    ap total (insert-here e x xs h) ∙ s))
    (compare x.clk e.clk)

pub insert_total_same : (e x : Entry) (es : List Entry) (least : ℕ) → in_order least es ≡ true → Among x es → x.clk ≡ e.clk
    → total (insert e es) + rows_of x ≡ total es + rows_of e
insert_total_same e x [] least q m k = absurd m
insert_total_same e x (y ∷ ys) least q m k =
    let t = total_cons y ys in
    ⊎_elim
    (λ (w : x ≡ y).
    let u = total_cons e ys in
    let r : rows_of x ≡ rows_of y = ap rows_of w in
    let i = ap total (insert_same e y ys (ap (λ (z : Entry). z.clk) (sym w) ∙ k)) in
    omega arith)
    (λ (n : Among x ys).
    let h = clock_after y ys least x q n in
    let j = insert_total_same e x ys (suc y.clk) (first_of least y ys q).rest n k in
    let u = total_cons y (insert e ys) in
    let i = ap total (insert_later e y ys (omega arith)) in
    omega arith)
    m
