-- Laws of `first_over` and `of_elements`: what a caller uses of them.
-- Assumes nothing.
use Rattle.std.proofs.Common.{◌≡◌, ℕ, zero, suc, ◌+◌, ◌-◌, ◌<◌, ◌≤◌, List, [], ◌∷◌, length, min, get_or, take, drop, Result, sym, refl, ap, ◌∙◌, ⊎_elim, arith, drop_of_length-le, drop-cons, le-ltb, lt-ltb}
use Rattle.std.proofs.Math.Seq.{take-length}
use lib.Seq.{take-nil}
use Rattle.refusal.specs.Told.{Told, accepted, refused, or_else}
use Rattle.refusal.specs.Refusal.{number_of, place_of, told}
use Rattle.refusal.specs.declared.Refusal.{Refusal}
use Rattle.refusal.proofs.Passing.{stops, passes}
use Rattle.std.specs.Result.{IsErr, IsErrAnd}
use Rattle.field.specs.Field.{p, first_over}
use Rattle.field.specs.Answer.{of_elements, felt_answer, cells_of, quad_answer}
use Rattle.field.specs.Pair.{Pair, pair, cells}
use Rattle.field.proofs.Cases.{below?}
use Rattle.refusal.proofs.Tellings.{clash, same_values}

pub over_here : (x : ℕ) (xs : List ℕ) → p ≤ x → first_over (x ∷ xs) ≡ 0
unfolding first_over
over_here x xs h = rw (le-ltb x p h)

pub over_later : (x : ℕ) (xs : List ℕ) → x < p → first_over (x ∷ xs) ≡ suc (first_over xs)
unfolding first_over
over_later x xs h = rw (lt-ltb x p h)

pub over_none : first_over [] ≡ 0
unfolding first_over
over_none = refl

-- it is what its comment says: at most the length; every number before it is an element, and it is none; the length where all are elements
pub over_most : (xs : List ℕ) → first_over xs ≤ length xs
over_most [] = omega (arith, over_none)
over_most (x ∷ xs) =
    ⊎_elim
    (λ l. omega (arith, over_later x xs l, over_most xs))
    (λ l. omega (arith, over_here x xs l))
    (below? x p)

pub over_below : (xs : List ℕ) (k : ℕ) → k < first_over xs → get_or xs k 0 < p
over_below [] k h = omega (arith, over_none)
over_below (x ∷ xs) zero h = ⊎_elim (λ l. l) (λ l. absurd (omega (arith, over_here x xs l))) (below? x p)
over_below (x ∷ xs) (suc k) h =
    ⊎_elim
    (λ l. over_below xs k (omega (arith, over_later x xs l)))
    (λ l. absurd (omega (arith, over_here x xs l)))
    (below? x p)

pub over_found : (xs : List ℕ) → first_over xs < length xs → p ≤ get_or xs (first_over xs) 0
over_found [] h = absurd (omega (arith, over_none))
over_found (x ∷ xs) h =
    ⊎_elim
    (λ l. rw (over_later x xs l) (over_found xs (omega (arith, over_later x xs l))))
    (λ l. rw (over_here x xs l) l)
    (below? x p)

pub over_all : (xs : List ℕ) → ((k : ℕ) → k < length xs → get_or xs k 0 < p) → first_over xs ≡ length xs
over_all [] h = over_none
over_all (x ∷ xs) h = over_later x xs (h 0 (omega arith)) ∙ ap suc (over_all xs (λ k l. h (suc k) (omega arith)))

pub refused_at : (xs : List ℕ) (t : Told) (r : ℕ) → r ≡ first_over xs → r < length xs → refused 7 r ≡ of_elements xs t
unfolding of_elements
refused_at xs t r e h =
    let l : first_over xs < length xs = omega arith in
    rw (lt-ltb (first_over xs) (length xs) l) (ap (λ (k : ℕ). refused 7 k) e)

pub of_elements_lem : (xs : List ℕ) (t : Told) → length xs ≤ first_over xs → of_elements xs t ≡ t
unfolding of_elements
of_elements_lem xs t h = rw (le-ltb (first_over xs) (length xs) h)

-- numbers looked at, and then what comes after
else_elements : (xs vs : List ℕ) (t : Told) → or_else (of_elements xs (accepted vs)) t ≡ of_elements xs t
else_elements xs vs t =
    ⊎_elim
    (λ l. ap (λ (y : Told). or_else y t) (sym (refused_at xs (accepted vs) (first_over xs) refl l)) ∙ refused_at xs t (first_over xs) refl l)
    (λ l. ap (λ (y : Told). or_else y t) (of_elements_lem xs (accepted vs) l) ∙ sym (of_elements_lem xs t l))
    (below? (first_over xs) (length xs))

pub elements_refused : {T : Type 0} (values : T → List ℕ) (r : Result T Refusal) (e : Refusal) (xs vs : List ℕ) (t : Told) → IsErr r × IsErrAnd r (λ y. y ≡ e) → refused (number_of e) (place_of e) ≡ of_elements xs (accepted vs) → told values r ≡ of_elements xs t
elements_refused values r e xs vs t h is = stops values r e _ t h is ∙ else_elements xs vs t

elements_same : (xs vs ws : List ℕ) → accepted vs ≡ of_elements xs (accepted ws) → vs ≡ ws
elements_same xs vs ws is =
    ⊎_elim
    (λ l. clash (refused_at xs (accepted ws) (first_over xs) refl l ∙ sym is))
    (λ l. same_values (is ∙ of_elements_lem xs (accepted ws) l))
    (below? (first_over xs) (length xs))

-- what is made of numbers that are elements
pub elements_passed : (make : List ℕ → List ℕ) (xs vs ws us : List ℕ) → accepted vs ≡ of_elements xs (accepted ws) → us ≡ make vs → accepted us ≡ of_elements xs (accepted (make ws))
elements_passed make xs vs ws us is e = ap accepted (e ∙ ap make (elements_same xs vs ws is)) ∙ passes vs _ _ is ∙ else_elements xs ws _

-- of two elements, and of two pairs of elements
pub felts_passed : (f : ℕ → ℕ → ℕ) (a b v x y : ℕ) (vs : List ℕ) → accepted vs ≡ of_elements (a ∷ b ∷ []) (accepted (a ∷ b ∷ [])) → v ≡ f (get_or vs 0 x) (get_or vs 1 y) → accepted (v ∷ []) ≡ felt_answer f a b
felts_passed f a b v x y vs is e = elements_passed (λ xs. f (get_or xs 0 x) (get_or xs 1 y) ∷ []) _ _ _ _ is (ap (λ (w : ℕ). w ∷ []) e)

pub pairs_passed : (f : Pair → Pair → Pair) (a b us : List ℕ) (h i j k : ℕ) (vs : List ℕ) → accepted vs ≡ of_elements (cells_of a b) (accepted (cells_of a b)) → us ≡ cells (f (pair (get_or vs 0 h) (get_or vs 1 i)) (pair (get_or vs 2 j) (get_or vs 3 k))) → accepted us ≡ quad_answer f a b
pairs_passed f a b us h i j k vs is e =
    elements_passed (λ xs. cells (f (pair (get_or xs 0 h) (get_or xs 1 i)) (pair (get_or xs 2 j) (get_or xs 3 k)))) _ _ _ _ is e

-- numbers of which nothing is refused are elements
pub elements_of : (xs vs : List ℕ) (t : Told) → of_elements xs t ≡ accepted vs → (k : ℕ) → k < length xs → get_or xs k 0 < p
elements_of xs vs t e k h =
    ⊎_elim
    (λ l. clash (refused_at xs t (first_over xs) refl l ∙ e))
    (λ l. over_below xs k (omega arith))
    (below? (first_over xs) (length xs))

-- a look at cells, one after the other
part_one : (xs : List ℕ) (at end : ℕ) → at < end → at < length xs → take (end - at) (drop at xs) ≡ get_or xs at 0 ∷ take (end - (at + 1)) (drop (at + 1) xs)
part_one xs at end h k =
    let e : end - at ≡ suc (end - (at + 1)) = omega arith in
    let f : at + 1 ≡ suc at = omega arith in
    rw (e, drop-cons xs at 0 (omega arith), f)

pub over_at : (xs : List ℕ) (at end : ℕ) → at < end → at < length xs → p ≤ get_or xs at 0 → at ≡ at + first_over (take (end - at) (drop at xs))
over_at xs at end h k l = rw (part_one xs at end h k) (omega (arith, over_here (get_or xs at 0) (take (end - (at + 1)) (drop (at + 1) xs)) l))

pub over_next : (xs : List ℕ) (at end : ℕ) → at < end → at < length xs → get_or xs at 0 < p
    → at + 1 + first_over (take (end - (at + 1)) (drop (at + 1) xs)) ≡ at + first_over (take (end - at) (drop at xs))
over_next xs at end h k l = rw (part_one xs at end h k) (omega (arith, over_later (get_or xs at 0) (take (end - (at + 1)) (drop (at + 1) xs)) l))

-- it ends at its end, or at the end of the cells
pub over_end : (xs : List ℕ) (at end : ℕ) → min end (length xs) ≤ at → at ≡ at + first_over (take (end - at) (drop at xs))
over_end xs at end h =
    ⊎_elim
    (λ (l : at < end). let k : length xs ≤ at = omega arith in rw (drop_of_length-le xs {i = at} k, take-nil) (omega (arith, over_none)))
    (λ (l : end ≤ at). let z : end - at ≡ 0 = omega arith in rw z (omega (arith, over_none)))
    (below? at end)

-- a look at all of the cells
pub over_whole : (xs : List ℕ) (r : ℕ) → r ≡ 0 + first_over (take (length xs - 0) xs) → r ≡ first_over xs
over_whole xs r e =
    let z : length xs - 0 ≡ length xs = omega arith in
    let t : take (length xs - 0) xs ≡ xs = rw z (take-length xs) in
    omega (arith, e, ap first_over t)
