-- What is read or written ends inside the bytes.
-- Assumes nothing.
use Prim.Native.Nat.{ℕ, suc, ◌+◌, ◌≤◌}
use mathlib.Core.Path.{◌≡◌, refl, sym, ap, ◌∙◌}
use mathlib.Core.Logic.{⊎_elim}
use mathlib.Core.Bool.{Bool, true, false}
use mathlib.Core.List.{List, [], ◌∷◌}
use native.Mathlib.Omega.{arith}
use lib.ListN.{length, drop, length-drop}
use Rattle.refusal.specs.Told.{accepted, refused}
use Rattle.field.proofs.Cases.{below?}
use Rattle.refusal.proofs.Tellings.{clash}
use Rattle.numbers.specs.Form.{Found, found, cut_off, not_shortest, under, width_of, ill_formed, find_from}
use Rattle.numbers.specs.Answer.{found_at, read_answer, write_answer}
use Rattle.numbers.proofs.Finding.{find_end, find_ill, find_last, find_more}
use Rattle.numbers.proofs.Writing.{room_answer, no_room_answer}

not_found : {A : Type 0} {number place v m : ℕ} {f : Found} → found_at 0 f ≡ refused number place → f ≡ found v m → A
not_found q e = clash (sym q ∙ ap (found_at 0) e)

-- a number takes bytes that are there
found_within : (n : ℕ) (s : List ℕ) (v m : ℕ) → find_from n s ≡ found v m → m ≤ length s
found_within n [] v m e = not_found refl (sym (find_end n) ∙ e)
found_within n (b ∷ s) v m e = go (found_within (suc n) s) (ill_formed n b) refl
  where
    more : ((w k : ℕ) → find_from (suc n) s ≡ found w k → k ≤ length s) → (g : Found) → find_from (suc n) s ≡ g → under b g ≡ found v m → m ≤ suc (length s)
    more ih (found w k) q u =
        let i = ih w k q in
        let j : m ≡ suc k = cc in
        omega (arith, i, j)
    more ih cut_off q u = not_found refl u
    more ih not_shortest q u = not_found refl u

    go : ((w k : ℕ) → find_from (suc n) s ≡ found w k → k ≤ length s) → (t : Bool) → ill_formed n b ≡ t → m ≤ suc (length s)
    go ih true q = not_found refl (sym (find_ill n b s q) ∙ e)
    go ih false q =
        ⊎_elim
        (λ l. let u : found b 1 ≡ found v m = sym (find_last n b s q l) ∙ e in let j : m ≡ 1 = cc in omega (arith, j))
        (λ l. more ih (find_from (suc n) s) refl (sym (find_more n b s q l) ∙ e))
        (below? b 128)

-- what is read ends where the bytes end or before
pub read_within : (s : List ℕ) (at v next : ℕ) → at ≤ length s → accepted (v ∷ next ∷ []) ≡ read_answer s at → next ≤ length s
unfolding read_answer
read_within s at v next h e = go (find_from 0 (drop at s)) refl e
  where
    go : (g : Found) → find_from 0 (drop at s) ≡ g → accepted (v ∷ next ∷ []) ≡ found_at at g → next ≤ length s
    go (found w m) q u =
        let i = found_within 0 (drop at s) w m q in
        let j : next ≡ at + m = cc in
        omega (arith, i, j, length-drop at s)
    go cut_off q u = clash (sym u)
    go not_shortest q u = clash (sym u)

-- where a number is written, there is room for it
pub written_within : (v : ℕ) (out : List ℕ) (at next : ℕ) → accepted (next ∷ []) ≡ write_answer v out at → next ≤ length out
written_within v out at next e =
    ⊎_elim
    (λ l. clash (sym (e ∙ no_room_answer v out at l)))
    (λ l. let u : accepted (next ∷ []) ≡ accepted ((at + width_of v) ∷ []) = e ∙ room_answer v out at l in let j : next ≡ at + width_of v = cc in omega (arith, j))
    (below? (length out) (at + width_of v))
