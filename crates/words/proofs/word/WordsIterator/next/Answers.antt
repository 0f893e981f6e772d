-- `word::Words` gives the words of a text, one by one.
-- Assumes nothing.
use Prim.Native.Nat.{ℕ, ◌≤◌, ◌<◌}
use mathlib.Core.Path.{◌≡◌, sym, ap, ap₂, subst, ◌∙◌}
use mathlib.Core.Bool.{not, cond}
use mathlib.Core.List.{List, ◌∷◌}
use native.Mathlib.Omega.{arith}
use lib.Dec.{ltb}
use lib.ListN.{length, take, drop}
use borrow.Author.Rules.{rules}
use Rattle.std.proofs.Common.{tests}
use Rattle.std.specs.Prelude.{Option, Some, None}
use Rattle.std.specs.Option.{unwrap_or}
use Rattle.std.proofs.lemmas.Bool.Decides.{nat_tests}
use Rattle.std.proofs.lemmas.Iterator.{YieldsList-from_slice}
use Rattle.std.proofs.lemmas.Iterator.Search.{position_from_yields_List}
use Rattle.std.proofs.lemmas.List.Sums.{prefix_len-le-length}
use Rattle.words.specs.Text.{parting, words_of}
use Rattle.words.proofs.Words.{gap, lead, words_first, words_past, words_end, lead-past}
use Rattle.words.proofs.word.WordsIterator.next.Goals as goal

-- what `position` found
abbrev found : ℕ → ℕ → Option ℕ
found n m = cond (ltb n m) (Some n) None

found_none : (n m : ℕ) → found n m ≡ None → m ≤ n
found_none n m e = grind (arith, nat_tests)

found_some : (n m i : ℕ) → found n m ≡ Some i → (i ≡ n) × (n < m)
found_some n m i e = grind (arith, nat_tests)

found_or : (n m : ℕ) → n ≤ m → unwrap_or (found n m) m ≡ n
found_or n m h = grind (arith, nat_tests)

pub returns-in_err-start-clause-steps : goal.returns-in_err-start-clause-steps
returns-in_err-start-clause-steps c =
    let s = c.args.self.now.0.now in
    let p = position_from_yields_List (λ b. not (parting b)) _ _ c.position.result c.position.ensures.ran (YieldsList-from_slice s cc) (λ x b q k. search (rules, tests)) in
    let e = words_end s (found_none (gap s) (length s) (sym p ∙ c.in_err-start.was)) in
    rw c.from_residual.ensures (e, e)

first : (c : goal.After-rest-2-1) → words_of c.args.self.now.0.now ≡ c.split_at-2.result.0.now ∷ words_of c.split_at-2.result.1.now
first c =
    let s = c.args.self.now.0.now in
    let t = c.split_at.result.1.now in
    let p = position_from_yields_List (λ b. not (parting b)) _ _ c.position.result c.position.ensures.ran (YieldsList-from_slice s cc) (λ x b q k. search (rules, tests)) in
    let q = position_from_yields_List parting _ _ c.position-2.result c.position-2.ensures.ran (YieldsList-from_slice t cc) (λ x b q k. search (rules, tests)) in
    let f = found_some (gap s) (length s) c.in_ok-start.start (sym p ∙ c.in_ok-start.was) in
    let from : t ≡ drop (gap s) s = c.split_at.ensures.back ∙ ap (λ (n : ℕ). drop n s) f.0 in
    let h : 0 < lead t = subst (λ (l : List ℕ). 0 < lead l) (sym from) (lead-past s f.1) in
    let end : c.unwrap_or-end.result ≡ lead t =
    c.unwrap_or-end.ensures ∙ ap (λ (r : Option ℕ). unwrap_or r (length t)) q ∙ found_or (lead t) (length t) (prefix_len-le-length _ t) in
    let word : take (lead t) t ≡ c.split_at-2.result.0.now = ap (λ (n : ℕ). take n t) (sym end) ∙ sym c.split_at-2.ensures.front in
    let rest : drop (lead t) t ≡ c.split_at-2.result.1.now = ap (λ (n : ℕ). drop n t) (sym end) ∙ sym c.split_at-2.ensures.back in
    words_past s ∙ ap words_of (sym from) ∙ words_first t h ∙ ap₂ (λ (w l : List ℕ). w ∷ words_of l) word rest

pub returns-clause-steps : goal.returns-clause-steps
returns-clause-steps c = first c

pub returns-clause-goes : goal.returns-clause-goes
returns-clause-goes c =
    let shorter = ap length (first c) in
    search rules
