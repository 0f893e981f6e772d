-- Numbers and what is made of them give each other back; so a refusal leaves the numbers that were handed in.
-- Assumes nothing.
use mathlib.Core.Path.{◌≡◌, refl, ap, ◌∙◌}
use mathlib.Core.List.{List, [], ◌∷◌}
use Prim.Native.Nat.{ℕ}
use native.Mathlib.Omega.{arith}
use lib.ListN.{length}
use Rattle.refusal.specs.Told.{Told, refused}
use Rattle.trace.specs.declared.CircuitEvaluation.{CircuitEvaluation}
use Rattle.runs.specs.declared.Entry.{Entry}
use Rattle.runs.specs.declared.Ace.{Ace}
use Rattle.runs.specs.Calls.{add_answer, added_to, list_after}
use Rattle.ace_c.specs.States.{state_of, six_of}
use Rattle.ace_c.specs.Lists.{list_of, threes_of}
use Rattle.ace_c.proofs.Threes.{threes_of_entries}

pub state_of_six : (s : CircuitEvaluation) → state_of (six_of s) s.id_next ≡ s
state_of_six s = refl

pub six_of_state : (xs : List ℕ) (id : ℕ) → length xs ≡ 6 → six_of (state_of xs id) ≡ xs
six_of_state [] id h = absurd (omega arith)
six_of_state (a ∷ []) id h = absurd (omega arith)
six_of_state (a ∷ b ∷ []) id h = absurd (omega arith)
six_of_state (a ∷ b ∷ c ∷ []) id h = absurd (omega arith)
six_of_state (a ∷ b ∷ c ∷ d ∷ []) id h = absurd (omega arith)
six_of_state (a ∷ b ∷ c ∷ d ∷ e ∷ []) id h = absurd (omega arith)
six_of_state (a ∷ b ∷ c ∷ d ∷ e ∷ f ∷ []) id h = refl
six_of_state (a ∷ b ∷ c ∷ d ∷ e ∷ f ∷ g ∷ xs) id h = absurd (omega arith)

-- a run that is refused leaves the list's numbers
pub refused_leaves : (xs : List ℕ) (n : ℕ) (e : Entry) (number place : ℕ) → length xs ≡ 96 → add_answer (list_of xs n) e ≡ refused number place
    → (threes_of (list_after (list_of xs n) e).entries ≡ xs) × ((list_after (list_of xs n) e).len ≡ n)
refused_leaves xs n e number place l r =
    let same : list_after (list_of xs n) e ≡ list_of xs n = ap (λ (t : Told). added_to t (list_of xs n) e) r in
    (ap (λ (a : Ace). threes_of a.entries) same ∙ threes_of_entries 32 xs l, ap (λ (a : Ace). a.len) same)
