-- Tests one after the other: what one refuses is the answer of all, and what it passes goes on.
-- Assumes nothing.
use Rattle.std.proofs.Common.{◌≡◌, ◌∙◌, refl, ap, List, ℕ, Result, Ok, Err}
use Rattle.std.specs.Result.{IsOk, IsErr, IsErrAnd}
use Rattle.refusal.specs.Told.{Told, accepted, refused, or_else}
use Rattle.refusal.specs.Refusal.{number_of, place_of, told}
use Rattle.refusal.specs.declared.Refusal.{Refusal}
use Rattle.refusal.proofs.Tellings.{clash}

-- what `?` passes up
pub told_up : {T : Type 0} (values : T → List ℕ) (r : Result T Refusal) (e : Refusal) → IsErr r × IsErrAnd r (λ y. y ≡ e) → told values r ≡ refused (number_of e) (place_of e)
told_up values (Ok v) e h = absurd h.1
told_up values (Err d) e h = ap (λ (y : Refusal). refused (number_of y) (place_of y)) h.1

pub err_up : {T E : Type 0} (r : Result T E) (e : E) → IsErr r × IsErrAnd r (λ y. y ≡ e) → r ≡ Err e
err_up (Ok v) e h = absurd h.1
err_up (Err d) e h = ap Err h.1

pub stops : {T : Type 0} (values : T → List ℕ) (r : Result T Refusal) (e : Refusal) (x t : Told) → IsErr r × IsErrAnd r (λ y. y ≡ e) → refused (number_of e) (place_of e) ≡ x → told values r ≡ or_else x t
stops values r e x t h is = told_up values r e h ∙ ap (λ (y : Told). or_else y t) is

pub passes : (vs : List ℕ) (x t : Told) → accepted vs ≡ x → t ≡ or_else x t
passes vs x t is = ap (λ (y : Told). or_else y t) is

-- what is accepted is a value
pub told_is_ok : {T : Type 0} (values : T → List ℕ) (r : Result T Refusal) (vs : List ℕ) → told values r ≡ accepted vs → IsOk r
told_is_ok values (Ok v) vs e = refl
told_is_ok values (Err d) vs e = clash e
