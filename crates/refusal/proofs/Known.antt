-- A refusal is known from its number and place, and so an answer from what it tells.
-- Assumes nothing.
use Rattle.std.proofs.Common.{◌≡◌, ℕ, List, Result, Ok, Err, refl, sym, ap, ap₂, ◌∙◌, cond, eqb}
use Rattle.refusal.specs.Refusal.{number_of, place_of, told, nothing}
use Rattle.refusal.specs.declared.Refusal.{Refusal}
use Rattle.refusal.specs.declared.Refusal.TheVariants.{TooManyWires, BadReadCount, BadEvalCount, Unaligned, OutOfMemory, ShortBuffer, NotElement, NotInstruction, LeftNotMade, RightNotMade, NotFinished, NotZero, OutOfTurn, ShortRows, CutOff, NotShortest, OutOfRange, NoWires, OverMaxWires, OtherLength, NoEvalNode, OtherWires, BytesLeft, NoRoom, ListFull, NoSuchClock}
use Rattle.refusal.proofs.Tellings.{clash, same_values, same_refusal}

-- the refusal with a number and a place; of no number of the table, any
refusal_by : ℕ → ℕ → Refusal
refusal_by n place =
    (cond (eqb n 1) TooManyWires
    (cond (eqb n 2) BadReadCount
    (cond (eqb n 3) BadEvalCount
    (cond (eqb n 4) Unaligned
    (cond (eqb n 5) OutOfMemory
    (cond (eqb n 6) ShortBuffer
    (cond (eqb n 7) (NotElement place)
    (cond (eqb n 8) (NotInstruction place)
    (cond (eqb n 9) (LeftNotMade place)
    (cond (eqb n 10) (RightNotMade place)
    (cond (eqb n 11) NotFinished
    (cond (eqb n 12) NotZero
    (cond (eqb n 13) OutOfTurn
    (cond (eqb n 14) ShortRows
    (cond (eqb n 15) (CutOff place)
    (cond (eqb n 16) (NotShortest place)
    (cond (eqb n 17) (OutOfRange place)
    (cond (eqb n 18) NoWires
    (cond (eqb n 19) OverMaxWires
    (cond (eqb n 20) OtherLength
    (cond (eqb n 21) NoEvalNode
    (cond (eqb n 22) OtherWires
    (cond (eqb n 23) BytesLeft
    (cond (eqb n 24) NoRoom
    (cond (eqb n 25) ListFull
    NoSuchClock)))))))))))))))))))))))))

named_again : (e : Refusal) → refusal_by (number_of e) (place_of e) ≡ e
unfolding refusal_by
named_again TooManyWires = refl
named_again BadReadCount = refl
named_again BadEvalCount = refl
named_again Unaligned = refl
named_again OutOfMemory = refl
named_again ShortBuffer = refl
named_again (NotElement place) = refl
named_again (NotInstruction place) = refl
named_again (LeftNotMade place) = refl
named_again (RightNotMade place) = refl
named_again NotFinished = refl
named_again NotZero = refl
named_again OutOfTurn = refl
named_again ShortRows = refl
named_again (CutOff place) = refl
named_again (NotShortest place) = refl
named_again (OutOfRange place) = refl
named_again NoWires = refl
named_again OverMaxWires = refl
named_again OtherLength = refl
named_again NoEvalNode = refl
named_again OtherWires = refl
named_again BytesLeft = refl
named_again NoRoom = refl
named_again ListFull = refl
named_again NoSuchClock = refl

pub same_refused : (d e : Refusal) → number_of d ≡ number_of e → place_of d ≡ place_of e → d ≡ e
same_refused d e n k = sym (named_again d) ∙ ap₂ refusal_by n k ∙ named_again e

pub told_determined : {T : Type 0} (values : T → List ℕ) → ((v w : T) → values v ≡ values w → v ≡ w) → (r s : Result T Refusal) → told values r ≡ told values s → r ≡ s
told_determined values known (Ok v) (Ok w) e = ap Ok (known v w (same_values e))
told_determined values known (Ok v) (Err d) e = clash (sym e)
told_determined values known (Err d) (Ok w) e = clash e
told_determined values known (Err c) (Err d) e = let h = same_refusal e in ap Err (same_refused c d h.0 h.1)

pub nothing_determined : (r s : Result Unit Refusal) → told nothing r ≡ told nothing s → r ≡ s
nothing_determined = told_determined nothing (λ v w e. refl)
