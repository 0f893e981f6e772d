-- The table "Numbers of refusal".
-- Assumes nothing.
use Rattle.std.specs.Prelude.{ℕ, List, [], ◌∷◌, Result, Ok, Err}
use Rattle.refusal.specs.Told.{Told, accepted, refused}
use Rattle.refusal.specs.declared.Refusal.{Refusal}
use Rattle.refusal.specs.declared.Refusal.TheVariants.{TooManyWires, BadReadCount, BadEvalCount, Unaligned, OutOfMemory, ShortBuffer, NotElement, NotInstruction, LeftNotMade, RightNotMade, NotFinished, NotZero, OutOfTurn, ShortRows, CutOff, NotShortest, OutOfRange, NoWires, OverMaxWires, OtherLength, NoEvalNode, OtherWires, BytesLeft, NoRoom, ListFull, NoSuchClock}

-- "No."
abbrev pub number_of : Refusal → ℕ
number_of TooManyWires = 1
number_of BadReadCount = 2
number_of BadEvalCount = 3
number_of Unaligned = 4
number_of OutOfMemory = 5
number_of ShortBuffer = 6
number_of (NotElement place) = 7
number_of (NotInstruction place) = 8
number_of (LeftNotMade place) = 9
number_of (RightNotMade place) = 10
number_of NotFinished = 11
number_of NotZero = 12
number_of OutOfTurn = 13
number_of ShortRows = 14
number_of (CutOff place) = 15
number_of (NotShortest place) = 16
number_of (OutOfRange place) = 17
number_of NoWires = 18
number_of OverMaxWires = 19
number_of OtherLength = 20
number_of NoEvalNode = 21
number_of OtherWires = 22
number_of BytesLeft = 23
number_of NoRoom = 24
number_of ListFull = 25
number_of NoSuchClock = 26

-- "also returns": "what isn't in" it "is 0"
abbrev pub place_of : Refusal → ℕ
place_of (NotElement place) = place
place_of (NotInstruction gate) = gate
place_of (LeftNotMade gate) = gate
place_of (RightNotMade gate) = gate
place_of (CutOff place) = place
place_of (NotShortest place) = place
place_of (OutOfRange place) = place
place_of TooManyWires = 0
place_of BadReadCount = 0
place_of BadEvalCount = 0
place_of Unaligned = 0
place_of OutOfMemory = 0
place_of ShortBuffer = 0
place_of NotFinished = 0
place_of NotZero = 0
place_of OutOfTurn = 0
place_of ShortRows = 0
place_of NoWires = 0
place_of OverMaxWires = 0
place_of OtherLength = 0
place_of NoEvalNode = 0
place_of OtherWires = 0
place_of BytesLeft = 0
place_of NoRoom = 0
place_of ListFull = 0
place_of NoSuchClock = 0

-- what a call answers, by the values that it answers, or by the refusal's number and place
abbrev pub told : {T : Type 0} → (T → List ℕ) → Result T Refusal → Told
told values (Ok v) = accepted (values v)
told values (Err e) = refused (number_of e) (place_of e)

abbrev pub number_alone : ℕ → List ℕ
number_alone v = v ∷ []

abbrev pub nothing : Unit {0} → List ℕ
nothing u = []
