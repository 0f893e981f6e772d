-- What is read on both sides of each edge of the form.
-- Assumes nothing.
use Prim.Native.Nat.{ℕ, ◌-◌, ◌^◌}
use mathlib.Core.Path.{◌≡◌, refl}
use mathlib.Core.List.{List, [], ◌∷◌, map}
use Rattle.refusal.specs.Told.{accepted, refused}
use Rattle.numbers.specs.Form.{ill_formed, find_from}
use Rattle.numbers.specs.Answer.{read_answer}

-- nine bytes with the high bit, and others after them
abbrev pub nine : List ℕ → List ℕ
nine s = 0xff ∷ 0xff ∷ 0xff ∷ 0xff ∷ 0xff ∷ 0xff ∷ 0xff ∷ 0xff ∷ 0xff ∷ s

pub short_forms : map (λ (s : List ℕ). read_answer s 0) ([] ∷ (0x00 ∷ []) ∷ (0x80 ∷ []) ∷ (0x80 ∷ 0x00 ∷ []) ∷ (0x80 ∷ 0x01 ∷ []) ∷ [])
    ≡ refused 15 0 ∷ accepted (0 ∷ 1 ∷ []) ∷ refused 15 0 ∷ refused 16 0 ∷ accepted (128 ∷ 2 ∷ []) ∷ []
unfolding read_answer find_from ill_formed
short_forms = refl

pub long_forms : map (λ (s : List ℕ). read_answer (nine s) 0) ([] ∷ (0x00 ∷ []) ∷ (0x01 ∷ []) ∷ (0x02 ∷ []) ∷ (0x81 ∷ []) ∷ [])
    ≡ refused 15 0 ∷ refused 16 0 ∷ accepted ((2 ^ 64 - 1) ∷ 10 ∷ []) ∷ refused 16 0 ∷ refused 16 0 ∷ []
unfolding read_answer find_from ill_formed
long_forms = refl
