-- The first word of a text and the words behind it; and the turns of a loop over the words.
-- Assumes nothing.
use Prim.Native.Nat.{ℕ, zero, suc, ◌+◌, ◌≤◌, ◌<◌}
use mathlib.Core.Path.{◌≡◌, refl, sym, ap, subst, ◌∙◌}
use mathlib.Core.Bool.{Bool, true, false, not}
use mathlib.Core.List.{List, [], ◌∷◌}
use native.Mathlib.Numerals.{add-one}
use native.Mathlib.Omega.{arith}
use lib.ListN.{length, get_or, take, drop, drop_of_length-le}
use lib.Seq.{drop-cons}
use denote.Ref.{Bor}
use Rattle.std.specs.Iterator.{Yields, YieldsFirstRef}
use Rattle.std.specs.declared.iter.Enumerate.{Enumerate}
use Rattle.std.specs.Iterator.Adapters.{enumerate_source, enumerate_count, enumerate_steps}
use Rattle.std.specs.List.{position_or_len, enumerate_from}
use Rattle.std.specs.Prelude.{Option, Some, None}
use Rattle.std.proofs.lemmas.Iterator.{YieldsList}
use Rattle.std.proofs.lemmas.Iterator.Consumers.{YieldsList-from_first, YieldsList-from_enumerate, YieldsList-turn, YieldsList-end}
use Rattle.std.proofs.lemmas.List.FromFn.{length-enumerate_from, get_or-enumerate_from}
use Rattle.words.specs.Text.{parting, joined, pieces, filled, words_of}
use Rattle.words.specs.declared.word.Words.{Words}

-- how many spaces and newlines a text begins with
abbrev pub gap : List ℕ → ℕ
gap s = position_or_len (λ c. not (parting c)) s

-- how many bytes it has before the first of them
abbrev pub lead : List ℕ → ℕ
lead s = position_or_len parting s

-- the pieces behind the first, where a text goes on with a space or a newline, or ends
abbrev behind : List ℕ → List (List ℕ)
behind [] = []
behind (c ∷ s) = pieces s

lead_parted : (c : ℕ) (s : List ℕ) → parting c ≡ true → lead (c ∷ s) ≡ 0
lead_parted c s e = rw e refl

lead-joined : (c : ℕ) (s : List ℕ) → parting c ≡ false → lead (c ∷ s) ≡ suc (lead s)
lead-joined c s e = rw e (omega arith)

gap_parted : (c : ℕ) (s : List ℕ) → parting c ≡ true → gap (c ∷ s) ≡ suc (gap s)
gap_parted c s e = rw e (omega arith)

gap-joined : (c : ℕ) (s : List ℕ) → parting c ≡ false → gap (c ∷ s) ≡ 0
gap-joined c s e = rw e refl

words_none : words_of [] ≡ []
unfolding words_of pieces filled
words_none = refl

words_parted : (c : ℕ) (s : List ℕ) → parting c ≡ true → words_of (c ∷ s) ≡ words_of s
unfolding words_of pieces filled
words_parted c s e = rw e refl

-- the first piece ends where the text does, or at a space or a newline
abbrev Split : List ℕ → Type 0
Split s = pieces s ≡ take (lead s) s ∷ behind (drop (lead s) s)

split_head : (c : ℕ) (s : List ℕ) → Split s → (b : Bool) → parting c ≡ b → Split (c ∷ s)
unfolding pieces
split_head c s q true e = rw e refl
split_head c s q false e =
    let first : pieces (c ∷ s) ≡ joined c (pieces s) = rw e refl in
    first ∙ ap (joined c) q ∙ ap (λ (n : ℕ). take n (c ∷ s) ∷ behind (drop n (c ∷ s))) (sym (lead-joined c s e))

split : (s : List ℕ) → Split s
unfolding pieces
split [] = refl
split (c ∷ s) = split_head c s (split s) (parting c) refl

-- the words of the pieces behind the first
abbrev Behind : List ℕ → Type 0
Behind s = filled (behind (drop (lead s) s)) ≡ words_of (drop (lead s) s)

behind_head : (c : ℕ) (s : List ℕ) → Behind s → (b : Bool) → parting c ≡ b → Behind (c ∷ s)
unfolding words_of
behind_head c s q true e = rw e (sym (words_parted c s e))
behind_head c s q false e = subst (λ (n : ℕ). filled (behind (drop n (c ∷ s))) ≡ words_of (drop n (c ∷ s))) (sym (lead-joined c s e)) q

words_behind : (s : List ℕ) → Behind s
unfolding words_of pieces filled
words_behind [] = refl
words_behind (c ∷ s) = behind_head c s (words_behind s) (parting c) refl

-- the first word, of a text that begins with it
pub words_first : (s : List ℕ) → 0 < lead s → words_of s ≡ take (lead s) s ∷ words_of (drop (lead s) s)
unfolding words_of filled
words_first [] h = absurd (omega arith)
words_first (c ∷ s) h =
    let e : parting c ≡ false = begins (parting c) refl in
    ap filled (split (c ∷ s))
    ∙ ap (λ (n : ℕ). filled (take n (c ∷ s) ∷ behind (drop n (c ∷ s)))) (lead-joined c s e)
    ∙ ap (λ (ws : List (List ℕ)). (c ∷ take (lead s) s) ∷ ws) (words_behind s)
    ∙ ap (λ (n : ℕ). take n (c ∷ s) ∷ words_of (drop n (c ∷ s))) (sym (lead-joined c s e))
  where
    begins : (b : Bool) → parting c ≡ b → b ≡ false
    begins true e = absurd (omega (arith, h, lead_parted c s e))
    begins false e = refl

-- words do not change with the spaces and newlines before them
abbrev Past : List ℕ → Type 0
Past s = words_of s ≡ words_of (drop (gap s) s)

past_head : (c : ℕ) (s : List ℕ) → Past s → (b : Bool) → parting c ≡ b → Past (c ∷ s)
past_head c s q true e = words_parted c s e ∙ q ∙ ap (λ (n : ℕ). words_of (drop n (c ∷ s))) (sym (gap_parted c s e))
past_head c s q false e = ap (λ (n : ℕ). words_of (drop n (c ∷ s))) (sym (gap-joined c s e))

pub words_past : (s : List ℕ) → Past s
words_past [] = refl
words_past (c ∷ s) = past_head c s (words_past s) (parting c) refl

-- behind them stands something else
abbrev Stops : List ℕ → Type 0
Stops s = gap s < length s → 0 < lead (drop (gap s) s)

stops_head : (c : ℕ) (s : List ℕ) → Stops s → (b : Bool) → parting c ≡ b → Stops (c ∷ s)
stops_head c s q true e h = subst (λ (n : ℕ). 0 < lead (drop n (c ∷ s))) (sym (gap_parted c s e)) (q (omega (arith, gap_parted c s e, h)))
stops_head c s q false e h = subst (λ (n : ℕ). 0 < lead (drop n (c ∷ s))) (sym (gap-joined c s e)) (omega (arith, lead-joined c s e))

pub lead-past : (s : List ℕ) → Stops s
lead-past [] h = absurd (omega arith)
lead-past (c ∷ s) h = stops_head c s (lead-past s) (parting c) refl h

pub words_end : (s : List ℕ) → length s ≤ gap s → words_of s ≡ []
words_end s h = words_past s ∙ ap words_of (drop_of_length-le s h) ∙ words_none

full : (ps : List (List ℕ)) (k : ℕ) (d : List ℕ) → k < length (filled ps) → 0 < length (get_or (filled ps) k d)
unfolding filled
full [] k d h = absurd (omega arith)
full ([] ∷ ps) k d h = full ps k d h
full ((c ∷ w) ∷ ps) zero d h = omega arith
full ((c ∷ w) ∷ ps) (suc k) d h = full ps k d (omega arith)

words_full : (s : List ℕ) (k : ℕ) (d : List ℕ) → k < length (words_of s) → 0 < length (get_or (words_of s) k d)
unfolding words_of
words_full s k d h = full (pieces s) k d h

joined-within : (c : ℕ) (ps : List (List ℕ)) → length (filled (joined c ps)) ≤ suc (length (filled ps))
unfolding filled
joined-within c [] = omega arith
joined-within c ([] ∷ ps) = omega arith
joined-within c ((d ∷ w) ∷ ps) = omega arith

-- there are no more words than bytes
pub words-within : (s : List ℕ) → length (words_of s) ≤ length s
unfolding words_of pieces filled
words-within [] = omega arith
words-within (c ∷ s) = go (words-within s) (parting c) refl
  where
    go : length (words_of s) ≤ length s → (b : Bool) → parting c ≡ b → length (words_of (c ∷ s)) ≤ length (c ∷ s)
    go q true e = rw e (omega (arith, q))
    go q false e = rw e (omega (arith, q, joined-within c (pieces s)))

-- the words that are left
abbrev pub left : Words → List (List ℕ)
left s = words_of s.0.now

-- the words with their places, as `enumerate` counts them
abbrev pub Each : {S : Type 0} (steps : S → Option (ℕ × Bor (List ℕ)) → S → Type 0) → S → List ℕ → Type 0
Each steps s text = YieldsList {B = ℕ × List ℕ} steps (λ p. (p.0, p.1.now)) s (enumerate_from 0 (words_of text))

pub each : {s : Enumerate Words} (text : List ℕ) → enumerate_count s ≡ 0 → (enumerate_source s).0.now ≡ text → Each (enumerate_steps (YieldsFirstRef left)) s text
each text n e = YieldsList-from_enumerate (YieldsList-from_first (λ x. x.now) left (words_of text) (ap words_of e)) n

-- a turn: the word is the next of the text's
pub record Turn (text : List ℕ) (k i : ℕ) (w : List ℕ) : Type 0 where
  pub place : i ≡ k
  pub word : drop k (words_of text) ≡ w ∷ drop (k + 1) (words_of text)
  pub some : 0 < length w

module _ {S : Type 0} {steps : S → Option (ℕ × Bor (List ℕ)) → S → Type 0} {s t : S} (text : List ℕ) (xs : List (ℕ × Bor (List ℕ))) (e : Each steps s text) (y : Yields steps s xs t) (u : S) where
  pub turn : (x : ℕ × Bor (List ℕ)) {r : Option (ℕ × Bor (List ℕ))} → r ≡ Some x → steps t r u → Turn text (length xs) x.0 x.1.now
  turn x {r} q c =
      let ws = words_of text in
      let f = YieldsList-turn e xs t y r u x q c in
      let h : length xs < length ws = omega (arith, f.0, length-enumerate_from 0 ws) in
      let g = f.1 ∙ get_or-enumerate_from 0 ws (length xs) (x.0, x.1.now) h in
      let e = ap (λ (p : ℕ × List ℕ). p.1) g in
      record {
        place = ap (λ (p : ℕ × List ℕ). p.0) g ∙ omega arith;
        word =
            rw add-one
            (drop-cons ws (length xs) x.1.now h ∙ ap (λ (w : List ℕ). w ∷ drop (suc (length xs)) ws) (sym e));
        some = rw (← e) at (words_full text (length xs) x.1.now h);
      }

  pub ended : {r : Option (ℕ × Bor (List ℕ))} → r ≡ None → steps t r u → length (words_of text) ≤ length xs
  ended {r} q c = omega (arith, (YieldsList-end e xs t y r u q c).1, length-enumerate_from 0 (words_of text))
