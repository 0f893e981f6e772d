-- Lists that calls give from an empty one: they are sound, so no call gives 13 for them.
-- Assumes nothing.
use mathlib.Core.Path.{◌≡◌, sym, ap, ◌∙◌}
use mathlib.Core.Bool.{true, false, not}
use mathlib.Core.List.{List, [], ◌∷◌}
use Prim.Native.Nat.{ℕ}
use native.Mathlib.Omega.{arith}
use lib.ListN.{length, take}
use Rattle.runs.specs.declared.Entry.{Entry}
use Rattle.runs.specs.declared.Ace.{Ace}
use Rattle.runs.specs.Entries.{in_order}
use Rattle.runs.specs.Calls.{sound_list, total_answer, first_row_answer, add_answer, list_after, added_all}
use Rattle.runs.proofs.Orders.{order_nil}
use Rattle.runs.proofs.Scans.{sound_short}
use Rattle.runs.proofs.Refused.{is_thirteen, total-thirteen, row-thirteen, add_thirteen}
use Rattle.runs.proofs.Added.{length-after, sound-after}

-- a list of no entries, whatever stands past its length
pub empty-sound : (a : Ace) → a.len ≡ 0 → sound_list a ≡ true
empty-sound a z = sym (sound_short a (omega arith)) ∙ ap (λ (n : ℕ). in_order 0 (take n a.entries)) z ∙ order_nil 0

pub added_all_lem : (es : List Entry) (a : Ace) → length a.entries ≡ 32 → sound_list a ≡ true
    → (length (added_all es a).entries ≡ 32) × (sound_list (added_all es a) ≡ true)
unfolding added_all
added_all_lem [] a l s = (l, s)
added_all_lem (e ∷ es) a l s = added_all_lem es (list_after a e) (length-after a e l) (sound-after a e l s)

pub made_sound : (es : List Entry) (a : Ace) → length a.entries ≡ 32 → a.len ≡ 0 → sound_list (added_all es a) ≡ true
made_sound es a l z = (added_all_lem es a l (empty-sound a z)).1

-- so no call gives 13
module _ (es : List Entry) (a : Ace) (l : length a.entries ≡ 32) (z : a.len ≡ 0) where
  pub total_of_made : is_thirteen (total_answer (added_all es a)) ≡ false
  total_of_made = total-thirteen (added_all es a) ∙ ap not (made_sound es a l z)

  pub row_of_made : (clock : ℕ) → is_thirteen (first_row_answer (added_all es a) clock) ≡ false
  row_of_made clock = row-thirteen (added_all es a) clock ∙ ap not (made_sound es a l z)

  pub add_to_made : (e : Entry) → is_thirteen (add_answer (added_all es a) e) ≡ false
  add_to_made e = add_thirteen (added_all es a) e ∙ ap not (made_sound es a l z)
