-- "Entries past the length aren't looked at": two lists with the same entries in use have the same answers, and the same entries in use after them.
-- Assumes nothing.
use mathlib.Core.Path.{◌≡◌, refl, sym, ap, ap₂, ◌∙◌}
use mathlib.Core.Bool.{◌&&◌}
use mathlib.Core.List.{List}
use Prim.Native.Nat.{ℕ}
use lib.Dec.{leb}
use lib.ListN.{length}
use Rattle.refusal.specs.Told.{Told, accepted, refused}
use Rattle.runs.specs.declared.Entry.{Entry}
use Rattle.runs.specs.declared.Ace.{Ace}
use Rattle.runs.specs.Entries.{in_order, insert}
use Rattle.runs.specs.Calls.{most_runs, used, sound_list, total_answer, first_row_answer, add_answer, list_after}
use Rattle.runs.proofs.Added.{used-after, refusal_leaves}

module _ (a b : Ace) (n : a.len ≡ b.len) (u : used a ≡ used b) where
  pub same_sound : sound_list a ≡ sound_list b
  unfolding sound_list
  same_sound = ap₂ (λ (k : ℕ) (es : List Entry). leb k most_runs && in_order 0 es) n u

  pub same_total : total_answer a ≡ total_answer b
  unfolding total_answer
  same_total = rw (same_sound, u)

  pub same_row : (clock : ℕ) → first_row_answer a clock ≡ first_row_answer b clock
  unfolding first_row_answer
  same_row clock = rw (same_sound, u)

  pub same_add : (e : Entry) → add_answer a e ≡ add_answer b e
  unfolding add_answer
  same_add e = rw (same_sound, u, n)

  by-told : (t : Told) (e : Entry) → add_answer a e ≡ t → length a.entries ≡ 32 → length b.entries ≡ 32 → used (list_after a e) ≡ used (list_after b e)
  by-told (accepted vs) e q l m =
      used-after a e l vs q ∙ ap (insert e) u ∙ sym (used-after b e m vs (sym (same_add e) ∙ q))
  by-told (refused number place) e q l m =
      ap used (refusal_leaves a e l number place q) ∙ u ∙ sym (ap used (refusal_leaves b e m number place (sym (same_add e) ∙ q)))

  pub same_after : (e : Entry) → length a.entries ≡ 32 → length b.entries ≡ 32 → used (list_after a e) ≡ used (list_after b e)
  same_after e = by-told (add_answer a e) e refl
