-- A run that is added: the list after it is sound, the run is in use in it, and all others are as they were.
-- Assumes nothing.
use mathlib.Core.Path.{◌≡◌, refl, sym, ap, subst, ◌∙◌}
use mathlib.Core.Bool.{Bool, true, false, ◌||◌, true≢false}
use mathlib.Core.List.{List, [], ◌++◌}
use mathlib.Core.Logic.{◌⊎◌, ⊎_elim, inl, inr}
use Prim.Native.Nat.{ℕ, ◌+◌, ◌-◌, ◌≤◌, ◌<◌}
use native.Mathlib.Omega.{arith}
use lib.Dec.{ltb}
use lib.ListN.{length, get_or, drop, length-append, length-drop}
use lib.Seq.{take-append_seam, get_or-append-add, get_or-drop}
use borrow.Author.Tests.{ltb-true}
use Rattle.refusal.specs.Told.{Told, accepted, refused}
use Rattle.trace.specs.Counts.{most_wires}
use Rattle.trace.specs.State.{is_accepted}
use Rattle.trace.proofs.Choices.{passes, either}
use Rattle.trace.proofs.Tests.{counts_of, counts_pass}
use Rattle.runs.specs.declared.Entry.{Entry}
use Rattle.runs.specs.declared.Ace.{Ace}
use Rattle.runs.specs.Entries.{rows_of, opens, in_order, total, has_clock, insert}
use Rattle.runs.specs.Calls.{most_runs, used, sound_list, add_answer, with_used, added_to, list_after}
use Rattle.runs.specs.Inside.{no_entry}
use Rattle.runs.proofs.Scans.{entry_at, sound_short}
use Rattle.runs.proofs.Calls.{sound_of, used-length}
use Rattle.runs.proofs.Among.{Among, InUse, in_use, is_among}
use Rattle.runs.proofs.Rising.{one_entry}
use Rattle.runs.proofs.Inserted.{length_same, length_more, insert_order, insert_in, insert_keeps, insert_back, insert_total_new, insert_total_same}

-- what an accepted answer tells of the list and of the run
pub record Takes (a : Ace) (e : Entry) : Type 0 where
  pub sound : sound_list a ≡ true
  pub counts : opens e ≡ true
  pub room : (a.len < most_runs) ⊎ (has_clock e.clk (used a) ≡ true)

pub takes_of : (a : Ace) (e : Entry) (vs : List ℕ) → add_answer a e ≡ accepted vs → Takes a e
unfolding add_answer
takes_of a e vs q =
    let f = passes (sound_list a) _ 13 0 vs q in
    let g = counts_of most_wires e.num_read e.num_eval _ vs f.1 in
    let h = passes (ltb a.len most_runs || has_clock e.clk (used a)) _ 25 0 vs g.1 in
    record {
      sound = f.0;
      counts = ap is_accepted (counts_pass most_wires e.num_read e.num_eval (accepted []) g.0);
      room = ⊎_elim (λ r. inl (ltb-true a.len most_runs r)) (λ r. inr r) (either (ltb a.len most_runs) (has_clock e.clk (used a)) h.0);
    }

-- whether the clock is there, with what that says of the number of entries
by_clock : (b : Bool) (a : Ace) (e : Entry) → has_clock e.clk (used a) ≡ b → length a.entries ≡ 32 → Takes a e → length (insert e (used a)) ≤ most_runs
by_clock true a e h l t =
    let s = sound_of a t.sound in
    let z = used-length a l s.few in
    let n = length_same e (used a) h 0 s.order in
    let f = s.few in
    omega arith
by_clock false a e h l t =
    let s = sound_of a t.sound in
    let z = used-length a l s.few in
    let n = length_more e (used a) h in
    let r : a.len < most_runs = ⊎_elim (λ k. k) (λ k. absurd (true≢false (sym k ∙ h))) t.room in
    omega arith

within : (a : Ace) (e : Entry) → length a.entries ≡ 32 → Takes a e → length (insert e (used a)) ≤ most_runs
within a e l t = by_clock (has_clock e.clk (used a)) a e refl l t

whole : (es fs : List Entry) → length fs ≡ 32 → length es ≤ most_runs → length (es ++ drop (length es) fs) ≡ 32
whole es fs l h =
    let d = length-drop (length es) fs in
    let n = length-append es (drop (length es) fs) in
    omega arith

past : (es fs : List Entry) (i : ℕ) → length es ≤ i → get_or (es ++ drop (length es) fs) i no_entry ≡ get_or fs i no_entry
past es fs i h =
    let z : i ≡ length es + (i - length es) = omega arith in
    ap (λ (k : ℕ). get_or (es ++ drop (length es) fs) k no_entry) z
    ∙ get_or-append-add es (drop (length es) fs) (i - length es) no_entry
    ∙ get_or-drop (length es) fs (i - length es) no_entry
    ∙ ap (λ (k : ℕ). get_or fs k no_entry) (sym z)

module _ (a : Ace) (e : Entry) (l : length a.entries ≡ 32) where
  -- the list after an accepted run
  after : (vs : List ℕ) → add_answer a e ≡ accepted vs → list_after a e ≡ with_used a (insert e (used a))
  after vs q = ap (λ (t : Told). added_to t a e) q

  pub used-after : (vs : List ℕ) → add_answer a e ≡ accepted vs → used (list_after a e) ≡ insert e (used a)
  used-after vs q = ap used (after vs q) ∙ take-append_seam (insert e (used a)) (drop (length (insert e (used a))) a.entries)

  -- and after a refused one
  pub refusal_leaves : (number place : ℕ) → add_answer a e ≡ refused number place → list_after a e ≡ a
  refusal_leaves n k q = ap (λ (t : Told). added_to t a e) q

  by-told : (t : Told) → add_answer a e ≡ t → length (list_after a e).entries ≡ 32
  by-told (accepted vs) q = ap (λ (b : Ace). length b.entries) (after vs q) ∙ whole (insert e (used a)) a.entries l (within a e l (takes_of a e vs q))
  by-told (refused n k) q = ap (λ (b : Ace). length b.entries) (refusal_leaves n k q) ∙ l

  pub length-after : length (list_after a e).entries ≡ 32
  length-after = by-told (add_answer a e) refl

  few-after : (vs : List ℕ) → add_answer a e ≡ accepted vs → (list_after a e).len ≤ most_runs
  few-after vs q = let z = ap (λ (b : Ace). b.len) (after vs q) in let h = within a e l (takes_of a e vs q) in omega arith

  sound-told : (t : Told) → add_answer a e ≡ t → sound_list a ≡ true → sound_list (list_after a e) ≡ true
  sound-told (accepted vs) q s =
      sym (sound_short (list_after a e) (few-after vs q))
      ∙ ap (in_order 0) (used-after vs q)
      ∙ insert_order e (used a) 0 (takes_of a e vs q).counts (omega arith) (sound_of a s).order
  sound-told (refused n k) q s = ap sound_list (refusal_leaves n k q) ∙ s

  -- a sound list stays sound, whatever is answered
  pub sound-after : sound_list a ≡ true → sound_list (list_after a e) ≡ true
  sound-after s = sound-told (add_answer a e) refl s

  module _ (vs : List ℕ) (q : add_answer a e ≡ accepted vs) where
    few : a.len ≤ most_runs
    few = (sound_of a (takes_of a e vs q).sound).few

    to-after : (x : Entry) → Among x (insert e (used a)) → InUse x (list_after a e)
    to-after x m = in_use (list_after a e) x length-after (few-after vs q) (subst (Among x) (sym (used-after vs q)) m)

    from-after : (x : Entry) → InUse x (list_after a e) → Among x (insert e (used a))
    from-after x m = subst (Among x) (used-after vs q) (is_among (list_after a e) x length-after (few-after vs q) m)

    -- the run is in use, with its counts
    pub added_in_use : InUse e (list_after a e)
    added_in_use = to-after e (insert_in e (used a))

    -- and is the only one with its clock
    pub added_alone : (x : Entry) → InUse x (list_after a e) → x.clk ≡ e.clk → x ≡ e
    added_alone x m k = one_entry (list_after a e) length-after (sound-after (takes_of a e vs q).sound) x e m added_in_use k

    -- every run of another clock stays in use, and no other comes into use
    pub others_stay : (x : Entry) → (x.clk ≡ e.clk → ⊥) → InUse x a → InUse x (list_after a e)
    others_stay x n m = to-after x (insert_keeps x e (used a) n (is_among a x l few m))

    pub others_were : (x : Entry) → (x.clk ≡ e.clk → ⊥) → InUse x (list_after a e) → InUse x a
    others_were x n m = in_use a x l few (insert_back x e (used a) n (from-after x m))

    -- the number of runs: one more, or as it was where the clock was there
    pub one_more : has_clock e.clk (used a) ≡ false → (list_after a e).len ≡ a.len + 1
    one_more h =
        let z = used-length a l few in
        let n = length_more e (used a) h in
        let w = ap (λ (b : Ace). b.len) (after vs q) in
        omega arith

    pub as_many : has_clock e.clk (used a) ≡ true → (list_after a e).len ≡ a.len
    as_many h =
        let z = used-length a l few in
        let n = length_same e (used a) h 0 (sound_of a (takes_of a e vs q).sound).order in
        let w = ap (λ (b : Ace). b.len) (after vs q) in
        omega arith

    -- the total: with the new rows, and without those of the run that is replaced
    pub total_new : has_clock e.clk (used a) ≡ false → total (used (list_after a e)) ≡ total (used a) + rows_of e
    total_new h = ap total (used-after vs q) ∙ insert_total_new e (used a) h

    pub total-replaced : (x : Entry) → InUse x a → x.clk ≡ e.clk → total (used (list_after a e)) + rows_of x ≡ total (used a) + rows_of e
    total-replaced x m k =
        let i = insert_total_same e x (used a) 0 (sound_of a (takes_of a e vs q).sound).order (is_among a x l few m) k in
        let w = ap total (used-after vs q) in
        omega arith

  -- entries past the length stay as they were, whatever is answered
  past-told : (t : Told) → add_answer a e ≡ t → (i : ℕ) → (list_after a e).len ≤ i → entry_at (list_after a e) i ≡ entry_at a i
  past-told (accepted vs) q i h = ap (λ (b : Ace). entry_at b i) (after vs q) ∙ past (insert e (used a)) a.entries i (let w = ap (λ (b : Ace). b.len) (after vs q) in omega arith)
  past-told (refused n k) q i h = ap (λ (b : Ace). entry_at b i) (refusal_leaves n k q)

  pub past_stays : (i : ℕ) → (list_after a e).len ≤ i → entry_at (list_after a e) i ≡ entry_at a i
  past_stays = past-told (add_answer a e) refl
