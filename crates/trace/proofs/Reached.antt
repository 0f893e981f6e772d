-- The states that an accepted opening and any calls after it give.
-- Assumes nothing.
use mathlib.Core.Path.{◌≡◌, refl, ◌∙◌}
use mathlib.Core.Bool.{true}
use mathlib.Core.List.{List, []}
use mathlib.Core.Logic.{⊎_elim, inl, inr}
use Prim.Native.Nat.{ℕ, ◌+◌, ◌<◌}
use native.Mathlib.Omega.{arith}
use borrow.Author.Tests.{le-leb}
use lib.ListN.{length, length-set}
use lib.Seq.{length-sets}
use Rattle.refusal.specs.Told.{accepted}
use Rattle.trace.specs.declared.CircuitEvaluation.{CircuitEvaluation}
use Rattle.trace.specs.Counts.{most_wires, room}
use Rattle.trace.specs.State.{wires_of, made_of, sound}
use Rattle.trace.specs.Outcome.{Lent, Outcome, outcome, fits}
use Rattle.trace.specs.Open.{opened, open_answer}
use Rattle.trace.specs.Read.{read_done}
use Rattle.trace.specs.Eval.{eval_done}
use Rattle.trace.specs.Calls.{Call, called, calls}
use Rattle.trace.proofs.Choices.{both_hold, passes}
use Rattle.trace.proofs.Tests.{counts_of, Sound, sound_is, Fits, room_of}
use Rattle.trace.proofs.Accepted.{HasRoom}
use Rattle.trace.proofs.NextId.{next_later}
use Rattle.trace.proofs.Runs.{each_call, each-list}

-- what no call changes: the four numbers handed to opening, and the buffers' lengths
pub record Follows (o q : Outcome) : Type 0 where
  pub same_ctx : q.state.ctx ≡ o.state.ctx
  pub same_clk : q.state.clk ≡ o.state.clk
  pub same_read : q.state.num_read ≡ o.state.num_read
  pub same_eval : q.state.num_eval ≡ o.state.num_eval
  pub same_values : length q.buffers.values ≡ length o.buffers.values
  pub same_counts : length q.buffers.counts ≡ length o.buffers.counts
  pub same_nodes : length q.buffers.nodes ≡ length o.buffers.nodes

-- the seven facts in their order
follows_by : (o q : Outcome) → q.state.ctx ≡ o.state.ctx → q.state.clk ≡ o.state.clk → q.state.num_read ≡ o.state.num_read → q.state.num_eval ≡ o.state.num_eval
    → length q.buffers.values ≡ length o.buffers.values → length q.buffers.counts ≡ length o.buffers.counts → length q.buffers.nodes ≡ length o.buffers.nodes
    → Follows o q
follows_by o q e₁ e₂ e₃ e₄ e₅ e₆ e₇ = record { same_ctx = e₁; same_clk = e₂; same_read = e₃; same_eval = e₄; same_values = e₅; same_counts = e₆; same_nodes = e₇ }

pub call_follows : (c : Call) (o : Outcome) → Follows o (called c o)
call_follows =
    each_call (λ c o q. Follows o q)
    (λ o ptr w a. follows_by o _ refl refl refl refl (simp length-sets) (simp length-set) (simp length-sets))
    (λ o ptr w n k. follows_by o _ refl refl refl refl refl refl refl)
    (λ o ptr word a. follows_by o _ refl refl refl refl (simp length-sets) (simp length-set) (simp length-sets))
    (λ o ptr word n k e. follows_by o _ refl refl refl refl refl refl refl)
    (λ o ptr word n k e t. follows_by o _ refl refl refl refl refl (simp length-set) refl)

pub calls_follow : (cs : List Call) (o : Outcome) → Follows o (calls cs o)
calls_follow cs o =
    each-list (Follows o)
    (λ c q h.
    let f = call_follows c q in
    follows_by o _ (f.same_ctx ∙ h.same_ctx) (f.same_clk ∙ h.same_clk) (f.same_read ∙ h.same_read) (f.same_eval ∙ h.same_eval)
    (f.same_values ∙ h.same_values) (f.same_counts ∙ h.same_counts) (f.same_nodes ∙ h.same_nodes))
    cs o (follows_by o o refl refl refl refl refl refl refl)

-- "all READ steps come before the EVAL steps"
pub no_gate_yet : (s : CircuitEvaluation) → Sound s → s.reads_done < s.num_read → s.evals_done ≡ 0
no_gate_yet s h turn = ⊎_elim (λ (z : s.evals_done ≡ 0). z) (λ (r : s.reads_done ≡ s.num_read). absurd (omega arith)) h.order

-- a sound state stays sound
pub read-sound : (s : CircuitEvaluation) → Sound s → s.reads_done < s.num_read → Sound (read_done s)
read-sound s h turn =
    let n = h.counts in
    let m : made_of (read_done s) ≡ made_of s + 2 = omega arith in
    record {
      counts = h.counts;
      reads_end = omega arith;
      evals_end = h.evals_end;
      order = inl (no_gate_yet s h turn);
      next = rw (m, h.next) (next_later (wires_of s) (made_of s) 2 n.few (omega arith) (omega arith));
    }

pub eval_sound : (s : CircuitEvaluation) → Sound s → s.reads_done ≡ s.num_read → s.evals_done < s.num_eval → Sound (eval_done s)
eval_sound s h all_read turn =
    let n = h.counts in
    let m : made_of (eval_done s) ≡ made_of s + 1 = omega arith in
    record {
      counts = h.counts;
      reads_end = h.reads_end;
      evals_end = omega arith;
      order = inr all_read;
      next = rw (m, h.next) (next_later (wires_of s) (made_of s) 1 n.few (omega arith) (omega arith));
    }

pub call_sound : (c : Call) (o : Outcome) → Sound o.state → Sound (called c o).state
call_sound =
    each_call (λ c o q. Sound o.state → Sound q.state)
    (λ o ptr w a h. read-sound o.state h a.turn)
    (λ o ptr w n k h. h)
    (λ o ptr word a h. eval_sound o.state h a.taken.all_read a.taken.turn)
    (λ o ptr word n k e h. h)
    (λ o ptr word n k e t h. h)

pub room_is : (num-read num-eval values counts nodes : ℕ) → Fits num-read num-eval values counts nodes → room num-read num-eval values counts nodes ≡ true
unfolding room
room_is r e lv lc ln h = both_hold _ _ (le-leb _ _ h.for_values) (both_hold _ _ (le-leb _ _ h.for_counts) (le-leb _ _ h.for_nodes))

-- a state and buffers that pass the first tests of every call
pub record Ready (o : Outcome) : Type 0 where
  pub is_sound : Sound o.state
  pub has_room : HasRoom o.state o.buffers

pub call_ready : (c : Call) (o : Outcome) → Ready o → Ready (called c o)
call_ready c o h =
    let f = call_follows c o in
    let r = h.has_room in
    record {
      is_sound = call_sound c o h.is_sound;
      has_room = rw (f.same_read, f.same_eval, f.same_values, f.same_counts, f.same_nodes) r;
    }

-- what an accepted opening and no step yet leave
abbrev pub start : ℕ → ℕ → ℕ → ℕ → Lent → Outcome
start ctx clk num-read num-eval b = outcome (accepted []) (opened ctx clk num-read num-eval) b

module _ (ctx clk num-read num-eval : ℕ) (b : Lent) (vs : List ℕ) (opens : open_answer ctx clk num-read num-eval b ≡ accepted vs) where
  pub start_ready : Ready (start ctx clk num-read num-eval b)
  unfolding open_answer
  start_ready =
      let a = counts_of most_wires num-read num-eval _ vs opens in
      let d = passes (fits (opened ctx clk num-read num-eval) b) _ 6 0 vs a.1 in
      record {
        is_sound = record { counts = a.0; reads_end = omega arith; evals_end = omega arith; order = inl refl; next = refl };
        has_room = room_of _ _ _ _ _ d.0;
      }

  pub reached_ready : (cs : List Call) → Ready (calls cs (start ctx clk num-read num-eval b))
  reached_ready cs = each-list Ready call_ready cs (start ctx clk num-read num-eval b) start_ready

  -- a state that opening and accepted steps give never gets 13 for its own numbers
  pub reached_sound : (cs : List Call) → sound (calls cs (start ctx clk num-read num-eval b)).state ≡ true
  reached_sound cs = sound_is _ (reached_ready cs).is_sound

  -- nor do buffers that opening found long enough get 6
  pub reached_fits : (cs : List Call) → fits (calls cs (start ctx clk num-read num-eval b)).state (calls cs (start ctx clk num-read num-eval b)).buffers ≡ true
  reached_fits cs = room_is _ _ _ _ _ (reached_ready cs).has_room

  -- ctx, clk, num_read and num_eval stay as they were handed to opening, and the buffers as long
  pub reached_follows : (cs : List Call) → Follows (start ctx clk num-read num-eval b) (calls cs (start ctx clk num-read num-eval b))
  reached_follows cs = calls_follow cs (start ctx clk num-read num-eval b)
