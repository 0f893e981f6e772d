-- The count of each wire that is made: how many operands of accepted gates name it, and how often a refused step left it raised.
-- Assumes nothing.
use mathlib.Core.Path.{◌≡◌, refl, sym, ap, ap₂, ◌∙◌}
use mathlib.Core.Bool.{Bool, true, cond, ◌&&◌}
use mathlib.Core.List.{List, [], ◌∷◌}
use mathlib.Core.Logic.{⊎_elim}
use Prim.Native.Nat.{ℕ, ◌+◌, ◌≤◌, ◌<◌}
use native.Mathlib.Omega.{arith}
use lib.Dec.{ltb}
use borrow.Author.Tests.{lt-ltb, le-ltb}
use lib.ListN.{length, get_or, set, length-set}
use lib.Seq.{get_or-set_same, get_or-set_other}
use Rattle.field.proofs.Cases.{below?}
use Rattle.instruction.specs.Decode.{left_id, right_id}
use Rattle.trace.specs.Counts.{wires}
use Rattle.trace.specs.State.{wires_of, made_of, is_accepted}
use Rattle.trace.specs.Outcome.{Lent, Outcome}
use Rattle.trace.specs.Eval.{position, raised}
use Rattle.trace.specs.Calls.{Call, read, eval, called, calls, names, gate_names, call_names, accepteds, left_counted, left_name, call_leaves, left_raised}
use Rattle.trace.proofs.Choices.{both}
use Rattle.trace.proofs.Stores.{same?, names_same, names_other, raised_at}
use Rattle.trace.proofs.Runs.{each_call}
use Rattle.trace.proofs.Reached.{call_follows, calls_follow, start}

-- ---- one count, by its position

-- the count at position k where m wires are made; 0 of a wire that is not
abbrev made_count : ℕ → List ℕ → ℕ → ℕ
made_count m cs k = cond (ltb k m) (get_or cs k 0) 0

made_below : (m : ℕ) (cs : List ℕ) (k : ℕ) → k < m → made_count m cs k ≡ get_or cs k 0
made_below m cs k h = rw (lt-ltb k m h)

made_above : (m : ℕ) (cs : List ℕ) (k : ℕ) → m ≤ k → made_count m cs k ≡ 0
made_above m cs k h = rw (le-ltb k m h)

-- a wire made at position m starts with count 0
make_count : (m : ℕ) (cs : List ℕ) (k : ℕ) → m < length cs → made_count (m + 1) (set cs m 0) k ≡ made_count m cs k
make_count m cs k h =
    ⊎_elim
    (λ (l : k < m).
    made_below (m + 1) (set cs m 0) k (omega arith) ∙ get_or-set_other cs m k 0 0 (λ e. omega arith) ∙ sym (made_below m cs k l))
    (λ (l : m ≤ k). ⊎_elim
    (λ (i : m < k). made_above (m + 1) (set cs m 0) k (omega arith) ∙ sym (made_above m cs k l))
    (λ (i : k ≤ m).
    let e : k ≡ m = omega arith in
    rw e (made_below (m + 1) (set cs m 0) m (omega arith) ∙ get_or-set_same cs m 0 0 h ∙ sym (made_above m cs m (omega arith))))
    (below? m k))
    (below? k m)

-- raising the count of a wire that is made
raise_count : (m : ℕ) (cs : List ℕ) (j k : ℕ) → j < m → m ≤ length cs → made_count m (raised j cs) k ≡ made_count m cs k + names j k
raise_count m cs j k h r =
    ⊎_elim
    (λ (l : k < m).
    let x = made_below m (raised j cs) k l in
    let y = made_below m cs k l in
    let z = raised_at cs j k (omega arith) in
    omega arith)
    (λ (l : m ≤ k).
    let x = made_above m (raised j cs) k l in
    let y = made_above m cs k l in
    let z = names_other j k (λ e. omega arith) in
    omega arith)
    (below? k m)

-- two wires are at one position where their ids are one
names-position : (w i j : ℕ) → i < w → j < w → names (position w i) (position w j) ≡ names i j
names-position w i j hi hj =
    ⊎_elim
    (λ (e : i ≡ j). rw e (names_same (position w j) (position w j) refl ∙ sym (names_same j j refl)))
    (λ (n : i ≡ j → ⊥). names_other (position w i) (position w j) (λ e. n (omega arith)) ∙ sym (names_other i j n))
    (same? i j)

-- ---- a call

-- the count of the wire with an id, and 0 of a wire that is not made
abbrev count_of : Outcome → ℕ → ℕ
count_of o id = made_count (made_of o.state) o.buffers.counts (position (wires_of o.state) id)

-- what a call that left q adds to it
abbrev adds : Call → Outcome → Outcome → ℕ → ℕ
adds (read ptr w) o q id = 0
adds (eval ptr word) o q id = gate_names (is_accepted q.told) word id + left_name (is_accepted q.told) (left_counted o.state ptr word o.buffers) word id

adds_is : (c : Call) (o : Outcome) (id : ℕ) → adds c o (called c o) id ≡ call_names c o id + call_leaves c o id
adds_is (read ptr w) o id = omega arith
adds_is (eval ptr word) o id = refl

read-counts : (m n w : ℕ) (cs : List ℕ) (k : ℕ) → n ≡ m + 1 + 1 → n ≤ w → w ≤ length cs → made_count n (set (set cs m 0) (m + 1) 0) k ≡ made_count m cs k + 0
read-counts m n w cs k e h r =
    let x = make_count (m + 1) (set cs m 0) k (simp length-set (omega arith)) in
    let y = make_count m cs k (omega arith) in
    rw e (x ∙ y ∙ omega arith)

eval_counts : (m n w : ℕ) (cs : List ℕ) (i j id : ℕ) → n ≡ m + 1 → n ≤ w → w ≤ length cs → i < w → position w i < m → j < w → position w j < m → id < w
    → made_count n (set (raised (position w j) (raised (position w i) cs)) m 0) (position w id) ≡ made_count m cs (position w id) + ((names i id + names j id) + 0)
eval_counts m n w cs i j id e h r hi mi hj mj hid =
    let x = make_count m (raised (position w j) (raised (position w i) cs)) (position w id) (simp length-set (omega arith)) in
    let y = raise_count m (raised (position w i) cs) (position w j) (position w id) mj (simp length-set (omega arith)) in
    let z = raise_count m cs (position w i) (position w id) mi (omega arith) in
    let a = names-position w i id hi hid in
    let b = names-position w j id hj hid in
    rw e (x ∙ y ∙ omega arith)

left_counts : (m w : ℕ) (cs : List ℕ) (i id : ℕ) → m ≤ w → w ≤ length cs → i < w → position w i < m → id < w
    → made_count m (raised (position w i) cs) (position w id) ≡ made_count m cs (position w id) + (0 + names i id)
left_counts m w cs i id h r hi mi hid =
    let x = raise_count m cs (position w i) (position w id) mi (omega arith) in
    let a = names-position w i id hi hid in
    omega arith

-- every call, of every state and buffers
count_called : (c : Call) (o : Outcome) (id : ℕ) → id < wires_of o.state → count_of (called c o) id ≡ count_of o id + adds c o (called c o) id
count_called =
    each_call (λ c o q. (id : ℕ) → id < wires_of o.state → count_of q id ≡ count_of o id + adds c o q id)
    (λ o ptr w a id h.
    let f = a.has_room in
    read-counts (made_of o.state) _ (wires_of o.state) o.buffers.counts _ (omega arith) (omega arith) f.for_counts)
    (λ o ptr w n k id h. omega arith)
    (λ o ptr word a id h.
    let f = a.taken.has_room in
    let l = a.taken.left in
    let r = a.right in
    eval_counts (made_of o.state) _ (wires_of o.state) o.buffers.counts (left_id word) (right_id word) id (omega arith) (omega arith) f.for_counts l.wire l.made r.wire r.made h)
    (λ o ptr word n k e id h. rw e (omega arith))
    (λ o ptr word n k e t id h.
    let f = t.has_room in
    let l = t.left in
    rw e (left_counts (made_of o.state) (wires_of o.state) o.buffers.counts (left_id word) id (omega arith) f.for_counts l.wire l.made h))

-- ---- a list of calls

counts-called : (cs : List Call) (o : Outcome) (id : ℕ) → id < wires_of o.state → count_of (calls cs o) id ≡ count_of o id + (accepteds cs o id + left_raised cs o id)
unfolding calls accepteds left_raised
counts-called [] o id h = omega arith
counts-called (c ∷ cs) o id h =
    let f = call_follows c o in
    let x = counts-called cs (called c o) id (omega arith) in
    let y = count_called c o id h in
    let z = adds_is c o id in
    omega arith

-- every call of the list is accepted
unfoldable pub all_accepted : List Call → Outcome → Bool
all_accepted [] o = true
all_accepted (c ∷ cs) o = is_accepted (called c o).told && all_accepted cs (called c o)

-- the operands of a list of gates that name the wire with an id
unfoldable pub named_by : List Call → ℕ → ℕ
named_by [] id = 0
named_by (read ptr w ∷ cs) id = named_by cs id
named_by (eval ptr word ∷ cs) id = names (left_id word) id + names (right_id word) id + named_by cs id

all_named : (cs : List Call) (o : Outcome) (id : ℕ) → all_accepted cs o ≡ true → (accepteds cs o id ≡ named_by cs id) × (left_raised cs o id ≡ 0)
unfolding accepteds left_raised all_accepted named_by
all_named [] o id e = (refl, refl)
all_named (read ptr w ∷ cs) o id e =
    let a = both (is_accepted (called (read ptr w) o).told) (all_accepted cs (called (read ptr w) o)) e in
    let x = all_named cs (called (read ptr w) o) id a.1 in
    (omega arith, omega arith)
all_named (eval ptr word ∷ cs) o id e =
    let a = both (is_accepted (called (eval ptr word) o).told) (all_accepted cs (called (eval ptr word) o)) e in
    let x = all_named cs (called (eval ptr word) o) id a.1 in
    (rw a.0 (ap (λ (n : ℕ). names (left_id word) id + names (right_id word) id + n) x.0), rw a.0 (omega arith))

-- "counting a wire once when both operands name it" is an error: it counts twice
pub named_twice : (word : ℕ) → left_id word ≡ right_id word → gate_names true word (left_id word) ≡ 2
named_twice word e =
    let l = names_same (left_id word) (left_id word) refl in
    let r = names_same (right_id word) (left_id word) (sym e) in
    omega arith

module _ (ctx clk num-read num-eval : ℕ) (b : Lent) where
  -- after any run of steps each made wire's count is the number of operands naming it in accepted gates, plus the left counts that refused steps left raised
  -- an accepted opening is not asked for: where opening refuses, no call makes a wire
  pub multiplicities : (cs : List Call) (id : ℕ) → id < wires num-read num-eval → position (wires num-read num-eval) id < made_of (calls cs (start ctx clk num-read num-eval b)).state
      → get_or (calls cs (start ctx clk num-read num-eval b)).buffers.counts (position (wires num-read num-eval) id) 0
      ≡ accepteds cs (start ctx clk num-read num-eval b) id + left_raised cs (start ctx clk num-read num-eval b) id
  multiplicities cs id h m =
      let o = calls cs (start ctx clk num-read num-eval b) in
      let f = calls_follow cs (start ctx clk num-read num-eval b) in
      let w : wires_of (calls cs (start ctx clk num-read num-eval b)).state ≡ wires num-read num-eval = ap₂ wires f.same_read f.same_eval in
      let x = rw w at (counts-called cs (start ctx clk num-read num-eval b) id h) in
      let y = made_below (made_of o.state) o.buffers.counts (position (wires num-read num-eval) id) m in
      let z = made_above 0 b.counts (position (wires num-read num-eval) id) (omega arith) in
      omega arith

  -- where every call is accepted, it is the number of operands that name it
  pub all_multiplicities : (cs : List Call) (id : ℕ) → all_accepted cs (start ctx clk num-read num-eval b) ≡ true
      → id < wires num-read num-eval → position (wires num-read num-eval) id < made_of (calls cs (start ctx clk num-read num-eval b)).state
      → get_or (calls cs (start ctx clk num-read num-eval b)).buffers.counts (position (wires num-read num-eval) id) 0 ≡ named_by cs id
  all_multiplicities cs id e h m =
      let x = multiplicities cs id h m in
      let y = all_named cs (start ctx clk num-read num-eval b) id e in
      omega arith
