-- The EVAL step of a gate: it leads to the next stage, or is refused as the definition by wire id says.
-- Assumes nothing.
use mathlib.Core.Path.{◌≡◌, refl, sym, ap, ap₂, ◌∙◌, subst}
use mathlib.Core.Bool.{true, false}
use mathlib.Core.List.{List, [], ◌∷◌, ◌++◌, append_assoc}
use mathlib.Core.Logic.{◌⊎◌, ⊎_elim, inl, inr}
use Prim.Native.Nat.{ℕ, zero, suc, ◌+◌, ◌-◌, ◌*◌, ◌^◌, ◌≤◌, ◌<◌}
use native.Mathlib.Omega.{arith}
use lib.ListN.{length, get_or, set, drop}
use lib.Seq.{sets, drop-set-lt, drop-append-add, drop-drop}
use borrow.Author.Tests.{ltb-true}
use Rattle.refusal.specs.Told.{accepted, refused}
use Rattle.field.specs.Field.{p, first_over}
use Rattle.field.specs.Pair.{Pair, cells}
use Rattle.field.proofs.Over.{over_later, of_elements_lem}
use Rattle.field.proofs.Cases.{below?}
use Rattle.instruction.specs.Decode.{left_id, right_id, opcode, decode_answer}
use Rattle.instruction.proofs.Laws.{instruction, not_instruction}
use Rattle.trace.specs.declared.CircuitEvaluation.{CircuitEvaluation}
use Rattle.std.proofs.Common.{Ok, Err}
use Rattle.refusal.specs.declared.Refusal.TheVariants.{LeftNotMade, RightNotMade}
use Rattle.trace.specs.Inside.{bus_of}
use Rattle.trace.specs.Counts.{wires, node_cells}
use Rattle.trace.specs.State.{wires_of, next_id}
use Rattle.trace.specs.Outcome.{Lent, lent, outcome, fits}
use Rattle.trace.specs.Eval.{eval_tests, position, is_made, operand_answer, operand, raised, combine, eval_op, eval_node, eval_made, operands_step, eval_step}
use Rattle.trace.specs.Calls.{names}
use Rattle.trace.proofs.Choices.{both}
use Rattle.trace.proofs.Tests.{eval_turn_is}
use Rattle.trace.proofs.Stores.{same?, names_same, names_other, raised_at}
use Rattle.trace.proofs.NextId.{next_lacking, next_later}
use Rattle.trace.proofs.StepTests.{eval_cells_lem, as_stored, stored-value}
use Rattle.trace.proofs.Answers.{lent_equal}
use Rattle.trace.proofs.Ways.{eval_undecoded, eval_operands, left_refused, right_refused, both_taken}
use Rattle.eval_circuit.specs.Circuit.{Circuit, num_wires, word, value, named_by, gate_answer}
use Rattle.eval_circuit.specs.Evaluated.{id_at, value_cells, read_cells, eval_cells}
use Rattle.field.specs.Lists.{each}
use Rattle.eval_circuit.specs.Inside.{circuit_of, after, named_cell, stage, Past, Prepared}
use Rattle.eval_circuit.proofs.Cases.{true_or_false}
use Rattle.field.proofs.Each.{each_more, each_equal, each_then}
use Rattle.eval_circuit.proofs.Fills.{fills, each_fills, each-raised}
use Rattle.eval_circuit.proofs.RegionCells.{region_at, region_length, region_word}
use Rattle.eval_circuit.proofs.Values.{Early, value_gate, value-elements}
use Rattle.eval_circuit.proofs.Gates.{left_made, right_made, made_early, gate_undecoded, gate_left, gate_right, gate_accepted}
use Rattle.eval_circuit.proofs.Stages.{nodes-length, values_length, counts-length, after-sound, stage-counts, stage-fits}

-- ---- how often a wire is named

names_most : (x y : ℕ) → names x y ≤ 1
names_most x y =
    ⊎_elim
    (λ (e : x ≡ y). omega (arith, names_same x y e))
    (λ (n : x ≡ y → ⊥). omega (arith, names_other x y n))
    (same? x y)

-- a gate names a wire at most twice
pub named_most : (c : Circuit) (n id : ℕ) → named_by n c id ≤ 2 * n
unfolding named_by
named_most c zero id = omega arith
named_most c (suc n) id =
    let h = named_most c n id in
    let l = names_most (left_id (word c n)) id in
    let r = names_most (right_id (word c n)) id in
    omega arith

-- no gate names a wire that is made with it or after it
pub named_none : (c : Circuit) (n id : ℕ) → ((j : ℕ) → j < n → Early c j) → ((j : ℕ) → j < n → c.vars + j ≤ position (num_wires c) id) → named_by n c id ≡ 0
unfolding named_by
named_none c zero id early late = refl
named_none c (suc n) id early late =
    let h = named_none c n id (λ j l. early j (omega arith)) (λ j l. late j (omega arith)) in
    let e = early n (omega arith) in
    let m = late n (omega arith) in
    let l = names_other (left_id (word c n)) id (λ q. apart (left_id (word c n)) q e.left_early) in
    let r = names_other (right_id (word c n)) id (λ q. apart (right_id (word c n)) q e.right_early) in
    omega arith
  where
    apart : (x : ℕ) → x ≡ id → position (num_wires c) x < c.vars + n → ⊥
    apart x q l = let m = late n (omega arith) in let h : position (num_wires c) id < c.vars + n = rw q at l in omega arith

-- two wires are one where their positions are
names_at : (w id k : ℕ) → id < w → k < w → names (w - 1 - id) k ≡ names id (w - 1 - k)
names_at w id k h l =
    ⊎_elim
    (λ (e : id ≡ w - 1 - k). names_same (w - 1 - id) k (omega arith) ∙ sym (names_same id (w - 1 - k) e))
    (λ (n : id ≡ w - 1 - k → ⊥). names_other (w - 1 - id) k (λ q. n (omega arith)) ∙ sym (names_other id (w - 1 - k) n))
    (same? id (w - 1 - k))

-- what lies past cells that are made
pub past_front : (front old : List ℕ) (n m : ℕ) → length front ≡ n → n ≤ m → drop m (front ++ drop n old) ≡ drop m old
past_front front old n m e h =
    let q : m ≡ length front + (m - n) = omega arith in
    let r : n + (m - n) ≡ m = omega arith in
    ap (λ (j : ℕ). drop j (front ++ drop n old)) q
    ∙ drop-append-add front (drop n old) (m - n)
    ∙ drop-drop (m - n) n old
    ∙ ap (λ (j : ℕ). drop j old) r

not_there : (number gate w n id : ℕ) (vs cs : List ℕ) → is_made w n id ≡ false → refused number gate ≡ operand_answer number gate w n id vs cs
unfolding operand_answer
not_there number gate w n id vs cs h = rw h

-- what a gate's step comes to: the next stage, or the refusal of the gate with nothing changed past the used cells
pub record Next (c : Circuit) (s : CircuitEvaluation) (ptr at k : ℕ) (b : Lent) : Type 0 where
  pub passed : gate_answer c k ≡ accepted []
  pub leads : eval_step (after s s.num_read k) at (word c k) (stage c ptr s.num_read k b)
      ≡ outcome (accepted []) (after s s.num_read (k + 1)) (stage c ptr s.num_read (k + 1) b)

pub record Stop (c : Circuit) (s : CircuitEvaluation) (ptr at k : ℕ) (b : Lent) : Type 0 where
  pub number : ℕ
  pub left : Lent
  pub stopped : gate_answer c k ≡ refused number k
  pub ends : eval_step (after s s.num_read k) at (word c k) (stage c ptr s.num_read k b) ≡ outcome (refused number k) (after s s.num_read k) left
  pub past : Past c (node_cells s.num_read s.num_eval) left b

module _ (s : CircuitEvaluation) (memory : List ℕ) (ptr : ℕ) (b : Lent) (ok : Prepared s memory ptr b) (k : ℕ) (hk : k < s.num_eval) where
  abbrev c : Circuit
  c = circuit_of s memory ptr

  abbrev reads : ℕ
  reads = s.num_read

  abbrev state : CircuitEvaluation
  state = after s reads k

  abbrev here : Lent
  here = stage c ptr reads k b

  -- the wires made before the gate
  abbrev n : ℕ
  n = wires reads k

  abbrev left : ℕ
  left = left_id (word c k)

  abbrev right : ℕ
  right = right_id (word c k)

  pub word_below : word c k < p
  word_below =
      let e : ptr + (2 * (2 * s.num_read) + k) ≡ ptr + (4 * s.num_read + k) = omega arith in
      rw (region_word memory ptr (2 * s.num_read) s.num_eval k hk, e) (ok.elements (4 * s.num_read + k) (omega arith))

  cells-below : (j : ℕ) → j < length c.cells → get_or c.cells j 0 < p
  cells-below j h =
      let r = ok.region in
      let l = region_length memory ptr (2 * s.num_read) s.num_eval (omega arith) in
      rw (region_at memory ptr (2 * s.num_read) s.num_eval j (omega arith)) (ok.elements j (omega arith))

  here-past : Past c (node_cells reads s.num_eval) here b
  here-past = record {
    past_values = past_front (each (value_cells c) n) b.values (2 * n) (2 * num_wires c) (values_length c n) (omega arith);
    past_counts = past_front (each (named_cell c k) n) b.counts n (num_wires c) (counts-length c k n) (omega arith);
    past_nodes = past_front (each (read_cells c ptr) reads ++ each (eval_cells c ptr) k) b.nodes (node_cells reads k) (node_cells reads s.num_eval) (nodes-length c ptr reads k) (omega arith);
  }

  module _ (at : ℕ) (e : at ≡ ptr + (2 * c.vars + k)) where
    tests : accepted [] ≡ eval_tests state (fits state here) at (word c k)
    tests =
        let a = ok.addresses in
        let l : at < p = omega arith in
        let f : 2 ≤ first_over (word c k ∷ at ∷ []) = omega (arith, over_later (word c k) (at ∷ []) word_below, over_later at [] l) in
        eval_cells_lem _ _ _ _ (eval_turn_is _ (after-sound s memory ptr b ok reads k (omega arith) (omega arith) (inr refl)) refl hk) _ (stage-fits s memory ptr b ok reads k (omega arith) (omega arith))
        (sym (of_elements_lem (word c k ∷ at ∷ []) (accepted []) f))

    undecoded : 3 ≤ opcode (word c k) → Stop c s ptr at k b
    undecoded o = record {
      number = 8;
      left = here;
      stopped = gate_undecoded c k word_below o;
      ends = sym (eval_undecoded state at (word c k) here tests refl (sym (not_instruction (word c k) word_below o)));
      past = here-past;
    }

    module _ (o : opcode (word c k) < 3) where
      decoded : accepted (left ∷ right ∷ opcode (word c k) ∷ []) ≡ decode_answer (word c k)
      decoded = sym (instruction (word c k) word_below o)

      operands-first : operands_step state at left right (opcode (word c k)) here ≡ eval_step state at (word c k) here
      operands-first = eval_operands state at (word c k) here tests refl decoded

      no-left : left_made c k ≡ false → Stop c s ptr at k b
      no-left l = record {
        number = 9;
        left = here;
        stopped = gate_left c k word_below o l;
        ends = sym (left_refused state at left right (opcode (word c k)) here (bus_of state) refl (Err (LeftNotMade k)) here.counts (not_there 9 k (num_wires c) n left here.values here.counts l) refl (LeftNotMade k) refl ∙ operands-first);
        past = here-past;
      }

      -- an operand that is made
      module _ (number id : ℕ) (w : id < num_wires c) (m : position (num_wires c) id < n) where
        id_is : id_at c (position (num_wires c) id) ≡ id
        id_is = omega arith

        cell_at : (j : ℕ) → j < 2 → get_or here.values (2 * position (num_wires c) id + j) 0 ≡ get_or (value_cells c (position (num_wires c) id)) j 0
        cell_at j h = each_then (value_cells c) 2 (λ i. refl) n (position (num_wires c) id) j (drop (2 * n) b.values) m h

        stored-first : get_or here.values (2 * position (num_wires c) id) 0 ≡ (value c id).c0
        stored-first =
            let z : 2 * position (num_wires c) id ≡ 2 * position (num_wires c) id + 0 = omega arith in
            ap (λ (x : ℕ). get_or here.values x 0) z ∙ cell_at 0 (omega arith) ∙ ap (λ (x : ℕ). (value c x).c0) id_is

        stored-second : get_or here.values (2 * position (num_wires c) id + 1) 0 ≡ (value c id).c1
        stored-second = cell_at 1 (omega arith) ∙ ap (λ (x : ℕ). (value c x).c1) id_is

        taken : (cs : List ℕ) → get_or cs (position (num_wires c) id) 0 < 2 ^ 32 - 1 → accepted ((value c id).c0 ∷ (value c id).c1 ∷ []) ≡ operand_answer number k (num_wires c) n id here.values cs
        taken cs h =
            let v = value-elements c cells-below id in
            let l₀ = v.low in
            let l₁ = v.high in
            let s₀ = stored-first in
            let s₁ = stored-second in
            as_stored number k (num_wires c) n id here.values cs _ w m
            (ap₂ (λ (x y : ℕ). accepted (x ∷ y ∷ [])) (sym stored-first) (sym stored-second)
            ∙ stored-value (position (num_wires c) id) here.values cs (omega arith) (omega arith) h)

        count_at : get_or here.counts (position (num_wires c) id) 0 ≡ named_by k c id
        count_at =
            let z : position (num_wires c) id ≡ 1 * position (num_wires c) id + 0 = omega arith in
            ap (λ (x : ℕ). get_or here.counts x 0) z
            ∙ each_then (named_cell c k) 1 (λ i. refl) n (position (num_wires c) id) 0 (drop n b.counts) m (omega arith)
            ∙ ap (λ (x : ℕ). named_by k c x) id_is

        count_small : get_or here.counts (position (num_wires c) id) 0 ≤ 2 * k
        count_small = omega (arith, count_at, named_most c k id)

      module _ (lw : left < num_wires c) (lm : position (num_wires c) left < n) where
        abbrev once : List ℕ
        once = raised (position (num_wires c) left) here.counts

        left_there : accepted ((value c left).c0 ∷ (value c left).c1 ∷ []) ≡ operand 9 state left here
        left_there = let f = ok.few in taken 9 left lw lm here.counts (omega (arith, count_small 9 left lw lm))

        once-past : drop (num_wires c) once ≡ drop (num_wires c) b.counts
        once-past = drop-set-lt (num_wires c) here.counts (position (num_wires c) left) _ (omega arith) ∙ here-past.past_counts

        no-right : left_made c k ≡ true → right_made c k ≡ false → Stop c s ptr at k b
        no-right l r = record {
          number = 10;
          left = lent here.values once here.nodes;
          stopped = gate_right c k word_below o l r;
          ends = sym (right_refused state at left right (opcode (word c k)) here (bus_of state) refl (Ok (cells (value c left))) once left_there refl _ refl
              (Err (RightNotMade k)) once (not_there 10 k (num_wires c) n right here.values once r) refl (RightNotMade k) refl
              ∙ operands-first);
          past = record { past_values = here-past.past_values; past_counts = once-past; past_nodes = here-past.past_nodes };
        }

        module _ (rw' : right < num_wires c) (rm : position (num_wires c) right < n) where
          abbrev twice : List ℕ
          twice = raised (position (num_wires c) right) once

          right_there : accepted ((value c right).c0 ∷ (value c right).c1 ∷ []) ≡ operand 10 state right (lent here.values once here.nodes)
          right_there =
              let f = ok.few in
              let h = count_small 10 right rw' rm in
              let q = raised_at here.counts (position (num_wires c) left) (position (num_wires c) right) (omega (arith, stage-counts s memory ptr b ok reads k (omega arith) (omega arith), ok.for_counts)) in
              let one = names_most (position (num_wires c) left) (position (num_wires c) right) in
              taken 10 right rw' rm once (omega arith)

          -- both operands are counted, also where they are one wire
          twice-is : twice ≡ each (named_cell c (suc k)) n ++ drop n b.counts
          unfolding named_by
          twice-is =
              ap (raised (position (num_wires c) right)) (each-raised (λ j. named_by k c (id_at c j)) n (position (num_wires c) left) (drop n b.counts) lm)
              ∙ each-raised (λ j. named_by k c (id_at c j) + names (position (num_wires c) left) j) n (position (num_wires c) right) (drop n b.counts) rm
              ∙ ap (λ (x : List ℕ). x ++ drop n b.counts)
              (each_equal _ (named_cell c (suc k)) n (λ j h.
              let x = names_at (num_wires c) left j lw (omega arith) in
              let y = names_at (num_wires c) right j rw' (omega arith) in
              let z : named_by k c (id_at c j) + names (position (num_wires c) left) j + names (position (num_wires c) right) j
              ≡ named_by k c (id_at c j) + (names (left_id (word c k)) (id_at c j) + names (right_id (word c k)) (id_at c j)) = omega arith in
              ap (λ (v : ℕ). v ∷ []) z))

          module _ (early : (j : ℕ) → j ≤ k → Early c j) where
            gate_value_lem : value c (id_at c n) ≡ combine (opcode (word c k)) (value c left) (value c right)
            gate_value_lem = value_gate c k hk early

            values-next : sets here.values (2 * n) (cells (combine (opcode (word c k)) (value c left) (value c right)))
                ≡ each (value_cells c) (wires reads (k + 1)) ++ drop (2 * wires reads (k + 1)) b.values
            values-next =
                let h = ok.for_values in
                let f : wires reads (k + 1) ≡ suc (wires reads k) = omega arith in
                rw f
                (ap (λ (v : Pair). sets here.values (2 * n) (cells v)) (sym gate_value_lem)
                ∙ each_fills (value_cells c) 2 (λ j. refl) n b.values (omega arith))

            new-count : named_by (suc k) c (id_at c n) ≡ 0
            new-count = named_none c (suc k) (id_at c n) (λ j h. early j (omega arith)) (λ j h. omega arith)

            counts-next : set twice n 0 ≡ each (named_cell c (k + 1)) (wires reads (k + 1)) ++ drop (wires reads (k + 1)) b.counts
            counts-next =
                let h = ok.for_counts in
                let f : wires reads (k + 1) ≡ suc (wires reads k) = omega arith in
                let g : k + 1 ≡ suc k = omega arith in
                let u : 1 * n ≡ n = omega arith in
                let v : 1 * suc n ≡ suc n = omega arith in
                rw (f, g)
                (ap₂ (λ (x : List ℕ) (y : ℕ). set x n y) twice-is (sym new-count)
                ∙ rw (u, v) at (each_fills (named_cell c (suc k)) 1 (λ j. refl) n b.counts (omega arith)))

            node-is : eval_node at (eval_op (opcode (word c k))) state.id_next (combine (opcode (word c k)) (value c left) (value c right)) left (value c left) right (value c right)
                ≡ eval_cells c ptr k
            node-is =
                let q : next_id (wires_of s) n ≡ id_at c n = next_lacking (wires_of s) n ok.few (omega arith) in
                ap (λ (x : ℕ). eval_node x (eval_op (opcode (word c k))) state.id_next (combine (opcode (word c k)) (value c left) (value c right)) left (value c left) right (value c right)) e
                ∙ ap₂ (λ (x : ℕ) (v : Pair). eval_node (ptr + (2 * c.vars + k)) (eval_op (opcode (word c k))) x v left (value c left) right (value c right)) q (sym gate_value_lem)

            nodes-next : sets here.nodes (node_cells reads k) (eval_cells c ptr k)
                ≡ each (read_cells c ptr) reads ++ each (eval_cells c ptr) (k + 1) ++ drop (node_cells reads (k + 1)) b.nodes
            nodes-next =
                let h = ok.for_nodes in
                let g : k + 1 ≡ suc k = omega arith in
                let f : node_cells reads k + 11 ≡ node_cells reads (suc k) = omega arith in
                fills (each (read_cells c ptr) reads ++ each (eval_cells c ptr) k) b.nodes (eval_cells c ptr k) (node_cells reads k) (nodes-length c ptr reads k) (omega arith)
                ∙ rw (f, g, each_more (eval_cells c ptr) k, append_assoc (each (read_cells c ptr) reads) (each (eval_cells c ptr) k) (eval_cells c ptr k))

            made-next : stage c ptr reads (k + 1) b ≡ eval_made state at left right (opcode (word c k)) (value c left) (value c right) (lent here.values twice here.nodes)
            made-next = lent_equal (sym values-next) (sym counts-next) (sym (ap (λ (x : List ℕ). sets here.nodes (node_cells reads k) x) node-is ∙ nodes-next))

            goes_on : left_made c k ≡ true → right_made c k ≡ true → Next c s ptr at k b
            goes_on l r =
                let f : wires reads k + 1 ≡ wires reads (k + 1) = omega arith in
                let id = sym (next_later (wires_of s) n 1 ok.few (omega arith) (omega arith) ∙ ap (λ (x : ℕ). next_id (wires_of s) x) f) in
                record {
                  passed = gate_accepted c k word_below o l r;
                  leads = sym (both_taken state at left right (opcode (word c k)) here (bus_of state) refl
                      (Ok (cells (value c left))) once left_there refl _ refl
                      (Ok (cells (value c right))) twice right_there refl _ refl
                      _ _ id made-next
                      ∙ operands-first);
                }

    -- gate k's step, where the gates before it are accepted
    pub eval_next : ((j : ℕ) → j < k → Early c j) → Next c s ptr at k b ⊎ Stop c s ptr at k b
    eval_next early =
        ⊎_elim
        (λ (o : opcode (word c k) < 3). ⊎_elim
        (λ (l : left_made c k ≡ true). ⊎_elim
        (λ (r : right_made c k ≡ true).
        let g = made_early c k l r in
        inl (goes_on o g.left_wire g.left_early g.right_wire g.right_early (with-this g) l r))
        (λ (r : right_made c k ≡ false). let m = both _ _ l in inr (no-right o (ltb-true _ _ m.0) (ltb-true _ _ m.1) l r))
        (true_or_false (right_made c k)))
        (λ (l : left_made c k ≡ false). inr (no-left o l))
        (true_or_false (left_made c k)))
        (λ (o : 3 ≤ opcode (word c k)). inr (undecoded o))
        (below? (opcode (word c k)) 3)
      where
        with-this : Early c k → (j : ℕ) → j ≤ k → Early c j
        with-this g j h =
            ⊎_elim
            (λ (l : j < k). early j l)
            (λ (l : k ≤ j). let q : k ≡ j = omega arith in subst (λ (i : ℕ). Early c i) q g)
            (below? j k)
