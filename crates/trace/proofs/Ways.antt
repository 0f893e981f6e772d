-- Laws by which `do_read` and `do_eval` come to what their contracts say, way by way.
-- Assumes nothing.
use mathlib.Core.Path.{◌≡◌, sym, ap, ◌∙◌, subst}
use mathlib.Core.Bool.{true}
use Rattle.std.proofs.Common.{Result, Ok, Err}
use mathlib.Core.List.{List, [], ◌∷◌}
use mathlib.Core.Logic.{⊎_elim}
use Prim.Native.Nat.{ℕ, ◌+◌, ◌-◌, ◌*◌, ◌^◌, ◌<◌}
use native.Mathlib.Omega.{arith}
use lib.Dec.{ltb}
use lib.ListN.{length, get_or}
use borrow.Author.Tests.{ltb-true}
use Rattle.refusal.specs.Told.{Told, accepted, refused}
use Rattle.field.specs.Field.{p, sub_f}
use Rattle.field.specs.Pair.{Pair, pair, Elements}
use Rattle.field.specs.Answer.{pair_of}
use Rattle.field.proofs.Cases.{below?}
use Rattle.refusal.specs.Refusal.{number_of, place_of}
use Rattle.refusal.specs.declared.Refusal.{Refusal}
use Rattle.refusal.proofs.Tellings.{clash, same_values}
use Rattle.field.proofs.Over.{elements_of}
use Rattle.instruction.specs.Decode.{left_id, right_id, opcode, decode_answer}
use Rattle.instruction.proofs.Laws.{not_instruction, instruction}
use Rattle.trace.specs.declared.CircuitEvaluation.{CircuitEvaluation}
use Rattle.trace.specs.Counts.{most_wires}
use Rattle.trace.specs.State.{wires_of, made_of, read_turn, eval_turn}
use Rattle.trace.specs.Outcome.{Lent, lent, outcome, fits, value_at}
use Rattle.trace.specs.Record.{tested_told}
use Rattle.trace.specs.Read.{read_tests, read_made, read_step, first_pair, second_pair}
use Rattle.trace.specs.Eval.{eval_tests, position, is_made, stored_answer, operand_answer, operand, raised, eval_made, operands_step, eval_step}
use Rattle.trace.specs.declared.wire_bus.WireBus.{WireBus}
use Rattle.trace.specs.Inside.{operand_told, counts_after, bus_of, BusRoom, Room, ReadReady, EvalReady}
use Rattle.trace.proofs.Choices.{both, passes}
use Rattle.trace.proofs.Tests.{Counts, read_turn_of, eval_turn_of, room_of}

room-here : (s : CircuitEvaluation) (b : Lent) → Counts most_wires s.num_read s.num_eval → fits s b ≡ true → Room s b.values b.counts b.nodes
room-here s b h f =
    let r = room_of _ _ _ _ _ f in
    record { few = h.few; room-values = r.for_values; room-counts = r.for_counts; room-nodes = r.for_nodes }

-- what a test told, once it is known to have passed
passed : (r : Result Unit Refusal) (u : Unit) (t : Told) → tested_told r ≡ t → r ≡ Ok u → accepted [] ≡ t
passed r u t e q = rw q at e

-- READ
module _ (s : CircuitEvaluation) (ptr : ℕ) (w : List (List ℕ)) (b : Lent) where
  pub read_refused : (number place : ℕ) → refused number place ≡ read_tests s (fits s b) ptr w → outcome (refused number place) s b ≡ read_step s ptr w b
  unfolding read_step
  read_refused n k e = rw (← e)

  module _ {r : Result Unit Refusal} (told : tested_told r ≡ read_tests s (fits s b) ptr w) {u : Unit} (is_u : r ≡ Ok u) where
    read_passed : accepted [] ≡ read_tests s (fits s b) ptr w
    read_passed = passed r _ _ told is_u

    pub read_ready : Room s b.values b.counts b.nodes × ReadReady s
    unfolding read_tests
    read_ready =
        let t = passes (read_turn s) _ 13 0 [] (sym read_passed) in
        let f = passes (fits s b) _ 6 0 [] t.1 in
        let h = read_turn_of s t.0 in
        let d = h.0 in
        let g : s.evals_done ≡ 0 = ⊎_elim (λ q. q) (λ q. absurd (omega arith)) d.order in
        (room-here s b d.counts f.0, record { to_read = h.1; no_gate = g; two_ids = omega arith; read_id = omega arith })

    pub read_accepted : {id : ℕ} {after : Lent} → id ≡ sub_f s.id_next 2 → after ≡ read_made s ptr (pair_of (first_pair w)) (pair_of (second_pair w)) b
        → outcome (accepted []) (record { ctx = s.ctx; clk = s.clk; num_read = s.num_read; num_eval = s.num_eval; reads_done = s.reads_done + 1; evals_done = s.evals_done; id_next = id }) after
        ≡ read_step s ptr w b
    unfolding read_step
    read_accepted i q = rw (← read_passed, i, q)

-- an operand that is taken: its wire was made, its cells are elements and its value
pub record Taken (num-wires made id : ℕ) (vs cs : List ℕ) (v : Pair) : Type 0 where
  pub wire : id < num-wires
  pub early : position num-wires id < made
  pub count : get_or cs (position num-wires id) 0 < 2 ^ 32 - 1
  pub elements : Elements v
  pub value : v ≡ value_at vs (position num-wires id)

pub taken : (number gate num-wires made id : ℕ) (vs cs v : List ℕ) → accepted v ≡ operand_answer number gate num-wires made id vs cs → Taken num-wires made id vs cs (pair_of v)
unfolding operand_answer stored_answer
taken number gate n m id vs cs v e =
    let k = position n id in
    let a = passes (is_made n m id) _ number gate _ (sym e) in
    let d = passes (ltb (get_or vs (2 * k) 0) p) _ 7 (2 * k) _ a.1 in
    let f = passes (ltb (get_or vs (2 * k + 1) 0) p) _ 7 (2 * k + 1) _ d.1 in
    let g = passes (ltb (get_or cs k 0) (2 ^ 32 - 1)) _ 13 0 _ f.1 in
    let i = both _ _ a.0 in
    let q : pair (get_or vs (2 * k) 0) (get_or vs (2 * k + 1) 0) ≡ pair_of v = ap pair_of (same_values g.1) in
    record {
      wire = ltb-true _ _ i.0;
      early = ltb-true _ _ i.1;
      count = ltb-true _ _ g.0;
      elements = subst Elements q (record { low = ltb-true _ _ d.0; high = ltb-true _ _ f.0 });
      value = sym q;
    }

-- EVAL
module _ (s : CircuitEvaluation) (ptr word : ℕ) (b : Lent) where
  pub eval_refused : (number place : ℕ) → refused number place ≡ eval_tests s (fits s b) ptr word → outcome (refused number place) s b ≡ eval_step s ptr word b
  unfolding eval_step
  eval_refused n k e = rw (← e)

  module _ {r : Result Unit Refusal} (told : tested_told r ≡ eval_tests s (fits s b) ptr word) {u : Unit} (is_u : r ≡ Ok u) where
    eval_passed : accepted [] ≡ eval_tests s (fits s b) ptr word
    eval_passed = passed r _ _ told is_u

    pub eval_ready : Room s b.values b.counts b.nodes × EvalReady s
    unfolding eval_tests
    eval_ready =
        let t = passes (eval_turn s) _ 13 0 [] (sym eval_passed) in
        let f = passes (fits s b) _ 6 0 [] t.1 in
        let h = eval_turn_of s t.0 in
        let d = h.0 in
        (room-here s b d.counts f.0, record { all_read = h.1; to_eval = h.2; eval_id = omega arith })

    word_element : word < p
    unfolding eval_tests
    word_element =
        let t = passes (eval_turn s) _ 13 0 [] (sym eval_passed) in
        let f = passes (fits s b) _ 6 0 [] t.1 in
        elements_of (word ∷ ptr ∷ []) [] _ f.1 0 (omega arith)

    undecoded : (number place : ℕ) → refused number place ≡ decode_answer word → decode_answer word ≡ refused 8 0
    undecoded n k q =
        ⊎_elim
        (λ l. clash (q ∙ instruction word word_element l))
        (λ l. not_instruction word word_element l)
        (below? (opcode word) 3)

    pub eval_undecoded : {number place : ℕ} → refused number place ≡ decode_answer word → outcome (refused 8 s.evals_done) s b ≡ eval_step s ptr word b
    unfolding eval_step
    eval_undecoded {number = n} {place = k} q = rw (← eval_passed, undecoded n k q)

    module _ {left right op : ℕ} (d : accepted (left ∷ right ∷ op ∷ []) ≡ decode_answer word) where
      parts : (left ≡ left_id word) × (right ≡ right_id word) × (op ≡ opcode word)
      parts =
          ⊎_elim
          (λ l. same (d ∙ instruction word word_element l))
          (λ l. clash (sym (d ∙ not_instruction word word_element l)))
          (below? (opcode word) 3)
        where
          same : accepted (left ∷ right ∷ op ∷ []) ≡ accepted (left_id word ∷ right_id word ∷ opcode word ∷ []) → (left ≡ left_id word) × (right ≡ right_id word) × (op ≡ opcode word)
          same q = let q₀ : left ≡ left_id word = cc in let q₁ : right ≡ right_id word = cc in let q₂ : op ≡ opcode word = cc in (q₀, q₁, q₂)

      -- past 13, 6, 7 and 8 the step is what its operands make of it
      pub eval_operands : operands_step s ptr left right op b ≡ eval_step s ptr word b
      unfolding eval_step
      eval_operands = rw (parts.0, parts.1, parts.2, ← eval_passed, ← d)

-- counts of the same length leave the room as it is
pub room_kept : (s : CircuitEvaluation) (vs cs ns ds : List ℕ) → length ds ≡ length cs → Room s vs cs ns → Room s vs ds ns
room_kept s vs cs ns ds e r = record { few = r.few; room-values = r.room-values; room-counts = rw e r.room-counts; room-nodes = r.room-nodes }

pub bus-room : (s : CircuitEvaluation) (w : WireBus) (vs cs ns : List ℕ) → w ≡ bus_of s → Room s vs cs ns → EvalReady s → BusRoom w vs cs
bus-room s w vs cs ns e r h = rw e (record { bus_few = r.few; bus_made = (let l = h.to_eval in omega arith); bus-values = r.room-values; bus-counts = r.room-counts })

-- the two operands, by what looking at each of them on the state's bus answered and left in the counts
module _ (s : CircuitEvaluation) (ptr left right op : ℕ) (b : Lent) (w : WireBus) (at_bus : w ≡ bus_of s) where
  module _
      (o : Result (List ℕ) Refusal)
      (cs : List ℕ)
      (look : operand_told o ≡ operand_answer 9 s.evals_done w.num_wires w.made left b.values b.counts)
      (raise : cs ≡ counts_after (operand_told o) (position w.num_wires left) b.counts)
    where
      told : operand_told o ≡ operand 9 s left b
      told = rw at_bus at look

      pub left_refused : (e : Refusal) → o ≡ Err e → outcome (refused (number_of e) (place_of e)) s (lent b.values cs b.nodes) ≡ operands_step s ptr left right op b
      unfolding operands_step
      left_refused e is = rw (raise, at_bus, ← told, is)

      module _ (l : List ℕ) (is_l : o ≡ Ok l) where
        pub left_taken : Taken (wires_of s) (made_of s) left b.values b.counts (pair_of l)
        left_taken = taken 9 s.evals_done _ _ _ _ _ l (ap operand_told (sym is_l) ∙ told)

        left-counted : cs ≡ raised (position (wires_of s) left) b.counts
        left-counted = rw (is_l, at_bus) at raise

        module _
            (q : Result (List ℕ) Refusal)
            (ds : List ℕ)
            (look₂ : operand_told q ≡ operand_answer 10 s.evals_done w.num_wires w.made right b.values cs)
            (raise₂ : ds ≡ counts_after (operand_told q) (position w.num_wires right) cs)
          where
            told₂ : operand_told q ≡ operand 10 s right (lent b.values cs b.nodes)
            told₂ = rw at_bus at look₂

            pub right_refused : (e : Refusal) → q ≡ Err e → outcome (refused (number_of e) (place_of e)) s (lent b.values ds b.nodes) ≡ operands_step s ptr left right op b
            unfolding operands_step
            right_refused e is = rw (raise₂, at_bus, ← told, is_l, ← left-counted, ← told₂, is)

            module _ (r : List ℕ) (is_r : q ≡ Ok r) where
              pub right_taken : Taken (wires_of s) (made_of s) right b.values cs (pair_of r)
              right_taken = taken 10 s.evals_done _ _ _ _ _ r (ap operand_told (sym is_r) ∙ told₂)

              right-counted : ds ≡ raised (position (wires_of s) right) cs
              right-counted = rw (is_r, at_bus) at raise₂

              pub both_taken : (id : ℕ) (after : Lent) → id ≡ sub_f s.id_next 1 → after ≡ eval_made s ptr left right op (pair_of l) (pair_of r) (lent b.values ds b.nodes)
                  → outcome (accepted []) (record { ctx = s.ctx; clk = s.clk; num_read = s.num_read; num_eval = s.num_eval; reads_done = s.reads_done; evals_done = s.evals_done + 1; id_next = id }) after
                  ≡ operands_step s ptr left right op b
              unfolding operands_step
              both_taken id after i e =
                  rw (
                    ← told,
                    is_l,
                    ← left-counted,
                    ← told₂,
                    is_r,
                    ← right-counted,
                    e,
                    i,
                    ap (λ (v : Pair). v.c0) left_taken.value,
                    ap (λ (v : Pair). v.c1) left_taken.value,
                    ap (λ (v : Pair). v.c0) right_taken.value,
                    ap (λ (v : Pair). v.c1) right_taken.value,
                  )
