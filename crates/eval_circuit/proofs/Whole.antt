-- How whole evaluation comes to its answer and buffers, way by way.
-- Assumes nothing.
use mathlib.Core.Path.{◌≡◌, refl, sym, ap, ap₂, ◌∙◌, subst}
use mathlib.Core.Bool.{Bool, true, false, cond, ◌||◌}
use mathlib.Core.List.{List, [], ◌++◌}
use mathlib.Core.Logic.{⊎_elim}
use Prim.Native.Nat.{ℕ, ◌+◌, ◌-◌, ◌*◌, ◌/◌, ◌%◌, ◌^◌, ◌≤◌, ◌<◌}
use native.Mathlib.Omega.{arith}
use lib.Dec.{ltb, eqb}
use lib.ListN.{length, get_or, take, drop, replicate}
use borrow.Author.Tests.{lt-ltb, le-leb, lt-leb}
use Rattle.refusal.specs.Told.{Told, accepted, refused}
use Rattle.field.specs.Field.{p, first_over}
use Rattle.field.proofs.Over.{over_below}
use Rattle.refusal.proofs.Tellings.{clash, same_refusal, true_not_false}
use Rattle.trace.specs.declared.CircuitEvaluation.{CircuitEvaluation}
use Rattle.std.proofs.Common.{Result, Ok, Err, is_err}
use Rattle.refusal.specs.declared.Refusal.{Refusal}
use Rattle.trace.specs.declared.RecordHeader.{RecordHeader}
use Rattle.trace.specs.Counts.{most_wires, node_cells, room}
use Rattle.trace.specs.State.{wires_of}
use Rattle.trace.specs.Inside.{Room}
use Rattle.trace.specs.Outcome.{Lent, lent}
use Rattle.trace.specs.Open.{opened, numbers_of, open_answer}
use Rattle.trace.specs.Output.{is_zero, output_told}
use Rattle.trace.proofs.Tests.{room_of, counts_pass}
use Rattle.trace.proofs.Answers.{open_determined, lent_equal}
use Rattle.eval_circuit.specs.Circuit.{Circuit, num_wires, value}
use Rattle.eval_circuit.specs.Evaluated.{memory_cells, region_cells, circuit_at, of_cells, circuit_answer, of_region, eval_answer, value_cells, count_cell, read_cells, eval_cells, filled, zeroed, cleared, buffers_after, eval_buffers}
use Rattle.field.specs.Lists.{each}
use Rattle.eval_circuit.specs.Inside.{circuit_of, after, stage, Past, Prepared, Ran}
use Rattle.eval_circuit.proofs.Gates.{First, Passed, gate_refused, gates_refused}
use Rattle.eval_circuit.proofs.RegionCells.{memory_most, region_length, region_at, cells_pass}
use Rattle.eval_circuit.proofs.RegionTests.{Region, region_tested, region_pass}

-- a refusal from 1 to 5 does not ask what comes after
five : (a b d f g : Bool) (u : Told) (vs : List ℕ) (n k : ℕ)
    → refused n k ≡ cond a (refused 1 0) (cond b (refused 2 0) (cond d (refused 3 0) (cond f (refused 4 0) (cond g (refused 5 0) (accepted vs)))))
    → (refused n k ≡ cond a (refused 1 0) (cond b (refused 2 0) (cond d (refused 3 0) (cond f (refused 4 0) (cond g (refused 5 0) u))))) × (n ≤ 7)
five true b d f g u vs n k e = (e, let q : n ≡ 1 = cc in omega arith)
five false true d f g u vs n k e = (e, let q : n ≡ 2 = cc in omega arith)
five false false true f g u vs n k e = (e, let q : n ≡ 3 = cc in omega arith)
five false false false true g u vs n k e = (e, let q : n ≡ 4 = cc in omega arith)
five false false false false true u vs n k e = (e, let q : n ≡ 5 = cc in omega arith)
five false false false false false u vs n k e = clash e

region_stops : (ptr num-vars num-eval cells n k : ℕ) (u : Told) → refused n k ≡ of_region ptr num-vars num-eval cells (accepted []) → (refused n k ≡ of_region ptr num-vars num-eval cells u) × (n ≤ 7)
unfolding of_region
region_stops ptr v e cells n k u q =
    five (ltb most_wires (v + e)) (eqb v 0 || eqb (v % 2) 1) (eqb e 0 || ltb 0 (e % 4)) (ltb 0 (ptr % 4)) (ltb cells (ptr + region_cells v e)) u [] n k q

cells_over : (ptr : ℕ) (xs : List ℕ) (t : Told) (over : ℕ) → over ≡ ptr + first_over xs → over < ptr + length xs → refused 7 over ≡ of_cells ptr xs t
unfolding of_cells
cells_over ptr xs t over e h =
    let l : first_over xs < length xs = omega arith in
    rw (e, lt-ltb (first_over xs) (length xs) l)

module _ (ctx clk ptr num-vars num-eval : ℕ) (memory : List ℕ) (b : Lent) where
  abbrev c : Circuit
  c = circuit_at memory ptr num-vars num-eval

  abbrev answer : Told
  answer = eval_answer ctx clk ptr num-vars num-eval memory b

  abbrev buffers : Lent
  buffers = eval_buffers ctx clk ptr num-vars num-eval memory b

  -- "1 to 7 change nothing"
  kept : (n k : ℕ) → n ≤ 7 → refused n k ≡ answer → b ≡ buffers
  unfolding eval_buffers
  kept n k h e = rw (← e, le-leb n 7 h)

  region-told : (n k : ℕ) → refused n k ≡ of_region ptr num-vars num-eval (memory_cells memory) (accepted []) → refused n k ≡ answer
  unfolding eval_answer
  region-told n k e = (region_stops ptr num-vars num-eval (memory_cells memory) n k _ e).0

  pub stops_early : (n k : ℕ) → refused n k ≡ of_region ptr num-vars num-eval (memory_cells memory) (accepted []) → (refused n k ≡ answer) × (b ≡ buffers)
  stops_early n k e = (region-told n k e, kept n k (region_stops ptr num-vars num-eval (memory_cells memory) n k (accepted []) e).1 (region-told n k e))

  -- past 1 to 5
  module _ (r : Region ptr num-vars num-eval (memory_cells memory)) where
    abbrev reads : ℕ
    reads = num-vars / 2

    abbrev fit : Bool
    fit = room reads num-eval (length b.values) (length b.counts) (length b.nodes)

    past-region : cond fit (of_cells ptr c.cells (circuit_answer ctx clk c)) (refused 6 0) ≡ answer
    unfolding eval_answer
    past-region = region_pass ptr num-vars num-eval (memory_cells memory) _ r

    opens : open_answer ctx clk reads num-eval b ≡ cond fit (accepted (numbers_of (opened ctx clk reads num-eval))) (refused 6 0)
    unfolding open_answer
    opens =
        let h₀ = r.few in
        let h₁ = r.some_vars in
        let h₂ = r.even_vars in
        counts_pass most_wires reads num-eval _ (record { few = omega arith; reads = omega arith; evals = r.some_evals })

    -- opening refuses only a short buffer
    stops_short : (n k : ℕ) → refused n k ≡ open_answer ctx clk reads num-eval b → (refused n k ≡ answer) × (b ≡ buffers)
    stops_short n k e = (e ∙ opens ∙ rw short told, kept 6 0 (omega arith) told)
      where
        short : fit ≡ false
        short = no-fit fit (e ∙ opens)
          where
            no-fit : (x : Bool) → refused n k ≡ cond x (accepted (numbers_of (opened ctx clk reads num-eval))) (refused 6 0) → x ≡ false
            no-fit true q = clash q
            no-fit false q = refl

        told : refused 6 0 ≡ answer
        told = sym (rw short at (sym past-region))

    opened_is : (s : CircuitEvaluation) → accepted (numbers_of s) ≡ open_answer ctx clk reads num-eval b → (fit ≡ true) × (s ≡ opened ctx clk reads num-eval)
    opened_is s e = by-fit fit (e ∙ opens)
      where
        by-fit : (x : Bool) → accepted (numbers_of s) ≡ cond x (accepted (numbers_of (opened ctx clk reads num-eval))) (refused 6 0) → (x ≡ true) × (s ≡ opened ctx clk reads num-eval)
        by-fit true q = (refl, same (open_determined (Ok s) (Ok (opened ctx clk reads num-eval)) q))
          where
            same : ◌≡◌ {A = Result CircuitEvaluation Refusal} (Ok s) (Ok (opened ctx clk reads num-eval)) → s ≡ opened ctx clk reads num-eval
            same o = cc
        by-fit false q = clash (sym q)

    in_memory : ptr + region_cells num-vars num-eval ≤ length memory
    in_memory = (memory_most memory _ r.in_memory).0

    module _ (f : fit ≡ true) where
      past_room : of_cells ptr c.cells (circuit_answer ctx clk c) ≡ answer
      past_room = rw f at past-region

      stops_over : (over : ℕ) → over ≡ ptr + first_over c.cells → over < ptr + region_cells num-vars num-eval → (refused 7 over ≡ answer) × (b ≡ buffers)
      stops_over over e h = (told, kept 7 over (omega arith) told)
        where
          told : refused 7 over ≡ answer
          told =
              let l = region_length memory ptr num-vars num-eval in_memory in
              cells_over ptr c.cells (circuit_answer ctx clk c) over e (omega arith) ∙ past_room

      module _ (over : ℕ) (e : over ≡ ptr + first_over c.cells) (h : ptr + region_cells num-vars num-eval ≤ over) where
        below : (j : ℕ) → j < region_cells num-vars num-eval → get_or c.cells j 0 < p
        below j l = over_below c.cells j (omega arith)

        past-cells : circuit_answer ctx clk c ≡ answer
        past-cells =
            let l = region_length memory ptr num-vars num-eval in_memory in
            sym (cells_pass ptr c.cells (circuit_answer ctx clk c) (λ j i. below j (omega arith))) ∙ past_room

        module _ (s : CircuitEvaluation) (o : s ≡ opened ctx clk reads num-eval) where
          two-reads : 2 * reads ≡ num-vars
          two-reads = let q = r.even_vars in omega arith

          -- the circuit of the opened state is the one in memory
          circuit-is : circuit_of s memory ptr ≡ c
          circuit-is = ap (λ (t : CircuitEvaluation). circuit_of t memory ptr) o ∙ ap (λ (n : ℕ). circuit_at memory ptr n num-eval) two-reads

          prepared : Prepared s memory ptr b × (s ≡ after s 0 0)
          prepared =
              let g = room_of reads num-eval _ _ _ f in
              let h₀ = r.few in
              let h₁ = r.some_vars in
              let h₂ = r.even_vars in
              let m = memory_most memory _ r.in_memory in
              rw o (
                record {
                  few = omega arith;
                  some_reads = omega arith;
                  some_evals = r.some_evals;
                  for_values = g.for_values;
                  for_counts = g.for_counts;
                  for_nodes = g.for_nodes;
                  region = omega arith;
                  addresses = omega arith;
                  elements = λ j l. subst (λ (x : ℕ). x < p) (region_at memory ptr num-vars num-eval j (omega arith)) (below j (omega arith));
                },
                refl,
              )

          answer-is : (t : Told) → t ≡ circuit_answer s.ctx s.clk (circuit_of s memory ptr) → t ≡ answer
          answer-is t q =
              q
              ∙ ap (λ (d : Circuit). circuit_answer s.ctx s.clk d) circuit-is
              ∙ ap₂ (λ (x y : ℕ). circuit_answer x y c) (ap (λ (u : CircuitEvaluation). u.ctx) o) (ap (λ (u : CircuitEvaluation). u.clk) o)
              ∙ past-cells

          -- the last stage is the filled buffers
          last-stage : stage (circuit_of s memory ptr) ptr s.num_read s.num_eval b ≡ filled c ptr b
          last-stage =
              ap (λ (d : Circuit). stage d ptr s.num_read s.num_eval b) circuit-is
              ∙ ap₂ (λ (x y : ℕ). stage c ptr x y b) (ap (λ (u : CircuitEvaluation). u.num_read) o) (ap (λ (u : CircuitEvaluation). u.num_eval) o)
              ∙ ap (λ (n : ℕ).
              lent (each (value_cells c) n ++ drop (2 * n) b.values) (each (count_cell c) n ++ drop n b.counts)
              (each (read_cells c ptr) reads ++ each (eval_cells c ptr) num-eval ++ drop (node_cells reads num-eval) b.nodes))
              (ap (λ (n : ℕ). n + num-eval) two-reads)

          ends_accepted : (vs : List ℕ) (d : Lent) → accepted vs ≡ circuit_answer s.ctx s.clk (circuit_of s memory ptr)
              → d ≡ stage (circuit_of s memory ptr) ptr s.num_read s.num_eval b → (accepted vs ≡ answer) × (d ≡ buffers)
          unfolding eval_buffers
          ends_accepted vs d q e =
              let t = answer-is (accepted vs) q in
              (t, e ∙ last-stage ∙ ap (λ (x : Told). buffers_after x c ptr b) t)

          -- "8, 9, 10 and 12"
          late : (n k : ℕ) → refused n k ≡ circuit_answer ctx clk c → 7 < n
          late n k q =
              ⊎_elim
              (λ (g : First c 0 num-eval n k).
              let l = g.to in
              let w = gate_refused c g.gate n k (below (2 * num-vars + g.gate) (omega arith)) g.here in
              omega arith)
              (λ (g : Passed c 0 num-eval × (cond (is_zero (value c 0)) _ (refused 12 0) ≡ refused n k)). by_zero (is_zero (value c 0)) _ g.1)
              (gates_refused c _ num-eval 0 n k (sym q))
            where
              by_zero : (x : Bool) (vs : List ℕ) → cond x (accepted vs) (refused 12 0) ≡ refused n k → 7 < n
              by_zero true vs z = clash (sym z)
              by_zero false vs z = let y = (same_refusal z).0 in omega arith

          cleared-is : (n k : ℕ) → 7 < n → refused n k ≡ answer → cleared c b ≡ buffers
          unfolding eval_buffers
          cleared-is n k l t = rw (← t, lt-leb n 7 l)

          ends_refused : (n k : ℕ) (d : Lent) {vs cs ns : List ℕ} → refused n k ≡ circuit_answer s.ctx s.clk (circuit_of s memory ptr)
              → Past (circuit_of s memory ptr) (node_cells s.num_read s.num_eval) d b
              → vs ≡ zeroed (2 * wires_of s) d.values → cs ≡ zeroed (wires_of s) d.counts → ns ≡ zeroed (node_cells s.num_read s.num_eval) d.nodes
              → (refused n k ≡ answer) × (lent vs cs ns ≡ buffers)
          ends_refused n k d q past ev ec en = (
            t,
            lent_equal
                (ev ∙ ap (λ (x : List ℕ). replicate (2 * wires_of s) 0 ++ x) past.past_values)
                (ec ∙ ap (λ (x : List ℕ). replicate (wires_of s) 0 ++ x) past.past_counts)
                (en ∙ ap (λ (x : List ℕ). replicate (node_cells s.num_read s.num_eval) 0 ++ x) past.past_nodes)
                ∙ ap₂ (λ (x y : ℕ). lent (zeroed (2 * x) b.values) (zeroed x b.counts) (zeroed y b.nodes)) wires_are nodes_are
                ∙ cleared-is n k (late n k (t ∙ sym past-cells)) t,
          )
            where
              wires_are : wires_of s ≡ num_wires c
              wires_are = ap wires_of o ∙ ap (λ (x : ℕ). x + num-eval) two-reads

              nodes_are : node_cells s.num_read s.num_eval ≡ node_cells reads num-eval
              nodes_are = ap (λ (u : CircuitEvaluation). node_cells u.num_read u.num_eval) o

              t : refused n k ≡ answer
              t = answer-is (refused n k) q

          -- by what the run of steps answered
          module _ (a : Result RecordHeader Refusal) (d : Lent) (q : output_told a ≡ circuit_answer s.ctx s.clk (circuit_of s memory ptr)) (ran : Ran a s (circuit_of s memory ptr) ptr d b) where
            ends_zero : is_err a ≡ false → (output_told a ≡ answer) × (d ≡ buffers)
            ends_zero = by a q ran
              where
                by : (x : Result RecordHeader Refusal) → output_told x ≡ circuit_answer s.ctx s.clk (circuit_of s memory ptr) → Ran x s (circuit_of s memory ptr) ptr d b
                    → is_err x ≡ false → (output_told x ≡ answer) × (d ≡ buffers)
                by (Ok h) i l z = ends_accepted _ d i l
                by (Err e) i l z = true_not_false z

            ends_otherwise : {vs cs ns : List ℕ} → is_err a ≡ true
                → vs ≡ zeroed (2 * wires_of s) d.values → cs ≡ zeroed (wires_of s) d.counts → ns ≡ zeroed (node_cells s.num_read s.num_eval) d.nodes
                → (output_told a ≡ answer) × (lent vs cs ns ≡ buffers)
            ends_otherwise {vs = vs} {cs = cs} {ns = ns} = by a q ran
              where
                by : (x : Result RecordHeader Refusal) → output_told x ≡ circuit_answer s.ctx s.clk (circuit_of s memory ptr) → Ran x s (circuit_of s memory ptr) ptr d b
                    → is_err x ≡ true
                    → vs ≡ zeroed (2 * wires_of s) d.values → cs ≡ zeroed (wires_of s) d.counts → ns ≡ zeroed (node_cells s.num_read s.num_eval) d.nodes
                    → (output_told x ≡ answer) × (lent vs cs ns ≡ buffers)
                by (Ok h) i l z ev ec en = true_not_false (sym z)
                by (Err e) i l z ev ec en = ends_refused _ _ d i l ev ec en

-- the address that the look at the cells found, with the region's end as the code has it
pub over_is : (memory : List ℕ) (ptr num-vars num-eval end over : ℕ) → over ≡ ptr + first_over (take (end - ptr) (drop ptr memory)) → end ≡ ptr + region_cells num-vars num-eval
    → over ≡ ptr + first_over (circuit_at memory ptr num-vars num-eval).cells
over_is memory ptr v e end over o q =
    let l : end - ptr ≡ region_cells v e = omega arith in
    o ∙ ap (λ (n : ℕ). ptr + first_over (take n (drop ptr memory))) l

-- a region that was tested ends in the memory that counts
pub region_end : (ptr num-vars num-eval : ℕ) (memory : List ℕ) → accepted [] ≡ of_region ptr num-vars num-eval (memory_cells memory) (accepted []) → ptr + region_cells num-vars num-eval ≤ 2 ^ 32
region_end ptr v e memory t = (memory_most memory _ (region_tested ptr v e _ t).in_memory).1

module _
    (ctx clk ptr num-vars num-eval : ℕ)
    (memory : List ℕ)
    (b : Lent)
    (tested : accepted [] ≡ of_region ptr num-vars num-eval (memory_cells memory) (accepted []))
  where
    region : Region ptr num-vars num-eval (memory_cells memory)
    region = region_tested ptr num-vars num-eval (memory_cells memory) tested

    pub short_refused : {n k : ℕ} → refused n k ≡ open_answer ctx clk (num-vars / 2) num-eval b
        → (refused n k ≡ eval_answer ctx clk ptr num-vars num-eval memory b) × (b ≡ eval_buffers ctx clk ptr num-vars num-eval memory b)
    short_refused e = stops_short ctx clk ptr num-vars num-eval memory b region _ _ e

    -- once the circuit has been opened and its cells have been looked at
    module _
        (s : CircuitEvaluation)
        (end over : ℕ)
        (opening : accepted (numbers_of s) ≡ open_answer ctx clk (num-vars / 2) num-eval b)
        (look : over ≡ ptr + first_over (take (end - ptr) (drop ptr memory)))
        (at_end : end ≡ ptr + region_cells num-vars num-eval)
      where
        opened-as : (room (num-vars / 2) num-eval (length b.values) (length b.counts) (length b.nodes) ≡ true) × (s ≡ opened ctx clk (num-vars / 2) num-eval)
        opened-as = opened_is ctx clk ptr num-vars num-eval memory b region s opening

        found-over : over ≡ ptr + first_over (circuit_at memory ptr num-vars num-eval).cells
        found-over = over_is memory ptr num-vars num-eval end over look at_end

        pub over_refused : over < end → (refused 7 over ≡ eval_answer ctx clk ptr num-vars num-eval memory b) × (b ≡ eval_buffers ctx clk ptr num-vars num-eval memory b)
        over_refused h = stops_over ctx clk ptr num-vars num-eval memory b region opened-as.0 over found-over (omega arith)

        module _ (none : end ≤ over) where
          past : ptr + region_cells num-vars num-eval ≤ over
          past = omega arith

          pub run_prepared : Prepared s memory ptr b × (s ≡ after s 0 0)
          run_prepared = prepared ctx clk ptr num-vars num-eval memory b region opened-as.0 over found-over past s opened-as.1

          -- and by what the run answered
          module _
              (a : Result RecordHeader Refusal)
              (d : Lent)
              (q : output_told a ≡ circuit_answer s.ctx s.clk (circuit_of s memory ptr))
              (ran : Ran a s (circuit_of s memory ptr) ptr d b)
            where
              pub run_accepted : is_err a ≡ false → (output_told a ≡ eval_answer ctx clk ptr num-vars num-eval memory b) × (d ≡ eval_buffers ctx clk ptr num-vars num-eval memory b)
              run_accepted = ends_zero ctx clk ptr num-vars num-eval memory b region opened-as.0 over found-over past s opened-as.1 a d q ran

              pub run_refused : {vs cs ns : List ℕ} → is_err a ≡ true
                  → vs ≡ zeroed (2 * wires_of s) d.values → cs ≡ zeroed (wires_of s) d.counts → ns ≡ zeroed (node_cells s.num_read s.num_eval) d.nodes
                  → (output_told a ≡ eval_answer ctx clk ptr num-vars num-eval memory b) × (lent vs cs ns ≡ eval_buffers ctx clk ptr num-vars num-eval memory b)
              run_refused = ends_otherwise ctx clk ptr num-vars num-eval memory b region opened-as.0 over found-over past s opened-as.1 a d q ran

-- what a run leaves has room still
pub room_after : (s : CircuitEvaluation) (memory : List ℕ) (ptr : ℕ) (b : Lent) (vs cs ns : List ℕ) → Prepared s memory ptr b
    → length vs ≡ length b.values → length cs ≡ length b.counts → length ns ≡ length b.nodes → Room s vs cs ns
room_after s memory ptr b vs cs ns k ev ec en = record { few = k.few; room-values = rw ev k.for_values; room-counts = rw ec k.for_counts; room-nodes = rw en k.for_nodes }
