-- A record's numbers that stand in bytes are what the reader finds there, field by field.
-- Assumes nothing.
use Prim.Native.Nat.{ℕ, ◌+◌, ◌*◌, ◌≤◌, ◌<◌}
use mathlib.Core.Path.{◌≡◌, refl, sym, ap, ◌∙◌}
use mathlib.Core.List.{List, [], ◌∷◌, ◌++◌}
use native.Mathlib.Omega.{arith}
use lib.ListN.{length}
use Rattle.std.proofs.lemmas.Bool.Decides.{nat_tests}
use Rattle.refusal.specs.Told.{accepted}
use Rattle.field.specs.Field.{p}
use Rattle.field.specs.Lists.{each}
use Rattle.numbers.specs.Answer.{read_answer}
use Rattle.record.specs.Bytes.{wire_numbers}
use Rattle.record.specs.Numbers.{next_at, after, numbers_from, numbers_answer}
use Rattle.record.specs.Reading.{
  u32,
  ctx_in,
  clk_in,
  id_next_in,
  wires_in,
  wires_at,
  declared_at,
  declared_in,
  read_list_at,
  reads_in,
  reads_at,
  eval_list_at,
  evals_in,
  evals_at,
  head_answer,
  wire_list_answer,
  nodes_answer,
}
use Rattle.record.proofs.Ways.{goes_on}
use Rattle.record.proofs.Places.{number_is, next_is, read_of}
use Rattle.record.proofs.Bounds.{AllBelow}
use Rattle.record.proofs.Sequence.{Stand, stand_from, stand_split_at}
use Rattle.record.proofs.Numbers.{numbers_pass, place_after}
use Rattle.record.proofs.WireList.{wires-length, wires-read}
use Rattle.record.proofs.Heads.{list-fits}
use Rattle.record.proofs.FieldsFound.{values_in, counts_in, read_cells_in, eval_cells_in}

-- ctx, clk, id_next and the wire list's length

pub record HeadRead (ctx clk id n : ℕ) (rest s : List ℕ) (end : ℕ) : Type 0 where
  pub ctx_is : ctx ≡ ctx_in s
  pub clk_is : clk ≡ clk_in s
  pub id_is : id ≡ id_next_in s
  pub wires_are : n ≡ wires_in s
  pub others : Stand rest s (wires_at s) end
  pub answer : head_answer s ≡ accepted (wires_in s ∷ wires_at s ∷ [])

pub head_read : (ctx clk id n : ℕ) (rest s : List ℕ) (end : ℕ) → Stand (ctx ∷ clk ∷ id ∷ n ∷ rest) s 0 end → ctx < u32 → clk < u32 → id < p → HeadRead ctx clk id n rest s end
unfolding ctx_in clk_in id_next_in wires_in wires_at after head_answer
head_read ctx clk id n rest s end h lx ll li =
    let h₁ = h.1 in
    let h₂ = h₁.1 in
    let h₃ = h₂.1 in
    record {
      ctx_is = number_is s 0 ctx (next_at s 0) h.0;
      clk_is = number_is s (after 1 s 0) clk (after 2 s 0) h₁.0;
      id_is = number_is s (after 2 s 0) id (after 3 s 0) h₂.0;
      wires_are = number_is s (after 3 s 0) n (after 4 s 0) h₃.0;
      others = h₃.1;
      answer =
          rw (numbers_pass u32 s (ctx ∷ clk ∷ []) 0 (after 2 s 0) (h.0, (h₁.0, refl)) (lx, (ll, tt)), numbers_pass p s (id ∷ []) (after 2 s 0) (after 3 s 0) (h₂.0, refl) (li, tt))
          (read_of s (after 3 s 0) (n ∷ after 4 s 0 ∷ []) h₃.0);
    }

-- the wire list

pub record ListRead (vs cs rest s : List ℕ) (end values counts : ℕ) : Type 0 where
  pub values_are : values_in s ≡ vs
  pub counts_are : counts_in s ≡ cs
  pub others : Stand rest s (declared_at s) end
  pub answer : wire_list_answer (wires_in s) s (wires_at s) values counts ≡ accepted (0 ∷ declared_at s ∷ [])

pub list_read : (vs cs rest s : List ℕ) (end values counts : ℕ) → Stand (each (wire_numbers vs cs) (wires_in s) ++ rest) s (wires_at s) end
    → length vs ≡ 2 * wires_in s → length cs ≡ wires_in s → AllBelow p vs → AllBelow u32 cs → 2 * wires_in s ≤ values → wires_in s ≤ counts
    → ListRead vs cs rest s end values counts
unfolding declared_at
list_read vs cs rest s end values counts h lv lc bv bc rv rc =
    let n = wires_in s in
    let g = stand_split_at (3 * n) (each (wire_numbers vs cs) n) rest s (wires_at s) (declared_at s) end (wires-length vs cs n) refl h in
    let w = wires-read n vs cs s (wires_at s) (declared_at s) g.0 lv lc bv bc in
    record { values_are = w.values; counts_are = w.counts; others = g.1; answer = sym (list-fits n s (wires_at s) values counts rv rc) ∙ w.answer }

-- the declared count, and the length of the READ list

pub record LengthsRead (n r : ℕ) (rest s : List ℕ) (end : ℕ) : Type 0 where
  pub declared_read : read_answer s (declared_at s) ≡ accepted (declared_in s ∷ read_list_at s ∷ [])
  pub declared_is : n ≡ declared_in s
  pub reads_read : read_answer s (read_list_at s) ≡ accepted (reads_in s ∷ reads_at s ∷ [])
  pub reads_are : r ≡ reads_in s
  pub others : Stand rest s (reads_at s) end

pub lengths_read : (n r : ℕ) (rest s : List ℕ) (end : ℕ) → Stand (n ∷ r ∷ rest) s (declared_at s) end → LengthsRead n r rest s end
unfolding declared_in read_list_at reads_in reads_at
lengths_read n r rest s end h =
    record {
      declared_read = read_of s (declared_at s) _ h.0;
      declared_is = number_is s (declared_at s) n (next_at s (declared_at s)) h.0;
      reads_read = read_of s (read_list_at s) _ h.1.0;
      reads_are = number_is s (read_list_at s) r (next_at s (read_list_at s)) h.1.0;
      others = h.1.1;
    }

-- a list of nodes

pub nodes_pass : (used width nodes n : ℕ) (xs s : List ℕ) (at cells_at end : ℕ) → read_answer s at ≡ accepted (n ∷ cells_at ∷ []) → Stand xs s cells_at end → AllBelow p xs
    → length xs ≡ width * n → used + width * n ≤ nodes → nodes_answer used width nodes s at ≡ accepted (n ∷ end ∷ [])
unfolding nodes_answer
nodes_pass used width nodes n xs s at cells_at end e h b l room =
    let len = number_is s at n cells_at e in
    let here = next_is s at n cells_at e in
    let cells = ap (λ (k : ℕ). numbers_answer p k s cells_at) (sym l) ∙ numbers_pass p s xs cells_at end h b in
    let behind = place_after p s (width * n) cells_at 0 end cells in
    grind (arith, nat_tests, goes_on)

pub record ReadsRead (rc rest s : List ℕ) (end : ℕ) : Type 0 where
  pub read_cells_are : read_cells_in s ≡ rc
  pub stand : Stand rc s (reads_at s) (eval_list_at s)
  pub others : Stand rest s (eval_list_at s) end

pub reads_read : (rc rest s : List ℕ) (end : ℕ) → Stand (rc ++ rest) s (reads_at s) end → length rc ≡ 7 * reads_in s → ReadsRead rc rest s end
unfolding eval_list_at
reads_read rc rest s end h l =
    let g = stand_split_at (7 * reads_in s) rc rest s (reads_at s) (eval_list_at s) end l refl h in
    record {
      read_cells_are = ap (λ (k : ℕ). numbers_from k s (reads_at s)) (sym l) ∙ stand_from rc s (reads_at s) (eval_list_at s) g.0;
      stand = g.0;
      others = g.1;
    }

pub record EvalsRead (e : ℕ) (ec s : List ℕ) (end : ℕ) : Type 0 where
  pub evals_read : read_answer s (eval_list_at s) ≡ accepted (evals_in s ∷ evals_at s ∷ [])
  pub evals_are : e ≡ evals_in s
  pub eval_cells_are : eval_cells_in s ≡ ec
  pub stand : Stand ec s (evals_at s) end

pub evals_read : (e : ℕ) (ec s : List ℕ) (end : ℕ) → Stand (e ∷ ec) s (eval_list_at s) end → length ec ≡ 11 * e → EvalsRead e ec s end
unfolding evals_in evals_at
evals_read e ec s end h l =
    let q = number_is s (eval_list_at s) e (next_at s (eval_list_at s)) h.0 in
    let m : 11 * evals_in s ≡ length ec = omega arith in
    record {
      evals_read = read_of s (eval_list_at s) _ h.0;
      evals_are = q;
      eval_cells_are = ap (λ (k : ℕ). numbers_from k s (evals_at s)) m ∙ stand_from ec s (evals_at s) end h.1;
      stand = h.1;
    }
