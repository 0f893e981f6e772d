-- Looking at a record's head, ctx, clk, id_next and the wire list's length, and at the wire list behind it.
-- Assumes nothing.
use Prim.Native.Nat.{ℕ, ◌*◌, ◌≤◌, ◌<◌}
use mathlib.Core.Path.{◌≡◌, refl, sym, ◌∙◌}
use mathlib.Core.List.{List, [], ◌∷◌}
use lib.Dec.{leb}
use borrow.Author.Tests.{leb-true, le-leb}
use Rattle.refusal.specs.Told.{accepted}
use Rattle.field.specs.Field.{p}
use Rattle.trace.proofs.Choices.{both, both_hold, passes}
use Rattle.record.specs.Numbers.{after, numbers_from}
use Rattle.record.specs.Reading.{u32, ctx_in, clk_in, id_next_in, wires_in, wires_at, head_answer, wires_answer, wire_list_answer}
use Rattle.record.proofs.Ways.{values_are, passed}
use Rattle.record.proofs.Places.{read_of}
use Rattle.record.proofs.Sequence.{Stand}
use Rattle.record.proofs.Numbers.{numbers_of}
use Rattle.record.proofs.WireList.{wires_accepted}

-- a head that is accepted
pub record Head (s vs : List ℕ) : Type 0 where
  pub stand : Stand (ctx_in s ∷ clk_in s ∷ id_next_in s ∷ wires_in s ∷ []) s 0 (wires_at s)
  pub ctx_below : ctx_in s < u32
  pub clk_below : clk_in s < u32
  pub id_below : id_next_in s < p
  pub answer : accepted (wires_in s ∷ wires_at s ∷ []) ≡ accepted vs

pub head_of : (s vs : List ℕ) → head_answer s ≡ accepted vs → Head s vs
unfolding head_answer ctx_in clk_in id_next_in wires_in wires_at after numbers_from
head_of s vs e =
    let a = passed _ _ vs e in
    let b = passed _ _ vs a.then in
    let f = numbers_of u32 s 2 0 a.values a.first in
    let g = numbers_of p s 1 (after 2 s 0) b.values b.first in
    let r = read_of s (after 3 s 0) vs b.then in
    record {
      stand = (f.0.0, (f.0.1.0, (g.0.0, (r, refl))));
      ctx_below = f.1.0;
      clk_below = f.1.1.0;
      id_below = g.1.0;
      answer = sym r ∙ b.then;
    }

pub length_is : (s : List ℕ) (n at : ℕ) → head_answer s ≡ accepted (n ∷ at ∷ []) → n ≡ wires_in s
length_is s n at e = (values_are (wires_in s) (wires_at s) n at (head_of s (n ∷ at ∷ []) e).answer).0

pub list_at : (s : List ℕ) (n at : ℕ) → head_answer s ≡ accepted (n ∷ at ∷ []) → at ≡ wires_at s
list_at s n at e = (values_are (wires_in s) (wires_at s) n at (head_of s (n ∷ at ∷ []) e).answer).1

module _ (n : ℕ) (s : List ℕ) (at values counts : ℕ) where
  pub list-fits : 2 * n ≤ values → n ≤ counts → wires_answer n s at ≡ wire_list_answer n s at values counts
  unfolding wire_list_answer
  list-fits h k = rw (both_hold (leb (2 * n) values) (leb n counts) (le-leb (2 * n) values h) (le-leb n counts k))

  pub list_of : (vs : List ℕ) → wire_list_answer n s at values counts ≡ accepted vs → (2 * n ≤ values) × (n ≤ counts) × (wires_answer n s at ≡ accepted vs)
  unfolding wire_list_answer
  list_of vs e =
      let a = passes _ (wires_answer n s at) 24 0 vs e in
      let b = both (leb (2 * n) values) (leb n counts) a.0 in
      (leb-true _ _ b.0, leb-true _ _ b.1, a.1)

  pub list_end : (v next : ℕ) → wire_list_answer n s at values counts ≡ accepted (v ∷ next ∷ []) → next ≡ after (3 * n) s at
  list_end v next e =
      let a = (list_of (v ∷ next ∷ []) e).2 in
      (values_are 0 (after (3 * n) s at) v next (sym (wires_accepted n s at (v ∷ next ∷ []) a) ∙ a)).1
