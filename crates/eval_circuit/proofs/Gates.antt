-- Laws of the gates' answers: when a gate is accepted, and which gate's refusal is the circuit's.
-- Assumes nothing.
use mathlib.Core.Path.{◌≡◌, refl, sym, ◌∙◌}
use mathlib.Core.Bool.{Bool, true, false}
use mathlib.Core.List.{List, []}
use mathlib.Core.Logic.{◌⊎◌, ⊎_elim, inl, inr}
use Prim.Native.Nat.{ℕ, zero, suc, ◌+◌, ◌≤◌, ◌<◌}
use native.Mathlib.Omega.{arith}
use borrow.Author.Tests.{ltb-true, lt-ltb}
use Rattle.refusal.specs.Told.{Told, accepted, refused}
use Rattle.field.specs.Field.{p}
use Rattle.field.proofs.Cases.{below?}
use Rattle.refusal.proofs.Tellings.{clash, same_refusal}
use Rattle.instruction.specs.Decode.{left_id, right_id, opcode}
use Rattle.instruction.proofs.Laws.{not_element, not_instruction, instruction}
use Rattle.trace.specs.Eval.{is_made}
use Rattle.trace.proofs.Choices.{both, both_hold, passes}
use Rattle.eval_circuit.specs.Circuit.{Circuit, num_wires, word, gate_answer, gates_answer}
use Rattle.eval_circuit.proofs.Cases.{true_or_false}
use Rattle.eval_circuit.proofs.Values.{Early}

-- whether the operands of gate k are made before it
abbrev pub left_made : Circuit → ℕ → Bool
left_made c k = is_made (num_wires c) (c.vars + k) (left_id (word c k))

abbrev pub right_made : Circuit → ℕ → Bool
right_made c k = is_made (num_wires c) (c.vars + k) (right_id (word c k))

module _ (c : Circuit) (k : ℕ) where
  pub early_made : Early c k → (left_made c k ≡ true) × (right_made c k ≡ true)
  early_made e = (both_hold _ _ (lt-ltb _ _ e.left_wire) (lt-ltb _ _ e.left_early), both_hold _ _ (lt-ltb _ _ e.right_wire) (lt-ltb _ _ e.right_early))

  pub made_early : left_made c k ≡ true → right_made c k ≡ true → Early c k
  made_early l r =
      let a = both _ _ l in
      let b = both _ _ r in
      record {
        left_wire = ltb-true _ _ a.0;
        left_early = ltb-true _ _ a.1;
        right_wire = ltb-true _ _ b.0;
        right_early = ltb-true _ _ b.1;
      }

-- the four answers of a gate whose word is an element
module _ (c : Circuit) (k : ℕ) (h : word c k < p) where
  pub gate_undecoded : 3 ≤ opcode (word c k) → gate_answer c k ≡ refused 8 k
  unfolding gate_answer
  gate_undecoded o = rw (not_instruction (word c k) h o)

  module _ (o : opcode (word c k) < 3) where
    pub gate_left : left_made c k ≡ false → gate_answer c k ≡ refused 9 k
    unfolding gate_answer
    gate_left l = rw (instruction (word c k) h o, l)

    module _ (l : left_made c k ≡ true) where
      pub gate_right : right_made c k ≡ false → gate_answer c k ≡ refused 10 k
      unfolding gate_answer
      gate_right r = rw (instruction (word c k) h o, l, r)

      pub gate_accepted : right_made c k ≡ true → gate_answer c k ≡ accepted []
      unfolding gate_answer
      gate_accepted r = rw (instruction (word c k) h o, l, r)

    pub early_gate : Early c k → gate_answer c k ≡ accepted []
    early_gate e = gate_accepted (early_made c k e).0 (early_made c k e).1

module _ (c : Circuit) (k : ℕ) where
  pub gate_over : p ≤ word c k → gate_answer c k ≡ refused 7 k
  unfolding gate_answer
  gate_over h = rw (not_element (word c k) h)

  gate_made : (vs : List ℕ) → word c k < p → opcode (word c k) < 3 → gate_answer c k ≡ accepted vs → Early c k × (accepted [] ≡ accepted vs)
  unfolding gate_answer
  gate_made vs h o e =
      let l = passes (left_made c k) _ 9 k vs (rw (instruction (word c k) h o) at e) in
      let r = passes (right_made c k) _ 10 k vs l.1 in
      (made_early c k l.0 r.0, r.1)

  gate-facts : (vs : List ℕ) → gate_answer c k ≡ accepted vs → Early c k × (opcode (word c k) < 3) × (gate_answer c k ≡ accepted [])
  gate-facts vs e =
      ⊎_elim
      (λ h. ⊎_elim
      (λ o. let m = gate_made vs h o e in (m.0, o, e ∙ sym m.1))
      (λ o. clash (sym (gate_undecoded c k h o) ∙ e))
      (below? (opcode (word c k)) 3))
      (λ h. clash (sym (gate_over h) ∙ e))
      (below? (word c k) p)

  -- an accepted gate's word decodes, and its operands are made before it
  pub gate_early : (vs : List ℕ) → gate_answer c k ≡ accepted vs → Early c k × (opcode (word c k) < 3)
  gate_early vs e = let f = gate-facts vs e in (f.0, f.1)

-- n gates from gate k on are all accepted
abbrev pub Passed : Circuit → ℕ → ℕ → Type 0
Passed c k n = (j : ℕ) → k ≤ j → j < k + n → gate_answer c j ≡ accepted []

-- the first refused of n gates from gate k on
pub record First (c : Circuit) (k n number place : ℕ) : Type 0 where
  pub gate : ℕ
  pub from : k ≤ gate
  pub to : gate < k + n
  pub before : (j : ℕ) → k ≤ j → j < gate → gate_answer c j ≡ accepted []
  pub here : gate_answer c gate ≡ refused number place

module _ (c : Circuit) (t : Told) where
  pub gates_pass : (n k : ℕ) → Passed c k n → gates_answer n k c t ≡ t
  unfolding gates_answer
  gates_pass zero k h = refl
  gates_pass (suc n) k h = rw (h k (omega arith) (omega arith)) (gates_pass n (suc k) (λ j l m. h j (omega arith) (omega arith)))

  pub gates_stop : (n k number place : ℕ) → First c k n number place → gates_answer n k c t ≡ refused number place
  unfolding gates_answer
  gates_stop zero k number place f = let l = f.from in let m = f.to in absurd (omega arith)
  gates_stop (suc n) k number place f =
      ⊎_elim
      (λ l. rw (f.before k (omega arith) l) (gates_stop n (suc k) number place (record {
        gate = f.gate;
        from = l;
        to = (let m = f.to in omega arith);
        before = (λ j g m. f.before j (omega arith) m);
        here = f.here;
      })))
      (λ l. let e : f.gate ≡ k = (let m = f.from in omega arith) in rw (rw e at f.here))
      (below? k f.gate)

-- one of the gates is refused
abbrev pub Stopped : Circuit → ℕ → ℕ → Type 0
Stopped c k n = (number : ℕ) × (place : ℕ) × First c k n number place

module _ (c : Circuit) (k n : ℕ) where
  first-later : (number place : ℕ) → gate_answer c k ≡ accepted [] → First c (suc k) n number place → First c k (suc n) number place
  first-later number place e f = record {
    gate = f.gate;
    from = (let l = f.from in omega arith);
    to = (let l = f.to in omega arith);
    before = (λ j l m. ⊎_elim (λ g. f.before j g m) (λ g. let q : k ≡ j = omega arith in rw q at e) (below? k j));
    here = f.here;
  }

  passed_later : gate_answer c k ≡ accepted [] → Passed c (suc k) n → Passed c k (suc n)
  passed_later e h j l m = ⊎_elim (λ g. h j g (omega arith)) (λ g. let q : k ≡ j = omega arith in rw q at e) (below? k j)

  one_more : (a : Told) → gate_answer c k ≡ a → Passed c (suc k) n ⊎ Stopped c (suc k) n → Passed c k (suc n) ⊎ Stopped c k (suc n)
  one_more (refused number place) e rest =
      inr (number, place, record { gate = k; from = omega arith; to = omega arith; before = (λ j l m. absurd (omega arith)); here = e })
  one_more (accepted vs) e rest =
      let a : gate_answer c k ≡ accepted [] = (gate-facts c k vs e).2 in
      ⊎_elim (λ h. inl (passed_later a h)) (λ s. inr (s.0, s.1, first-later s.0 s.1 a s.2)) rest

-- all are accepted, or one is the first that is not
pub gates_cases : (c : Circuit) (n k : ℕ) → Passed c k n ⊎ Stopped c k n
gates_cases c zero k = inl (λ j l m. absurd (omega arith))
gates_cases c (suc n) k = one_more c k n (gate_answer c k) refl (gates_cases c n (suc k))

-- an answer that is accepted: each gate is, and what comes after them
pub gates_accepted : (c : Circuit) (t : Told) (n k : ℕ) (vs : List ℕ) → gates_answer n k c t ≡ accepted vs → Passed c k n × (t ≡ accepted vs)
gates_accepted c t n k vs e =
    ⊎_elim
    (λ h. (h, sym (gates_pass c t n k h) ∙ e))
    (λ s. clash (sym (gates_stop c t n k s.0 s.1 s.2) ∙ e))
    (gates_cases c n k)

-- a refusal is the first refused gate's, or that of what comes after them all
pub gates_refused : (c : Circuit) (t : Told) (n k number place : ℕ) → gates_answer n k c t ≡ refused number place
    → First c k n number place ⊎ (Passed c k n × (t ≡ refused number place))
gates_refused c t n k number place e =
    ⊎_elim
    (λ h. inr (h, sym (gates_pass c t n k h) ∙ e))
    (λ s. inl (same s.0 s.1 (sym (gates_stop c t n k s.0 s.1 s.2) ∙ e) s.2))
    (gates_cases c n k)
  where
    same : (m l : ℕ) → refused m l ≡ refused number place → First c k n m l → First c k n number place
    same m l q f = rw ((same_refusal q).0, (same_refusal q).1) at f

-- 8, 9 or 10 with the gate: a gate whose word is an element is refused with one of these, and with its own number
pub record Numbered (k number place : ℕ) : Type 0 where
  pub least : 8 ≤ number
  pub most : number ≤ 10
  pub place_is : place ≡ k

pub gate_refused : (c : Circuit) (k number place : ℕ) → word c k < p → gate_answer c k ≡ refused number place → Numbered k number place
gate_refused c k number place h e =
    ⊎_elim
    (λ o. ⊎_elim
    (λ l. ⊎_elim
    (λ r. clash (sym e ∙ gate_accepted c k h o l r))
    (λ r. numbered 10 (omega arith) (omega arith) (sym (gate_right c k h o l r) ∙ e))
    (true_or_false (right_made c k)))
    (λ l. numbered 9 (omega arith) (omega arith) (sym (gate_left c k h o l) ∙ e))
    (true_or_false (left_made c k)))
    (λ o. numbered 8 (omega arith) (omega arith) (sym (gate_undecoded c k h o) ∙ e))
    (below? (opcode (word c k)) 3)
  where
    numbered : (n : ℕ) → 8 ≤ n → n ≤ 10 → refused n k ≡ refused number place → Numbered k number place
    numbered n l m q = let s = same_refusal q in record { least = omega arith; most = omega arith; place_is = sym s.1 }
