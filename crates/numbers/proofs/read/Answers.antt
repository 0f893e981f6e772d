-- `numbers::read` meets its contract.
-- Assumes nothing.
use Prim.Native.Nat.{ℕ, ◌+◌, ◌*◌}
use mathlib.Core.Path.{sym, ap, ◌∙◌}
use mathlib.Core.List.{[], ◌∷◌}
use native.Mathlib.Omega.{arith}
use borrow.Author.Rules.{rules}
use lib.ListN.{get_or, length-drop}
use Rattle.refusal.specs.Told.{accepted, refused}
use Rattle.numbers.proofs.Reading.{reading_start, answer_from, read_short, read_ill, next_byte, byte_passed, last_fits, read_last, unit_fits, more_fits, read_next}
use Rattle.numbers.proofs.read.Goals as goal

pub loop-i-init : goal.loop-i-init
loop-i-init c = reading_start _ _ (omega arith)

pub returns-then-ill_formed : goal.returns-then-ill_formed
returns-then-ill_formed c =
    answer_from _ _ (read_ill c.loop-i.invariant (next_byte _ _ _ c.loop-i.auto.i c.loop-i-test.true) (sym c.ill_formed.ensures ∙ c.if-ill_formed.true))

pub overflow_mul-result : goal.overflow_mul-result
overflow_mul-result c =
    let p = byte_passed _ _ _ c.loop-i.invariant c.loop-i.auto.i c.loop-i-test.true (search rules) c.ill_formed.ensures c.if-ill_formed.false in
    omega (arith, last_fits p c.if-b-lt128.true)

pub overflow_add-result : goal.overflow_add-result
overflow_add-result c =
    let p = byte_passed _ _ _ c.loop-i.invariant c.loop-i.auto.i c.loop-i-test.true (search rules) c.ill_formed.ensures c.if-ill_formed.false in
    omega (arith, last_fits p c.if-b-lt128.true)

pub returns-then-b-lt128 : goal.returns-then-b-lt128
returns-then-b-lt128 c =
    let p = byte_passed _ _ _ c.loop-i.invariant c.loop-i.auto.i c.loop-i-test.true (search rules) c.ill_formed.ensures c.if-ill_formed.false in
    let v : ℕ = c.loop-i.value + get_or c.args.s.now c.loop-i.i 0 * c.loop-i.scale in
    ap (λ (k : ℕ). accepted (v ∷ k ∷ [])) (omega (arith, c.loop-i.auto.i)) ∙ answer_from _ _ (read_last p c.if-b-lt128.true)

pub overflow_mul-value : goal.overflow_mul-value
overflow_mul-value c =
    let p = byte_passed _ _ _ c.loop-i.invariant c.loop-i.auto.i c.loop-i-test.true (search rules) c.ill_formed.ensures c.if-ill_formed.false in
    omega (arith, more_fits p c.if-b-lt128.false, unit_fits p c.if-b-lt128.false)

pub overflow_add-value : goal.overflow_add-value
overflow_add-value c =
    let p = byte_passed _ _ _ c.loop-i.invariant c.loop-i.auto.i c.loop-i-test.true (search rules) c.ill_formed.ensures c.if-ill_formed.false in
    omega (arith, more_fits p c.if-b-lt128.false, unit_fits p c.if-b-lt128.false)

pub overflow_mul-scale : goal.overflow_mul-scale
overflow_mul-scale c =
    let p = byte_passed _ _ _ c.loop-i.invariant c.loop-i.auto.i c.loop-i-test.true (search rules) c.ill_formed.ensures c.if-ill_formed.false in
    omega (arith, unit_fits p c.if-b-lt128.false)

pub loop-i-preserved : goal.loop-i-preserved
loop-i-preserved c =
    let p = byte_passed _ _ _ c.loop-i.invariant c.loop-i.auto.i c.loop-i-test.true (search rules) c.ill_formed.ensures c.if-ill_formed.false in
    read_next p _ (omega (arith, c.loop-i.auto.i)) c.if-b-lt128.false

pub returns : goal.returns
returns c =
    ap (refused 15) (omega arith) ∙ answer_from _ _ (read_short c.loop-i.invariant (omega (arith, length-drop c.args.at c.args.s.now)))
