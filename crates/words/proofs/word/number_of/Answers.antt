-- `word::number_of` meets its contract.
-- Assumes nothing.
use Prim.Native.Nat.{ℕ, ◌+◌, ◌-◌, ◌*◌, ◌^◌, ◌≤◌}
use mathlib.Core.Path.{sym, ap, ◌∙◌}
use native.Mathlib.Omega.{arith}
use lib.ListN.{get_or, drop}
use Rattle.std.specs.Prelude.{Err}
use Rattle.words.specs.Text.{value_after, value_of}
use Rattle.words.proofs.Number.{digit_tested, digits_next, digits_stop, digits_end, value_next, value_end, value_least, judged_not, judged_number, judged_large}
use Rattle.words.proofs.word.number_of.Goals as goal

pub returns-then-not-is_ascii_digit : goal.returns-then-not-is_ascii_digit
returns-then-not-is_ascii_digit c =
    let l = c.loop-byte in
    let w = c.args.word.now in
    let no = sym (digit_tested (get_or w l.byte-index 0)) ∙ sym c.is_ascii_digit.ensures.value ∙ c.if-not-is_ascii_digit.true in
    judged_not w c.args.place (sym l.invariant.digits ∙ digits_stop w l.byte-index c.loop-byte-test.true no)

pub returns-in_default : goal.returns-in_default
returns-in_default c =
    let l = c.loop-byte in
    let w = c.args.word.now in
    let n = l.value * 10 + (get_or w l.byte-index 0 - 48) in
    let much : 2 ^ 64 ≤ n = omega (arith, c.in_default.ensures) in
    let large : 2 ^ 64 ≤ value_of w =
    omega (arith, much, l.invariant.left, value_next w l.byte-index c.loop-byte-test.true l.value, value_least (drop (l.byte-index + 1) w) n) in
    ap Err c.too_large.ensures ∙ judged_large w c.args.place large

pub loop-byte-preserved : goal.loop-byte-preserved
loop-byte-preserved c =
    let l = c.loop-byte in
    let w = c.args.word.now in
    let yes = sym (digit_tested (get_or w l.byte-index 0)) ∙ sym c.is_ascii_digit.ensures.value ∙ c.if-not-is_ascii_digit.false in
    record {
      fits = omega (arith, c.in-Some.ensures);
      digits = sym (digits_next w l.byte-index c.loop-byte-test.true yes) ∙ l.invariant.digits;
      left =
          ap (λ (v : ℕ). value_after v (drop (l.byte-index + 1) w)) c.in-Some.ensures.1
          ∙ sym (value_next w l.byte-index c.loop-byte-test.true l.value)
          ∙ l.invariant.left;
    }

pub returns : goal.returns
returns c =
    let l = c.loop-byte in
    let w = c.args.word.now in
    judged_number w c.args.place l.value (sym l.invariant.digits ∙ digits_end w l.byte-index c.loop-byte-test.false)
    (sym l.invariant.left ∙ value_end w l.byte-index c.loop-byte-test.false l.value) l.invariant.fits
