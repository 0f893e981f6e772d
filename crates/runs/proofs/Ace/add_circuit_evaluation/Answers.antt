-- `runs::Ace::add_circuit_evaluation` meets its contract.
-- Assumes nothing.
use Rattle.std.proofs.Common.{◌≡◌, sym, ◌∙◌, length, arith}
use Rattle.refusal.specs.Refusal.{nothing}
use Rattle.refusal.proofs.Passing.{told_up}
use Rattle.runs.proofs.Calls.{sound_of, told_there, told_lacking, there_low, place_room}
use Rattle.runs.proofs.Ways.{add_refused, add_counted, list_stays, taken_replaced, list-replaced, full_refused, taken_opened, list-opened}
use Rattle.runs.proofs.Ace.add_circuit_evaluation.Goals as goal

pub returns-then-not-is_sound : goal.returns-then-not-is_sound
returns-then-not-is_sound c =
    let q = add_refused _ c.args.entry (sym c.if-not-is_sound.ensures) in
    record { answer_value = q; list_value = list_stays _ _ _ _ q }

pub returns-in_err-test_counts : goal.returns-in_err-test_counts
returns-in_err-test_counts c =
    let q = add_counted _ c.args.entry _ _ (sym c.if-not-is_sound.ensures) c.in_err-test_counts.ensures in
    record { answer_value = told_up nothing _ _ c.from_residual.ensures ∙ q; list_value = list_stays _ _ _ _ q }

pub bounds-self-at : goal.bounds-self-at
bounds-self-at c =
    let l : length c.args.self.now.entries ≡ 32 = omega arith in
    there_low c.args.self.now _ _ l (sound_of _ (sym c.if-not-is_sound.ensures)) c.in-Ok.ensures

pub offset_bounds-self-at : goal.offset_bounds-self-at
offset_bounds-self-at c =
    let l : length c.args.self.now.entries ≡ 32 = omega arith in
    let k = there_low c.args.self.now _ _ l (sound_of _ (sym c.if-not-is_sound.ensures)) c.in-Ok.ensures in
    omega arith

pub returns-in-Ok : goal.returns-in-Ok
returns-in-Ok c =
    let l : length c.args.self.now.entries ≡ 32 = omega arith in
    let q = sym c.if-not-is_sound.ensures in
    let there = told_there _ _ _ c.in-Ok.ensures in
    record {
      answer_value = taken_replaced _ _ _ there.1 l q c.in_ok-test_counts.ensures there.0;
      list_value = list-replaced _ _ _ there.1 l q c.in_ok-test_counts.ensures there.0;
    }

pub returns-in-Err : goal.returns-in-Err
returns-in-Err c =
    let l : length c.args.self.now.entries ≡ 32 = omega arith in
    let q = sym c.if-not-is_sound.ensures in
    let lacking = told_lacking _ _ _ c.in-Err.ensures in
    let r = full_refused c.args.self.now c.args.entry _ lacking.1 l q c.in_ok-test_counts.ensures lacking.0 c.if-self-eq-MAX_EVAL_CIRCUIT_INVOCATIONS.true in
    record { answer_value = r; list_value = list_stays _ _ _ _ r }

pub insert_at-requires : goal.insert_at-requires
insert_at-requires c =
    let l : length c.args.self.now.entries ≡ 32 = omega arith in
    let sound = sound_of _ (sym c.if-not-is_sound.ensures) in
    let lacking = told_lacking _ _ _ c.in-Err.ensures in
    place_room c.args.self.now c.args.entry.clk _ lacking.1 l sound c.if-self-eq-MAX_EVAL_CIRCUIT_INVOCATIONS.false

pub returns-in-Err-2 : goal.returns-in-Err-2
returns-in-Err-2 c =
    let l : length c.args.self.now.entries ≡ 32 = omega arith in
    let q = sym c.if-not-is_sound.ensures in
    let lacking = told_lacking _ _ _ c.in-Err.ensures in
    let n = c.if-self-eq-MAX_EVAL_CIRCUIT_INVOCATIONS.false in
    record {
      answer_value = taken_opened _ _ _ lacking.1 l q c.in_ok-test_counts.ensures n;
      list_value = c.insert_at.ensures ∙ list-opened _ _ _ lacking.1 l q c.in_ok-test_counts.ensures lacking.0 n;
    }
