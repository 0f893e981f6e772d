-- `record::put::put` meets its contract.
-- Assumes nothing.
use Rattle.std.proofs.Common.{sym, ap, ◌∙◌}
use Rattle.refusal.specs.Refusal.{number_alone}
use Rattle.refusal.proofs.Passing.{told_is_ok}
use Rattle.numbers.specs.Answer.{write_told}
use Rattle.numbers.proofs.Writing.{room_answer, room-written}
use Rattle.record.specs.Numbers.{number_told}
use Rattle.record.proofs.put.put.Goals as goal

pub unwrap-requires : goal.unwrap-requires
unwrap-requires c = told_is_ok number_alone _ _ (c.write.ensures.result_value ∙ room_answer _ _ _ c.requires)

pub returns : goal.returns
returns c =
    let w = c.write.ensures in
    record {
      value = ap number_told (ap write_told (sym c.unwrap.ensures) ∙ w.result_value ∙ room_answer _ _ _ c.requires);
      out_after = w.out_after ∙ room-written _ _ _ c.requires;
    }
