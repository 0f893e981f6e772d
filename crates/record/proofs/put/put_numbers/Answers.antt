-- `record::put::put_numbers` meets its contract.
-- Assumes nothing.
use Rattle.record.proofs.Putting.{wrote_none, number_room, number_wrote}
use Rattle.record.proofs.put.put_numbers.Goals as goal

pub loop-v-init : goal.loop-v-init
loop-v-init c = wrote_none _ _

pub put-next-requires : goal.put-next-requires
put-next-requires c = number_room _ _ c.loop-v-test.true c.loop-v.invariant c.requires

pub loop-v-preserved : goal.loop-v-preserved
loop-v-preserved c = number_wrote _ _ c.loop-v-test.true c.loop-v.invariant _ _ c.put-next.ensures.value c.put-next.ensures.out_after
