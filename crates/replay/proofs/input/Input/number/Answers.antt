use Rattle.std.proofs.Common.{arith}
use Rattle.std.proofs.lemmas.Grind.{common_steps}
use Rattle.replay.proofs.Within.{read_within}
use Rattle.replay.proofs.input.Input.number.Goals as goal

pub invariant_of-self-2 : goal.invariant_of-self-2
invariant_of-self-2 g c =
    let h = read_within _ _ _ _ (grind (arith, common_steps)) c.in-Ok.ensures in
    grind (arith, common_steps, h)
