-- `program::text::put_decimal` meets its contract.
-- Assumes nothing.
use Rattle.std.proofs.Common.{arith, rules}
use Rattle.program.proofs.Decimal.{one_length, one_put, more_length, more_put}
use Rattle.program.proofs.text.+put_decimal.Goals as goal

pub bounds-out-at : goal.bounds-out-at
bounds-out-at t c = omega (arith, one_length c.args.v c.if-v-lt10.true)

pub returns-then-v-lt10-clause-value : goal.returns-then-v-lt10-clause-value
returns-then-v-lt10-clause-value t c = omega (arith, one_length c.args.v c.if-v-lt10.true)

pub returns-then-v-lt10-clause-out_after : goal.returns-then-v-lt10-clause-out_after
returns-then-v-lt10-clause-out_after t c = one_put c.args.v c.args.out.now c.args.at c.if-v-lt10.true

pub put_decimal-last-requires : goal.put_decimal-last-requires
put_decimal-last-requires t c = (omega arith, omega (arith, more_length c.args.v (search rules) (search rules)))

pub bounds-out-last : goal.bounds-out-last
bounds-out-last t c =
    let k = c.put_decimal-last in
    omega (arith, k.ensures.value, k.auto.out, more_length c.args.v (search rules) (search rules))

pub overflow_add-result-2 : goal.overflow_add-result-2
overflow_add-result-2 t c =
    record { fits = omega (arith, c.put_decimal-last.ensures.value, more_length c.args.v (search rules) (search rules)) }

pub returns-clause-value : goal.returns-clause-value
returns-clause-value t c = omega (arith, c.put_decimal-last.ensures.value, more_length c.args.v (search rules) (search rules))

pub returns-clause-out_after : goal.returns-clause-out_after
returns-clause-out_after t c =
    let k = c.put_decimal-last in
    more_put c.args.v c.args.at _ c.args.out.now _ k.ensures.value k.ensures.out_after (search rules) (search rules)
