-- `program::text::put_decimal`: each call of itself has a tenth of the number.
-- Assumes nothing.
use Rattle.program.proofs.text.+put_decimal.Given as goal

abbrev pub decreases-put_decimal : goal.decreases-put_decimal
decreases-put_decimal l = l.v
