-- The equations by which `simp ring` brings two sums of products to one form.
-- Assumes nothing.
use Rattle.std.proofs.Common.{add_assoc, mul_assoc, mul_comm, add-mul, add_comm, mul-add, mul_left_comm}
use native.Mathlib.Nat.{add_left_comm}

pub ruleset ring = (mul-add, add-mul, mul_assoc, mul_comm, mul_left_comm, add_assoc, add_comm, add_left_comm)
