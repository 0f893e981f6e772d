-- The contracts of crate `field`.
-- Assumes nothing.
use Rattle.determined.specs.Determined.{Determined}
use Rattle.determined.proofs.Same.{same}
use Rattle.field.proofs.Answers.{felt_determined, quad_determined}
use Rattle.refusal.proofs.Known.{nothing_determined}
use Rattle.field.proofs.felt.add.Reads as felt-add
use Rattle.field.specs.contracts.felt.add as felt-add-contract
use Rattle.field.proofs.felt.sub.Reads as felt-sub
use Rattle.field.specs.contracts.felt.sub as felt-sub-contract
use Rattle.field.proofs.felt.mul.Reads as felt-mul
use Rattle.field.specs.contracts.felt.mul as felt-mul-contract
use Rattle.field.proofs.quad.add.Reads as quad-add
use Rattle.field.specs.contracts.quad.add as quad-add-contract
use Rattle.field.proofs.quad.sub.Reads as quad-sub
use Rattle.field.specs.contracts.quad.sub as quad-sub-contract
use Rattle.field.proofs.quad.add_or_sub.Reads as quad-add-or-sub
use Rattle.field.specs.contracts.quad.add_or_sub as quad-add-or-sub-contract
use Rattle.field.proofs.quad.mul.Reads as quad-mul
use Rattle.field.specs.contracts.quad.mul as quad-mul-contract
use Rattle.field.proofs.cells.first_over.Reads as first-over
use Rattle.field.specs.contracts.cells.first_over as first-over-contract
use Rattle.field.proofs.cells.test_elements.Reads as test-elements
use Rattle.field.specs.contracts.cells.test_elements as test-elements-contract

pub felt_add_determined : Determined felt-add-contract.ended felt-add.Learnt
felt_add_determined κs a (r, _) (s, _) e f = λ i. (felt_determined r s (same e f) i, _)

pub felt_sub_determined : Determined felt-sub-contract.ended felt-sub.Learnt
felt_sub_determined κs a (r, _) (s, _) e f = λ i. (felt_determined r s (same e f) i, _)

pub felt_mul_determined : Determined felt-mul-contract.ended felt-mul.Learnt
felt_mul_determined κs a (r, _) (s, _) e f = λ i. (felt_determined r s (same e f) i, _)

pub quad_add_determined : Determined quad-add-contract.ended quad-add.Learnt
quad_add_determined κs a (r, _) (s, _) e f = λ i. (quad_determined r s (same e f) i, _)

pub quad_sub_determined : Determined quad-sub-contract.ended quad-sub.Learnt
quad_sub_determined κs a (r, _) (s, _) e f = λ i. (quad_determined r s (same e f) i, _)

pub quad_add_or_sub_determined : Determined quad-add-or-sub-contract.ended quad-add-or-sub.Learnt
quad_add_or_sub_determined κs a (r, _) (s, _) e f = λ i. (quad_determined r s (same e f) i, _)

pub quad_mul_determined : Determined quad-mul-contract.ended quad-mul.Learnt
quad_mul_determined κs a (r, _) (s, _) e f = λ i. (quad_determined r s (same e f) i, _)

pub first_over_determined : Determined first-over-contract.ended first-over.Learnt
first_over_determined κs a o q e f = λ i. (same e f i, _)

pub test_elements_determined : Determined test-elements-contract.ended test-elements.Learnt
test_elements_determined κs a (r, _) (s, _) e f = λ i. (nothing_determined r s (same e f) i, _)
