-- What follows of answers, and of tests, that are said to be the same.
-- Assumes nothing.
use Rattle.std.proofs.Common.{◌≡◌, ℕ, true, false, List, arith}
use Rattle.refusal.specs.Told.{accepted, refused}

-- what is refused is not accepted
pub clash : {A : Type 0} {number place : ℕ} {vs : List ℕ} → refused number place ≡ accepted vs → A
clash e = let z : ◌≡◌ {A = ℕ} 0 1 = cc in absurd (omega arith)

pub same_values : {vs ws : List ℕ} → accepted vs ≡ accepted ws → vs ≡ ws
same_values e = cc

pub same_refusal : {n k m l : ℕ} → refused n k ≡ refused m l → (n ≡ m) × (k ≡ l)
same_refusal e = (cc, cc)

-- a test that holds does not fail
pub true_not_false : {A : Type 0} → true ≡ false → A
true_not_false e = let z : ◌≡◌ {A = ℕ} 0 1 = cc in absurd (omega arith)
