-- The general law for contracts that are equations: what two outcomes are equated with is the same, so they are.
-- In each proof beside this file e and f are what the contract says of the two outcomes, an equation or a pair of them, and i runs from one outcome to the other.
-- Assumes nothing.
use mathlib.Core.Path.{◌≡◌, sym, ◌∙◌}

pub same : {A : Type 0} {x y z : A} → x ≡ z → y ≡ z → x ≡ y
same e f = e ∙ sym f
