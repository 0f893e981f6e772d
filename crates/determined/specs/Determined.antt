-- "any two outcomes it allows are the same one": what that says of a contract. crates/determined/proofs shows it for each public function.
-- Assumes nothing: these are definitions.
use Rattle.std.specs.Prelude.{◌≡◌}
use seplogic.Ra.Ura.{Ura}
use base.Logic.{SProp}
use prog.Memory.{Memory}
use prog.Routine.{Routine}
use types.Logic.{Logic}
use contract.Lifetimes.{Lfts}
use contract.Monad.{Fun, fact}
use denote.Triple.Entry.{Args, Res}
use denote.Triple.Clauses.{Ended, Lasts, AtExit, at_exit, Clauses}

-- T is a function's signature, `specs.contracts.f.ended`; κs are the lifetimes of what is lent to it
-- what a contract says: of arguments, of a result, and of the parameters as the function returns. `proofs.f.Reads.Learnt` is this of the `ensures` in the source of f, as its callers learn it
abbrev pub Contract : Ended → Type 1
Contract T = (κs : Lfts T.signature.lifetimes) → Args T.signature κs → Res T.signature κs → AtExit T κs → Type 0

-- the result, and for each parameter what it leaves: of a `&mut` parameter all that is behind it as the function returns, of any other nothing
abbrev pub Outcome : (T : Ended) (κs : Lfts T.signature.lifetimes) → Args T.signature κs → Type 0
Outcome T κs a = Res T.signature κs × Lasts T κs a

abbrev pub Allows : (T : Ended) → Contract T → (κs : Lfts T.signature.lifetimes) (a : Args T.signature κs) → Outcome T κs a → Type 0
Allows T contract κs a o = contract κs a o.0 (at_exit T κs a o.1)

-- nothing is asked of the arguments a
abbrev pub Determined : (T : Ended) → Contract T → Type 0
Determined T contract = (κs : Lfts T.signature.lifetimes) (a : Args T.signature κs) (o q : Outcome T κs a) → Allows T contract κs a o → Allows T contract κs a q → o ≡ q

-- the clauses of f as written, `specs.contracts.f.clauses`, in every model of memory
abbrev pub Written : Ended → Type 2
Written T = (M : Type 1) (𝓤 : Ura M) → (𝓛 : Logic 𝓤) → (Memory → SProp 𝓤) → (Routine → Fun 𝓤) → Clauses 𝓤 T

-- of a call in place the contract is given in full, with the proof that the clauses say it and nothing else
pub record ClausesDetermined (T : Ended) (written : Written T) : Type 2 where
  pub contract : Contract T
  pub says : (M : Type 1) (𝓤 : Ura M) (𝓛 : Logic 𝓤) (mem : Memory → SProp 𝓤) (run : Routine → Fun 𝓤) (κs : Lfts T.signature.lifetimes) (a : Args T.signature κs) (g : (written M 𝓤 𝓛 mem run κs a).ghost) (r : Res T.signature κs) (w : AtExit T κs)
      → (written M 𝓤 𝓛 mem run κs a).ensures g r w ≡ fact 𝓤 (contract κs a r w)
  pub determined : Determined T contract
