-- The state of an evaluation between its steps.
-- Assumes nothing.
use Rattle.std.specs.Prelude.{ℕ, ◌+◌, Bool, true, false, cond, ◌&&◌, ◌||◌, [], ltb, leb, eqb}
use Rattle.refusal.specs.Told.{Told, accepted, refused}
use Rattle.field.specs.Field.{sub_f}
use Rattle.trace.specs.declared.CircuitEvaluation.{CircuitEvaluation}
use Rattle.trace.specs.Counts.{most_wires, wires, of_counts}

abbrev pub wires_of : CircuitEvaluation → ℕ
wires_of s = wires s.num_read s.num_eval

-- the wires made so far: two by each READ step, one by each EVAL step
abbrev pub made_of : CircuitEvaluation → ℕ
made_of s = wires s.reads_done s.evals_done

-- "ids are given downwards from num_wires - 1 to 0": the id of the wire that is made after so many others; after the last it is 0 - 1, which is p - 1
abbrev pub next_id : ℕ → ℕ → ℕ
next_id num-wires made = sub_f num-wires (made + 1)

abbrev pub is_accepted : Told → Bool
is_accepted (accepted vs) = true
is_accepted (refused number place) = false

-- "13 looks at the state's own numbers: counts opening would accept, steps done not past their end, id_next as they say", and "all READ steps come before the EVAL steps"
unfoldable pub sound : CircuitEvaluation → Bool
sound s =
    is_accepted (of_counts most_wires s.num_read s.num_eval (accepted []))
    && (leb s.reads_done s.num_read
    && (leb s.evals_done s.num_eval
    && ((eqb s.evals_done 0 || eqb s.reads_done s.num_read)
    && eqb s.id_next (next_id (wires_of s) (made_of s)))))

-- whose turn it is
unfoldable pub read_turn : CircuitEvaluation → Bool
read_turn s = sound s && ltb s.reads_done s.num_read

unfoldable pub eval_turn : CircuitEvaluation → Bool
eval_turn s = sound s && (eqb s.reads_done s.num_read && ltb s.evals_done s.num_eval)

-- 13: "step out of turn, or a state that no calls give"
abbrev pub in_turn : Bool → Told → Told
in_turn b t = cond b t (refused 13 0)
