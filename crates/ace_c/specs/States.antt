-- States, headers and words in numbers.
-- Assumes nothing.
use Rattle.std.specs.Prelude.{ℕ, List, [], ◌∷◌, get_or, take}
use Rattle.trace.specs.declared.CircuitEvaluation.{CircuitEvaluation}
use Rattle.trace.specs.declared.RecordHeader.{RecordHeader}
use Rattle.trace.specs.Open.{numbers_of}

-- the state of six numbers and the next id
abbrev pub state_of : List ℕ → ℕ → CircuitEvaluation
state_of xs id = record {
  ctx = get_or xs 0 0;
  clk = get_or xs 1 0;
  num_read = get_or xs 2 0;
  num_eval = get_or xs 3 0;
  reads_done = get_or xs 4 0;
  evals_done = get_or xs 5 0;
  id_next = id;
}

-- the six numbers of a state; the next id is the seventh
abbrev pub six_of : CircuitEvaluation → List ℕ
six_of s = take 6 (numbers_of s)

-- the header of five numbers
abbrev pub header_by : ℕ → ℕ → ℕ → ℕ → ℕ → RecordHeader
header_by ctx₀ clk₀ num-read num-eval id = record {
  ctx = ctx₀;
  clk = clk₀;
  num_read = num-read;
  num_eval = num-eval;
  id_next = id;
}

-- "a memory word is two pairs, first cells first"
abbrev pub word_by : ℕ → ℕ → ℕ → ℕ → List (List ℕ)
word_by c₀ c₁ c₂ c₃ = (c₀ ∷ c₁ ∷ []) ∷ (c₂ ∷ c₃ ∷ []) ∷ []
