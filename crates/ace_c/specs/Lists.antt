-- A run list in numbers: clk, num_read and num_eval of each entry, and the length.
-- Assumes nothing.
use Rattle.std.specs.Prelude.{ℕ, List, [], ◌∷◌}
use Rattle.runs.specs.declared.Entry.{Entry}
use Rattle.runs.specs.declared.Ace.{Ace}

abbrev pub entry_by : ℕ → ℕ → ℕ → Entry
entry_by clk₀ num-read num-eval = record { clk = clk₀; num_read = num-read; num_eval = num-eval }

-- an entry of each three numbers
unfoldable pub entries_of : List ℕ → List Entry
entries_of [] = []
entries_of (a ∷ []) = []
entries_of (a ∷ b ∷ []) = []
entries_of (a ∷ b ∷ c ∷ xs) = entry_by a b c ∷ entries_of xs

abbrev pub list_of : List ℕ → ℕ → Ace
list_of xs n = record { entries = entries_of xs; len = n }

-- the three numbers of each entry
unfoldable pub threes_of : List Entry → List ℕ
threes_of [] = []
threes_of (e ∷ es) = e.clk ∷ e.num_read ∷ e.num_eval ∷ threes_of es
