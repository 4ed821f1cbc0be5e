-- Inputs that are summed up.
use Rattle.std.specs.Prelude.{ℕ, true, List, [], ◌∷◌, codes}
use Rattle.cwr_tools.specs.Format.Reports.{ItemLines}

-- nothing is written of items; memory may be taken for each
abbrev pub lines_of_summing : ItemLines
lines_of_summing = record { lines = λ items. []; last = λ items verdict. []; take_memory = λ item. true }

-- what is summed up: what is named, or standard input where nothing is
abbrev pub summed : List (List ℕ) → List (List ℕ)
summed [] = codes "-" ∷ []
summed (name ∷ names) = name ∷ names
