-- The lists of members that the code has, and how a cell is looked up in one.
use Rattle.std.specs.Prelude.{ℕ, List, find, Option, option_map}
use Rattle.std.specs.Str.{bytes_eq}
use denote.Ref.{Bor}
use Rattle.cwr_fields.specs.Format.Bytes.{filled}

-- a member and its code, as a list in the code has them
abbrev pub listed : {C : Type 0} → C × Bor (List ℕ) → C × List ℕ
listed p = (p.0, p.1.now)

-- the first in such a list whose code, filled up with spaces, the cell is
abbrev pub listed_with : {C : Type 0} → List (C × List ℕ) → ℕ → List ℕ → Option C
listed_with list width cell = option_map (λ p. p.0) (find (λ p. bytes_eq cell (filled width p.1)) list)
