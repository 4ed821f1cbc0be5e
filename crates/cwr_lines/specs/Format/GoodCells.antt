-- Cells of which each is good, by its field and the numbers that are left.
use Rattle.std.specs.Prelude.{ℕ, List, [], ◌∷◌, slice_index}
use Rattle.cwr_fields.specs.Format.Layouts.{FieldLayout}
use Rattle.cwr_lines.specs.Format.Records.{IsGoodCell, rest_if}

-- each cell is the next number, or one of its field's type
abbrev pub AreGood : List FieldLayout → List ℕ → List (List ℕ) → Type 0
AreGood [] ns cells = Unit {0}
AreGood (f ∷ fields) ns [] = ⊥
AreGood (f ∷ fields) ns (c ∷ cells) = IsGoodCell f.derived f (slice_index ns 0) c × AreGood fields (rest_if f.derived ns) cells
