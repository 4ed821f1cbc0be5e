-- What a cell stands as, with quotes and without.
use Rattle.std.proofs.Common.{◌≡◌, ℕ, Bool, true, false, cond, List, ◌++◌, sym, ap, ◌∙◌, append-nil}
use Rattle.std.specs.Prelude.{codes}
use Rattle.std.specs.List.{flat_map, list_any}
use Rattle.cwr_tables.specs.Format.Tables.{calls_for_quotes, cell_text, doubled}
use Rattle.cwr_tables.specs.Steps.RowTexts.{next_cell}
use Rattle.cwr_tables.specs.Steps.WorkTexts.{edge, within}

abbrev by_test : List ℕ → Bool → List ℕ
by_test cell b = cond b (codes "\"" ++ flat_map doubled cell ++ codes "\"") cell

pub cell_quoted : (cell : List ℕ) → list_any calls_for_quotes cell ≡ true
    → cell_text cell ≡ codes "\"" ++ flat_map doubled cell ++ codes "\""
unfolding cell_text
cell_quoted cell h = ap (by_test cell) h

pub cell_plain : (cell : List ℕ) → list_any calls_for_quotes cell ≡ false → cell_text cell ≡ cell
unfolding cell_text
cell_plain cell h = ap (by_test cell) h

-- a cell after others, whether it stands between quotes or not
pub next_by : (cell : List ℕ) (b : Bool) → list_any calls_for_quotes cell ≡ b
    → ((codes "," ++ edge b) ++ within b cell) ++ edge b ≡ next_cell cell
next_by cell true h = sym (ap (λ (l : List ℕ). codes "," ++ l) (cell_quoted cell h))
next_by cell false h = append-nil (codes "," ++ cell) ∙ sym (ap (λ (l : List ℕ). codes "," ++ l) (cell_plain cell h))
