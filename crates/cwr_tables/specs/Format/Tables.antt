-- Tables as RFC 4180 has them.
use Rattle.std.specs.Prelude.{ℕ, Bool, ◌||◌, ◌==◌, List, ◌∷◌, [], ◌++◌, codes, if◌then◌else◌}
use Rattle.std.specs.List.{flat_map, join_by, list_any}

-- a comma, a quote, CR and LF call for quotes
abbrev pub calls_for_quotes : ℕ → Bool
calls_for_quotes b = (b == 44) || (b == 34) || (b == 13) || (b == 10)

-- within quotes a quote stands twice
abbrev pub doubled : ℕ → List ℕ
doubled b = if b == 34 then 34 ∷ 34 ∷ [] else b ∷ []

-- a cell stands between quotes exactly where one of its bytes calls for them
unfoldable pub cell_text : List ℕ → List ℕ
cell_text cell = if list_any calls_for_quotes cell then codes "\"" ++ flat_map doubled cell ++ codes "\"" else cell

-- a row is its cells, joined by commas, and CR LF
unfoldable pub row_text : List (List ℕ) → List ℕ
row_text cells = join_by cell_text (codes ",") cells ++ codes "\r\n"
