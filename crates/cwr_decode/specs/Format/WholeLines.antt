-- Where a line stands in a text.
use Rattle.std.specs.Prelude.{◌≡◌, ◌⊎◌, ℕ, ◌≤◌, IsFalse, List, [], ◌∷◌, ◌++◌, length, take, drop}
use Rattle.std.specs.List.{AllByRecursion, flat_map, list_any}
use Rattle.cwr_lines.specs.Format.Lines.{is_lf, longest_line, without_cr}

-- a line, which has no line feed and isn't too long
pub record IsLine (line : List ℕ) : Type 0 where
  pub no_lf : IsFalse (list_any is_lf line)
  pub short : length line ≤ longest_line

-- the line is all that there is, or a line feed and more come after it
abbrev pub BeginsWith : List ℕ → List ℕ → Type 0
BeginsWith rest line = (rest ≡ line) ⊎ ((more : List ℕ) × (rest ≡ line ++ 10 ∷ more))

-- just so many lines stand before the place, and as many bytes from there are the line after them, but for one carriage return at its end
pub record IsLineAfter (text : List ℕ) (count offset bytes : ℕ) : Type 0 where
  pub lines : List (List ℕ)
  pub line : List ℕ
  pub counted : length lines ≡ count
  pub each : AllByRecursion IsLine lines
  pub is_line : IsLine line
  pub before : take offset text ≡ flat_map (λ it. it ++ 10 ∷ []) lines
  pub here : BeginsWith (drop offset text) line
  pub cut : take bytes (drop offset text) ≡ without_cr line
