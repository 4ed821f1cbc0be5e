-- What the laws say.
use Rattle.std.specs.Prelude.{◌≡◌, ℕ, ◌+◌, ◌≤◌, ◌⊎◌, true, false, List, [], ◌∷◌, ◌++◌, codes, map, Some}
use Rattle.std.specs.List.{AllByRecursion, flat_map}
use Rattle.cwr_terminal.specs.declared.styles.Style.{Style}
use Rattle.cwr_terminal.specs.Format.Breaks.{breaks, broken, columns, may_break, new_line}
use Rattle.cwr_terminal.specs.Format.Shown.{HasNoLineFeed, shown_line, shown_text}

-- lines, of which one is the first, with this between them
abbrev pub joined : List ℕ → List ℕ → List (List ℕ) → List ℕ
joined between first [] = first
joined between first (line ∷ lines) = first ++ (between ++ joined between line lines)

-- Lines are shown one by one: those of a text are shown as each by itself, with a line feed between them.
abbrev pub ShownByLines : Type 0
ShownByLines =
    (style : Style) (first : List ℕ) (lines : List (List ℕ)) → HasNoLineFeed first → AllByRecursion HasNoLineFeed lines
    → shown_text (Some style) (joined (10 ∷ []) first lines) ≡ joined (10 ∷ []) (shown_line style first) (map (shown_line style) lines)

-- what is shown is made of bytes of the line, line breaks in place of spaces, and marks of colours, which stand for nothing
pub data Part : Type 0 where
  kept : List ℕ → Part
  break : ℕ → Part
  mark : ℕ → Part

-- what a part stands for
abbrev pub said : Part → List ℕ
said (kept bytes) = bytes
said (break indent) = 32 ∷ []
said (mark digit) = []

-- what is shown of it
abbrev pub shown : Part → List ℕ
shown (kept bytes) = bytes
shown (break indent) = new_line indent
shown (mark digit) = 27 ∷ codes "[3" ++ digit ∷ codes "m"

abbrev pub SaysTheSame : List ℕ → List ℕ → Type 0
SaysTheSame line seen = (parts : List Part) × (line ≡ flat_map said parts) × (seen ≡ flat_map shown parts)

-- Nothing of a line is lost or changed: with a space in place of each line break, and without marks of colours, it is the line.
abbrev pub NothingIsLost : Type 0
NothingIsLost = (style : Style) (line : List ℕ) → SaysTheSame line (shown_line style line)

-- nowhere may a line be broken, behind that byte
abbrev pub IsUnbreakable : ℕ → List ℕ → Type 0
IsUnbreakable before [] = Unit {0}
IsUnbreakable before (b ∷ line) = (may_break before (b ∷ line) ≡ false) × IsUnbreakable b line

-- behind so many columns a line fits the width, or nothing in it may be broken
abbrev pub Fits : ℕ → ℕ → List ℕ → Type 0
Fits width column line = (column + columns line ≤ width) ⊎ IsUnbreakable 32 line

-- so do lines, the first one behind these columns, and the others behind the indent
abbrev pub AllFit : ℕ → ℕ → ℕ → List ℕ → List (List ℕ) → Type 0
AllFit indent width column first [] = Fits width column first
AllFit indent width column first (line ∷ lines) = Fits width column first × AllFit indent width indent line lines

-- the last byte of a line, or that before it
abbrev pub last_of : ℕ → List ℕ → ℕ
last_of before [] = before
last_of before (b ∷ line) = last_of b line

-- each of them but the last ends where the next word would pass the width
abbrev pub AreFull : ℕ → ℕ → ℕ → List ℕ → List (List ℕ) → Type 0
AreFull indent width column first [] = Unit {0}
AreFull indent width column first (line ∷ lines) =
    (breaks width (column + columns first) (last_of 32 first) (32 ∷ joined (32 ∷ []) line lines) ≡ true)
    × AreFull indent width indent line lines

-- A text is shown in these lines.
pub record IsShownIn (indent width column : ℕ) (text seen first : List ℕ) (lines : List (List ℕ)) : Type 0 where
  -- they are the text, with a space between them
  pub spaced : text ≡ joined (32 ∷ []) first lines
  -- and what is shown, with a line feed and the indent between them
  pub indented : seen ≡ joined (new_line indent) first lines
  pub fit : AllFit indent width column first lines
  pub full : AreFull indent width column first lines

-- A text is broken into lines that fit, and only there where the next word doesn't.
abbrev pub BrokenToFit : Type 0
BrokenToFit =
    (indent width column : ℕ) (text : List ℕ)
    → (first : List ℕ) × (lines : List (List ℕ)) × IsShownIn indent width column text (broken indent width column 32 text) first lines
