-- The line with which the bytes end that were read.
use Rattle.std.specs.Prelude.{◌≡◌, ◌⊎◌, ◌↔◌, ℕ, ◌-◌, ◌^◌, ◌<◌, ◌≤◌, Bool, true, false, IsFalse, List, [], ◌∷◌, ◌++◌, length}
use Rattle.std.specs.List.{list_any}
use Rattle.cwr_lines.specs.Format.Lines.{is_lf, longest_line}
use Rattle.cwr_decode.specs.declared.last_bytes.LastBytes.{LastBytes}
use Rattle.cwr_decode.specs.Steps.LastReads.{HoldsLast}
use Rattle.cwr_decode.specs.Steps.Represents.{EndsInLf}
use Rattle.cwr_causes.specs.declared.lines_at_end.LineAtEnd.{LineAtEnd}

-- what stands before a line: nothing, or bytes that end with a line feed
abbrev pub IsBeforeLine : List ℕ → Type 0
IsBeforeLine front = (front ≡ []) ⊎ EndsInLf front

-- the line is what stands after the text's last line feed
pub record IsAfterFeed (text line : List ℕ) : Type 0 where
  pub front : List ℕ
  pub split : text ≡ front ++ line
  pub no_lf : IsFalse (list_any is_lf line)
  pub begins : IsBeforeLine front

-- the text is what stands before a line, and then that line
pub record IsLastLine (text front line : List ℕ) : Type 0 where
  pub split : text ≡ front ++ line
  pub no_lf : IsFalse (list_any is_lf line)
  pub begins : IsBeforeLine front

-- these lines, each with its line feed, end with that one; where they aren't all that was read, others stand before it
pub record EndsInLine (lines : List ℕ) (is_all : Bool) (line : List ℕ) : Type 0 where
  pub front : List ℕ
  pub split : lines ≡ (front ++ line) ++ 10 ∷ []
  pub no_lf : IsFalse (list_any is_lf line)
  pub begins : IsBeforeLine front
  pub known : is_all ≡ false → EndsInLf front

-- The bytes are those before a line and then that line, which isn't too long: with its line feed, or without one where it has
-- a byte.
pub record EndsWithLine (read front line : List ℕ) : Type 0 where
  pub split : (read ≡ (front ++ line) ++ 10 ∷ []) ⊎ ((read ≡ front ++ line) × (0 < length line))
  pub no_lf : IsFalse (list_any is_lf line)
  pub begins : IsBeforeLine front
  pub short : length line ≤ longest_line

-- the line was found, after so many bytes, and whether its line feed was read
pub record IsFound (read front line : List ℕ) (found : LineAtEnd) : Type 0 where
  pub bytes : found.bytes.now ≡ line
  pub ended : (found.ended ≡ true) ↔ EndsInLf read
  pub offset : length read < 2 ^ 64 - 1 → found.offset ≡ length front

-- of any bytes that were read, and whose last ones are held, it is that line with which they end
abbrev pub IsLineAtEnd : LastBytes → LineAtEnd → Type 0
IsLineAtEnd last found =
    (read front line : List ℕ) → HoldsLast read last → EndsWithLine read front line → IsFound read front line found

-- with these lines, each with its line feed, no line ends whose begin is known
abbrev pub NoLineKnown : List ℕ → Bool → Type 0
NoLineKnown lines is_all = (line : List ℕ) → ¬ EndsInLine lines is_all line
