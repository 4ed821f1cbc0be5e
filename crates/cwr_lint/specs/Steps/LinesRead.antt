-- Lines as they are read, one after another.
use Rattle.std.specs.Prelude.{◌≡◌, ◌⊎◌, ℕ, ◌-◌, ◌^◌, ◌≤◌, Bool, true, false, IsFalse, List, [], ◌∷◌, ◌++◌, length, take, Option}
use Rattle.std.specs.Prelude.{IfSome}
use Rattle.std.specs.List.{list_any}
use Rattle.std.specs.Io.KnownBytes.{Consumes, IsAtEnd}
use Rattle.cwr_lines.specs.declared.lines.LineEnd.{LineEnd}
use Rattle.cwr_lines.specs.declared.lines.LineEnd.TheVariants.{Line, Over}
use Rattle.cwr_lines.specs.Format.Lines.{is_lf, is_too_long, longest_line}
use Rattle.cwr_lines.specs.Steps.Held.{HeldLine}
use Rattle.cwr_decode.specs.declared.last_bytes.LastBytes.{LastBytes}
use Rattle.cwr_decode.specs.Steps.LastReads.{HoldsLast}
use Rattle.cwr_decode.specs.Steps.Represents.{text_of}
use Rattle.cwr_causes.specs.Steps.LinesAtEnd.{EndsWithLine}
use Rattle.cwr_lint.specs.declared.raw_lines.RawLine.{RawLine}

-- what a line takes of a text: its line feed too, where there is one
abbrev pub spelled : Bool → List ℕ → List ℕ
spelled true line = line ++ 10 ∷ []
spelled false line = line

-- the text is that of the lines; where the last one has no line feed, one is missing at its end
abbrev pub IsTextOf : Bool → List ℕ → List (List ℕ) → Type 0
IsTextOf true text lines = text ≡ text_of lines
IsTextOf false text lines = text ++ 10 ∷ [] ≡ text_of lines

-- whatever lines a text has, that text and these bytes have these lines after them
abbrev pub GoesOn : Bool → List ℕ → List (List ℕ) → Bool → Type 0
GoesOn ended bytes lines last =
    (text : List ℕ) (before : List (List ℕ)) → IsTextOf ended text before → IsTextOf last (text ++ bytes) (before ++ lines)

-- the line is held: all of it, or its first 1,024 bytes where it is longer
pub record HoldsRaw (line : List ℕ) (raw : RawLine) : Type 0 where
  pub held : raw.bytes.items ≡ take longest_line line
  pub longer : raw.is_too_long ≡ is_too_long line
  pub no_lf : IsFalse (list_any is_lf line)

-- some line is held
pub record IsOfLine (raw : RawLine) : Type 0 where
  pub line : List ℕ
  pub holds : HoldsRaw line raw

-- how the line that is held ends, as it is cut
abbrev pub end_by : Bool → LineEnd
end_by true = Over
end_by false = Line

abbrev pub held_raw : RawLine → HeldLine
held_raw raw = record { bytes = raw.bytes.items; ended = end_by raw.is_too_long }

-- the reader is at its end, or has given 2^64-1 bytes and more
abbrev pub IsAllRead : Option (List ℕ) → Option (List ℕ) → List ℕ → Type 0
IsAllRead left after bytes = IfSome left (λ known. IsAtEnd after) ⊎ (2 ^ 64 - 1 ≤ length bytes)

-- More bytes of an open line were read, and no line feed among them: with its line feed, where that came.
pub record ReadsMore (left after : Option (List ℕ)) (old new : RawLine) : Type 0 where
  pub bytes : List ℕ
  pub taken : Consumes left after (spelled new.ended bytes)
  pub grown : (line : List ℕ) → HoldsRaw line old → HoldsRaw (line ++ bytes) new

-- Bytes of a piece were added to an open line, and a line feed that stands after them. Where that ends the line and none came, the piece is empty.
pub record AddsPiece (old new : RawLine) (piece : List ℕ) (count : ℕ) (done : Bool) : Type 0 where
  pub bytes : List ℕ
  pub taken : take count piece ≡ spelled new.ended bytes
  pub grown : (line : List ℕ) → HoldsRaw line old → HoldsRaw (line ++ bytes) new
  pub all : done ≡ true → new.ended ≡ false → piece ≡ []
  pub goes_on : done ≡ false → (new.ended ≡ false) × (1 ≤ length bytes)

-- a piece was read; the line or the reader has ended with it, or it has a byte
pub record ReadsPiece (left after : Option (List ℕ)) (old new : RawLine) (done : Bool) : Type 0 where
  pub more : ReadsMore left after old new
  pub all : done ≡ true → new.ended ≡ false → IfSome left (λ known. IsAtEnd after)
  pub goes_on : done ≡ false → (new.ended ≡ false) × (1 ≤ length more.bytes)

-- the rest of an open line was read
pub record ReadsRest (left after : Option (List ℕ)) (old new : RawLine) : Type 0 where
  pub more : ReadsMore left after old new
  pub all : new.ended ≡ false → IsAllRead left after more.bytes

-- a line was read
pub record ReadsLine (left after : Option (List ℕ)) (raw : RawLine) : Type 0 where
  pub line : List ℕ
  pub holds : HoldsRaw line raw
  pub taken : Consumes left after (spelled raw.ended line)
  pub some : 1 ≤ length (spelled raw.ended line)
  pub all : raw.ended ≡ false → IsAllRead left after line

-- or there was none
abbrev pub ReadsLineIf : Option (List ℕ) → Option (List ℕ) → RawLine → Bool → Type 0
ReadsLineIf left after raw true = ReadsLine left after raw
ReadsLineIf left after raw false = Consumes left after [] × IfSome left (λ known. IsAtEnd after)

-- The line that was read last is held whole: where it had no line feed, what the reader has of it was read too.
pub record ReadsLast (left after : Option (List ℕ)) (last : LastBytes) (raw : RawLine) : Type 0 where
  pub bytes : List ℕ
  pub taken : Consumes left after bytes
  pub all : raw.ended ≡ false → IsAllRead left after bytes
  pub line : (read front line : List ℕ) → HoldsLast read last → EndsWithLine read front line
      → (rest : List ℕ) × HoldsRaw (line ++ rest) raw × (read ++ bytes ≡ front ++ spelled raw.ended (line ++ rest))
