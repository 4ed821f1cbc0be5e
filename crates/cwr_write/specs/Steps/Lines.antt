-- What reading a line takes from a reader.
use Rattle.std.specs.Prelude.{◌≡◌, ◌⊎◌, ℕ, ◌+◌, ◌<◌, Bool, true, false, IsFalse, List, [], ◌∷◌, ◌++◌, length, Option, None, Some}
use Rattle.std.specs.Prelude.{IfSome}
use Rattle.std.specs.List.{list_any}
use Rattle.cwr_lines.specs.Format.Lines.{is_lf}

abbrev pub NoFeed : List ℕ → Type 0
NoFeed line = IsFalse (list_any is_lf line)

-- a part of a line more was taken, and with the line feed after it, or without; or nothing was left
abbrev pub TakesPartOf : List ℕ → Option (List ℕ) → List ℕ → List ℕ → Option Bool → Type 0
TakesPartOf text after old new None = (text ≡ []) × (after ≡ Some []) × (new ≡ old)
TakesPartOf text after old new (Some true) =
    (part : List ℕ) × (rest : List ℕ) × (text ≡ part ++ 10 ∷ rest) × (after ≡ Some rest) × NoFeed part × (new ≡ old ++ part)
TakesPartOf text after old new (Some false) =
    (part : List ℕ) × (rest : List ℕ) × (text ≡ part ++ rest) × (after ≡ Some rest) × NoFeed part × (new ≡ old ++ part)

-- after these bytes of a line the text goes on with so many bytes of it that they are more than it may have
abbrev pub Exceeds : ℕ → List ℕ → List ℕ → Type 0
Exceeds most text line =
    (part : List ℕ) × (rest : List ℕ) × (text ≡ part ++ rest) × NoFeed part × (most < length line + length part)

abbrev pub ExceedsWith : ℕ → Option (List ℕ) → List ℕ → Type 0
ExceedsWith most left line = IfSome left (λ text. Exceeds most text line)

abbrev pub TakesPart : Option (List ℕ) → Option (List ℕ) → List ℕ → List ℕ → Option Bool → Type 0
TakesPart left after old new ended = IfSome left (λ text. TakesPartOf text after old new ended)

-- of a text, where it is known, the bytes of a line were taken, and these are left
abbrev pub SoFar : Option (List ℕ) → Option (List ℕ) → List ℕ → Type 0
SoFar left after line = IfSome left (λ text. (rest : List ℕ) × (after ≡ Some rest) × (text ≡ line ++ rest) × NoFeed line)

-- A line was taken with its line feed, or the last one, which has none; or no line was left.
abbrev pub IsTakenOf : List ℕ → Option (List ℕ) → List ℕ → Bool → Type 0
IsTakenOf text after line false = (text ≡ []) × (after ≡ Some [])
IsTakenOf text after line true =
    NoFeed line × (((rest : List ℕ) × (text ≡ line ++ 10 ∷ rest) × (after ≡ Some rest))
    ⊎ ((text ≡ line) × (0 < length line) × (after ≡ Some [])))

abbrev pub TakesLineOf : Option (List ℕ) → Option (List ℕ) → List ℕ → Bool → Type 0
TakesLineOf left after line more = IfSome left (λ text. IsTakenOf text after line more)
