-- What taking the next line of a source does.
use Rattle.std.specs.Prelude.{◌≡◌, ◌≢◌, ◌⊎◌, ℕ, ◌<◌, List, [], ◌∷◌, ◌++◌, length, slice_index, Option, Result, Ok, Err, IfSome}
use Rattle.std.specs.Prelude.{IsSomeAnd}
use Rattle.cwr_lines.specs.declared.lines.LineEnd.{LineEnd}
use Rattle.cwr_lines.specs.declared.lines.LineEnd.TheVariants.{Open, Line, Over}
use Rattle.cwr_lines.specs.Steps.Held.{HeldLine}

-- The text is the line and what comes after it. Of a text without a line feed all is the line; without a byte there is none. A line
-- that is too long stops before a byte too many.
abbrev pub EndsAs : LineEnd → List ℕ → List ℕ → List ℕ → Type 0
EndsAs Open bytes text rest = (bytes ≡ []) × (text ≡ []) × (rest ≡ [])
EndsAs Line bytes text rest = (text ≡ bytes ++ 10 ∷ rest) ⊎ ((text ≡ bytes) × (rest ≡ []) × (0 < length bytes))
EndsAs Over bytes text rest = (text ≡ bytes ++ rest) × (0 < length rest) × (slice_index rest 0 ≢ 10)

-- the line is taken, or where the source failed a part of it
abbrev pub TakesOf : {E : Type 0} → List ℕ → List ℕ → HeldLine → Result LineEnd E → Type 0
TakesOf text rest new (Ok ended) = EndsAs ended new.bytes text rest
TakesOf text rest new (Err e) = new.bytes ++ rest ≡ text

-- how the line has ended
abbrev pub EndsBy : {E : Type 0} → HeldLine → Result LineEnd E → Type 0
EndsBy new (Ok ended) = new.ended ≡ ended
EndsBy new (Err e) = new.ended ≡ Open

-- the rest of the open line is taken from what is left of a source
pub record TakesLine {E : Type 0} (before after : Option (List ℕ)) (old new : HeldLine) (result : Result LineEnd E) : Type 0 where
  pub ended : EndsBy new result
  pub known : IfSome before (λ left. IsSomeAnd after (λ rest. TakesOf (old.bytes ++ left) rest new result))
