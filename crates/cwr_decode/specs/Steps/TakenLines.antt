-- What a line at the front of a text does, and how an entry is put.
use Rattle.std.specs.Prelude.{◌≡◌, ◌⊎◌, ℕ, ◌<◌, ◌≤◌, List, length, take, set}
use Rattle.cwr_lines.specs.declared.lines.LineEnd.TheVariants.{Line}
use Rattle.cwr_lines.specs.Format.Lines.{without_cr}
use Rattle.cwr_lines.specs.Steps.Held.{HeldLine, IsHeld, Takes, empty_line}
use Rattle.cwr_shape.specs.declared.symbols.Symbol.{Symbol}
use Rattle.cwr_shape.specs.Steps.Tallies.{TallyValue}
use Rattle.cwr_judge.specs.declared.refusals.Refusal.{Refusal}
use Rattle.cwr_decode.specs.Steps.TextLines.{AcceptsLine, FirstLine, RefusesLine}
use Rattle.cwr_decode.specs.declared.indexing.Accepted.{Accepted}

-- the element is put in its place, where there is room
abbrev pub PutsAt : {X : Type 0} → ℕ → X → List X → List X → Type 0
PutsAt at x old new = ((at < length old) × (new ≡ set old at x)) ⊎ ((length old ≤ at) × (new ≡ old))

-- the text begins with the line, which ended by its line feed
pub record BeginsWithLine (text : List ℕ) (taken : ℕ) (line : HeldLine) : Type 0 where
  pub takes : Takes empty_line text taken line
  pub held : IsHeld line
  pub ended : line.ended ≡ Line

-- the line at the text's front is that of a record that may come next, and is counted
pub record TakesLine (tally : TallyValue) (xs : List Symbol) (text : List ℕ) (got : Accepted) (new : TallyValue) : Type 0 where
  pub line : HeldLine
  pub first : FirstLine text got.taken line
  pub accepted : AcceptsLine tally xs line got.last new
  pub few : got.length ≤ length line.bytes
  pub body : take got.length line.bytes ≡ without_cr line.bytes

-- the line at the text's front is refused
pub record RefusesText (tally : TallyValue) (xs : List Symbol) (text : List ℕ) (refusal : Refusal) : Type 0 where
  pub line : HeldLine
  pub taken : ℕ
  pub first : FirstLine text taken line
  pub refused : RefusesLine tally xs line refusal
