-- The first line of a text, and what a line does to the records before it.
use Rattle.std.specs.Prelude.{◌≡◌, ◌≢◌, ◌⊎◌, ℕ, ◌+◌, ◌<◌, ◌≤◌, Bool, IsTrue, ◌↔◌, List, [], ◌∷◌, ◌++◌, length, take}
use Rattle.cwr_fields.specs.declared.kinds.Kind.TheVariants.{Trl}
use Rattle.cwr_lines.specs.declared.lines.LineEnd.TheVariants.{Open, Line}
use Rattle.cwr_lines.specs.Format.Records.{RecordValue}
use Rattle.cwr_lines.specs.Steps.Held.{HeldLine, IsHeld, Stops, held_kind, held_text}
use Rattle.cwr_shape.specs.declared.symbols.Symbol.{Symbol}
use Rattle.cwr_shape.specs.declared.symbols.Symbol.TheVariants.{Plain}
use Rattle.cwr_shape.specs.Format.Levels.{level_of}
use Rattle.cwr_shape.specs.Format.NextSymbols.{scope_after}
use Rattle.cwr_shape.specs.Steps.Tallies.{TallyValue, IsTallyOf}
use Rattle.cwr_judge.specs.declared.refusals.Refusal.{Refusal}
use Rattle.cwr_judge.specs.Steps.Judged.{IsNext, IsOfNone, IsFirstFault}

-- so many bytes of the text are the line: up to its line feed, or before a byte too many
pub record IsCutOff (text : List ℕ) (used : ℕ) (line : HeldLine) : Type 0 where
  pub text_is : held_text line ≡ take used text
  pub stops : Stops line.ended text used

-- all of the text is the line, which has no line feed
pub record IsLastLine (text : List ℕ) (used : ℕ) (line : HeldLine) : Type 0 where
  pub bytes : line.bytes ≡ text
  pub ends : line.ended ≡ Line
  pub all : used ≡ length text

-- the text begins with the line
pub record FirstLine (text : List ℕ) (used : ℕ) (line : HeldLine) : Type 0 where
  pub within : used ≤ length text
  pub some : 0 < used
  pub ended : line.ended ≢ Open
  pub held : IsHeld line
  pub taken : IsCutOff text used line ⊎ IsLastLine text used line

-- the line is that of a record that may come next, and is counted; whether it is the last one
pub record AcceptsLine (old : TallyValue) (xs : List Symbol) (line : HeldLine) (last : Bool) (new : TallyValue) : Type 0 where
  pub symbol : Symbol
  pub accepted : RecordValue
  pub next : IsNext old.limits xs line symbol accepted
  pub limits : new.limits ≡ old.limits
  pub stands : IsTallyOf new (xs ++ symbol ∷ [])
  pub trailer : IsTrue last ↔ (symbol ≡ Plain Trl)

-- the line is that of no record that may come next, and this says where, why and how much that rejects
pub record RefusesLine (tally : TallyValue) (xs : List Symbol) (line : HeldLine) (refusal : Refusal) : Type 0 where
  pub none : IsOfNone tally.limits xs line
  pub first : IsFirstFault tally.limits xs line refusal.field refusal.reason
  pub number : refusal.rec ≡ length xs + 1
  pub level : refusal.level ≡ level_of (held_kind line) refusal.field refusal.reason (scope_after xs)
