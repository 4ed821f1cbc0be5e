-- What the laws say.
use Rattle.std.specs.Prelude.{◌≡◌, ℕ, List, Option, Some, Result, Ok, Err}
use Rattle.cwr_shape.specs.declared.limits.Limits.{Limits}
use Rattle.cwr_tools.specs.declared.verdicts.SplitReport.{SplitReport}
use Rattle.cwr_tools.specs.declared.verdicts.ToolFault.{ToolFault}
use Rattle.cwr_tools.specs.declared.verdicts.ToolFault.TheVariants.{Reader, Memory, Refused, Truncated}
use Rattle.cwr_parts.specs.Format.Splitting.{JudgesSplit, SplitsAccepted}
use Rattle.cwr_parts.specs.Format.Told.{SplitsText}

-- what is told of a split is right of its text
abbrev pub ToldIsRight : Type 0
ToldIsRight = (limits : Limits) (n : ℕ) (before after : Option (List ℕ)) (old new : Option (List (List ℕ)))
    (result : Result SplitReport ToolFault) → SplitsText limits n before after old new result → JudgesSplit limits before after result

-- and a text that is accepted is split whole, unless a device or memory failed
abbrev pub AcceptedIsSplit : Type 0
AcceptedIsSplit = (limits : Limits) (n : ℕ) (before after : Option (List ℕ)) (old new : Option (List (List ℕ)))
    (result : Result SplitReport ToolFault) → SplitsText limits n before after old new result
    → SplitsAccepted limits n before after old new result

-- the fault comes of the text that was read, or with a record of it: no writer and no output failed
abbrev pub IsFromText : ToolFault → Type 0
IsFromText Reader = Unit {0}
IsFromText Memory = Unit {0}
IsFromText (Refused refusal) = Unit {0}
IsFromText (Truncated records) = Unit {0}
IsFromText fault = ⊥

abbrev pub AnswersText : Result SplitReport ToolFault → Type 0
AnswersText (Ok report) = Unit {0}
AnswersText (Err fault) = IsFromText fault

-- what is told of a split of a text, which its reader lost so far, leaves nothing open of what was handed over
abbrev pub OneSplitIsTold : Type 0
OneSplitIsTold = (limits : Limits) (n : ℕ) (text left : List ℕ) (known : List (List ℕ)) (one other : Option (List (List ℕ)))
    (result : Result SplitReport ToolFault) → AnswersText result
    → SplitsText limits n (Some text) (Some left) (Some known) one result
    → SplitsText limits n (Some text) (Some left) (Some known) other result → one ≡ other
