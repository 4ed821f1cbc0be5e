-- What is written of a text whose numbers are put right.
use Rattle.std.specs.Prelude.{◌≡◌, ◌⊎◌, ℕ, List, [], Option, IfSome, Result, Ok, Err, MatchResult, option_map}
use Rattle.std.specs.Io.KnownBytes.{Appends}
use Rattle.cwr_shape.specs.declared.limits.Limits.{Limits}
use Rattle.cwr_values.specs.declared.items.Item.{Item}
use Rattle.cwr_values.specs.Format.Values.{FitsIn, IsTransmission, TransmissionValue}
use Rattle.cwr_values.specs.Format.Rows.{canonical_text}
use Rattle.cwr_judge.specs.Format.Ends.{IsAccepted, IsRefused, IsTruncated}
use Rattle.cwr_tools.specs.declared.verdicts.JoinFault.{JoinFault}
use Rattle.cwr_tools.specs.declared.verdicts.JoinReport.{JoinReport}
use Rattle.cwr_tools.specs.declared.verdicts.ToolFault.{ToolFault}
use Rattle.cwr_tools.specs.declared.verdicts.ToolFault.TheVariants.{Limit, Output, Refused, Truncated, Writer}
use Rattle.cwr_encode.specs.Format.Finishing.{HasFront}
use Rattle.cwr_encode.specs.Format.Written.{IsPart}
use Rattle.cwr_parts.specs.Format.Joins.{CountsInputFault, CountsOutputFault, IsOfDevice, IsWholeText, join_report, joined_records}
use Rattle.cwr_parts.specs.Format.Told.{ComeBefore, JoinsUpTo, JoinsUpToLimit}
use Rattle.cwr_renumber.specs.Steps.Renumbered.{renumbered_text}

-- The canonical text of a transmission within the limits is written, and the report has its numbers. As that one the text with its numbers
-- put right is accepted. What is refused is that text, or it is truncated.
abbrev pub Renumbers : {W : Type 0} → Limits → Option (List ℕ) → (W → Option (List ℕ)) → W → W → Result JoinReport ToolFault
    → Type 0
Renumbers limits before contents old new (Ok report) =
    (v : TransmissionValue) × IsTransmission v × FitsIn limits v × Appends (contents old) (contents new) (canonical_text v)
    × (report ≡ join_report 1 v) × IfSome before (λ text. (n : ℕ) × IsAccepted limits (renumbered_text text) v n)
Renumbers limits before contents old new (Err (Refused refusal)) =
    IfSome before (λ text. IsRefused limits (renumbered_text text) refusal)
Renumbers limits before contents old new (Err (Truncated records)) =
    IfSome before (λ text. IsTruncated limits (renumbered_text text) records)
Renumbers limits before contents old new (Err Output) = ⊥
Renumbers limits before contents old new (Err fault) = Unit {0}

-- where it is accepted as one, that one is written, unless a device or memory failed
abbrev pub RenumbersAccepted : {W : Type 0} → Limits → Option (List ℕ) → (W → Option (List ℕ)) → W → W
    → Result JoinReport ToolFault → Type 0
RenumbersAccepted limits before contents old new result =
    IfSome before (λ text. (v : TransmissionValue) (n : ℕ) → IsAccepted limits (renumbered_text text) v n
    → MatchResult result (λ report. (report ≡ join_report 1 v) × Appends (contents old) (contents new) (canonical_text v))
    IsOfDevice)

-- the canonical text of the records of items before a fault, without TRL, or of all
abbrev pub IsTextOfItems : Limits → ToolFault → Option (List ℕ) → List ℕ → Type 0
IsTextOfItems limits fault before text =
    ((after : Option (List ℕ)) × (given : List Item) × ComeBefore limits fault before after given
    × IsPart limits (joined_records [] given) text)
    ⊎ ((after : Option (List ℕ)) × IsWholeText limits [] before after text)

-- Where a text isn't accepted, or a device or memory failed, its items before that are written, and no TRL. Where the writer failed, so
-- many of the first bytes are as its fault tells.
abbrev pub LeavesItems : {W : Type 0} → Limits → Option (List ℕ) → (W → Option (List ℕ)) → W → W → ToolFault → Type 0
LeavesItems limits before contents old new (Writer written) =
    (text : List ℕ) × IsTextOfItems limits (Writer written) before text × HasFront contents (contents old) new text written
LeavesItems limits before contents old new (Limit limit) =
    (after : Option (List ℕ)) × JoinsUpToLimit limits limit contents [] before after old new
LeavesItems limits before contents old new Output = ⊥
LeavesItems limits before contents old new fault =
    (after : Option (List ℕ)) × JoinsUpTo limits fault contents [] before after old new

-- so it is of the text with its numbers put right
abbrev pub LeavesRenumbered : {W : Type 0} → Limits → Option (List ℕ) → (W → Option (List ℕ)) → W → W → ToolFault → Type 0
LeavesRenumbered limits before contents old new fault =
    LeavesItems limits (option_map renumbered_text before) contents old new fault

-- the writer's failures count one more where its fault is answered, and else they stay
abbrev pub CountsWriter : Result JoinReport ToolFault → ℕ → ℕ → Type 0
CountsWriter (Ok report) old new = new ≡ old
CountsWriter (Err fault) old new = CountsOutputFault fault old new

-- so do the reader's
abbrev pub CountsReader : Result JoinReport ToolFault → ℕ → ℕ → Type 0
CountsReader (Ok report) old new = new ≡ old
CountsReader (Err fault) old new = CountsInputFault fault old new

-- what a join of one input answered, without that one's number
abbrev pub of_one : Result JoinReport JoinFault → Result JoinReport ToolFault
of_one (Ok report) = Ok report
of_one (Err stopped) = Err stopped.fault
