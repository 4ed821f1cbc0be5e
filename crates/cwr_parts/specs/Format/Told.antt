-- What a split and a join tell of their texts: the items before a text's end, and what is handed over and written of these.
use Rattle.std.specs.Prelude.{◌≡◌, ◌⊎◌, ℕ, ◌+◌, ◌≤◌, count_by, length, map, List, [], ◌∷◌, ◌++◌, Option, IfSome, Result, Ok, Err}
use Rattle.std.specs.Io.KnownBytes.{Consumes}
use Rattle.cwr_lines.specs.Format.Lines.{closed, raw_lines}
use Rattle.cwr_shape.specs.declared.limits.Limits.{Limits}
use Rattle.cwr_shape.specs.declared.limits.LimitKind.{LimitKind}
use Rattle.cwr_shape.specs.declared.tallies.Bar.TheVariants as bars
use Rattle.cwr_shape.specs.Format.Outlines.{Continues}
use Rattle.cwr_shape.specs.Format.NextSymbols.{IsBarredFirst}
use Rattle.cwr_values.specs.declared.items.Item.{Item}
use Rattle.cwr_values.specs.Format.Values.{TransmissionValue, symbol_of}
use Rattle.cwr_judge.specs.Format.Items.{AreFirstItems, is_transaction}
use Rattle.cwr_encode.specs.Format.Written.{IsPart}
use Rattle.cwr_encode.specs.Format.Finishing.{HasFront}
use Rattle.cwr_tools.specs.declared.verdicts.JoinFault.{JoinFault}
use Rattle.cwr_tools.specs.declared.verdicts.JoinReport.{JoinReport}
use Rattle.cwr_tools.specs.declared.verdicts.SplitReport.{SplitReport}
use Rattle.cwr_tools.specs.declared.verdicts.ToolFault.{ToolFault}
use Rattle.cwr_tools.specs.declared.verdicts.ToolFault.TheVariants.{Reader, Writer, Memory, Refused, Truncated, Limit, Output}
use Rattle.cwr_tools.specs.declared.verdicts.Verdict.TheVariants as verdicts
use Rattle.cwr_tools.specs.Format.Verdicts.{AreItemsOfLines, IsVerdictAfter}
use Rattle.cwr_parts.specs.Format.Joins.{CountsInputFault, IsWholeText, JoinsAll, TakeInputs, WritesPart, joined_records}
use Rattle.cwr_parts.specs.Format.Splitting.{HasFullRuns, SplitsAll}

-- ---- the items before a fault

-- how many lines of the text have their line feed
abbrev pub ended_lines : List ℕ → ℕ
ended_lines text = length (raw_lines text)

-- how many lines it has where its last one needs none
abbrev pub all_lines : List ℕ → ℕ
all_lines text = length (raw_lines (closed text))

-- Once the front of a text was read, so many of its lines have ended: those that have their line feed, or, where all of the text was
-- read and has ended there, all.
abbrev pub HaveEnded : List ℕ → List ℕ → ℕ → Type 0
HaveEnded text read count = (count ≡ ended_lines read) ⊎ ((count ≡ all_lines read) × (read ≡ text))

-- The items were handed out once that front was read: those that the lines give which have ended. Where the last one ended the
-- transaction that was handed out last, an item of its own, which is no transaction, is still to come.
pub record AreHandedOut (text read : List ℕ) (given : List Item) : Type 0 where
  pub count : ℕ
  pub ended : HaveEnded text read count
  pub own : List Item
  pub few : length own ≤ 1
  pub none : count_by is_transaction own ≡ 0
  pub items : AreItemsOfLines text count (given ++ own)

-- The items that a text, of which that front was read, gives before a fault. A refusal and a truncation are the text's own, and the
-- items are those of the lines before that end. Where the reader failed they are those of the lines that have their line feed, and
-- out of memory those of all lines that were read. Where a writer or an output failed, or a limit was passed, they were handed out.
abbrev pub AreItemsBefore : Limits → ToolFault → List ℕ → List ℕ → List Item → Type 0
AreItemsBefore limits (Refused refusal) text read given = IsVerdictAfter limits text (verdicts.Refused refusal) given
AreItemsBefore limits (Truncated records) text read given = IsVerdictAfter limits text (verdicts.Truncated records) given
AreItemsBefore limits Reader text read given = AreItemsOfLines text (ended_lines read) given
AreItemsBefore limits Memory text read given = AreItemsOfLines text (all_lines read) given
AreItemsBefore limits fault text read given = AreHandedOut text read given

-- They begin a transmission within the limits, and are those of a text of which the reader lost the front: of the reader's bytes, where
-- these are known.
pub record ComeBefore (limits : Limits) (fault : ToolFault) (before after : Option (List ℕ)) (given : List Item) : Type 0 where
  pub first : AreFirstItems limits given
  pub text : List ℕ
  pub known : IfSome before (λ bytes. bytes ≡ text)
  pub read : List ℕ
  pub rest : List ℕ
  pub begins : text ≡ read ++ rest
  pub lost : Consumes before after read
  pub items : AreItemsBefore limits fault text read given

-- ---- a split

-- the outputs that the items before a fault fill are handed over
abbrev pub SplitsUpTo : Limits → ℕ → ToolFault → Option (List ℕ) → Option (List ℕ) → Option (List (List ℕ))
    → Option (List (List ℕ)) → Type 0
SplitsUpTo limits n fault before after old new =
    (given : List Item) × ComeBefore limits fault before after given × HasFullRuns limits n given old new

-- an output failed at an item that was handed out, and those that the items before it fill are handed over
abbrev pub SplitsUpToItem : Limits → ℕ → ToolFault → Option (List ℕ) → Option (List ℕ) → Option (List (List ℕ))
    → Option (List (List ℕ)) → Type 0
SplitsUpToItem limits n fault before after old new =
    (given : List Item) × (item : Item) × ComeBefore limits fault before after (given ++ item ∷ [])
    × HasFullRuns limits n given old new

-- A text that is accepted is split whole. Else the outputs that the items before the first fault fill are handed over: each as soon as
-- its last transaction was handed out. No limit is a fault of its own.
abbrev pub SplitsText : Limits → ℕ → Option (List ℕ) → Option (List ℕ) → Option (List (List ℕ)) → Option (List (List ℕ))
    → Result SplitReport ToolFault → Type 0
SplitsText limits n before after old new (Ok report) = SplitsAll limits n before after old new report
SplitsText limits n before after old new (Err (Limit limit)) = ⊥
SplitsText limits n before after old new (Err (Writer written)) = SplitsUpToItem limits n (Writer written) before after old new
SplitsText limits n before after old new (Err Output) = SplitsUpToItem limits n Output before after old new
SplitsText limits n before after old new (Err fault) = SplitsUpTo limits n fault before after old new

-- ---- a join

-- the records of the items before a fault, after those of the earlier inputs, are written
pub record JoinsUpTo {W : Type 0} (limits : Limits) (fault : ToolFault) (contents : W → Option (List ℕ))
    (inputs : List TransmissionValue) (before after : Option (List ℕ)) (old new : W) : Type 0 where
  pub given : List Item
  pub before_it : ComeBefore limits fault before after given
  pub written : WritesPart limits contents (joined_records inputs given) old new

-- with the records of one item more no transmission continues within the limit, and those of the items before it are written
pub record JoinsUpToLimit {W : Type 0} (limits : Limits) (limit : LimitKind) (contents : W → Option (List ℕ))
    (inputs : List TransmissionValue) (before after : Option (List ℕ)) (old new : W) : Type 0 where
  pub given : List Item
  pub item : Item
  pub before_it : ComeBefore limits (Limit limit) before after (given ++ item ∷ [])
  pub barred : IsBarredFirst limits (λ P. Continues P (map symbol_of (joined_records inputs (given ++ item ∷ []))))
      (bars.Limit limit)
  pub written : WritesPart limits contents (joined_records inputs given) old new

-- the canonical text of the records up to an item of the input in hand, or after the last input the whole text
abbrev pub IsJoinedText : {R : Type 0} → Limits → ToolFault → List TransmissionValue → Option (List ℕ) → Option (List ℕ) → List R
    → List ℕ → Type 0
IsJoinedText limits fault inputs before after later text =
    ((given : List Item) × ComeBefore limits fault before after given × IsPart limits (joined_records inputs given) text)
    ⊎ (IsWholeText limits inputs before after text × (later ≡ []))

-- How far a join came with the input in hand, after these. Where the writer failed, so many of the first bytes of such a text are
-- written. There is no fault of making outputs.
abbrev pub JoinsSoFar : {R W : Type 0} → Limits → ToolFault → (W → Option (List ℕ)) → List TransmissionValue → Option (List ℕ)
    → Option (List ℕ) → List R → W → W → Type 0
JoinsSoFar limits (Limit limit) contents inputs before after later old new =
    JoinsUpToLimit limits limit contents inputs before after old new
JoinsSoFar limits (Writer written) contents inputs before after later old new =
    (text : List ℕ) × IsJoinedText limits (Writer written) inputs before after later text
    × HasFront contents (contents old) new text written
JoinsSoFar limits Output contents inputs before after later old new = ⊥
JoinsSoFar limits fault contents inputs before after later old new = JoinsUpTo limits fault contents inputs before after old new

-- The inputs before the one in hand are accepted, and those after it are as they were. The fault has the number of the one in hand,
-- and its text's items before that fault are joined.
pub record JoinsBefore {R W : Type 0} (limits : Limits) (remaining : R → Option (List ℕ)) (failures : R → ℕ)
    (contents : W → Option (List ℕ)) (before after : List R) (old new : W) (stopped : JoinFault) : Type 0 where
  pub earlier : List R
  pub hand : R
  pub later : List R
  pub finished : List R
  pub left : R
  pub before_are : before ≡ earlier ++ hand ∷ later
  pub after_are : after ≡ finished ++ left ∷ later
  pub number : stopped.input ≡ length earlier + 1
  pub inputs : List TransmissionValue
  pub taken : TakeInputs limits remaining failures earlier inputs finished
  pub stops : JoinsSoFar limits stopped.fault contents inputs (remaining hand) (remaining left) later old new
  pub counts : CountsInputFault stopped.fault (failures hand) (failures left)

-- A join writes the canonical text of the transmission to which its inputs are joined, where each of them is accepted and that one is
-- within the limits. Else it stops at the first fault.
abbrev pub JoinsTexts : {R W : Type 0} → Limits → (R → Option (List ℕ)) → (R → ℕ) → (W → Option (List ℕ)) → List R → List R → W
    → W → Result JoinReport JoinFault → Type 0
JoinsTexts limits remaining failures contents before after old new (Ok report) =
    JoinsAll limits remaining failures contents before after old new report
JoinsTexts limits remaining failures contents before after old new (Err stopped) =
    JoinsBefore limits remaining failures contents before after old new stopped
