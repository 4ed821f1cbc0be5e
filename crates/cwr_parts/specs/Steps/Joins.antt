-- Where a join stops, and what is written then.
use Rattle.std.specs.Prelude.{◌≡◌, ◌⊎◌, ℕ, ◌+◌, length, map, List, [], ◌∷◌, ◌++◌, Option, Result, Ok, Err}
use Rattle.cwr_shape.specs.declared.limits.Limits.{Limits}
use Rattle.cwr_shape.specs.declared.limits.LimitKind.{LimitKind}
use Rattle.cwr_shape.specs.declared.tallies.Bar.TheVariants as bars
use Rattle.cwr_shape.specs.Format.Outlines.{Continues}
use Rattle.cwr_shape.specs.Format.NextSymbols.{IsBarredFirst}
use Rattle.cwr_values.specs.declared.items.Item.{Item}
use Rattle.cwr_values.specs.Format.Values.{TransmissionValue, symbol_of}
use Rattle.cwr_decode.specs.declared.readings.ReadFault.{ReadFault}
use Rattle.cwr_decode.specs.declared.readings.ReadFault.TheVariants as read_faults
use Rattle.cwr_encode.specs.Format.Written.{IsPart}
use Rattle.cwr_encode.specs.Format.Finishing.{HasFront}
use Rattle.cwr_tools.specs.declared.verdicts.JoinReport.{JoinReport}
use Rattle.cwr_tools.specs.declared.verdicts.JoinFault.{JoinFault}
use Rattle.cwr_tools.specs.declared.verdicts.ToolFault.{ToolFault}
use Rattle.cwr_tools.specs.declared.verdicts.ToolFault.TheVariants.{Reader, Writer, Memory, Refused, Truncated, Limit}
use Rattle.cwr_tools.specs.Steps.Reports.{HasHandedOut}
use Rattle.cwr_tools.specs.Steps.Verdicts.{StopsAfter}
use Rattle.cwr_parts.specs.Format.Joins.{joined_records, TakeInputs, JoinsAll, WritesPart, IsWholeText, CountsInputFault}

-- the reading of the input in hand stopped with that fault, and the records of the items before are written
pub record StopsInput {W : Type 0} (limits : Limits) (fault : ReadFault) (contents : W → Option (List ℕ))
    (inputs : List TransmissionValue) (before after : Option (List ℕ)) (old new : W) : Type 0 where
  pub given : List Item
  pub stops : StopsAfter limits fault before after given
  pub written : WritesPart limits contents (joined_records inputs given) old new

-- An item was handed out with whose records no transmission continues within the limit. The records of the items before it
-- are written.
pub record PassesLimit {W : Type 0} (limits : Limits) (limit : LimitKind) (contents : W → Option (List ℕ))
    (inputs : List TransmissionValue) (before after : Option (List ℕ)) (old new : W) : Type 0 where
  pub given : List Item
  pub item : Item
  pub handed_out : HasHandedOut limits before after (given ++ item ∷ [])
  pub barred : IsBarredFirst limits (λ P. Continues P (map symbol_of (joined_records inputs (given ++ item ∷ []))))
      (bars.Limit limit)
  pub written : WritesPart limits contents (joined_records inputs given) old new

-- the canonical text of the records up to an item of the input in hand
pub record IsTextSoFar (limits : Limits) (inputs : List TransmissionValue) (before after : Option (List ℕ)) (text : List ℕ) : Type
    0 where
  pub given : List Item
  pub handed_out : HasHandedOut limits before after given
  pub part : IsPart limits (joined_records inputs given) text

-- the writer failed, and so many of the first bytes of such a text are written; the whole text comes after the last input
pub record FailsToWrite {R W : Type 0} (limits : Limits) (written : ℕ) (contents : W → Option (List ℕ))
    (inputs : List TransmissionValue) (before after : Option (List ℕ)) (later : List R) (old new : W) : Type 0 where
  pub text : List ℕ
  pub text_is : IsTextSoFar limits inputs before after text ⊎ (IsWholeText limits inputs before after text × (later ≡ []))
  pub front : HasFront contents (contents old) new text written

-- how a fault comes while an input is in hand, after these inputs; there is none of making outputs
abbrev pub StopsBy : {R W : Type 0} → Limits → ToolFault → (W → Option (List ℕ)) → List TransmissionValue → Option (List ℕ)
    → Option (List ℕ) → List R → W → W → Type 0
StopsBy limits Reader contents inputs before after later old new =
    StopsInput limits read_faults.Reader contents inputs before after old new
StopsBy limits Memory contents inputs before after later old new =
    StopsInput limits read_faults.Memory contents inputs before after old new
StopsBy limits (Refused refusal) contents inputs before after later old new =
    StopsInput limits (read_faults.Refused refusal) contents inputs before after old new
StopsBy limits (Truncated records) contents inputs before after later old new =
    StopsInput limits (read_faults.Truncated records) contents inputs before after old new
StopsBy limits (Limit limit) contents inputs before after later old new =
    PassesLimit limits limit contents inputs before after old new
StopsBy limits (Writer written) contents inputs before after later old new =
    FailsToWrite limits written contents inputs before after later old new
StopsBy limits fault contents inputs before after later old new = ⊥

-- The inputs before the one in hand are accepted, and those after it are as they were. The fault has the number of the one
-- in hand.
pub record StopsJoin {R W : Type 0} (limits : Limits) (remaining : R → Option (List ℕ)) (failures : R → ℕ)
    (contents : W → Option (List ℕ)) (before after : List R) (old new : W) (stopped : JoinFault) : Type 0 where
  pub earlier : List R
  pub hand : R
  pub later : List R
  pub finished : List R
  pub left : R
  pub before_are : before ≡ earlier ++ hand ∷ later
  pub after_are : after ≡ finished ++ left ∷ later
  pub number : stopped.input ≡ length earlier + 1
  pub inputs : List TransmissionValue
  pub taken : TakeInputs limits remaining failures earlier inputs finished
  pub stops : StopsBy limits stopped.fault contents inputs (remaining hand) (remaining left) later old new
  pub counts : CountsInputFault stopped.fault (failures hand) (failures left)

-- A join writes the canonical text of the transmission to which its inputs are joined, where each of them is accepted and that
-- one is within the limits. Else it stops at the first fault.
abbrev pub Joins : {R W : Type 0} → Limits → (R → Option (List ℕ)) → (R → ℕ) → (W → Option (List ℕ)) → List R → List R → W → W
    → Result JoinReport JoinFault → Type 0
Joins limits remaining failures contents before after old new (Ok report) =
    JoinsAll limits remaining failures contents before after old new report
Joins limits remaining failures contents before after old new (Err stopped) =
    StopsJoin limits remaining failures contents before after old new stopped
