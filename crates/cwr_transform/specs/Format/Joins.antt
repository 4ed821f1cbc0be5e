-- What the end of a join means for the program.
use Rattle.std.specs.Prelude.{◌≡◌, ◌<◌, ℕ, Bool, true, false, not, ◌&&◌, List, [], drop, flat_map, Option, Some, None, Result, Ok, Err}
use Rattle.std.specs.List.{AllZip}
use Rattle.cwr_shape.specs.declared.limits.Limits.{Limits}
use Rattle.cwr_values.specs.Format.Values.{FitsIn, TransmissionValue}
use Rattle.cwr_values.specs.Format.Rows.{canonical_text}
use Rattle.cwr_judge.specs.Format.Ends.{IsAccepted}
use Rattle.cwr_judge.specs.Format.Items.{value_items}
use Rattle.cwr_parts.specs.Format.Joins.{AreJoined}
use Rattle.cwr_files.specs.Format.Files.{HasCounted, Texts}
use Rattle.cwr_files.specs.Format.Inputs.{AreTexts, AreThere}
use Rattle.cwr_endings.specs.declared.endings.Wanted.{Wanted}
use Rattle.cwr_tools.specs.declared.verdicts.JoinFault.{JoinFault}
use Rattle.cwr_tools.specs.declared.verdicts.JoinReport.{JoinReport}
use Rattle.cwr_files.specs.declared.faults.Fault.{Fault}
use Rattle.cwr_files.specs.declared.faults.Fault.TheVariants as faults
use Rattle.cwr_files.specs.declared.faults.Name.{Name}
use Rattle.cwr_files.specs.declared.faults.Name.TheVariants.{File, StandardInput}
use Rattle.cwr_files.specs.declared.faults.Told.{Told}
use Rattle.cwr_endings.specs.declared.endings.Status.{Status}
use Rattle.cwr_endings.specs.declared.endings.Status.TheVariants as statuses
use Rattle.cwr_endings.specs.declared.stops.Stop.{Stop}
use Rattle.cwr_endings.specs.declared.stops.Stop.TheVariants as stops
use Rattle.cwr_transform.specs.declared.joins.Union.{Union}
use Rattle.cwr_endings.specs.Format.Endings.{EndsAfterFault, FindsFrom}

-- ---- what is joined

-- the text is accepted as the transmission, and nothing follows where nothing may
abbrev pub IsInput : Limits → Bool → List ℕ → TransmissionValue → Type 0
IsInput limits whole text v = (n : ℕ) × IsAccepted limits text v n × (whole ≡ true → drop n text ≡ [])

-- The texts are joined to that transmission: each of them is accepted and has what is wanted, and so has the join, which is within the limits.
pub record JoinsTo (limits : Limits) (wanted : Wanted) (texts : List (List ℕ)) (joined : TransmissionValue) : Type 0 where
  pub inputs : List TransmissionValue
  pub accepted : AllZip (IsInput limits wanted.whole) texts inputs
  pub joined_of : AreJoined inputs joined
  pub within : FitsIn limits joined
  pub calm : FindsFrom wanted.fail_on (flat_map value_items inputs) false

-- they are joined to none
abbrev pub JoinsToNone : Limits → Wanted → List (List ℕ) → Type 0
JoinsToNone limits wanted texts = (joined : TransmissionValue) → JoinsTo limits wanted texts joined → ⊥

-- A join of the texts ends well where they are joined to a transmission, and as refused where they are joined to none.
abbrev pub IsJoinStatus : Limits → Wanted → List (List ℕ) → Status → Type 0
IsJoinStatus limits wanted texts statuses.Good = (joined : TransmissionValue) × JoinsTo limits wanted texts joined
IsJoinStatus limits wanted texts statuses.Refused = JoinsToNone limits wanted texts
IsJoinStatus limits wanted texts statuses.CommandLine = texts ≡ []
IsJoinStatus limits wanted texts statuses.Fault = ⊥

-- the text is the canonical one of the transmission to which these are joined
abbrev pub IsJoinText : Limits → Wanted → List (List ℕ) → List ℕ → Type 0
IsJoinText limits wanted texts text = (joined : TransmissionValue) × JoinsTo limits wanted texts joined × (text ≡ canonical_text joined)

-- so is the status of what these words name, where the texts are known, and each is there
abbrev pub IsStatusOfJoin : Limits → Wanted → Option Texts → Option (List ℕ) → List (List ℕ) → Status → Type 0
IsStatusOfJoin limits wanted held standard names status =
    AreThere held standard names
    × ((texts : List (List ℕ)) → AreTexts held standard names texts → IsJoinStatus limits wanted texts status)

-- and the text that is written of them
abbrev pub IsTextOfJoin : Limits → Wanted → Option Texts → Option (List ℕ) → List (List ℕ) → List ℕ → Type 0
IsTextOfJoin limits wanted held standard names text =
    (texts : List (List ℕ)) → AreTexts held standard names texts → IsJoinText limits wanted texts text

-- ---- faults

-- an input couldn't be opened, or there was no memory
abbrev pub IsUnread : Fault → Type 0
IsUnread (faults.Open name reason) = Unit {0}
IsUnread faults.Memory = Unit {0}
IsUnread fault = ⊥

-- so it is, and that a file couldn't be opened is counted; standard input, which is there once, may have been read already
abbrev pub IsUnreadBy : Fault → ℕ → ℕ → Type 0
IsUnreadBy (faults.Open StandardInput reason) old now = Unit {0}
IsUnreadBy (faults.Open of reason) old now = HasCounted old now
IsUnreadBy faults.Memory old now = Unit {0}
IsUnreadBy fault old now = ⊥

-- an input has another sender than the first where it may not, or there was no memory
abbrev pub IsRefusedSender : Bool → Fault → Type 0
IsRefusedSender same_sender (faults.IsOther of) = same_sender ≡ true
IsRefusedSender same_sender faults.Memory = Unit {0}
IsRefusedSender same_sender fault = ⊥

-- the file couldn't be made, or not be given its name, or an input has another sender where it may not, or there was no memory
abbrev pub IsUnjoined : Union → Fault → Type 0
IsUnjoined union (faults.Open of reason) = of ≡ File union.out
IsUnjoined union (faults.Output of reason) = of ≡ File union.out
IsUnjoined union (faults.IsOther of) = union.same_sender ≡ true
IsUnjoined union faults.Memory = Unit {0}
IsUnjoined union fault = ⊥

-- ---- the end

-- What was written is what is wanted, by what stands after the transmissions of the inputs: whether bytes do, or the number of the
-- input that failed there. Nothing was looked at where the join failed.
abbrev pub is_wanted : Bool → Option (Result Bool ℕ) → Bool
is_wanted whole None = false
is_wanted whole (Some (Ok follows)) = not (whole && follows)
is_wanted whole (Some (Err number)) = not whole

-- a join that failed ends as its fault does, with what is known of the input and of the output
abbrev pub EndsAfterJoinFault : Name → JoinFault → Result Status Stop → Type 0
EndsAfterJoinFault name stopped ending =
    (read : Told) × (written : Told)
    × EndsAfterFault read (stops.Fault (faults.Write written)) (stops.Fault (faults.Output name None)) (Some stopped.fault) ending

-- something follows where nothing may
abbrev pub EndsLooked : Bool → Result Status Stop → Type 0
EndsLooked true ending = ending ≡ Ok statuses.Refused
EndsLooked false ending = ending ≡ Ok statuses.Good

-- an input failed there
abbrev pub EndsUnseen : Bool → Result Status Stop → Type 0
EndsUnseen true ending = (told : Told) × (ending ≡ Err (stops.Fault (faults.Read told)))
EndsUnseen false ending = ending ≡ Ok statuses.Good

-- A join that succeeds ends well unless something follows a transmission where nothing may, which ends it as refused, or an input
-- failed there.
abbrev pub EndsAfterJoin : Bool → Option (Result Bool ℕ) → Result Status Stop → Type 0
EndsAfterJoin whole (Some (Ok follows)) ending = EndsLooked (whole && follows) ending
EndsAfterJoin whole (Some (Err number)) ending = EndsUnseen whole ending
EndsAfterJoin whole None ending = ending ≡ Ok statuses.Good

-- a finding that is unwanted ends it as refused
abbrev pub EndsFound : Bool → Bool → Option (Result Bool ℕ) → Result Status Stop → Type 0
EndsFound true whole after ending = ending ≡ Ok statuses.Refused
EndsFound false whole after ending = EndsAfterJoin whole after ending

-- so a run ends, by what the join answered
abbrev pub EndsJoined : Union → Result JoinReport JoinFault → Bool → Option (Result Bool ℕ) → Result Status Stop → Type 0
EndsJoined union (Ok report) found after ending = EndsFound found union.wanted.whole after ending
EndsJoined union (Err stopped) found after ending = EndsAfterJoinFault (File union.out) stopped ending

-- the fault of a join
abbrev pub IsJoinFault : Union → Fault → Type 0
IsJoinFault union (faults.IsInput of) = of ≡ File union.out
IsJoinFault union (faults.IsThere of) = (of ≡ File union.out) × (union.only_new ≡ true)
IsJoinFault union (faults.IsTwice of) = ⊥
IsJoinFault union (faults.IsOther of) = union.same_sender ≡ true
IsJoinFault union (faults.IsLate of) = ⊥
IsJoinFault union fault = Unit {0}

-- so many inputs were named: none, or some were joined
abbrev pub NamesInputs : {A : Type 0} → Option A → ℕ → Type 0
NamesInputs None inputs = inputs ≡ 0
NamesInputs (Some joined) inputs = 0 < inputs

-- A join of so many inputs ends well or as refused; where there is none, as words do that ask for nothing. Else a file, a device or
-- memory failed, or the file may not be written.
abbrev pub EndsAsJoin : Union → ℕ → Result Status Stop → Type 0
EndsAsJoin union inputs (Ok statuses.Good) = 0 < inputs
EndsAsJoin union inputs (Ok statuses.Refused) = 0 < inputs
EndsAsJoin union inputs (Ok statuses.CommandLine) = inputs ≡ 0
EndsAsJoin union inputs (Ok statuses.Fault) = ⊥
EndsAsJoin union inputs (Err stops.Output) = Unit {0}
EndsAsJoin union inputs (Err (stops.Fault fault)) = IsJoinFault union fault
