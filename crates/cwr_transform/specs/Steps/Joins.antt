-- What a join keeps of its inputs, and what it makes of them.
use denote.Ref.{Bor}
use Rattle.std.specs.Prelude.{◌≡◌, ◌≢◌, ◌<◌, ◌+◌, ℕ, Bool, true, false, not, ◌&&◌, ◌||◌, List, [], All, Any, IfSome, IsSome, Option, Some, None, Result, Ok, Err}
use Rattle.std.specs.List.{AllZip}
use Rattle.std.specs.Io.KnownBytes.{prepend_known}
use Rattle.cwr_devices.specs.declared.sources.ReadAhead.{ReadAhead}
use Rattle.cwr_devices.specs.Steps.Sources.{ahead_of, inner_of}
use Rattle.cwr_shape.specs.declared.limits.Limits.{Limits}
use Rattle.cwr_values.specs.declared.items.Item.{Item}
use Rattle.cwr_values.specs.Format.Values.{FitsIn, TransmissionValue}
use Rattle.cwr_values.specs.Format.Rows.{canonical_text}
use Rattle.cwr_tools.specs.declared.verdicts.JoinFault.{JoinFault}
use Rattle.cwr_tools.specs.declared.verdicts.JoinReport.{JoinReport}
use Rattle.cwr_tools.specs.declared.verdicts.ToolFault.{ToolFault}
use Rattle.cwr_tools.specs.declared.verdicts.ToolFault.TheVariants.{Output, Reader, Writer}
use Rattle.cwr_tools.specs.Format.Watching.{AreFindingsIn, is_reached}
use Rattle.cwr_parts.specs.Format.Joins.{AreJoined, HasInput, IsOfDevice, TakeInputs}
use Rattle.cwr_files.specs.declared.faults.Fault.{Fault}
use Rattle.cwr_files.specs.declared.faults.Told.{Told}
use Rattle.cwr_files.specs.declared.inputs.Input.{Input}
use Rattle.cwr_files.specs.declared.outputs.Written.{Written}
use Rattle.cwr_files.specs.Format.Files.{HasCounted, Same, Texts}
use Rattle.cwr_files.specs.Steps.NewFiles.{HasKeptCount}
use Rattle.cwr_files.specs.Format.Inputs.{AreTexts, AreThere}
use Rattle.cwr_files.specs.Format.Written.{is_whole, writer_in}
use Rattle.cwr_files.specs.Steps.Inputs.{IsLeftOf, remaining_of}
use Rattle.cwr_endings.specs.declared.endings.Look.{Look}
use Rattle.cwr_endings.specs.declared.endings.Look.TheVariants as looks
use Rattle.cwr_endings.specs.declared.endings.Wanted.{Wanted}
use Rattle.cwr_endings.specs.declared.stops.Stop.TheVariants as stops
use Rattle.cwr_endings.specs.Format.Endings.{SettlesOut, WritesOut}
use Rattle.cwr_endings.specs.Steps.Looks.{follows}
use Rattle.cwr_transform.specs.declared.joins.Joined.{Joined}
use Rattle.cwr_transform.specs.declared.joins.Union.{Union}
use Rattle.cwr_transform.specs.declared.join_views.JoinView.{JoinView}
use Rattle.cwr_transform.specs.Format.Joins.{IsJoinText, JoinsTo, JoinsToNone, is_wanted}
use Rattle.cwr_transform.specs.Format.Openings.{openings_in}

-- ---- the readers

-- the bytes that a reader of an input has left
abbrev pub left_of : {F I P : Type 0} → (F → Option (List ℕ)) → (I → Option (List ℕ)) → ReadAhead (Input F I P) → Option (List ℕ)
left_of of_file of_standard reader = prepend_known (ahead_of reader) (remaining_of of_file of_standard (inner_of reader))

-- each has what its word names
abbrev pub ReadEach : {R : Type 0} → Option Texts → Option (List ℕ) → (R → Option (List ℕ)) → List (Bor (List ℕ)) → List R → Type 0
ReadEach held standard remaining names readers =
    AllZip (λ name reader. IsLeftOf held standard (Some name.now) (remaining reader)) names readers

-- they have these texts
abbrev pub HaveTexts : {R : Type 0} → (R → Option (List ℕ)) → List R → List (List ℕ) → Type 0
HaveTexts remaining readers texts = AllZip (λ reader text. remaining reader ≡ Some text) readers texts

-- one of them failed
abbrev pub HasFailed : {R : Type 0} → (R → ℕ) → List R → Type 0
HasFailed failures readers = Any (λ reader. 0 < failures reader) readers

-- What was seen after each: whether bytes stand there, or that one failed.
abbrev pub LooksAfter : {R : Type 0} → (R → Option (List ℕ)) → (R → ℕ) → List R → List R → Result Bool ℕ → Type 0
LooksAfter remaining failures old new (Ok true) = Any (λ reader. IfSome (remaining reader) (λ more. more ≢ [])) old
LooksAfter remaining failures old new (Ok false) = All (λ reader. IfSome (remaining reader) (λ more. more ≡ [])) old
LooksAfter remaining failures old new (Err number) = HasFailed failures new

-- what was seen after some, with what is seen after the one of that number
abbrev pub seen_with : Result Bool ℕ → Look → ℕ → Result Bool ℕ
seen_with (Ok found) (looks.Found trailing) number = Ok (found || follows trailing)
seen_with (Ok found) looks.Failed number = Err number
seen_with (Ok found) looks.Unasked number = Err number
seen_with (Err first) look number = Err first

-- ---- what is made of the inputs

-- The inputs are joined to a transmission within the limits. A file that was empty has its canonical text, where it took all.
pub record HasJoined {R : Type 0} (limits : Limits) (remaining : R → Option (List ℕ)) (failures : R → ℕ) (old new : List R)
    (first final : Option (List ℕ)) (took_all : Bool) : Type 0 where
  pub inputs : List TransmissionValue
  pub taken : TakeInputs limits remaining failures old inputs new
  pub joined : TransmissionValue
  pub joined_of : AreJoined inputs joined
  pub within : FitsIn limits joined
  pub written : took_all ≡ true → first ≡ Some [] → final ≡ Some (canonical_text joined)

-- They aren't, unless a device or memory failed. No output is made.
pub record HasStopped {R : Type 0} (limits : Limits) (remaining : R → Option (List ℕ)) (failures : R → ℕ) (old new : List R)
    (stopped : JoinFault) : Type 0 where
  pub right : (inputs : List TransmissionValue) (joined : TransmissionValue) → AllZip (HasInput limits remaining) old inputs
      → AreJoined inputs joined → FitsIn limits joined → IsOfDevice stopped.fault
  pub failed : stopped.fault ≡ Reader → HasFailed failures new
  pub unmade : stopped.fault ≢ Output

abbrev pub JoinsReaders : {R : Type 0} → Limits → (R → Option (List ℕ)) → (R → ℕ) → List R → List R → Option (List ℕ) → Option (List ℕ)
    → Bool → Result JoinReport JoinFault → Type 0
JoinsReaders limits remaining failures old new first final took_all (Ok report) =
    HasJoined limits remaining failures old new first final took_all
JoinsReaders limits remaining failures old new first final took_all (Err stopped) = HasStopped limits remaining failures old new stopped

-- what was seen of the items of the inputs: their findings and their headers, where there was memory
abbrev pub has_seen : JoinView → List Item → Type 0
has_seen view items = (view.findings.lacks_memory ≡ false → AreFindingsIn view.findings.count items)
    × (view.lacks_openings ≡ false → view.openings.items ≡ openings_in items)

-- what was seen after the transmissions, where all are joined
abbrev pub LooksOn : {R : Type 0} → (R → Option (List ℕ)) → (R → ℕ) → List R → List R → Result JoinReport JoinFault
    → Option (Result Bool ℕ) → Type 0
LooksOn remaining failures old new (Ok report) after =
    (found : Result Bool ℕ) × (after ≡ Some found) × LooksAfter remaining failures old new found
LooksOn remaining failures old new (Err stopped) after = (after ≡ None) × (new ≡ old)

-- then there was memory for the findings, and it is known whether one is unwanted
abbrev pub FindsIn : Wanted → JoinView → Result JoinReport JoinFault → Bool → Type 0
FindsIn wanted view (Ok report) found =
    (view.findings.lacks_memory ≡ false) × (found ≡ is_reached wanted.fail_on view.findings.count.worst)
FindsIn wanted view (Err stopped) found = found ≡ false

-- ---- what is answered

-- where texts are joined to one, that is so
abbrev pub Joins : Limits → Wanted → List (List ℕ) → Bool → Type 0
Joins limits wanted texts true = (joined : TransmissionValue) × JoinsTo limits wanted texts joined
Joins limits wanted texts false = JoinsToNone limits wanted texts

-- a reader that failed after its transmission says nothing where nothing may follow
abbrev pub JudgesUnseen : Limits → Wanted → List (List ℕ) → Bool → Type 0
JudgesUnseen limits wanted texts true = Unit {0}
JudgesUnseen limits wanted texts false = Joins limits wanted texts true

-- what was seen after the transmissions says whether they are joined, where no finding is unwanted
abbrev pub JudgesAfter : Limits → Wanted → Bool → List (List ℕ) → Option (Result Bool ℕ) → Type 0
JudgesAfter limits wanted whole texts None = ⊥
JudgesAfter limits wanted whole texts (Some (Ok follows)) = Joins limits wanted texts (not (whole && follows))
JudgesAfter limits wanted whole texts (Some (Err number)) = JudgesUnseen limits wanted texts whole

abbrev pub JudgesFound : Limits → Wanted → List (List ℕ) → Bool → Option (Result Bool ℕ) → Type 0
JudgesFound limits wanted texts true after = Joins limits wanted texts false
JudgesFound limits wanted texts false after = JudgesAfter limits wanted wanted.whole texts after

-- so does what a join answered
abbrev pub JudgesJoin : Limits → Wanted → List (List ℕ) → Result JoinReport JoinFault → Bool → Option (Result Bool ℕ) → Type 0
JudgesJoin limits wanted texts (Ok report) found after = JudgesFound limits wanted texts found after
JudgesJoin limits wanted texts (Err stopped) found after =
    (joined : TransmissionValue) → JoinsTo limits wanted texts joined → IsOfDevice stopped.fault

-- ---- which device failed

-- a join that stopped makes no output, and nothing was looked at after it; after one that didn't something was
abbrev pub StopsAs : Result JoinReport JoinFault → Option (Result Bool ℕ) → Type 0
StopsAs (Err stopped) after = (stopped.fault ≢ Output) × (after ≡ None)
StopsAs (Ok report) after = IsSome after

-- and a reader failed where that is answered
abbrev pub FailsAs : {R : Type 0} → (R → ℕ) → List R → Result JoinReport JoinFault → Option (Result Bool ℕ) → Type 0
FailsAs failures readers (Err stopped) after = stopped.fault ≡ Reader → HasFailed failures readers
FailsAs failures readers (Ok report) (Some (Err number)) = HasFailed failures readers
FailsAs failures readers (Ok report) after = Unit {0}

-- how often a device failed by what a join answered: the reader or the writer, or a reader after its transmission
abbrev pub faults_of : ToolFault → ℕ
faults_of Reader = 1
faults_of (Writer written) = 1
faults_of fault = 0

abbrev pub join_faults : Result JoinReport JoinFault → Option (Result Bool ℕ) → ℕ
join_faults (Err stopped) after = faults_of stopped.fault
join_faults (Ok report) (Some (Err number)) = 1
join_faults (Ok report) after = 0

-- how often the writer did
abbrev pub writer_faults_of : ToolFault → ℕ
writer_faults_of (Writer written) = 1
writer_faults_of fault = 0

abbrev pub writer_faults : Result JoinReport JoinFault → ℕ
writer_faults (Ok report) = 0
writer_faults (Err stopped) = writer_faults_of stopped.fault

-- ---- how failures are counted

-- a failure of the writer is, and none is taken away
abbrev pub CountsWriter : Result JoinReport JoinFault → ℕ → ℕ → Type 0
CountsWriter outcome old now = HasKeptCount old now × (writer_faults outcome ≡ 1 → HasCounted old now)

-- those of a reader and of the writer are; no output is made
abbrev pub CountsFault : ToolFault → ℕ → ℕ → Type 0
CountsFault Reader old now = HasCounted old now
CountsFault (Writer written) old now = HasCounted old now
CountsFault Output old now = ⊥
CountsFault fault old now = Unit {0}

-- where the join stopped, or an input failed after its transmission
abbrev pub CountsJoined : Result JoinReport JoinFault → Option (Result Bool ℕ) → ℕ → ℕ → Type 0
CountsJoined (Err stopped) after old now = CountsFault stopped.fault old now
CountsJoined (Ok report) (Some (Err number)) old now = HasCounted old now
CountsJoined (Ok report) after old now = Unit {0}

-- ---- the file

-- it has its name where what came of the join is wanted
abbrev pub keeps_file : Bool → Joined → Bool
keeps_file whole joined = is_wanted whole joined.after && not joined.found

-- it holds the canonical text of the transmission to which the texts of these readers are joined
abbrev pub IsTextOfReaders : {R : Type 0} → Limits → Wanted → (R → Option (List ℕ)) → List R → List ℕ → Type 0
IsTextOfReaders limits wanted remaining readers text =
    (texts : List (List ℕ)) → HaveTexts remaining readers texts → IsJoinText limits wanted texts text

-- so does one that was empty, where it took all
abbrev pub WritesJoin : {R F : Type 0} → Limits → Wanted → (R → Option (List ℕ)) → List R → Option (List ℕ) → (F → Option (List ℕ))
    → Written F → Type 0
WritesJoin limits wanted remaining readers first contents written = is_whole written ≡ true → first ≡ Some []
    → (text : List ℕ) × (contents (writer_in written) ≡ Some text) × IsTextOfReaders limits wanted remaining readers text

-- how often the writer of a join failed that was judged
abbrev pub judged_faults : Result Joined Fault → ℕ
judged_faults (Ok joined) = writer_faults joined.outcome
judged_faults (Err fault) = 0

-- what is left once the file is settled
abbrev pub LeavesJoin : Union → ℕ → ℕ → (List ℕ → Type 0) → Result Joined Fault → Texts → Texts → Type 0
LeavesJoin union old now is (Ok joined) texts new =
    SettlesOut union.out.now (old + writer_faults joined.outcome) now is (keeps_file union.wanted.whole joined) texts new
LeavesJoin union old now is (Err fault) texts new = WritesOut union.out.now old now is (Err (stops.Fault fault)) texts new

-- ---- what the words name

-- what they name is there, and what came of the join is right of their texts
abbrev pub JudgesNamed : Limits → Wanted → Option Texts → Option (List ℕ) → List (List ℕ) → Joined → Type 0
JudgesNamed limits wanted held standard names joined = AreThere held standard names
    × ((texts : List (List ℕ)) → AreTexts held standard names texts
    → JudgesJoin limits wanted texts joined.outcome joined.found joined.after)
    × StopsAs joined.outcome joined.after

-- what is left once the inputs are taken back too
abbrev pub LeavesNamed : Union → ℕ → ℕ → (List ℕ → Type 0) → Result (Option (Joined × Option Told)) Fault → Texts → Texts → Type 0
LeavesNamed union old now is (Ok None) texts new = Same texts new
LeavesNamed union old now is (Ok (Some joined)) texts new =
    SettlesOut union.out.now (old + join_faults joined.0.outcome joined.0.after) now is (keeps_file union.wanted.whole joined.0) texts new
LeavesNamed union old now is (Err fault) texts new = WritesOut union.out.now old now is (Err (stops.Fault fault)) texts new
