-- The lines on files as they are written: with the names before them, all or quiet ones, and the sums last.
use denote.Ref.{Bor}
use Rattle.std.specs.Prelude.{◌≡◌, ◌⊎◌, ℕ, Bool, true, false, List, [], ◌∷◌, ◌++◌, map, length, Option, Some, None, IfSome, Result, Ok, Err, if◌then◌else◌}
use Rattle.std.specs.List.{AllZip, concat}
use Rattle.std.specs.Io.KnownBytes.{Appends}
use Rattle.cwr_devices.specs.Format.Failures.{one_more_failure}
use Rattle.cwr_shape.specs.declared.limits.Limits.{Limits}
use Rattle.cwr_tools.specs.declared.verdicts.ToolFault.{ToolFault}
use Rattle.cwr_tools.specs.declared.verdicts.Verdict.{Verdict}
use Rattle.cwr_tools.specs.declared.verdicts.Verdict.TheVariants.{Good}
use Rattle.cwr_tools.specs.Format.Texts.{verdict_line}
use Rattle.cwr_files.specs.declared.faults.Fault.{Fault}
use Rattle.cwr_files.specs.declared.faults.Fault.TheVariants as faults
use Rattle.cwr_files.specs.declared.faults.Name.TheVariants.{StandardInput}
use Rattle.cwr_files.specs.declared.markings.Passing.{Passing}
use Rattle.cwr_files.specs.declared.markings.Passing.TheVariants as passings
use Rattle.cwr_files.specs.Format.Files.{Texts}
use Rattle.cwr_files.specs.Format.FileLines.{marked}
use Rattle.cwr_files.specs.Format.Inputs.{shown_name}
use Rattle.cwr_files.specs.declared.inputs.Input.{Input}
use Rattle.cwr_files.specs.Steps.Inputs.{IsLeftOf, remaining_of}
use Rattle.cwr_endings.specs.declared.endings.Status.{Status}
use Rattle.cwr_endings.specs.declared.endings.Status.TheVariants as statuses
use Rattle.cwr_endings.specs.declared.judgements.Judgement.{Judgement}
use Rattle.cwr_endings.specs.declared.stops.Stop.{Stop}
use Rattle.cwr_endings.specs.declared.stops.Stop.TheVariants as stops
use Rattle.cwr_endings.specs.Format.Endings.{IsStatusBy, worse_status}
use Rattle.cwr_endings.specs.Format.Sums.{AreSums, sums_line}
use Rattle.cwr_endings.specs.declared.sums.Sums.{Sums}
use Rattle.cwr_endings.specs.Steps.Looks.{CountsLook}
use Rattle.cwr_reports.specs.declared.tellings.Asked.{Asked}
use Rattle.cwr_reports.specs.declared.tellings.Telling.{Telling}
use Rattle.cwr_reports.specs.Format.Endings.{Counts, advice_asked, telling_by}
use Rattle.cwr_reports.specs.Steps.Looks.{IsJudged}
use Rattle.cwr_reports.specs.Steps.Tellings.{IsTold}

-- which of the lines that are told are written: all, or where they are quiet, those that aren't on what is good; where advice is asked for,
-- that leaves out the verdict alone
abbrev pub passing_of : Bool → Bool → Bool → Passing
passing_of quiet advised faults =
    if quiet then (if advised then (if faults then passings.Bad else passings.Told) else passings.Bad) else passings.All

abbrev pub passing_asked : Asked → Passing
passing_asked asked = passing_of asked.quiet asked.advised asked.faults

-- the verdict on what is good and has less than was wanted
abbrev pub unwanted_verdict : Status → Verdict → List ℕ
unwanted_verdict statuses.Good verdict = []
unwanted_verdict status (Good groups transactions records) = verdict_line (Good groups transactions records)
unwanted_verdict status verdict = []

-- it stands among quiet lines last, with the name before it
abbrev pub unwanted_line : Bool → Option (List ℕ) → Judgement → List ℕ
unwanted_line false name judgement = []
unwanted_line true name judgement = marked name passings.All (unwanted_verdict judgement.status judgement.verdict)

-- The lines on an input that was judged so, or that failed: those that are told of it, as they are passed on. Of one that failed these are
-- told up to there.
abbrev pub AreLines : Asked → Telling → Option (List ℕ) → Option (List ℕ) → Result Judgement Fault → List ℕ → Type 0
AreLines asked telling name left (Ok judgement) lines =
    (told : List ℕ) × IsTold telling asked.limits left told (Ok judgement.verdict)
    × (lines ≡ marked name (passing_asked asked) told ++ unwanted_line asked.quiet name judgement)
AreLines asked telling name left (Err fault) lines =
    (told : List ℕ) × (outcome : Result Verdict ToolFault) × IsTold telling asked.limits left told outcome
    × (lines ≡ marked name (passing_asked asked) told)

-- they were written after what the writer had
abbrev pub WritesLines : {W : Type 0} → Asked → Telling → Option (List ℕ) → Option (List ℕ) → Result Judgement Fault
    → (W → Option (List ℕ)) → W → W → Type 0
WritesLines asked telling name left end contents old new =
    (lines : List ℕ) × AreLines asked telling name left end lines × Appends (contents old) (contents new) lines

-- so it is where a run comes to its end, and where the input or memory failed; where standard output failed nothing is said here
abbrev pub MarksRead : {A B W : Type 0} → Asked → Telling → Option (List ℕ) → Option (List ℕ) → (W → Option (List ℕ)) → W → W
    → Result (Judgement × A × B) Stop → Type 0
MarksRead asked telling name left contents old new (Ok read) = WritesLines asked telling name left (Ok read.0) contents old new
MarksRead asked telling name left contents old new (Err stops.Output) = Unit {0}
MarksRead asked telling name left contents old new (Err (stops.Fault fault)) = WritesLines asked telling name left (Err fault) contents old new

-- the lines on an input that are passed on, without what stands last among quiet ones
abbrev pub PassesRead : {A B W : Type 0} → Limits → Telling → Option (List ℕ) → Passing → Option (List ℕ) → (W → Option (List ℕ)) → W → W
    → Result (Judgement × A × B) Stop → Type 0
PassesRead limits telling name passing left contents old new (Ok read) =
    (told : List ℕ) × IsTold telling limits left told (Ok read.0.verdict) × Appends (contents old) (contents new) (marked name passing told)
PassesRead limits telling name passing left contents old new (Err stops.Output) = Unit {0}
PassesRead limits telling name passing left contents old new (Err (stops.Fault fault)) =
    (told : List ℕ) × (outcome : Result Verdict ToolFault) × IsTold telling limits left told outcome
    × Appends (contents old) (contents new) (marked name passing told)

-- the quiet lines on an input were written, by what its device has left
abbrev pub TellsQuiet : {W F I P : Type 0} → Asked → Telling → (F → Option (List ℕ)) → (I → Option (List ℕ)) → Input F I P
    → (W → Option (List ℕ)) → W → W → Result Status Stop → Type 0
TellsQuiet asked telling of_file of_standard input contents old new (Ok status) =
    (judgement : Judgement) × (judgement.status ≡ status)
    × WritesLines asked telling None (remaining_of of_file of_standard input) (Ok judgement) contents old new
TellsQuiet asked telling of_file of_standard input contents old new (Err stops.Output) = Unit {0}
TellsQuiet asked telling of_file of_standard input contents old new (Err (stops.Fault fault)) =
    WritesLines asked telling None (remaining_of of_file of_standard input) (Err fault) contents old new

-- ---- several files

-- what was written of one file, and how it ended
pub record Piece : Type 0 where
  pub lines : List ℕ
  pub end : Result Judgement Fault

-- the verdict, or none where the file failed
abbrev pub verdict_in : Result Judgement Fault → Option Verdict
verdict_in (Ok judgement) = Some judgement.verdict
verdict_in (Err fault) = None

abbrev pub lines_of : Piece → List ℕ
lines_of piece = piece.lines

abbrev pub verdict_of : Piece → Option Verdict
verdict_of piece = verdict_in piece.end

-- a file that was judged is good or refused, as its bytes are where these are known
abbrev pub HasStatus : Asked → Option (List ℕ) → Result Judgement Fault → Type 0
HasStatus asked left (Ok judgement) =
    IsJudged judgement
    × IfSome left (λ text. IsStatusBy (Counts (advice_asked asked)) asked.limits asked.wanted text judgement.status)
HasStatus asked left (Err fault) = Unit {0}

-- of what lies under the name, or is on standard input, the status, and the lines that are asked for, with the name before each
abbrev pub AreLinesOn : Asked → Bool → Option Texts → Option (List ℕ) → List ℕ → Piece → Type 0
AreLinesOn asked explained held standard name piece =
    (left : Option (List ℕ)) × IsLeftOf held standard (Some name) left × HasStatus asked left piece.end
    × (shown : Bor (List ℕ)) × (shown.now ≡ shown_name name)
    × AreLines asked (telling_by asked explained shown) (Some (shown_name name)) left piece.end piece.lines

-- the file that failed couldn't be opened, or standard input was read already
abbrev pub IsUnopened : Result Judgement Fault → Type 0
IsUnopened (Err (faults.Open of reason)) = Unit {0}
IsUnopened end = ⊥

-- it is a piece on that name: of a file that couldn't be opened nothing is written
abbrev pub IsPiece : Asked → Bool → Option Texts → Option (List ℕ) → List ℕ → Piece → Type 0
IsPiece asked explained held standard name piece =
    (IsUnopened piece.end × (piece.lines ≡ [])) ⊎ AreLinesOn asked explained held standard name piece

-- What was counted of one file: a look at what follows that failed; where it failed, one failure more, but none where it is standard input
-- and that was read already, or there was no memory.
abbrev pub CountsEnd : Result Judgement Fault → ℕ → ℕ → Type 0
CountsEnd (Ok judgement) old new = CountsLook judgement.look old new
CountsEnd (Err (faults.Open StandardInput reason)) old new = new ≡ old
CountsEnd (Err (faults.Open name reason)) old new = new ≡ one_more_failure old
CountsEnd (Err (faults.Read told)) old new = new ≡ one_more_failure old
CountsEnd (Err faults.Memory) old new = new ≡ old
CountsEnd (Err fault) old new = ⊥

-- what was counted of all, one after another
abbrev pub CountsEnds : List Piece → ℕ → ℕ → Type 0
CountsEnds [] old new = new ≡ old
CountsEnds (piece ∷ pieces) old new = (mid : ℕ) × CountsEnd piece.end old mid × CountsEnds pieces mid new

-- the status of a file
abbrev pub status_in : Result Judgement Fault → Status
status_in (Ok judgement) = judgement.status
status_in (Err fault) = statuses.Fault

-- the worst of this status and of those of the pieces
abbrev pub worst_from : Status → List Piece → Status
worst_from status [] = status
worst_from status (piece ∷ pieces) = worst_from (worse_status status (status_in piece.end)) pieces

-- One file more was reported on: its lines were written, and it was counted.
abbrev pub TellsNext : {W : Type 0} → Asked → Bool → Option Texts → Option (List ℕ) → List ℕ → (W → Option (List ℕ)) → W → W → ℕ → ℕ
    → Sums → Sums → Result (Unit {0}) Stop → Type 0
TellsNext asked explained held standard name contents old new failures failures_now sums sums_now (Ok u) =
    (piece : Piece) × IsPiece asked explained held standard name piece × Appends (contents old) (contents new) piece.lines
    × CountsEnd piece.end failures failures_now
    × ((ends : List (Option Verdict)) → AreSums sums ends → AreSums sums_now (ends ++ verdict_of piece ∷ []))
    × (sums_now.status ≡ worse_status sums.status (status_in piece.end))
TellsNext asked explained held standard name contents old new failures failures_now sums sums_now (Err stop) = Unit {0}

-- These pieces are written, one for each of the names, and counted.
pub record ArePieces {W : Type 0} (asked : Asked) (explained : Bool) (held : Option Texts) (standard : Option (List ℕ))
    (names : List (List ℕ)) (contents : W → Option (List ℕ)) (old new : W) (failures failures_now : ℕ) (sums : Sums) (pieces : List Piece)
    : Type 0 where
  pub each : AllZip (IsPiece asked explained held standard) names pieces
  pub written : Appends (contents old) (contents new) (concat (map lines_of pieces))
  pub counted : CountsEnds pieces failures failures_now
  pub summed : AreSums sums (map verdict_of pieces)
  pub worst : sums.status ≡ worst_from statuses.Good pieces

-- After what the writer had stand the lines on each of these names, in order, and last the line of the sums over how they ended. The status
-- is the worst of theirs.
abbrev pub TellsEach : {W : Type 0} → Asked → Bool → Option Texts → Option (List ℕ) → List (List ℕ) → (W → Option (List ℕ)) → W → W
    → ℕ → ℕ → Result Status Stop → Type 0
TellsEach asked explained held standard names contents old new failures failures_now (Ok status) =
    (pieces : List Piece) × AllZip (IsPiece asked explained held standard) names pieces
    × Appends (contents old) (contents new) (concat (map lines_of pieces) ++ sums_line (length names) (map verdict_of pieces))
    × CountsEnds pieces failures failures_now × (status ≡ worst_from statuses.Good pieces)
TellsEach asked explained held standard names contents old new failures failures_now (Err stop) = Unit {0}

-- of several files: standard output failed only where its writer counted one more failure, and else it counted none
abbrev pub CountsOutput : {A : Type 0} → Result A Stop → ℕ → ℕ → Type 0
CountsOutput (Err stops.Output) out out_now = out_now ≡ one_more_failure out
CountsOutput ending out out_now = out_now ≡ out
