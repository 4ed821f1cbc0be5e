-- Which lines a run has written to standard output.
use denote.Ref.{Bor}
use Rattle.std.specs.Prelude.{◌≡◌, ◌<◌, ℕ, Bool, true, false, not, List, [], ◌∷◌, map, Option, Some, None, option_map, Result, Ok, Err, OnOk, codes}
use Rattle.std.specs.Option.{is_some}
use Rattle.std.specs.Io.KnownBytes.{Appends}
use Rattle.cwr_devices.specs.Format.Failures.{most_failures}
use Rattle.cwr_fields.specs.declared.message_codes.TransactionStatus.{TransactionStatus}
use Rattle.cwr_shape.specs.declared.limits.Limits.{Limits}
use Rattle.cwr_words.specs.declared.words.AnsweredWords.{AnsweredWords}
use Rattle.cwr_words.specs.declared.words.SelectWords.{SelectWords}
use Rattle.cwr_words.specs.declared.words.Task.{Task}
use Rattle.cwr_words.specs.declared.words.Work.{Work}
use Rattle.cwr_words.specs.declared.words.Work.TheVariants.{Check, Show, Explain, Lint, Advise, Json, Csv, Acks, Summary, Write, Select}
use Rattle.cwr_acks.specs.declared.forms.Form.{Form}
use Rattle.cwr_files.specs.Format.Files.{Texts}
use Rattle.cwr_files.specs.Format.Inputs.{shown_name}
use Rattle.cwr_files.specs.Steps.Inputs.{IsLeftOf}
use Rattle.cwr_endings.specs.declared.endings.Status.{Status}
use Rattle.cwr_endings.specs.declared.endings.Status.TheVariants as statuses
use Rattle.cwr_endings.specs.declared.endings.Wanted.{Wanted}
use Rattle.cwr_endings.specs.declared.judgements.Judgement.{Judgement}
use Rattle.cwr_endings.specs.declared.stops.Stop.{Stop}
use Rattle.cwr_reports.specs.declared.tellings.Asked.{Asked}
use Rattle.cwr_reports.specs.declared.tellings.Telling.{Telling}
use Rattle.cwr_reports.specs.declared.tellings.Telling.TheVariants as tellings
use Rattle.cwr_reports.specs.Format.Endings.{telling_by}
use Rattle.cwr_reports.specs.Steps.Marked.{CountsOutput, TellsEach, WritesLines}
use Rattle.cwr_reports.specs.Steps.Tellings.{TellsLines}
use Rattle.cwr_summaries.specs.Steps.Rows.{TellsRows}
use Rattle.cwr_transform.specs.declared.imports.Import.{Import}
use Rattle.cwr_transform.specs.Format.SelectionsTold.{HandsOnSelection, TellsSelectionAt}
use Rattle.cwr.specs.declared.terminal.Terminals.{Terminals}
use Rattle.cwr.specs.Format.Endings.{import_of}
use Rattle.cwr.specs.Format.Failures.{OfOne}
use Rattle.cwr.specs.Format.Files.{IsImportAt}
use Rattle.cwr.specs.Format.Tables.{encoding_of, form_of, rows_form, selection_of, table_of}
use Rattle.cwr.specs.Steps.Cleared.{plain_on}

-- of what was read under a word, the lines that are asked for were written, where the run came to its end
abbrev pub TellsRead : {W : Type 0} → Telling → Limits → Option Texts → Option (List ℕ) → Option (List ℕ) → (W → Option (List ℕ)) → W → W
    → Result Status Stop → Type 0
TellsRead telling limits held standard name contents old new (Ok status) =
    (left : Option (List ℕ)) × IsLeftOf held standard name left × TellsLines {A = Status} telling limits left contents old new (Ok status)
TellsRead telling limits held standard name contents old new (Err stop) = Unit {0}

-- the word that names an input
abbrev pub word_of : Option (List ℕ) → List ℕ
word_of None = codes "-"
word_of (Some name) = name

-- so were those on an input that is judged, and is called so in them
abbrev pub TellsJudged : {W : Type 0} → Asked → Bool → Option Texts → Option (List ℕ) → Option (List ℕ) → (W → Option (List ℕ)) → W → W
    → Result Status Stop → Type 0
TellsJudged asked explained held standard name contents old new (Ok status) =
    (shown : Bor (List ℕ)) × (shown.now ≡ shown_name (word_of name))
    × TellsRead (telling_by asked explained shown) asked.limits held standard name contents old new (Ok status)
TellsJudged asked explained held standard name contents old new (Err stop) = Unit {0}

-- so were the quiet lines on it, where it was judged with that status
abbrev pub TellsQuietRead : {W : Type 0} → Asked → Telling → Option Texts → Option (List ℕ) → Option (List ℕ) → (W → Option (List ℕ))
    → W → W → Result Status Stop → Type 0
TellsQuietRead asked telling held standard name contents old new (Ok status) =
    (left : Option (List ℕ)) × IsLeftOf held standard name left × (judgement : Judgement) × (judgement.status ≡ status)
    × WritesLines asked telling None left (Ok judgement) contents old new
TellsQuietRead asked telling held standard name contents old new (Err stop) = Unit {0}

abbrev pub TellsQuietly : {W : Type 0} → Asked → Bool → Option Texts → Option (List ℕ) → Option (List ℕ) → (W → Option (List ℕ)) → W → W
    → Result Status Stop → Type 0
TellsQuietly asked explained held standard name contents old new (Ok status) =
    (shown : Bor (List ℕ)) × (shown.now ≡ shown_name (word_of name))
    × TellsQuietRead asked (telling_by asked explained shown) held standard name contents old new (Ok status)
TellsQuietly asked explained held standard name contents old new (Err stop) = Unit {0}

-- so were all lines on the one input, or quiet ones, where the failures of the writer are counted
abbrev pub TellsAlone : {W : Type 0} → Asked → Bool → Bool → Option Texts → Option (List ℕ) → Option (List ℕ) → (W → Option (List ℕ))
    → (W → ℕ) → W → W → Result Status Stop → Type 0
TellsAlone asked explained false held standard name contents failures old new ending =
    TellsJudged asked explained held standard name contents old new ending
TellsAlone asked explained true held standard name contents failures old new ending =
    failures old < most_failures → TellsQuietly asked explained held standard name contents old new ending

-- So were those on the one input that is named, or on standard input; or on each that is named, in order, with its name before them, and last
-- their sums. Of each that failed one more failure was counted, where so many were before and after.
abbrev pub TellsFiles : {W : Type 0} → Asked → Bool → Bool → Option Texts → Option (List ℕ) → List (List ℕ) → (W → Option (List ℕ))
    → (W → ℕ) → W → W → ℕ → ℕ → Result Status Stop → Type 0
TellsFiles asked explained quiet held standard [] contents failures old new count count_now ending =
    TellsAlone asked explained quiet held standard None contents failures old new ending
TellsFiles asked explained quiet held standard (name ∷ []) contents failures old new count count_now ending =
    TellsAlone asked explained quiet held standard (Some name) contents failures old new ending
TellsFiles asked explained quiet held standard (name ∷ other ∷ names) contents failures old new count count_now ending =
    TellsEach asked explained held standard (name ∷ other ∷ names) contents old new count count_now ending

-- it is asked for so
pub record IsAskedSo (asked : Asked) (limits : Limits) (wanted : Wanted) (quiet faults advised all : Bool) (repeated : ℕ) : Type 0 where
  pub within : asked.limits ≡ limits
  pub wants : asked.wanted ≡ wanted
  pub lines : asked.quiet ≡ quiet
  pub every : asked.faults ≡ faults
  pub advice : asked.advised ≡ advised
  pub whole : asked.all ≡ all
  pub kept : asked.repeated ≡ repeated

-- the lines on what is named, or on standard input, were written as is asked for so
abbrev pub TellsAsked : {W : Type 0} → Limits → Wanted → Bool → Bool → Bool → Bool → Bool → ℕ → Option Texts → Option (List ℕ)
    → List (List ℕ) → (W → Option (List ℕ)) → (W → ℕ) → W → W → ℕ → ℕ → Result Status Stop → Type 0
TellsAsked limits wanted explained quiet faults advised all repeated held standard names contents failures old new count count_now ending =
    (asked : Asked) × IsAskedSo asked limits wanted quiet faults advised all repeated
    × TellsFiles asked explained quiet held standard names contents failures old new count count_now ending

-- data and tables are written to standard output where no file is named
abbrev pub TellsData : {W : Type 0} → Bool → Telling → Limits → Option Texts → Option (List ℕ) → Option (List ℕ) → (W → Option (List ℕ))
    → W → W → Result Status Stop → Type 0
TellsData false telling limits held standard name contents old new ending = TellsRead telling limits held standard name contents old new ending
TellsData true telling limits held standard name contents old new ending = Unit {0}

-- so was what acknowledgements of these statuses say, or all without one
abbrev pub TellsAnswers : {W : Type 0} → Form → List TransactionStatus → Limits → Option Texts → Option (List ℕ) → Option (List ℕ)
    → (W → Option (List ℕ)) → W → W → Result Status Stop → Type 0
TellsAnswers form statuses limits held standard name contents old new (Ok status) =
    (of : Bor (List TransactionStatus)) × (of.now ≡ statuses)
    × TellsRead (tellings.Answers form of) limits held standard name contents old new (Ok status)
TellsAnswers form statuses limits held standard name contents old new (Err stop) = Unit {0}

-- what is so where no file is named
abbrev pub UnlessFile : Bool → Type 0 → Type 0
UnlessFile false is = is
UnlessFile true is = Unit {0}

-- an import that ends well is written to standard output where no file is named
abbrev pub TellsImport : {W : Type 0} → Bool → Import → Option Texts → Option (List ℕ) → Option (List ℕ) → (W → Option (List ℕ)) → W → W
    → Result Status Stop → Type 0
TellsImport to_file import held standard name contents old new (Ok statuses.Good) =
    UnlessFile to_file ((text : List ℕ) × IsImportAt import held standard name text × Appends (contents old) (contents new) text)
TellsImport to_file import held standard name contents old new ending = Unit {0}

-- what is so where no words ask what became of transactions
abbrev pub UnlessAsked : Option AnsweredWords → Type 0 → Type 0
UnlessAsked None is = is
UnlessAsked (Some words) is = Unit {0}

-- The lines of a selection to a file were written where it ends well, or as refused, and no words ask what became of transactions.
abbrev pub TellsSelecting : Limits → Bool → SelectWords → Option Texts → Option (List ℕ) → Option (List ℕ) → Option (List ℕ)
    → Result Status Stop → Type 0
TellsSelecting limits whole words held standard old new (Ok statuses.Good) = UnlessAsked words.answered
    (TellsSelectionAt (selection_of limits whole words) None held standard (option_map (λ name. name.now) words.out) old new (Ok statuses.Good))
TellsSelecting limits whole words held standard old new (Ok statuses.Refused) = UnlessAsked words.answered
    (TellsSelectionAt (selection_of limits whole words) None held standard (option_map (λ name. name.now) words.out) old new (Ok statuses.Refused))
TellsSelecting limits whole words held standard old new ending = Unit {0}

-- What a run of the work has written, within these limits, and where nothing may follow a transmission or something may; and how many failures
-- of files were counted meanwhile. Of another run that writes files, and what it tells of them,
-- nothing is said here.
abbrev pub TellsWork : {W : Type 0} → Limits → Bool → Work → Option Texts → Option (List ℕ) → (W → Option (List ℕ)) → (W → ℕ) → W → W
    → ℕ → ℕ → Result Status Stop → Type 0
TellsWork limits whole (Check judging) held standard contents failures old new count count_now ending =
    TellsAsked limits (record { whole = whole; fail_on = judging.fail_on }) false judging.quiet false false false 0 held standard
    (map (λ name. name.now) judging.files.items) contents failures old new count count_now ending
TellsWork limits whole (Explain judging) held standard contents failures old new count count_now ending =
    TellsAsked limits (record { whole = whole; fail_on = judging.fail_on }) true judging.quiet false false false 0 held standard
    (map (λ name. name.now) judging.files.items) contents failures old new count count_now ending
TellsWork limits whole (Show words) held standard contents failures old new count count_now ending =
    TellsRead tellings.Records limits held standard (option_map (λ name. name.now) words.file) contents old new ending
TellsWork limits whole (Lint words) held standard contents failures old new count count_now ending =
    TellsAsked limits (record { whole = whole; fail_on = None }) words.explained words.quiet true words.advised words.all 0 held standard
    (map (λ name. name.now) words.files.items) contents failures old new count count_now ending
TellsWork limits whole (Advise words) held standard contents failures old new count count_now ending =
    TellsAsked limits (record { whole = whole; fail_on = words.judging.fail_on }) false words.judging.quiet false true words.all
    words.repeated held standard (map (λ name. name.now) words.judging.files.items) contents failures old new count count_now ending
TellsWork limits whole (Json words) held standard contents failures old new count count_now ending =
    TellsData (is_some words.out) (tellings.Data (encoding_of words.utf8) words.numbers) limits held standard
    (option_map (λ name. name.now) words.file) contents old new ending
TellsWork limits whole (Csv words) held standard contents failures old new count count_now ending =
    TellsData (is_some words.out) (tellings.Rows (encoding_of words.utf8) (table_of words.rows)) limits held standard
    (option_map (λ name. name.now) words.file) contents old new ending
TellsWork limits whole (Acks words) held standard contents failures old new count count_now ending =
    OfOne (map (λ name. name.now) words.files.items) (map (λ name. name.now) words.sent.items)
    (λ name. TellsAnswers (form_of words.as_json words.utf8) words.statuses.items limits held standard name contents old new ending)
TellsWork limits whole (Summary words) held standard contents failures old new count count_now ending =
    TellsRows (rows_form words.as_csv words.as_json) limits (not words.undigested) whole words.quiet held standard
    (map (λ name. name.now) words.files.items) contents old new count count_now ending
TellsWork limits whole (Write words) held standard contents failures old new count count_now ending =
    TellsImport (is_some words.out) (import_of limits words) held standard (option_map (λ name. name.now) words.file) contents old new ending
TellsWork limits whole (Select words) held standard contents failures old new count count_now ending =
    TellsSelecting limits whole words held standard (contents old) (contents new) ending
TellsWork limits whole work held standard contents failures old new count count_now ending = Unit {0}

-- ---- what is handed on

-- the lines of a report are handed on where it comes to its end; those of data are where they aren't written to a file
abbrev pub HandsOnData : Bool → Result Status Stop → Bool → Type 0
HandsOnData false ending handed_on = OnOk ending (handed_on ≡ true)
HandsOnData true ending handed_on = Unit {0}

-- so is an import that ends well
abbrev pub HandsOnWriting : Bool → Result Status Stop → Bool → Type 0
HandsOnWriting to_file (Ok statuses.Good) handed_on = UnlessFile to_file (handed_on ≡ true)
HandsOnWriting to_file ending handed_on = Unit {0}

abbrev pub HandsOnWork : Work → Result Status Stop → Bool → Type 0
HandsOnWork (Check judging) ending handed_on = OnOk ending (handed_on ≡ true)
HandsOnWork (Explain judging) ending handed_on = OnOk ending (handed_on ≡ true)
HandsOnWork (Show words) ending handed_on = OnOk ending (handed_on ≡ true)
HandsOnWork (Lint words) ending handed_on = OnOk ending (handed_on ≡ true)
HandsOnWork (Advise words) ending handed_on = OnOk ending (handed_on ≡ true)
HandsOnWork (Json words) ending handed_on = HandsOnData (is_some words.out) ending handed_on
HandsOnWork (Csv words) ending handed_on = HandsOnData (is_some words.out) ending handed_on
HandsOnWork (Acks words) ending handed_on =
    OfOne (map (λ name. name.now) words.files.items) (map (λ name. name.now) words.sent.items) (λ name. OnOk ending (handed_on ≡ true))
HandsOnWork (Summary words) ending handed_on = OnOk ending (handed_on ≡ true)
HandsOnWork (Write words) ending handed_on = HandsOnWriting (is_some words.out) ending handed_on
HandsOnWork (Select words) ending handed_on =
    UnlessAsked words.answered (HandsOnSelection (option_map (λ name. name.now) words.out) ending handed_on)
HandsOnWork work ending handed_on = Unit {0}

-- ---- what failed

-- standard output's fault ends a report only where its writer counted one more failure
abbrev pub CountsData : Bool → Result Status Stop → ℕ → ℕ → Type 0
CountsData false ending out out_now = CountsOutput ending out out_now
CountsData true ending out out_now = Unit {0}

abbrev pub CountsWork : Work → Result Status Stop → ℕ → ℕ → Type 0
CountsWork (Check judging) ending out out_now = CountsOutput ending out out_now
CountsWork (Explain judging) ending out out_now = CountsOutput ending out out_now
CountsWork (Show words) ending out out_now = CountsOutput ending out out_now
CountsWork (Lint words) ending out out_now = CountsOutput ending out out_now
CountsWork (Advise words) ending out out_now = CountsOutput ending out out_now
CountsWork (Json words) ending out out_now = CountsData (is_some words.out) ending out out_now
CountsWork (Csv words) ending out out_now = CountsData (is_some words.out) ending out out_now
CountsWork (Acks words) ending out out_now = CountsOutput ending out out_now
CountsWork (Summary words) ending out out_now = CountsOutput ending out out_now
CountsWork work ending out out_now = Unit {0}

-- ---- what comes back

-- the lines of a run were written to an output, after the bytes that it had, where these are known
abbrev pub TellsOn : Limits → Bool → Work → Option Texts → Option (List ℕ) → Option (List ℕ) → Option (List ℕ) → ℕ → ℕ
    → Result Status Stop → Type 0
TellsOn limits whole work held standard None now count count_now ending = Unit {0}
TellsOn limits whole work held standard (Some text) now count count_now ending =
    TellsWork {W = Option (List ℕ)} limits whole work held standard (λ known. known) (λ known. 0) (Some text) now count count_now ending

-- It comes back where the run has a status, with these; where the run was stopped it doesn't.
abbrev pub TellsBack : Limits → Bool → Work → Option Texts → Option (List ℕ) → Option (List ℕ) → Option (Option (List ℕ)) → ℕ → ℕ
    → Result Status Stop → Type 0
TellsBack limits whole work held standard before (Some now) count count_now (Ok status) =
    TellsOn limits whole work held standard before now count count_now (Ok status)
TellsBack limits whole work held standard before None count count_now (Err stop) = Unit {0}
TellsBack limits whole work held standard before back count count_now ending = ⊥

-- so it is of standard output, where lines are written to it as they are
abbrev pub TellsOut : {O : Type 0} → (O → Option (List ℕ)) → Terminals → O → Option O → Option Texts → Option (List ℕ) → ℕ → ℕ → Task
    → Result Status Stop → Type 0
TellsOut contents terminals output back held standard count count_now task ending =
    TellsBack task.limits task.whole task.work held standard (plain_on terminals task (contents output))
    (option_map (λ it. plain_on terminals task (contents it)) back) count count_now ending
