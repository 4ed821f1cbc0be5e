-- What the words of a subcommand ask for.
use Rattle.std.specs.Prelude.{◌≡◌, ◌⊎◌, ◌<◌, ◌^◌, ◌++◌, ◌==◌, ◌&&◌, ◌||◌, ℕ, nat_le, Bool, true, false, not, List, [], ◌∷◌, map, Option, Some, None, IsSome, IsSomeAnd, is_none, is_some, fold, length, option_map, codes, if◌then◌else◌}
use Rattle.std.specs.Char.{is_ascii_digit}
use Rattle.std.specs.List.{list_all, list_any}
use Rattle.std.specs.Option.{option_and_then, option_map_or, option_or}
use Rattle.std.specs.Str.{bytes_eq}
use Rattle.std.specs.Int.NonZero.{non_zero_u32_get}
use Rattle.std.specs.Str.Parse.{IsNumeral, digits_value, without_leading_plus}
use Rattle.clap.specs.Words.{Row, all_of, fault_of, first_of, one_of, subcommand_of}
use Rattle.cwr_fields.specs.declared.message_codes.TransactionStatus.{TransactionStatus}
use Rattle.cwr_fields.specs.Format.Kinds.{kind_of}
use Rattle.cwr_fields.specs.Format.MessageCodes.{status_code}
use Rattle.cwr_shape.specs.declared.limits.Limits.{Limits}
use Rattle.cwr_shape.specs.declared.reasons.Level.{Level}
use Rattle.cwr_shape.specs.declared.reasons.Level.TheVariants as levels
use Rattle.cwr_shape.specs.Format.Ranges.{AreInRange, limit_values}
use Rattle.cwr_moments.specs.declared.moments.Moment.{Moment}
use Rattle.cwr_moments.specs.Format.Moments.{moment_text}
use Rattle.cwr_states.specs.declared.state_sets.States.{States}
use Rattle.cwr_states.specs.Format.StateSets.{names_in, no_states, states_in}
use Rattle.cwr_grammar.specs.Format.CommandLine.{grammar}
use Rattle.cwr_words.specs.declared.words.Colouring.{Colouring}
use Rattle.cwr_words.specs.declared.words.Colouring.TheVariants as colourings
use Rattle.cwr_words.specs.declared.words.Judging.{Judging}
use Rattle.cwr_words.specs.declared.words.AcksWords.{AcksWords}
use Rattle.cwr_words.specs.declared.words.AdviseWords.{AdviseWords}
use Rattle.cwr_words.specs.declared.words.CsvWords.{CsvWords}
use Rattle.cwr_words.specs.declared.words.JoinWords.{JoinWords}
use Rattle.cwr_words.specs.declared.words.JsonWords.{JsonWords}
use Rattle.cwr_words.specs.declared.words.Kinds.{Kinds}
use Rattle.cwr_words.specs.declared.words.LintWords.{LintWords}
use Rattle.cwr_words.specs.declared.words.SummaryWords.{SummaryWords}
use Rattle.cwr_words.specs.declared.words.RenumberWords.{RenumberWords}
use Rattle.cwr_words.specs.declared.words.AnsweredWords.{AnsweredWords}
use Rattle.cwr_words.specs.declared.words.SelectWords.{SelectWords}
use Rattle.cwr_words.specs.declared.words.SentAs.{SentAs}
use Rattle.cwr_words.specs.declared.words.SentAs.TheVariants as works_sent
use Rattle.cwr_words.specs.declared.words.ShowWords.{ShowWords}
use Rattle.cwr_words.specs.declared.words.SplitWords.{SplitWords}
use Rattle.cwr_words.specs.declared.words.WriteWords.{WriteWords}
use Rattle.cwr_words.specs.declared.words.Rows.{Rows}
use Rattle.cwr_words.specs.declared.words.Rows.TheVariants.{Records, Works}
use Rattle.cwr_words.specs.declared.words.Task.{Task}
use Rattle.cwr_words.specs.declared.words.Work.{Work}
use Rattle.cwr_words.specs.declared.words.Work.TheVariants.{Check, Show, Explain, Lint, Advise, Json, Csv, Acks, Summary, Write, Split}
use Rattle.cwr_words.specs.declared.words.Work.TheVariants.{Join, Renumber, Select, Manual}

-- What a command line gives: under each id the first of its texts, that text as flags and numbers are read, and all of them.
pub record Given : Type 0 where
  pub first : List ℕ → Option (List ℕ)
  pub read : List ℕ → Option (List ℕ)
  pub all : List ℕ → Option (List (List ℕ))

-- what was asked for, or nothing, but only where nothing is that
abbrev pub IsAnswer : {A : Type 0} → (A → Type 0) → Option A → Type 0
IsAnswer {A} Is None = (a : A) → Is a → ⊥
IsAnswer {A} Is (Some a) = Is a

-- the text of a flag says that it is given
abbrev pub flag_read : Option (List ℕ) → Bool
flag_read None = false
flag_read (Some text) = bytes_eq text (codes "true")

-- the flag of that id is given
abbrev pub is_given : Given → List ℕ → Bool
is_given given id = flag_read (given.read id)

abbrev pub IsFlagOf : Given → List ℕ → Bool → Type 0
IsFlagOf given id value = value ≡ is_given given id

-- whether it is shown how far a long run is, where a flag says so
abbrev pub IsProgressOf : Given → Option Bool → Type 0
IsProgressOf given progress =
    progress ≡ (if is_given given (codes "no-progress") then Some false
    else if is_given given (codes "progress") then Some true
    else None)

-- the text is that number, of 32 bits, perhaps with a plus before it
pub record IsNumber (given : Option (List ℕ)) (number : ℕ) : Type 0 where
  pub text : List ℕ
  pub is : given ≡ Some text
  pub numeral : IsNumeral 10 (without_leading_plus text)
  pub below : digits_value 10 (without_leading_plus text) < 2 ^ 32
  pub value : number ≡ digits_value 10 (without_leading_plus text)

-- the values of the word of an id, in their order
abbrev pub values_of : Option (List (List ℕ)) → List (List ℕ)
values_of None = []
values_of (Some values) = values

abbrev pub AreValuesOf : Given → List ℕ → List (List ℕ) → Type 0
AreValuesOf given id values = values ≡ values_of (given.all id)

-- the names that FILE has
abbrev pub AreNamesOf : Given → List (List ℕ) → Type 0
AreNamesOf given names = AreValuesOf given (codes "FILE") names

-- the level of that letter
abbrev pub level_named : List ℕ → Option Level
level_named letter =
    if bytes_eq letter (codes "F") then Some levels.F
    else if bytes_eq letter (codes "R") then Some levels.R
    else if bytes_eq letter (codes "T") then Some levels.T
    else if bytes_eq letter (codes "G") then Some levels.G
    else if bytes_eq letter (codes "E") then Some levels.E
    else None

-- The level that the option's letter is, or none without the option. There is no answer where it is no level's letter.
abbrev pub level_given : Option (List ℕ) → Option (Option Level)
level_given None = Some None
level_given (Some letter) = option_map (λ level. Some level) (level_named letter)

-- the level of findings that ends a run as a refusal does
abbrev pub IsLevelOf : Given → Option Level → Type 0
IsLevelOf given level = level_given (given.first (codes "fail-on")) ≡ Some level

-- when words have colours, and that for the option's word: without one where standard output is a terminal
abbrev pub colouring_named : List ℕ → Option Colouring
colouring_named word =
    if bytes_eq word (codes "auto") then Some colourings.Auto
    else if bytes_eq word (codes "always") then Some colourings.Always
    else if bytes_eq word (codes "never") then Some colourings.Never
    else None

abbrev pub colouring_given : Option (List ℕ) → Option Colouring
colouring_given None = Some colourings.Auto
colouring_given (Some word) = colouring_named word

-- what is written: what the option -o names, or else the word of that id
abbrev pub written_in : Given → List ℕ → Option (List ℕ)
written_in given id = option_or (given.first (codes "o")) (given.first id)

-- the same where only one of the two may be given: there is no answer where both are
abbrev pub only_one : Option (List ℕ) → Option (List ℕ) → Option (Option (List ℕ))
only_one (Some name) (Some word) = None
only_one (Some name) None = Some (Some name)
only_one None word = Some word

abbrev pub written_once : Given → List ℕ → Option (Option (List ℕ))
written_once given id = only_one (given.first (codes "o")) (given.first id)

-- the file that is written, where the word names one: `-` is standard output
abbrev pub named_out : Option (List ℕ) → Option (List ℕ)
named_out None = None
named_out (Some name) = if bytes_eq name (codes "-") then None else Some name

-- the transmissions of the files FILE, with what the options of a judgement say
pub record IsJudgingOf (given : Given) (judging : Judging) : Type 0 where
  pub files : AreNamesOf given (map (λ name. name.now) judging.files.items)
  pub quiet : IsFlagOf given (codes "quiet") judging.quiet
  pub fail_on : IsLevelOf given judging.fail_on

-- the moment that the option's text is, or none without the option
abbrev pub IsCreatedBy : Option (List ℕ) → Option Moment → Type 0
IsCreatedBy None created = created ≡ None
IsCreatedBy (Some text) created = IsSomeAnd created (λ moment. moment_text moment ≡ text)

-- the records of the file FILE
abbrev pub IsShowOf : Given → ShowWords → Type 0
IsShowOf given words =
    (option_map (λ f. f.now) words.file ≡ given.first (codes "FILE"))
    × IsLevelOf given words.fail_on

-- a split into parts of so many transactions as N says, of the file FILE to files whose names begin with PREFIX
abbrev pub IsSplitOf : Given → SplitWords → Type 0
IsSplitOf given words =
    IsNumber (given.read (codes "N")) (non_zero_u32_get words.transactions)
    × (given.first (codes "FILE") ≡ Some words.file.now) × (written_once given (codes "PREFIX") ≡ Some (Some words.prefix.now))
    × IsCreatedBy (given.first (codes "created")) words.created × IsFlagOf given (codes "new") words.only_new
    × IsLevelOf given words.fail_on

-- every fault of the files FILE, explained where that flag is given, with advice where that one is, and with all advice where that one is, which
-- the one for advice stands beside
abbrev pub IsLintOf : Given → LintWords → Type 0
IsLintOf given words =
    AreNamesOf given (map (λ name. name.now) words.files.items) × IsFlagOf given (codes "quiet") words.quiet
    × IsFlagOf given (codes "explain") words.explained × IsFlagOf given (codes "advice") words.advised × IsFlagOf given (codes "all") words.all
    × (words.all ≡ true → words.advised ≡ true)

-- what stands in the transmissions of the files FILE, as a table or as lines of JSON where that flag is given, not both, without digests where
-- that one is, with advice where that one is, and with the sums alone where that one is
abbrev pub IsSummaryOf : Given → SummaryWords → Type 0
IsSummaryOf given words =
    AreNamesOf given (map (λ name. name.now) words.files.items) × IsFlagOf given (codes "csv") words.as_csv
    × IsFlagOf given (codes "json") words.as_json × IsFlagOf given (codes "no-digest") words.undigested
    × IsFlagOf given (codes "advice") words.advised × IsFlagOf given (codes "quiet") words.quiet
    × (words.as_csv ≡ true → words.as_json ≡ false)

-- advice on the transmissions of the files FILE, with what the options of a judgement say, all of it where that flag is given, where the
-- numbers of so many works are kept as that option says
abbrev pub IsAdviceOf : Given → AdviseWords → Type 0
IsAdviceOf given words =
    IsJudgingOf given words.judging × IsFlagOf given (codes "all") words.all × IsNumber (given.read (codes "repeated")) words.repeated

-- the data of the file FILE to the file OUT, with numbers where that flag is given, and in UTF-8 where that one is
abbrev pub IsExportOf : Given → JsonWords → Type 0
IsExportOf given words =
    (option_map (λ f. f.now) words.file ≡ given.first (codes "FILE"))
    × (option_map (λ f. f.now) words.out ≡ named_out (given.first (codes "OUT"))) × IsFlagOf given (codes "numbers") words.numbers
    × IsFlagOf given (codes "utf8") words.utf8

-- what a table has rows of, by the word that names it
abbrev pub rows_named : List ℕ → Option Rows
rows_named word = if bytes_eq word (codes "works") then Some Works else option_map Records (kind_of word)

-- the table that KIND names, of the file FILE to the file OUT, in UTF-8 where that flag is given
abbrev pub IsTableOf : Given → CsvWords → Type 0
IsTableOf given words =
    (option_and_then rows_named (given.first (codes "KIND")) ≡ Some words.rows)
    × (option_map (λ f. f.now) words.file ≡ given.first (codes "FILE"))
    × (option_map (λ f. f.now) words.out ≡ named_out (given.first (codes "OUT"))) × IsFlagOf given (codes "utf8") words.utf8

-- the states whose names the option's text has, with commas between them, or no states without the option
abbrev pub states_given : Option (List ℕ) → Option States
states_given None = Some no_states
states_given (Some text) = states_in text

-- the codes that texts have, with commas between them, in their order
abbrev pub codes_in : List (List ℕ) → List (List ℕ)
codes_in texts = fold (λ seen text. seen ++ names_in text) [] texts

-- the statuses whose codes the option has, in their order, or none without the option
abbrev pub AreStatusesOf : Given → List TransactionStatus → Type 0
AreStatusesOf given statuses = map status_code statuses ≡ codes_in (values_of (given.all (codes "status")))

-- The transmissions that were sent are named where a flag or an option needs them: by place, the table of states, and the states that end a run.
-- That table has rows of all statuses.
pub record AreBeside (given : Given) (words : AcksWords) : Type 0 where
  pub by_place : words.by_place ≡ true → 0 < length words.sent.items
  pub state : words.state ≡ true → 0 < length words.sent.items
  pub fail_on : IsSome (given.first (codes "fail-on")) → 0 < length words.sent.items
  pub statuses : words.state ≡ true → length words.statuses.items ≡ 0

-- what the acknowledgements of the files FILE say, those of the statuses that are named, matched with the transmissions of the files that SENT names, in their
-- order: as JSON, by place alone, as a table of states and in UTF-8 where those flags are given; a row of that table ends the run as a refusal does where it has
-- one of the states that are named
abbrev pub IsAcksOf : Given → AcksWords → Type 0
IsAcksOf given words =
    AreNamesOf given (map (λ name. name.now) words.files.items) × AreValuesOf given (codes "sent") (map (λ name. name.now) words.sent.items)
    × IsFlagOf given (codes "json") words.as_json × IsFlagOf given (codes "by-place") words.by_place × IsFlagOf given (codes "state") words.state
    × (states_given (given.first (codes "fail-on")) ≡ Some words.fail_on) × AreStatusesOf given words.statuses.items
    × IsFlagOf given (codes "utf8") words.utf8 × AreBeside given words

-- a transmission from the lines of the file FILE to the file OUT, where lines may have so many bytes as that option says, in UTF-8 where that flag
-- is given
abbrev pub IsImportOf : Given → WriteWords → Type 0
IsImportOf given words =
    (option_map (λ f. f.now) words.file ≡ given.first (codes "FILE"))
    × (option_map (λ f. f.now) words.out ≡ named_out (given.first (codes "OUT")))
    × IsNumber (given.read (codes "line")) words.line × IsFlagOf given (codes "utf8") words.utf8

-- the names of a join: OUT and the files FILE, or with the option -o what that names, and all the others
abbrev pub AreNamesOfJoin : Given → List ℕ → List (List ℕ) → Type 0
AreNamesOfJoin given out names =
    ((given.first (codes "o") ≡ None) × (given.first (codes "OUT") ≡ Some out) × AreNamesOf given names)
    ⊎ ((given.first (codes "o") ≡ Some out) × (first : List ℕ) × (others : List (List ℕ))
    × (names ≡ first ∷ others) × (given.first (codes "OUT") ≡ Some first) × AreNamesOf given others)

-- what a join writes, which isn't standard output, and reads, which is one file at least
pub record IsJoinOfNames (given : Given) (out : List ℕ) (names : List (List ℕ)) : Type 0 where
  pub named : AreNamesOfJoin given out names
  pub written : bytes_eq out (codes "-") ≡ false
  pub some : 0 < length names

-- a join of files, in their order, to a file; the numbers of so many works are kept as that option says
abbrev pub IsJoinOf : Given → JoinWords → Type 0
IsJoinOf given words =
    IsJoinOfNames given words.out.now (map (λ name. name.now) words.files.items) × IsFlagOf given (codes "new") words.only_new
    × IsLevelOf given words.fail_on × IsFlagOf given (codes "same-sender") words.same_sender
    × IsNumber (given.read (codes "repeated")) words.repeated

-- the file FILE with its numbers put right, to the file OUT, whatever they show or not
abbrev pub IsRenumberingOf : Given → RenumberWords → Type 0
IsRenumberingOf given words =
    (option_map (λ f. f.now) words.file ≡ given.first (codes "FILE"))
    × (Some (option_map (λ f. f.now) words.out) ≡ option_map named_out (written_once given (codes "OUT"))) × IsFlagOf given (codes "new") words.only_new
    × IsLevelOf given words.fail_on × IsFlagOf given (codes "anyway") words.anyway

-- ---- selections

-- no kind of transactions, and some with the one of that name, too
abbrev pub no_kinds : Kinds
no_kinds = record {
  agreements = false;
  new_works = false;
  revised_works = false;
  acknowledgements = false;
}

abbrev pub with_kind : Kinds → List ℕ → Option Kinds
with_kind kinds name =
    if bytes_eq name (codes "AGR") then Some (record kinds { agreements = true })
    else if bytes_eq name (codes "NWR") then Some (record kinds { new_works = true })
    else if bytes_eq name (codes "REV") then Some (record kinds { revised_works = true })
    else if bytes_eq name (codes "ACK") then Some (record kinds { acknowledgements = true })
    else None

-- those of these names, too, or no answer where one is no kind's
abbrev pub with_kinds : Kinds → List (List ℕ) → Option Kinds
with_kinds kinds [] = Some kinds
with_kinds kinds (name ∷ rest) = option_and_then (λ it. with_kinds it rest) (with_kind kinds name)

-- the kinds whose names a text has, with commas between them
abbrev pub kinds_in : List ℕ → Option Kinds
kinds_in text = with_kinds no_kinds (names_in text)

-- The kinds that the option's text has, or none without the option. There is no answer where a name is no kind's.
abbrev pub kinds_given : Option (List ℕ) → Option (Option Kinds)
kinds_given None = Some None
kinds_given (Some names) = option_map (λ kinds. Some kinds) (kinds_in names)

-- the text is the number of a party: at most 11 digits, not all of them zeros
abbrev pub is_party : List ℕ → Bool
is_party text = nat_le (length text) 11 && list_all is_ascii_digit text && list_any (λ b. not (b == 48)) text

-- The number that the option's text is, or none without the option. There is no answer where it is none.
abbrev pub party_given : Option (List ℕ) → Option (Option (List ℕ))
party_given None = Some None
party_given (Some text) = if is_party text then Some (Some text) else None

-- what works are sent as, by the letters of their headers
abbrev pub works_named : List ℕ → Option SentAs
works_named letters =
    if bytes_eq letters (codes "NWR") then Some works_sent.NewWorks
    else if bytes_eq letters (codes "REV") then Some works_sent.RevisedWorks
    else None

-- What the option's letters say, or nothing without the option. There is no answer where they are those of another header.
abbrev pub works_given : Option (List ℕ) → Option (Option SentAs)
works_given None = Some None
works_given (Some letters) = option_map (λ works. Some works) (works_named letters)

-- a word says which transactions are selected
abbrev pub asks_for_some : Given → Bool
asks_for_some given =
    is_some (given.first (codes "works")) || is_some (given.first (codes "places")) || is_some (given.first (codes "kind"))
    || is_some (given.first (codes "party")) || is_some (given.first (codes "state"))

-- a word names a file, and not standard input
abbrev pub is_file_named : Given → Bool
is_file_named given = option_map_or (λ name. not (bytes_eq name (codes "-"))) (given.first (codes "FILE")) false

-- States stand beside files of acknowledgements, and a transmission that can be read twice; or none of the words that go with them is there.
abbrev pub are_answers_whole : Given → Bool
are_answers_whole given =
    if is_some (given.first (codes "state")) then not (length (values_of (given.all (codes "answers"))) == 0) && is_file_named given
    else length (values_of (given.all (codes "answers"))) == 0 && not (is_given given (codes "by-place"))

-- transactions have one of these states by the acknowledgements of the files ANSWERS, by place alone where that flag is given; or no state is asked for
abbrev pub AreStatesOf : Given → Option AnsweredWords → Type 0
AreStatesOf given None = given.first (codes "state") ≡ None
AreStatesOf given (Some words) =
    (option_and_then states_in (given.first (codes "state")) ≡ Some words.states)
    × AreValuesOf given (codes "answers") (map (λ file. file.now) words.files.items) × IsFlagOf given (codes "by-place") words.by_place

pub record IsAnsweredBy (given : Given) (answered : Option AnsweredWords) : Type 0 where
  pub whole : are_answers_whole given ≡ true
  pub states : AreStatesOf given answered

-- It is said when the result is created: at a moment of its own, or when the transmission was. Of what goes to standard output nothing has to
-- be said.
abbrev pub is_dated : Given → Bool
is_dated given =
    if is_given given (codes "same-created") then not (is_some (given.first (codes "created")))
    else is_some (given.first (codes "created")) || is_none (named_out (given.first (codes "OUT")))

-- Some transactions of the file FILE to the file OUT: those whose numbers or places stand in the files that these options name, that have one
-- of these kinds, that name that party, and that became so; or with that flag all others. Their works are sent as an option says.
pub record IsSelectionOf (given : Given) (words : SelectWords) : Type 0 where
  pub file : option_map (λ f. f.now) words.file ≡ given.first (codes "FILE")
  pub out : option_map (λ f. f.now) words.out ≡ named_out (given.first (codes "OUT"))
  pub only_new : IsFlagOf given (codes "new") words.only_new
  pub fail_on : IsLevelOf given words.fail_on
  pub works : option_map (λ f. f.now) words.works ≡ given.first (codes "works")
  pub places : option_map (λ f. f.now) words.places ≡ given.first (codes "places")
  pub kinds : kinds_given (given.first (codes "kind")) ≡ Some words.kinds
  pub party : party_given (given.first (codes "party")) ≡ Some (option_map (λ number. number.now) words.party)
  pub answered : IsAnsweredBy given words.answered
  pub others : IsFlagOf given (codes "not") words.others
  pub created : IsCreatedBy (given.first (codes "created")) words.created
  pub sent_as : works_given (given.first (codes "as")) ≡ Some words.sent_as
  pub some : asks_for_some given ≡ true
  pub dated : is_dated given ≡ true

-- Work of the subcommand of that name: transmissions are checked, explained, linted or advised on; one is shown, or written as JSON or as a table, that of the
-- first file that FILE names, if it names one; what the acknowledgements of some say is told; one is written from lines of JSON, one is split, some are joined,
-- the numbers of one are put right, some transactions of one are selected, or the manual is printed.
abbrev pub IsWorkOf : List ℕ → Given → Work → Type 0
IsWorkOf name given (Check judging) = (bytes_eq name (codes "check") ≡ true) × IsJudgingOf given judging
IsWorkOf name given (Show words) = (bytes_eq name (codes "show") ≡ true) × IsShowOf given words
IsWorkOf name given (Explain judging) = (bytes_eq name (codes "explain") ≡ true) × IsJudgingOf given judging
IsWorkOf name given (Lint words) = (bytes_eq name (codes "lint") ≡ true) × IsLintOf given words
IsWorkOf name given (Advise words) = (bytes_eq name (codes "advise") ≡ true) × IsAdviceOf given words
IsWorkOf name given (Json words) = (bytes_eq name (codes "json") ≡ true) × IsExportOf given words
IsWorkOf name given (Csv words) = (bytes_eq name (codes "csv") ≡ true) × IsTableOf given words
IsWorkOf name given (Acks words) = (bytes_eq name (codes "acks") ≡ true) × IsAcksOf given words
IsWorkOf name given (Summary words) = (bytes_eq name (codes "summary") ≡ true) × IsSummaryOf given words
IsWorkOf name given (Write words) = (bytes_eq name (codes "write") ≡ true) × IsImportOf given words
IsWorkOf name given (Split words) = (bytes_eq name (codes "split") ≡ true) × IsSplitOf given words
IsWorkOf name given (Join words) = (bytes_eq name (codes "join") ≡ true) × IsJoinOf given words
IsWorkOf name given (Renumber words) = (bytes_eq name (codes "renumber") ≡ true) × IsRenumberingOf given words
IsWorkOf name given (Select words) = (bytes_eq name (codes "select") ≡ true) × IsSelectionOf given words
IsWorkOf name given Manual = bytes_eq name (codes "manual") ≡ true

-- the limits are the numbers that the options of a subcommand say, each in its range
pub record AreLimitsOf (given : Given) (limits : Limits) : Type 0 where
  pub records : IsNumber (given.read (codes "records")) limits.records
  pub groups : IsNumber (given.read (codes "groups")) limits.groups
  pub transaction : IsNumber (given.read (codes "transaction")) limits.transaction
  pub in_range : AreInRange limits

-- the task is the work of the subcommand of that name, within the limits that its words give; the manual takes none
pub record IsTaskOf (name : List ℕ) (given : Given) (task : Task) : Type 0 where
  pub work : IsWorkOf name given task.work
  pub limits : bytes_eq name (codes "manual") ≡ false → AreLimitsOf given task.limits
  pub whole : IsFlagOf given (codes "whole") task.whole
  pub progress : IsProgressOf given task.progress
  pub colouring : colouring_given (given.first (codes "color")) ≡ Some task.colouring

-- without words: the one on standard input is checked, within the largest limits, and nothing else is wanted of it
abbrev pub IsPlainWork : Work → Type 0
IsPlainWork (Check judging) = (judging.files.items ≡ []) × (judging.quiet ≡ false) × (judging.fail_on ≡ None)
IsPlainWork work = ⊥

pub record IsPlainCheck (task : Task) : Type 0 where
  pub work : IsPlainWork task.work
  pub limits : task.limits ≡ limit_values 99999999 99999 999999
  pub part : task.whole ≡ false
  pub progress : task.progress ≡ None
  pub colouring : task.colouring ≡ colourings.Auto

-- what rows give, each of which has what was found for an id
abbrev pub given_in : List Row → Given
given_in rows = record { first = λ id. first_of id rows; read = λ id. one_of id rows; all = λ id. all_of id rows }

-- What a command line asks for, of which a parse tells the subcommand and the rows of its words: the task of that subcommand. Without one it
-- is a check of standard input.
abbrev pub Asks : Option (List ℕ × List Row) → Task → Type 0
Asks None task = IsPlainCheck task
Asks (Some parsed) task = IsTaskOf parsed.0 (given_in parsed.1) task

-- The words of a command line ask for the task: the grammar finds no fault in them, and it is what they ask for as it reads them.
pub record AskFor (words : List (List ℕ)) (task : Task) : Type 0 where
  pub fits : fault_of grammar words ≡ []
  pub asks : Asks (subcommand_of grammar words) task
