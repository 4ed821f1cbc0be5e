-- What a writer that came back has is what was told to it.
use Rattle.std.proofs.Common.{◌≡◌, ◌∙◌, ◌<◌, ◌⊎◌, ap, ℕ, Bool, true, false, List, [], ◌∷◌, map, Option, None, Some, refl, sym, subst, inl, inr, arith, true≢false}
use Rattle.std.specs.Prelude.{IsSome, Result, Ok, Err, option_map}
use Rattle.std.specs.Option.{is_some}
use Rattle.cwr_devices.specs.Format.Failures.{most_failures}
use Rattle.cwr_fields.specs.declared.message_codes.TransactionStatus.{TransactionStatus}
use Rattle.cwr_shape.specs.declared.limits.Limits.{Limits}
use Rattle.cwr_terminal.specs.declared.styled.Styled.{Styled}
use Rattle.cwr_terminal.specs.declared.styles.Style.{Style}
use Rattle.cwr_terminal.specs.Steps.Held.{output_of, plain_contents, style_of}
use Rattle.cwr_words.specs.declared.words.Work.{Work}
use Rattle.cwr_words.specs.declared.words.Work.TheVariants.{Check, Show, Explain, Lint, Advise, Json, Csv, Acks, Summary, Write, Split}
use Rattle.cwr_words.specs.declared.words.Work.TheVariants.{Join, Renumber, Select, Manual}
use Rattle.cwr_acks.specs.declared.forms.Form.{Form}
use Rattle.cwr_files.specs.Format.Files.{Texts}
use Rattle.cwr_endings.specs.declared.endings.Status.{Status}
use Rattle.cwr_endings.specs.declared.endings.Status.TheVariants as statuses
use Rattle.cwr_endings.specs.declared.stops.Stop.{Stop}
use Rattle.cwr_reports.specs.declared.tellings.Asked.{Asked}
use Rattle.cwr_reports.specs.declared.tellings.Telling.{Telling}
use Rattle.cwr_reports.specs.declared.tellings.Telling.TheVariants as tellings
use Rattle.cwr_reports.specs.Format.Endings.{telling_by}
use Rattle.cwr_reports.proofs.lemmas.KnownBytes.{appends_known, told_known}
use Rattle.cwr_reports.proofs.lemmas.Told.{up_to_listed}
use Rattle.cwr_transform.specs.declared.imports.Import.{Import}
use Rattle.cwr.specs.declared.terminal.Cleared.{Cleared}
use Rattle.cwr.specs.Format.Endings.{import_of}
use Rattle.cwr.specs.Format.Failures.{OfOne}
use Rattle.cwr.specs.Format.Tables.{encoding_of, form_of, table_of}
use Rattle.cwr.specs.Steps.Cleared.{cleared_output, clears, plain_unless}
use Rattle.cwr.specs.Steps.Tells.{HandsOnData, HandsOnWork, HandsOnWriting, TellsAlone, TellsAnswers, TellsBack, TellsData, TellsFiles, TellsImport, TellsOn, TellsRead, TellsWork}
use Rattle.cwr.proofs.lemmas.SelectingTold.{selecting_handed, selecting_known}

-- the bytes themselves
abbrev known : Option (List ℕ) → Option (List ℕ)
known o = o

-- which never fail
abbrev never : Option (List ℕ) → ℕ
never o = 0

-- ---- in the words of the bytes

module _ {W : Type 0} (contents : W → Option (List ℕ)) (failures : W → ℕ) (old new : W) (held : Option Texts) (standard : Option (List ℕ))
    (status : Status) where
  read_listed : (telling : Telling) (limits : Limits) (name : Option (List ℕ))
      → TellsRead telling limits held standard name contents old new (Ok status)
      → TellsRead telling limits held standard name known (contents old) (contents new) (Ok status)
  read_listed telling limits name h =
      (h.0, h.1, (h.2.0, (h.2.1.0, up_to_listed contents telling limits h.0 h.2.1.0 old new (Ok h.2.0) h.2.1.1)))

  alone_listed : (asked : Asked) (explained quiet : Bool) (name : Option (List ℕ)) → failures old ≡ 0
      → TellsAlone asked explained quiet held standard name contents failures old new (Ok status)
      → TellsAlone asked explained quiet held standard name known never (contents old) (contents new) (Ok status)
  alone_listed asked explained false name none h = (h.0, h.1, read_listed (telling_by asked explained h.0) asked.limits name h.2)
  alone_listed asked explained true name none h = λ few. h (subst (λ (n : ℕ). n < most_failures) (sym none) few)

  files_listed : (asked : Asked) (explained quiet : Bool) (names : List (List ℕ)) (count count_now : ℕ) → failures old ≡ 0
      → TellsFiles asked explained quiet held standard names contents failures old new count count_now (Ok status)
      → TellsFiles asked explained quiet held standard names known never (contents old) (contents new) count count_now (Ok status)
  files_listed asked explained quiet [] count count_now none h = alone_listed asked explained quiet None none h
  files_listed asked explained quiet (name ∷ []) count count_now none h = alone_listed asked explained quiet (Some name) none h
  files_listed asked explained quiet (name ∷ other ∷ names) count count_now none h = h

  data_listed : (to_file : Bool) (telling : Telling) (limits : Limits) (name : Option (List ℕ))
      → TellsData to_file telling limits held standard name contents old new (Ok status)
      → TellsData to_file telling limits held standard name known (contents old) (contents new) (Ok status)
  data_listed false telling limits name h = read_listed telling limits name h
  data_listed true telling limits name h = tt

  answers_listed : (form : Form) (statuses : List TransactionStatus) (limits : Limits) (names sent : List (List ℕ))
      → OfOne names sent (λ name. TellsAnswers form statuses limits held standard name contents old new (Ok status))
      → OfOne names sent (λ name. TellsAnswers form statuses limits held standard name known (contents old) (contents new) (Ok status))
  answers_listed form statuses limits [] [] h = (h.0, h.1, read_listed (tellings.Answers form h.0) limits None h.2)
  answers_listed form statuses limits (name ∷ []) [] h = (h.0, h.1, read_listed (tellings.Answers form h.0) limits (Some name) h.2)
  answers_listed form statuses limits (name ∷ other ∷ names) [] h = tt
  answers_listed form statuses limits [] (one ∷ sent) h = tt
  answers_listed form statuses limits (name ∷ []) (one ∷ sent) h = tt
  answers_listed form statuses limits (name ∷ other ∷ names) (one ∷ sent) h = tt

  import_listed : (to_file : Bool) (import : Import) (name : Option (List ℕ)) (it : Status)
      → TellsImport to_file import held standard name contents old new (Ok it)
      → TellsImport to_file import held standard name known (contents old) (contents new) (Ok it)
  import_listed to_file import name statuses.Good h = h
  import_listed to_file import name statuses.Refused h = tt
  import_listed to_file import name statuses.CommandLine h = tt
  import_listed to_file import name statuses.Fault h = tt

  work_listed : (limits : Limits) (whole : Bool) (work : Work) (count count_now : ℕ) → failures old ≡ 0
      → TellsWork limits whole work held standard contents failures old new count count_now (Ok status)
      → TellsWork limits whole work held standard known never (contents old) (contents new) count count_now (Ok status)
  work_listed limits whole (Check judging) count count_now none h =
      (h.0, h.1, files_listed h.0 false judging.quiet (map (λ name. name.now) judging.files.items) count count_now none h.2)
  work_listed limits whole (Show words) count count_now none h =
      read_listed tellings.Records limits (option_map (λ name. name.now) words.file) h
  work_listed limits whole (Explain judging) count count_now none h =
      (h.0, h.1, files_listed h.0 true judging.quiet (map (λ name. name.now) judging.files.items) count count_now none h.2)
  work_listed limits whole (Lint words) count count_now none h =
      (h.0, h.1, files_listed h.0 words.explained words.quiet (map (λ name. name.now) words.files.items) count count_now none h.2)
  work_listed limits whole (Advise words) count count_now none h =
      (h.0, h.1, files_listed h.0 false words.judging.quiet (map (λ name. name.now) words.judging.files.items) count count_now none h.2)
  work_listed limits whole (Json words) count count_now none h =
      data_listed (is_some words.out) (tellings.Data (encoding_of words.utf8) words.numbers) limits
      (option_map (λ name. name.now) words.file) h
  work_listed limits whole (Csv words) count count_now none h =
      data_listed (is_some words.out) (tellings.Rows (encoding_of words.utf8) (table_of words.rows)) limits
      (option_map (λ name. name.now) words.file) h
  work_listed limits whole (Acks words) count count_now none h =
      answers_listed (form_of words.as_json words.utf8) words.statuses.items limits
      (map (λ name. name.now) words.files.items) (map (λ name. name.now) words.sent.items) h
  work_listed limits whole (Write words) count count_now none h =
      import_listed (is_some words.out) (import_of limits words) (option_map (λ name. name.now) words.file) status h
  work_listed limits whole (Summary words) count count_now none h =
      h
  work_listed limits whole (Split words) count count_now none h =
      tt
  work_listed limits whole (Join words) count count_now none h =
      tt
  work_listed limits whole (Renumber words) count count_now none h =
      tt
  work_listed limits whole (Select words) count count_now none h =
      h
  work_listed limits whole Manual count count_now none h =
      tt

-- ---- what is told is known

module _ (held : Option Texts) (standard : Option (List ℕ)) (text : List ℕ) (now : Option (List ℕ)) (status : Status) where
  read_known : (telling : Telling) (limits : Limits) (name : Option (List ℕ))
      → TellsRead telling limits held standard name known (Some text) now (Ok status) → IsSome now
  read_known telling limits name h = told_known telling limits h.0 text now h.2.0 h.2.1

  alone_known : (asked : Asked) (explained quiet : Bool) (name : Option (List ℕ))
      → TellsAlone asked explained quiet held standard name known never (Some text) now (Ok status) → IsSome now
  alone_known asked explained false name h = read_known (telling_by asked explained h.0) asked.limits name h.2
  alone_known asked explained true name h =
      let it = h (omega arith) in
      appends_known text now it.2.4.0 it.2.4.2

  files_known : (asked : Asked) (explained quiet : Bool) (names : List (List ℕ)) (count count_now : ℕ)
      → TellsFiles asked explained quiet held standard names known never (Some text) now count count_now (Ok status) → IsSome now
  files_known asked explained quiet [] count count_now h = alone_known asked explained quiet None h
  files_known asked explained quiet (name ∷ []) count count_now h = alone_known asked explained quiet (Some name) h
  files_known asked explained quiet (name ∷ other ∷ names) count count_now h = appends_known text now _ h.2

-- either what the output has is known, or nothing is told whatever it has
abbrev IsKnownOrUntold : Limits → Bool → Work → Option Texts → Option (List ℕ) → List ℕ → Option (List ℕ) → ℕ → ℕ → Status → Type 0
IsKnownOrUntold limits whole work held standard text now count count_now status =
    IsSome now ⊎ ((other : Option (List ℕ)) → TellsWork limits whole work held standard known never (Some text) other count count_now (Ok status))

module _ (limits : Limits) (whole : Bool) (held : Option Texts) (standard : Option (List ℕ)) (text : List ℕ) (now : Option (List ℕ))
    (count count_now : ℕ) (status : Status) where
  data_known : (to_file : Bool) (telling : Telling) (name : Option (List ℕ))
      → TellsData to_file telling limits held standard name known (Some text) now (Ok status)
      → IsSome now ⊎ ((other : Option (List ℕ)) → TellsData to_file telling limits held standard name known (Some text) other (Ok status))
  data_known false telling name h = inl (read_known held standard text now status telling limits name h)
  data_known true telling name h = inr (λ other. tt)

  answers_known : (form : Form) (statuses : List TransactionStatus) (names sent : List (List ℕ))
      → OfOne names sent (λ name. TellsAnswers form statuses limits held standard name known (Some text) now (Ok status))
      → IsSome now ⊎ ((other : Option (List ℕ))
      → OfOne names sent (λ name. TellsAnswers form statuses limits held standard name known (Some text) other (Ok status)))
  answers_known form statuses [] [] h = inl (read_known held standard text now status (tellings.Answers form h.0) limits None h.2)
  answers_known form statuses (name ∷ []) [] h =
      inl (read_known held standard text now status (tellings.Answers form h.0) limits (Some name) h.2)
  answers_known form statuses (name ∷ other ∷ names) [] h = inr (λ o. tt)
  answers_known form statuses [] (one ∷ sent) h = inr (λ o. tt)
  answers_known form statuses (name ∷ []) (one ∷ sent) h = inr (λ o. tt)
  answers_known form statuses (name ∷ other ∷ names) (one ∷ sent) h = inr (λ o. tt)

  import_known : (to_file : Bool) (import : Import) (name : Option (List ℕ)) (it : Status)
      → TellsImport to_file import held standard name known (Some text) now (Ok it)
      → IsSome now ⊎ ((other : Option (List ℕ)) → TellsImport to_file import held standard name known (Some text) other (Ok it))
  import_known false import name statuses.Good h = inl (appends_known text now h.0 h.2)
  import_known true import name statuses.Good h = inr (λ other. tt)
  import_known to_file import name statuses.Refused h = inr (λ other. tt)
  import_known to_file import name statuses.CommandLine h = inr (λ other. tt)
  import_known to_file import name statuses.Fault h = inr (λ other. tt)

  work_known : (work : Work) → TellsWork limits whole work held standard known never (Some text) now count count_now (Ok status)
      → IsKnownOrUntold limits whole work held standard text now count count_now status
  work_known (Check judging) h =
      inl (files_known held standard text now status h.0 false judging.quiet (map (λ name. name.now) judging.files.items) count count_now h.2)
  work_known (Show words) h =
      inl (read_known held standard text now status tellings.Records limits (option_map (λ name. name.now) words.file) h)
  work_known (Explain judging) h =
      inl (files_known held standard text now status h.0 true judging.quiet (map (λ name. name.now) judging.files.items) count count_now h.2)
  work_known (Lint words) h =
      inl (files_known held standard text now status h.0 words.explained words.quiet (map (λ name. name.now) words.files.items) count count_now h.2)
  work_known (Advise words) h =
      inl (files_known held standard text now status h.0 false words.judging.quiet (map (λ name. name.now) words.judging.files.items) count count_now h.2)
  work_known (Json words) h =
      data_known (is_some words.out) (tellings.Data (encoding_of words.utf8) words.numbers)
      (option_map (λ name. name.now) words.file) h
  work_known (Csv words) h =
      data_known (is_some words.out) (tellings.Rows (encoding_of words.utf8) (table_of words.rows))
      (option_map (λ name. name.now) words.file) h
  work_known (Acks words) h =
      answers_known (form_of words.as_json words.utf8) words.statuses.items
      (map (λ name. name.now) words.files.items) (map (λ name. name.now) words.sent.items) h
  work_known (Write words) h =
      import_known (is_some words.out) (import_of limits words) (option_map (λ name. name.now) words.file) status h
  work_known (Summary words) h =
      inl (appends_known text now _ h.4)
  work_known (Split words) h =
      inr (λ other. tt)
  work_known (Join words) h =
      inr (λ other. tt)
  work_known (Renumber words) h =
      inr (λ other. tt)
  work_known (Select words) h =
      selecting_known limits whole words held standard text status now h
  work_known Manual h =
      inr (λ other. tt)

-- ---- what is told is handed on

-- either all is handed on, or nothing is told whatever there is
abbrev IsHandedOrUntold : Limits → Bool → Work → Option Texts → Option (List ℕ) → List ℕ → Bool → ℕ → ℕ → Status → Type 0
IsHandedOrUntold limits whole work held standard text on count count_now status =
    (on ≡ true) ⊎ ((other : Option (List ℕ)) → TellsWork limits whole work held standard known never (Some text) other count count_now (Ok status))

module _ (limits : Limits) (whole : Bool) (held : Option Texts) (standard : Option (List ℕ)) (text : List ℕ) (on : Bool)
    (count count_now : ℕ) (status : Status) where
  data_handed : (to_file : Bool) (telling : Telling) (name : Option (List ℕ)) → HandsOnData to_file (Ok status) on
      → (on ≡ true) ⊎ ((other : Option (List ℕ)) → TellsData to_file telling limits held standard name known (Some text) other (Ok status))
  data_handed false telling name h = inl h
  data_handed true telling name h = inr (λ other. tt)

  answers_handed : (form : Form) (statuses : List TransactionStatus) (names sent : List (List ℕ)) → OfOne names sent (λ name. on ≡ true)
      → (on ≡ true) ⊎ ((other : Option (List ℕ))
      → OfOne names sent (λ name. TellsAnswers form statuses limits held standard name known (Some text) other (Ok status)))
  answers_handed form statuses [] [] h = inl h
  answers_handed form statuses (name ∷ []) [] h = inl h
  answers_handed form statuses (name ∷ other ∷ names) [] h = inr (λ o. tt)
  answers_handed form statuses [] (one ∷ sent) h = inr (λ o. tt)
  answers_handed form statuses (name ∷ []) (one ∷ sent) h = inr (λ o. tt)
  answers_handed form statuses (name ∷ other ∷ names) (one ∷ sent) h = inr (λ o. tt)

  import_handed : (to_file : Bool) (import : Import) (name : Option (List ℕ)) (it : Status) → HandsOnWriting to_file (Ok it) on
      → (on ≡ true) ⊎ ((other : Option (List ℕ)) → TellsImport to_file import held standard name known (Some text) other (Ok it))
  import_handed false import name statuses.Good h = inl h
  import_handed true import name statuses.Good h = inr (λ other. tt)
  import_handed to_file import name statuses.Refused h = inr (λ other. tt)
  import_handed to_file import name statuses.CommandLine h = inr (λ other. tt)
  import_handed to_file import name statuses.Fault h = inr (λ other. tt)

  work_handed : (work : Work) → HandsOnWork work (Ok status) on
      → IsHandedOrUntold limits whole work held standard text on count count_now status
  work_handed (Check judging) h =
      inl h
  work_handed (Show words) h =
      inl h
  work_handed (Explain judging) h =
      inl h
  work_handed (Lint words) h =
      inl h
  work_handed (Advise words) h =
      inl h
  work_handed (Json words) h =
      data_handed (is_some words.out) (tellings.Data (encoding_of words.utf8) words.numbers)
      (option_map (λ name. name.now) words.file) h
  work_handed (Csv words) h =
      data_handed (is_some words.out) (tellings.Rows (encoding_of words.utf8) (table_of words.rows))
      (option_map (λ name. name.now) words.file) h
  work_handed (Acks words) h =
      answers_handed (form_of words.as_json words.utf8) words.statuses.items
      (map (λ name. name.now) words.files.items) (map (λ name. name.now) words.sent.items) h
  work_handed (Write words) h =
      import_handed (is_some words.out) (import_of limits words) (option_map (λ name. name.now) words.file) status h
  work_handed (Summary words) h =
      inl h
  work_handed (Split words) h =
      inr (λ other. tt)
  work_handed (Join words) h =
      inr (λ other. tt)
  work_handed (Renumber words) h =
      inr (λ other. tt)
  work_handed (Select words) h =
      selecting_handed limits whole words held standard text on status h
  work_handed Manual h =
      inr (λ other. tt)

-- ---- an output that came back

-- it has what was given to the writer that gathered for it
pub came_back : {W : Type 0} (contents : W → Option (List ℕ)) (failures : W → ℕ) (old new : W) (limits : Limits) (whole : Bool) (work : Work)
    (held : Option Texts) (standard before after : Option (List ℕ)) (count count_now : ℕ) (status : Status) (on : Bool)
    → contents old ≡ before → failures old ≡ 0
    → TellsWork limits whole work held standard contents failures old new count count_now (Ok status) → HandsOnWork work (Ok status) on
    → (on ≡ true → after ≡ contents new) → TellsOn limits whole work held standard before after count count_now (Ok status)
came_back contents failures old new limits whole work held standard None after count count_now status on is none told handed same = tt
came_back contents failures old new limits whole work held standard (Some text) after count count_now status on is none told handed same =
    elim (work_handed limits whole held standard text on count count_now status work handed) [
      | inl all ↦ subst (λ (o : Option (List ℕ)). TellsWork limits whole work held standard known never (Some text) o count count_now (Ok status))
          (sym (same all))
          (subst (λ (o : Option (List ℕ)). TellsWork limits whole work held standard known never o (contents new) count count_now (Ok status)) is
          (work_listed contents failures old new held standard status limits whole work count count_now none told))
      | inr any ↦ any after
    ]

-- ---- an output to which lines are written as they are

plain_so : (style : Option Style) (terminal : Bool) (contents : Option (List ℕ)) → IsSome (plain_contents style (plain_unless terminal contents))
    → contents ≡ plain_contents style (plain_unless terminal contents)
plain_so None false contents some = refl
plain_so None true contents some = absurd (true≢false (sym some))
plain_so (Some style) terminal contents some = absurd (true≢false (sym some))

pub plainly : (limits : Limits) (whole : Bool) (work : Work) (held : Option Texts) (standard : Option (List ℕ)) (style other : Option Style)
    (terminal clears : Bool) (before after : Option (List ℕ)) (count count_now : ℕ) (status : Status)
    → TellsOn limits whole work held standard (plain_contents style (plain_unless terminal before))
    (plain_contents other (plain_unless clears after)) count count_now (Ok status)
    → TellsOn limits whole work held standard (plain_contents style (plain_unless terminal before))
    (plain_contents style (plain_unless terminal after)) count count_now (Ok status)
plainly limits whole work held standard (Some style) other terminal clears before after count count_now status h = tt
plainly limits whole work held standard None other true clears before after count count_now status h = tt
plainly limits whole work held standard None other false clears None after count count_now status h = tt
plainly limits whole work held standard None other false clears (Some text) after count count_now status h =
    elim (work_known limits whole held standard text (plain_contents other (plain_unless clears after)) count count_now status work h) [
      | inl some ↦ subst (λ (o : Option (List ℕ)). TellsWork limits whole work held standard known never (Some text) o count count_now (Ok status))
          (sym (plain_so other clears after some)) h
      | inr any ↦ any after
    ]

pub taken_back : {O : Type 0} (contents : O → Option (List ℕ)) (limits : Limits) (whole : Bool) (work : Work) (held : Option Texts)
    (standard : Option (List ℕ)) (style : Option Style) (terminal : Bool) (output : O) (before : Option (List ℕ))
    (back : Option (Styled (Cleared O))) (count count_now : ℕ) (ending : Result Status Stop)
    → before ≡ plain_contents style (plain_unless terminal (contents output))
    → TellsBack limits whole work held standard before
    (option_map (λ it. plain_contents (style_of it) (plain_unless (clears (output_of it)) (contents (cleared_output (output_of it))))) back)
    count count_now ending
    → TellsBack limits whole work held standard (plain_contents style (plain_unless terminal (contents output)))
    (option_map (λ it. plain_contents style (plain_unless terminal (contents it)))
    (option_map (λ it. cleared_output (output_of it)) back)) count count_now ending
taken_back contents limits whole work held standard style terminal output before (Some it) count count_now (Ok status) is h =
    plainly limits whole work held standard style (style_of it) terminal (clears (output_of it)) (contents output)
    (contents (cleared_output (output_of it))) count count_now status
    (subst (λ (o : Option (List ℕ)). TellsOn limits whole work held standard o
    (plain_contents (style_of it) (plain_unless (clears (output_of it)) (contents (cleared_output (output_of it))))) count count_now
    (Ok status)) is h)
taken_back contents limits whole work held standard style terminal output before (Some it) count count_now (Err stop) is h = absurd h
taken_back contents limits whole work held standard style terminal output before None count count_now (Ok status) is h = absurd h
taken_back contents limits whole work held standard style terminal output before None count count_now (Err stop) is h = tt

-- what is known of an output to which nothing was written so far
pub styled_so : {O : Type 0} (contents : O → Option (List ℕ)) (styled : Styled (Cleared O)) (cleared : Cleared O) (output : O)
    (style other : Option Style) (terminal : Bool) → output_of styled ≡ cleared → style_of styled ≡ other → other ≡ style
    → cleared_output cleared ≡ output → clears cleared ≡ terminal
    → plain_contents (style_of styled) (plain_unless (clears (output_of styled)) (contents (cleared_output (output_of styled))))
    ≡ plain_contents style (plain_unless terminal (contents output))
styled_so {O} contents styled cleared output style other terminal inner shown by is on =
    ap (λ (c : Cleared O). plain_contents (style_of styled) (plain_unless (clears c) (contents (cleared_output c)))) inner
    ∙ ap (λ (s : Option Style). plain_contents s (plain_unless (clears cleared) (contents (cleared_output cleared)))) (shown ∙ by)
    ∙ ap (λ (o : O). plain_contents style (plain_unless (clears cleared) (contents o))) is
    ∙ ap (λ (b : Bool). plain_contents style (plain_unless b (contents output))) on
