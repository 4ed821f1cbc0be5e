-- The file that a selection writes is none of what its words name.
use Rattle.std.proofs.Common.{◌≡◌, List, [], ℕ, Bool, Option, Some, None, sym, true≢false}
use Rattle.std.specs.Prelude.{IfSome, IsSome, option_map, Result, Ok, Err}
use Rattle.std.proofs.lemmas.List.Elements.{All-nil}
use Rattle.cwr_shape.specs.declared.limits.Limits.{Limits}
use Rattle.cwr_words.specs.declared.words.AnsweredWords.{AnsweredWords}
use Rattle.cwr_words.specs.declared.words.SelectWords.{SelectWords}
use Rattle.cwr_files.specs.Format.Files.{Texts}
use Rattle.cwr_endings.specs.declared.endings.Status.{Status}
use Rattle.cwr_endings.specs.declared.endings.Status.TheVariants as statuses
use Rattle.cwr_endings.specs.declared.stops.Stop.{Stop}
use Rattle.cwr_endings.specs.Format.Endings.{IsNoInput}
use Rattle.cwr_transform.specs.Format.Selections.{IsApart, words_read}
use Rattle.cwr.specs.Format.Selected.{IsApartBy, UnlessUnsought, answers_named}
use Rattle.cwr.specs.Format.Tables.{selection_of}

stopped : (out : Option (List ℕ)) (words : List (List ℕ)) (held : Option Texts) (stop : Stop) → IsApart out words held (Err stop)
stopped None words held stop = tt
stopped (Some out) words held stop = tt

unless_stopped : (answered : Option AnsweredWords) (stop : Stop) (is : Type 0) → is → UnlessUnsought answered (Err stop) is
unless_stopped None stop is h = h
unless_stopped (Some words) stop is h = h

unless_so : (answered : Option AnsweredWords) (ending : Result Status Stop) (is : Type 0) → is → UnlessUnsought answered ending is
unless_so None ending is h = h
unless_so (Some words) (Ok statuses.Good) is h = h
unless_so (Some words) (Ok statuses.Refused) is h = tt
unless_so (Some words) (Ok statuses.CommandLine) is h = h
unless_so (Some words) (Ok statuses.Fault) is h = h
unless_so (Some words) (Err stop) is h = h

-- a run that was stopped
pub stopped_apart : (limits : Limits) (whole : Bool) (words : SelectWords) (held : Option Texts) (stop : Stop)
    → IsApartBy limits whole words held (Err stop)
stopped_apart limits whole words held stop = (
  unless_stopped words.answered stop _ (stopped (option_map (λ name. name.now) words.out) (words_read (selection_of limits whole words)) held stop),
  stopped (option_map (λ name. name.now) words.out) (answers_named words.answered) held stop,
)

-- one that has a status, or was stopped
by_ending : (out : Option (List ℕ)) (words : List (List ℕ)) (held : Option Texts) (ending : Result Status Stop)
    → ((status : Status) → IsApart out words held (Ok status)) → IsApart out words held ending
by_ending out words held (Ok status) h = h status
by_ending out words held (Err stop) h = stopped out words held stop

pub both_apart : (limits : Limits) (whole : Bool) (words : SelectWords) (held : Option Texts) (ending : Result Status Stop)
    → IsApart (option_map (λ name. name.now) words.out) (words_read (selection_of limits whole words)) held ending
    → ((status : Status) → IsApart (option_map (λ name. name.now) words.out) (answers_named words.answered) held (Ok status))
    → IsApartBy limits whole words held ending
both_apart limits whole words held ending h k = (
  unless_so words.answered ending _ h,
  by_ending (option_map (λ name. name.now) words.out) (answers_named words.answered) held ending k,
)

-- acknowledgements aren't good
pub unsought_apart : (limits : Limits) (whole : Bool) (words : SelectWords) (held : Option Texts) → IsSome words.answered
    → ((status : Status) → IsApart (option_map (λ name. name.now) words.out) (answers_named words.answered) held (Ok status))
    → IsApartBy limits whole words held (Ok statuses.Refused)
unsought_apart limits whole words held some k = (by words.answered some, k statuses.Refused) where
  by : (answered : Option AnsweredWords) → IsSome answered → UnlessUnsought answered (Ok statuses.Refused)
      (IsApart (option_map (λ name. name.now) words.out) (words_read (selection_of limits whole words)) held (Ok statuses.Refused))
  by None none = absurd (true≢false (sym none))
  by (Some w) h = tt

-- ---- acknowledgements

-- none is named
pub nothing_apart : (out : Option (List ℕ)) (held : Option Texts) (status : Status) → IsApart out [] held (Ok status)
nothing_apart None held status = tt
nothing_apart (Some out) None statuses.Good = tt
nothing_apart (Some out) None statuses.Refused = tt
nothing_apart (Some out) (Some texts) statuses.Good = All-nil _
nothing_apart (Some out) (Some texts) statuses.Refused = All-nil _
nothing_apart (Some out) held statuses.CommandLine = tt
nothing_apart (Some out) held statuses.Fault = tt

pub apart_so : (out : List ℕ) (words : List (List ℕ)) (held : Option Texts) (status : Status) → IfSome held (IsNoInput out words)
    → IsApart (Some out) words held (Ok status)
apart_so out words held statuses.Good h = h
apart_so out words held statuses.Refused h = h
apart_so out words held statuses.CommandLine h = tt
apart_so out words held statuses.Fault h = tt
