-- What is selected by the words of a selection.
use Rattle.std.specs.Prelude.{◌≡◌, ◌⊎◌, ℕ, Bool, List, [], map, Option, Some, None, IsSome, IsPermutation, codes, option_map, unwrap_or, Result, Ok, Err}
use Rattle.cwr_shape.specs.declared.limits.Limits.{Limits}
use Rattle.cwr_words.specs.declared.words.AnsweredWords.{AnsweredWords}
use Rattle.cwr_words.specs.declared.words.SelectWords.{SelectWords}
use Rattle.cwr_files.specs.Format.Files.{Texts}
use Rattle.cwr_answers.specs.Format.Answered.{AreAnswered}
use Rattle.cwr_endings.specs.declared.endings.Status.{Status}
use Rattle.cwr_endings.specs.declared.endings.Status.TheVariants as statuses
use Rattle.cwr_endings.specs.declared.stops.Stop.{Stop}
use Rattle.cwr_transform.specs.Format.Selections.{HasSelectStatusAt, IsApart, IsSelectionAt, words_read}
use Rattle.cwr.specs.Format.Tables.{selection_of}

-- The places are those of the transactions of the file that became so, in whatever order, or none where no word asks what became of them.
abbrev pub AreAnsweredBy : Limits → Option (List ℕ) → Option AnsweredWords → Option Texts → Option (List ℕ) → Option (List (ℕ × ℕ)) → Type 0
AreAnsweredBy limits file None held standard places = places ≡ None
AreAnsweredBy limits file (Some words) held standard places =
    (listed : List (ℕ × ℕ)) × (values : List (ℕ × ℕ)) × (places ≡ Some values) × IsPermutation listed values
    × AreAnswered limits words.by_place words.states held standard (unwrap_or file (codes "-")) (map (λ name. name.now) words.files.items) listed

-- The text is that of what is selected, by these places where words ask for some.
pub record IsSelectedBy (limits : Limits) (whole : Bool) (words : SelectWords) (held : Option Texts) (standard : Option (List ℕ))
    (text : List ℕ) : Type 0 where
  pub places : Option (List (ℕ × ℕ))
  pub answered : AreAnsweredBy limits (option_map (λ name. name.now) words.file) words.answered held standard places
  pub of : IsSelectionAt (selection_of limits whole words) places held standard text

-- A run that ends with a status has that of the selection by such places; or it is refused, where words ask what became of transactions and a
-- transmission that says so isn't good. Which one isn't is not said here.
abbrev pub HasSelectedStatus : Limits → Bool → SelectWords → Option Texts → Option (List ℕ) → Result Status Stop → Type 0
HasSelectedStatus limits whole words held standard (Ok status) =
    ((places : Option (List (ℕ × ℕ))) × AreAnsweredBy limits (option_map (λ name. name.now) words.file) words.answered held standard places
    × HasSelectStatusAt (selection_of limits whole words) places held standard (Ok status))
    ⊎ (IsSome words.answered × (status ≡ statuses.Refused))
HasSelectedStatus limits whole words held standard (Err stop) = Unit {0}

-- the words that name acknowledgements, where words ask what became of transactions
abbrev pub answers_named : Option AnsweredWords → List (List ℕ)
answers_named None = []
answers_named (Some words) = map (λ name. name.now) words.files.items

-- a run that asks what became of transactions may be refused before the rest is looked at
abbrev pub UnlessUnsought : Option AnsweredWords → Result Status Stop → Type 0 → Type 0
UnlessUnsought (Some words) (Ok statuses.Refused) is = Unit {0}
UnlessUnsought answered ending is = is

-- What lay under the name of the file that a run writes which ends well is none of the transmission, the lists and the acknowledgements. Where it
-- is refused, it is none of the acknowledgements.
abbrev pub IsApartBy : Limits → Bool → SelectWords → Option Texts → Result Status Stop → Type 0
IsApartBy limits whole words held ending =
    UnlessUnsought words.answered ending (IsApart (option_map (λ name. name.now) words.out) (words_read (selection_of limits whole words)) held ending)
    × IsApart (option_map (λ name. name.now) words.out) (answers_named words.answered) held ending
