-- The lines of a selection are written to standard output.
use Rattle.std.proofs.Common.{◌≡◌, ◌⊎◌, ℕ, Bool, true, false, List, Option, Some, None, inl, inr, subst, sym, true≢false}
use Rattle.std.specs.Prelude.{IsSome, Result, Ok, Err, option_map}
use Rattle.std.specs.Io.KnownBytes.{Appends}
use Rattle.cwr_shape.specs.declared.limits.Limits.{Limits}
use Rattle.cwr_words.specs.declared.words.AnsweredWords.{AnsweredWords}
use Rattle.cwr_words.specs.declared.words.SelectWords.{SelectWords}
use Rattle.cwr_files.specs.Format.Files.{Texts}
use Rattle.cwr_files.specs.Format.Inputs.{IfRead, IfReadAt, IfThere, is_standard}
use Rattle.cwr_endings.specs.declared.endings.Status.{Status}
use Rattle.cwr_endings.specs.declared.endings.Status.TheVariants as statuses
use Rattle.cwr_endings.specs.declared.stops.Stop.{Stop}
use Rattle.cwr_reports.proofs.lemmas.KnownBytes.{appends_known}
use Rattle.cwr_transform.specs.declared.selections.Selection.{Selection}
use Rattle.cwr_transform.specs.Format.Selections.{asking_of}
use Rattle.cwr_transform.specs.Format.SelectionsTold.{HandsOnSelection, IsSelectionTold, IsSelectionToldAt, TellsSelectionAt}
use Rattle.cwr.specs.Format.Selected.{AreAnsweredBy}
use Rattle.cwr.specs.Format.Tables.{selection_of}
use Rattle.cwr.specs.Steps.Tells.{TellsSelecting, UnlessAsked}

-- ---- what is read is known, or anything is so of it

there_either : (o : Option (List ℕ)) (is : List ℕ → Type 0) → IfThere o is
    → ((text : List ℕ) × is text) ⊎ ((other : List ℕ → Type 0) → IfThere o other)
there_either None is h = absurd h
there_either (Some text) is h = inl (text, h)

at_either : (b : Bool) (held : Option Texts) (standard : Option (List ℕ)) (name : List ℕ) (is : List ℕ → Type 0)
    → IfReadAt b held standard name is
    → ((text : List ℕ) × is text) ⊎ ((other : List ℕ → Type 0) → IfReadAt b held standard name other)
at_either true held None name is h = inr (λ other. tt)
at_either true held (Some text) name is h = inl (text, h)
at_either false None standard name is h = inr (λ other. tt)
at_either false (Some texts) standard name is h = there_either (texts name) is h

read_either : (held : Option Texts) (standard name : Option (List ℕ)) (is : List ℕ → Type 0) → IfRead held standard name is
    → ((text : List ℕ) × is text) ⊎ ((other : List ℕ → Type 0) → IfRead held standard name other)
read_either held None None is h = inr (λ other. tt)
read_either held (Some text) None is h = inl (text, h)
read_either held standard (Some name) is h = at_either (is_standard (Some name)) held standard name is h

-- ---- what is told is known, or anything is

module _ (s : Selection) (held : Option Texts) (standard : Option (List ℕ)) (text : List ℕ) (now : Option (List ℕ)) where
  abbrev At : Option (List ℕ) → Type 0
  At other = IsSelectionToldAt s None held standard (Some text) other

  told_known : At now → IsSome now ⊎ ((other : Option (List ℕ)) → At other)
  told_known h =
      elim (read_either held standard (option_map (λ name. name.now) s.file) _ h.of) [
        | inl x ↦ inl (appends_known text now x.1.0 x.1.2)
        | inr any ↦ inr (λ other. record {
          numbers = h.numbers;
          places = h.places;
          by_numbers = h.by_numbers;
          by_places = h.by_places;
          of = any (λ t. (told : List ℕ) × IsSelectionTold (asking_of s None h.numbers h.places) t told × Appends (Some text) other told);
        })
      ]

  at_good : (out : Option (List ℕ)) → TellsSelectionAt s None held standard out (Some text) now (Ok statuses.Good)
      → IsSome now ⊎ ((other : Option (List ℕ)) → TellsSelectionAt s None held standard out (Some text) other (Ok statuses.Good))
  at_good None h = inr (λ other. tt)
  at_good (Some out) h = told_known h

  at_refused : (out : Option (List ℕ)) → TellsSelectionAt s None held standard out (Some text) now (Ok statuses.Refused)
      → IsSome now ⊎ ((other : Option (List ℕ)) → TellsSelectionAt s None held standard out (Some text) other (Ok statuses.Refused))
  at_refused None h = inr (λ other. tt)
  at_refused (Some out) h = told_known h

asked_known : (answered : Option AnsweredWords) (is : Option (List ℕ) → Type 0) (now : Option (List ℕ)) → UnlessAsked answered (is now)
    → (is now → IsSome now ⊎ ((other : Option (List ℕ)) → is other))
    → IsSome now ⊎ ((other : Option (List ℕ)) → UnlessAsked answered (is other))
asked_known None is now h so = so h
asked_known (Some words) is now h so = inr (λ other. tt)

module _ (limits : Limits) (whole : Bool) (words : SelectWords) (held : Option Texts) (standard : Option (List ℕ)) (text : List ℕ) where
  abbrev Told : Status → Option (List ℕ) → Type 0
  Told status now = TellsSelecting limits whole words held standard (Some text) now (Ok status)

  pub selecting_known : (status : Status) (now : Option (List ℕ)) → Told status now
      → IsSome now ⊎ ((other : Option (List ℕ)) → Told status other)
  selecting_known statuses.Good now h =
      asked_known words.answered (λ other. TellsSelectionAt (selection_of limits whole words) None held standard
      (option_map (λ name. name.now) words.out) (Some text) other (Ok statuses.Good)) now h
      (at_good (selection_of limits whole words) held standard text now (option_map (λ name. name.now) words.out))
  selecting_known statuses.Refused now h =
      asked_known words.answered (λ other. TellsSelectionAt (selection_of limits whole words) None held standard
      (option_map (λ name. name.now) words.out) (Some text) other (Ok statuses.Refused)) now h
      (at_refused (selection_of limits whole words) held standard text now (option_map (λ name. name.now) words.out))
  selecting_known statuses.CommandLine now h = inr (λ other. tt)
  selecting_known statuses.Fault now h = inr (λ other. tt)

-- ---- it is handed on

module _ (s : Selection) (held : Option Texts) (standard : Option (List ℕ)) (text : List ℕ) (on : Bool) where
  good_handed : (answered : Option AnsweredWords) (out : Option (List ℕ)) → UnlessAsked answered (HandsOnSelection out (Ok statuses.Good) on)
      → (on ≡ true) ⊎ ((other : Option (List ℕ))
      → UnlessAsked answered (TellsSelectionAt s None held standard out (Some text) other (Ok statuses.Good)))
  good_handed (Some words) out h = inr (λ other. tt)
  good_handed None None h = inr (λ other. tt)
  good_handed None (Some out) h = inl h

  refused_handed : (answered : Option AnsweredWords) (out : Option (List ℕ)) → UnlessAsked answered (HandsOnSelection out (Ok statuses.Refused) on)
      → (on ≡ true) ⊎ ((other : Option (List ℕ))
      → UnlessAsked answered (TellsSelectionAt s None held standard out (Some text) other (Ok statuses.Refused)))
  refused_handed (Some words) out h = inr (λ other. tt)
  refused_handed None None h = inr (λ other. tt)
  refused_handed None (Some out) h = inl h

pub selecting_handed : (limits : Limits) (whole : Bool) (words : SelectWords) (held : Option Texts) (standard : Option (List ℕ)) (text : List ℕ)
    (on : Bool) (status : Status) → UnlessAsked words.answered (HandsOnSelection (option_map (λ name. name.now) words.out) (Ok status) on)
    → (on ≡ true) ⊎ ((other : Option (List ℕ)) → TellsSelecting limits whole words held standard (Some text) other (Ok status))
selecting_handed limits whole words held standard text on statuses.Good h =
    good_handed (selection_of limits whole words) held standard text on words.answered (option_map (λ name. name.now) words.out) h
selecting_handed limits whole words held standard text on statuses.Refused h =
    refused_handed (selection_of limits whole words) held standard text on words.answered (option_map (λ name. name.now) words.out) h
selecting_handed limits whole words held standard text on statuses.CommandLine h = inr (λ other. tt)
selecting_handed limits whole words held standard text on statuses.Fault h = inr (λ other. tt)

-- ---- by what was answered

-- where no words ask what became of transactions, nothing was answered
pub told_asked : (limits : Limits) (whole : Bool) (words : SelectWords) (held : Option Texts) (standard old new : Option (List ℕ))
    (places : Option (List (ℕ × ℕ))) (ending : Result Status Stop)
    → AreAnsweredBy limits (option_map (λ name. name.now) words.file) words.answered held standard places
    → TellsSelectionAt (selection_of limits whole words) places held standard (option_map (λ name. name.now) words.out) old new ending
    → TellsSelecting limits whole words held standard old new ending
told_asked limits whole words held standard old new places (Ok statuses.Good) a h = by words.answered a where
  by : (answered : Option AnsweredWords) → AreAnsweredBy limits (option_map (λ name. name.now) words.file) answered held standard places
      → UnlessAsked answered (TellsSelectionAt (selection_of limits whole words) None held standard (option_map (λ name. name.now) words.out)
      old new (Ok statuses.Good))
  by None e = subst (λ (p : Option (List (ℕ × ℕ))). TellsSelectionAt (selection_of limits whole words) p held standard
      (option_map (λ name. name.now) words.out) old new (Ok statuses.Good)) e h
  by (Some w) e = tt
told_asked limits whole words held standard old new places (Ok statuses.Refused) a h = by words.answered a where
  by : (answered : Option AnsweredWords) → AreAnsweredBy limits (option_map (λ name. name.now) words.file) answered held standard places
      → UnlessAsked answered (TellsSelectionAt (selection_of limits whole words) None held standard (option_map (λ name. name.now) words.out)
      old new (Ok statuses.Refused))
  by None e = subst (λ (p : Option (List (ℕ × ℕ))). TellsSelectionAt (selection_of limits whole words) p held standard
      (option_map (λ name. name.now) words.out) old new (Ok statuses.Refused)) e h
  by (Some w) e = tt
told_asked limits whole words held standard old new places (Ok statuses.CommandLine) a h = tt
told_asked limits whole words held standard old new places (Ok statuses.Fault) a h = tt
told_asked limits whole words held standard old new places (Err stop) a h = tt

-- where acknowledgements aren't good
pub told_unsought : (answered : Option AnsweredWords) (is : Type 0) → IsSome answered → UnlessAsked answered is
told_unsought None is some = absurd (true≢false (sym some))
told_unsought (Some words) is some = tt

pub handed_asked : (answered : Option AnsweredWords) (is : Type 0) → is → UnlessAsked answered is
handed_asked None is h = h
handed_asked (Some words) is h = tt
