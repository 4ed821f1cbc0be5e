-- A selection by what became of transactions, or by other words alone.
use Rattle.std.proofs.Common.{ℕ, Bool, List, Option, Some, None, inl}
use Rattle.std.specs.Prelude.{option_map, Result, Ok, Err}
use Rattle.cwr_shape.specs.declared.limits.Limits.{Limits}
use Rattle.cwr_words.specs.declared.words.SelectWords.{SelectWords}
use Rattle.cwr_files.specs.Format.Files.{Same, Texts, Turns}
use Rattle.cwr_files.specs.Steps.NewFiles.{HasKeptCount}
use Rattle.cwr_files.proofs.lemmas.Outs.{leaves_same}
use Rattle.cwr_endings.specs.declared.endings.Status.{Status}
use Rattle.cwr_endings.specs.declared.endings.Status.TheVariants as statuses
use Rattle.cwr_endings.specs.declared.stops.Stop.{Stop}
use Rattle.cwr_endings.proofs.lemmas.Outs.{turns_so}
use Rattle.cwr_transform.specs.declared.selections.Selection.{Selection}
use Rattle.cwr_transform.specs.Format.Selections.{EndsAsSelectionAt, HasSelectStatusAt, IsSelectionAt, LeavesSelection}
use Rattle.cwr_transform.proofs.lemmas.SelectionsLeft.{selection_since}
use Rattle.cwr.specs.Format.Endings.{EndsWellAs}
use Rattle.cwr.specs.Format.Selected.{AreAnsweredBy, HasSelectedStatus}
use Rattle.cwr.specs.Format.Tables.{selection_of}

-- it ends well only where there is a text
pub ends_well : (s : Selection) (places : Option (List (ℕ × ℕ))) (held : Option Texts) (standard : Option (List ℕ)) (is : List ℕ → Type 0)
    (ending : Result Status Stop) → ((text : List ℕ) → IsSelectionAt s places held standard text → is text)
    → EndsAsSelectionAt s places held standard ending → EndsWellAs is ending
ends_well s places held standard is (Ok statuses.Good) so h = (h.0, so h.0 h.1)
ends_well s places held standard is (Ok statuses.Refused) so h = tt
ends_well s places held standard is (Ok statuses.CommandLine) so h = tt
ends_well s places held standard is (Ok statuses.Fault) so h = h
ends_well s places held standard is (Err stop) so h = tt

-- what a selection leaves, where calls failed before
pub selecting_since : (out : Option (List ℕ)) (before old now : ℕ) (is : List ℕ → Type 0) (ending : Result Status Stop) (texts new : Texts)
    → HasKeptCount before old → LeavesSelection out old now is ending texts new → LeavesSelection out before now is ending texts new
selecting_since None before old now is ending texts new kept h = h
selecting_since (Some out) before old now is ending texts new kept h = selection_since out before old now is ending texts new kept h

-- where acknowledgements aren't good nothing changes
pub unsought_same : (out : Option (List ℕ)) (old now : ℕ) (is : List ℕ → Type 0) (held after : Option Texts) → Turns held after Same
    → Turns held after (LeavesSelection out old now is (Ok statuses.Refused))
unsought_same None old now is held after h = h
unsought_same (Some out) old now is held after h =
    turns_so held after Same _ (λ texts new same. inl (leaves_same out old now texts new same)) h

-- the status is that of the selection by these places
pub selected_status : (limits : Limits) (whole : Bool) (words : SelectWords) (held : Option Texts) (standard : Option (List ℕ))
    (places : Option (List (ℕ × ℕ))) (ending : Result Status Stop)
    → AreAnsweredBy limits (option_map (λ name. name.now) words.file) words.answered held standard places
    → HasSelectStatusAt (selection_of limits whole words) places held standard ending
    → HasSelectedStatus limits whole words held standard ending
selected_status limits whole words held standard places (Ok status) answered h = inl (places, answered, h)
selected_status limits whole words held standard places (Err stop) answered h = tt
