-- What a selection of a text in memory answers, and what C is told of it.
use Rattle.std.proofs.Common.{◌≡◌, ℕ, List, [], length, Option, Some, None, refl, ap, subst, ◌∙◌}
use Rattle.std.specs.Prelude.{Result, Ok, Err, option_map}
use Rattle.cwr_shape.specs.declared.limits.Limits.{Limits}
use Rattle.cwr_tools.specs.declared.verdicts.ToolFault.{ToolFault}
use Rattle.cwr_tools.specs.declared.verdicts.ToolFault.TheVariants as faults
use Rattle.cwr_select.specs.declared.reports.SelectReport.{SelectReport}
use Rattle.cwr_select.specs.Format.Selecting.{Selects}
use Rattle.cwr_select.specs.Format.Selections.{selected}
use Rattle.cwr_select.specs.Format.Sent.{sent_as, text_of}
use Rattle.cwr_select.specs.declared.changes.Changes.{Changes}
use Rattle.cwr_values.specs.Format.Values.{TransmissionValue}
use Rattle.cwr_calls.specs.Format.Selected.{at_places}
use Rattle.cwr_calls.specs.Steps.Selecting.{SelectsText}

-- nothing is changed
abbrev unchanged : Changes
unchanged = record { created = None; works = None }

kept : (one : Option TransmissionValue) → text_of (option_map (sent_as None) one) ≡ text_of one
kept None = refl
kept (Some v) = refl

-- of a text that is known, written to what was empty
selects_known : (limits : Limits) (text made : List ℕ) (after : Option (List ℕ)) (places : List (ℕ × ℕ)) (result : Result SelectReport ToolFault)
    → Selects limits unchanged (at_places places) (Some text) after (Some []) (Some made) result → SelectsText limits text places made result
selects_known limits text made after places (Ok report) h =
    (h.value, length h.taken.input, h.taken.front.0, h.written ∙ kept (selected (at_places places) h.value), ap (λ (r : SelectReport). r.selected) h.reported)
selects_known limits text made after places (Err (faults.Refused r)) h = h
selects_known limits text made after places (Err (faults.Truncated n)) h = h
selects_known limits text made after places (Err faults.Reader) h = tt
selects_known limits text made after places (Err (faults.Writer n)) h = tt
selects_known limits text made after places (Err faults.Memory) h = tt
selects_known limits text made after places (Err faults.Output) h = tt
selects_known limits text made after places (Err (faults.Limit l)) h = tt

pub selects_text : (limits : Limits) (text made : List ℕ) (before after old new : Option (List ℕ)) (places : List (ℕ × ℕ))
    (result : Result SelectReport ToolFault) → before ≡ Some text → old ≡ Some [] → new ≡ Some made
    → Selects limits unchanged (at_places places) before after old new result → SelectsText limits text places made result
selects_text limits text made before after old new places result b o n h =
    selects_known limits text made after places result
    (subst (λ (x : Option (List ℕ)). Selects limits unchanged (at_places places) (Some text) after (Some []) x result) n
    (subst (λ (x : Option (List ℕ)). Selects limits unchanged (at_places places) (Some text) after x new result) o
    (subst (λ (x : Option (List ℕ)). Selects limits unchanged (at_places places) x after old new result) b h)))
