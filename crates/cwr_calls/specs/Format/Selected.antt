-- What is selected of a text for C, and what it is told of that.
use Rattle.std.specs.Prelude.{◌≡◌, ◌⊎◌, ℕ, List, map, IsPermutation, Result, Ok, Err}
use Rattle.cwr_shape.specs.Format.Ranges.{limit_values}
use Rattle.cwr_values.specs.Format.Values.{TransmissionValue}
use Rattle.cwr_judge.specs.declared.refusals.Refusal.{Refusal}
use Rattle.cwr_judge.specs.Format.Ends.{IsAccepted, IsRefused, IsTruncated}
use Rattle.cwr_tools.specs.declared.verdicts.ToolFault.{ToolFault}
use Rattle.cwr_tools.specs.declared.verdicts.ToolFault.TheVariants.{Refused, Truncated}
use Rattle.cwr_select.specs.declared.reports.SelectReport.{SelectReport}
use Rattle.cwr_select.specs.Format.Criteria.{has_place}
use Rattle.cwr_select.specs.Format.Selections.{Choice, selected, selected_count}
use Rattle.cwr_select.specs.Format.Sent.{text_of}
use Rattle.cwr_calls.specs.declared.selecting.CwrPlace.{CwrPlace}
use Rattle.cwr_calls.specs.declared.verdicts.CwrVerdict.{CwrVerdict}
use Rattle.cwr_calls.specs.Format.Answers.{IsOutOfRange}
use Rattle.cwr_calls.specs.Format.Copies.{CopiesOut}
use Rattle.cwr_calls.specs.Format.VerdictNumbers.{ended, refused_in_c}

-- the places that C gives: that of a group, from 1, and that of a transaction in it, from 0
abbrev pub places_in : List CwrPlace → List (ℕ × ℕ)
places_in places = map (λ p. (p.group, p.transaction)) places

-- the transactions that have these places
abbrev pub at_places : List (ℕ × ℕ) → Choice
at_places places group place t = has_place places group place

-- so many were selected
abbrev pub selected_in_c : ℕ → CwrVerdict
selected_in_c count = record (ended 0) { transactions = count }

-- what came of a selection
abbrev pub in_c_of : Result SelectReport ToolFault → CwrVerdict
in_c_of (Ok report) = selected_in_c report.selected
in_c_of (Err (Refused refusal)) = refused_in_c refusal
in_c_of (Err (Truncated records)) = record (ended 2) { records = records }
in_c_of (Err fault) = ended 3

-- Nothing was written: 4 where a limit is out of its range, 3 where memory was refused, and the text's own verdict where it isn't accepted.
-- Else the canonical text was of its transactions that have these places, and their number told. Where none has, that text is empty.
abbrev pub TellsSelected : ℕ → ℕ → ℕ → List ℕ → List CwrPlace → List ℕ → List ℕ → ℕ → CwrVerdict → Type 0
TellsSelected records groups transaction text places old new count told =
    (IsOutOfRange records groups transaction × (told ≡ ended 4) × (count ≡ 0) × (new ≡ old))
    ⊎ ((told ≡ ended 3) × (count ≡ 0) × (new ≡ old))
    ⊎ ((refusal : Refusal) × IsRefused (limit_values records groups transaction) text refusal × (told ≡ refused_in_c refusal)
    × (count ≡ 0) × (new ≡ old))
    ⊎ ((n : ℕ) × IsTruncated (limit_values records groups transaction) text n × (told ≡ record (ended 2) { records = n })
    × (count ≡ 0) × (new ≡ old))
    ⊎ ((listed : List (ℕ × ℕ)) × (v : TransmissionValue) × (n : ℕ) × IsPermutation (places_in places) listed
    × IsAccepted (limit_values records groups transaction) text v n × (told ≡ selected_in_c (selected_count (at_places listed) v))
    × CopiesOut (text_of (selected (at_places listed) v)) old new count)
