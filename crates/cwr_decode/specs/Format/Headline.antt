-- What answers say of a text: the end that they report is the text's end.
use denote.Ref.{Bor}
use Rattle.std.specs.Prelude.{◌≡◌, ℕ, List, Option, Some, None, IfSome, Result, Ok, Err}
use Rattle.std.specs.List.{flat_map}
use Rattle.cwr_shape.specs.Format.Ranges.{LimitValues}
use Rattle.cwr_values.specs.Format.Values.{TransmissionValue}
use Rattle.cwr_values.specs.declared.items.Item.{Item}
use Rattle.cwr_values.specs.declared.items.Item.TheVariants as items
use Rattle.cwr_judge.specs.Format.Ends.{IsAccepted, IsRefused, IsTruncated}
use Rattle.cwr_judge.specs.Format.Items.{value_items}
use Rattle.cwr_decode.specs.declared.outcomes.Outcome.{Outcome}
use Rattle.cwr_decode.specs.declared.outcomes.Outcome.TheVariants as outcomes
use Rattle.cwr_decode.specs.declared.endings.End.{End}
use Rattle.cwr_decode.specs.declared.endings.End.TheVariants as ends
use Rattle.cwr_decode.specs.declared.readings.ReadFault.{ReadFault}
use Rattle.cwr_decode.specs.declared.readings.ReadFault.TheVariants.{Reader, Refused, Truncated, Memory}

-- ---- the end of a text

-- the text has that end
abbrev pub HasEnd : LimitValues → List ℕ → End → Type 0
HasEnd limits text (ends.Accepted used) = (v : TransmissionValue) × IsAccepted limits text v used
HasEnd limits text (ends.Refused refusal) = IsRefused limits text refusal
HasEnd limits text (ends.Truncated records) = IsTruncated limits text records

-- ---- an end that a call reports

-- the text has that end, and where it is accepted, these are the items of its transmission
abbrev pub EndsSo : LimitValues → List ℕ → List Item → End → Type 0
EndsSo limits text given (ends.Accepted used) = (v : TransmissionValue) × IsAccepted limits text v used × (given ≡ value_items v)
EndsSo limits text given (ends.Refused refusal) = IsRefused limits text refusal
EndsSo limits text given (ends.Truncated records) = IsTruncated limits text records

-- where an end is reported, the text has it
abbrev pub IsEndOf : LimitValues → List ℕ → List Item → Option End → Type 0
IsEndOf limits text given reported = IfSome reported (EndsSo limits text given)

-- the end that an outcome reports, where so many bytes were used in all
abbrev pub outcome_end : ℕ → Outcome → Option End
outcome_end used (outcomes.Item items.Ended) = Some (ends.Accepted used)
outcome_end used (outcomes.Refused refusal) = Some (ends.Refused refusal)
outcome_end used (outcomes.Truncated records) = Some (ends.Truncated records)
outcome_end used outcome = None

-- the end that a call of a reading reports
abbrev pub answer_end : ℕ → Result (Option Item) ReadFault → Option End
answer_end used (Ok (Some items.Ended)) = Some (ends.Accepted used)
answer_end used (Err (Refused refusal)) = Some (ends.Refused refusal)
answer_end used (Err (Truncated records)) = Some (ends.Truncated records)
answer_end used answer = None

-- ---- the answer of a whole run

-- The answer is the text's end: the transmission with which it is accepted, the refusal with which it is refused, or the
-- number of records after which it is truncated. Out of memory says nothing of the text, which has no reader that fails.
abbrev pub Means : LimitValues → List ℕ → Result TransmissionValue ReadFault → Type 0
Means limits text (Ok v) = (n : ℕ) × IsAccepted limits text v n
Means limits text (Err (Refused refusal)) = IsRefused limits text refusal
Means limits text (Err (Truncated records)) = IsTruncated limits text records
Means limits text (Err Reader) = ⊥
Means limits text (Err Memory) = Unit {0}

-- pieces put together
abbrev pub text_in : List (Bor (List ℕ)) → List ℕ
text_in pieces = flat_map (λ piece. piece.now) pieces
