-- Which transaction an acknowledgement answers: that of what was sent with which alone it agrees.
use Rattle.std.specs.Prelude.{◌≡◌, ℕ, ◌-◌, Bool, true, not, ◌&&◌, ◌||◌, ◌==◌, List, [], ◌∷◌, Option, Some, None, slice_get, if◌then◌else◌}
use Rattle.std.specs.List.{enumerate_from, flat_map}
use Rattle.std.specs.Option.{option_and_then}
use Rattle.std.specs.Str.{bytes_eq}
use Rattle.cwr_fields.specs.Format.Bytes.{is_spaces, number_of, trimmed}
use Rattle.cwr_fields.specs.declared.kinds.Kind.TheVariants as kinds
use Rattle.cwr_fields.specs.Format.Kinds.{letters}
use Rattle.cwr_lines.specs.Format.Records.{RecordValue, cell_named}
use Rattle.cwr_sent.specs.declared.created.Created.{Created}
use Rattle.cwr_sent.specs.declared.facts.SentFacts.{SentFacts}
use Rattle.cwr_sent.specs.Format.SentFacts.{SentContent, facts_at}
use Rattle.cwr_delivery.specs.declared.outcomes.Outcome.{Outcome}
use Rattle.cwr_delivery.specs.declared.outcomes.Outcome.TheVariants as outcomes

-- ---- what an acknowledgement names

-- the transaction that it answers, by its group, from 1, and its sequence, from 0
abbrev pub group_of : RecordValue → ℕ
group_of a = number_of (cell_named "original group id" a)

abbrev pub sequence_of : RecordValue → ℕ
sequence_of a = number_of (cell_named "original transaction sequence" a)

-- the transmission that it answers, by when that was created; not where the date is blank or zeros, or the time blank
abbrev pub has_key : RecordValue → Bool
has_key a = not (number_of (cell_named "creation date" a) == 0) && not (is_spaces (cell_named "creation time" a))

abbrev pub named_created : RecordValue → Created
named_created a =
    record { date = number_of (cell_named "creation date" a); time = number_of (cell_named "creation time" a) }

-- ---- the transmissions that it may answer

abbrev pub same_created : Created → Created → Bool
same_created one other = (one.date == other.date) && (one.time == other.time)

-- those that were created when it says; all, where it says nothing of that or only the place is looked at
abbrev pub is_candidate : Bool → RecordValue → Created → Bool
is_candidate by_place a created = by_place || not (has_key a) || same_created (named_created a) created

-- ---- the transactions there

-- an acknowledgement wants no answer
abbrev pub wants_answer : SentFacts → Bool
wants_answer f = not (bytes_eq (letters f.kind) (letters kinds.Ack))

abbrev pub if_wanted : SentFacts → Option SentFacts
if_wanted f = if wants_answer f then Some f else None

-- that at the place that it names
abbrev pub named_in : SentContent → RecordValue → Option SentFacts
named_in content a =
    option_and_then if_wanted (if group_of a == 0 then None else facts_at content (group_of a - 1) (sequence_of a))

-- the same of a transmission that it may answer
abbrev pub standing_in : Bool → RecordValue → SentContent → Option SentFacts
standing_in by_place a content = if is_candidate by_place a content.created then named_in content a else None

-- it agrees with a transaction of the type that it names, and of the submitter's number; a blank number agrees with any
abbrev pub agrees_type : RecordValue → SentFacts → Bool
agrees_type a f = bytes_eq (letters f.kind) (cell_named "original transaction type" a)

abbrev pub named_number : RecordValue → List ℕ
named_number a = cell_named "submitter creation number" a

abbrev pub agrees_number : RecordValue → SentFacts → Bool
agrees_number a f = is_spaces f.number || is_spaces (named_number a) || bytes_eq (trimmed f.number) (trimmed (named_number a))

abbrev pub agrees : RecordValue → SentFacts → Bool
agrees a f = agrees_type a f && agrees_number a f

-- transmission i, from 0, of what was sent is one that it may answer, with these facts at the place that it names
pub record Stands (by_place : Bool) (sent : List SentContent) (a : RecordValue) (i : ℕ) (f : SentFacts) : Type 0 where
  pub content : SentContent
  pub there : slice_get sent i ≡ Some content
  pub stands : standing_in by_place a content ≡ Some f

-- and it agrees with that transaction
pub record Agrees (by_place : Bool) (sent : List SentContent) (a : RecordValue) (i : ℕ) (f : SentFacts) : Type 0 where
  pub stands : Stands by_place sent a i f
  pub agrees : agrees a f ≡ true

-- it answers the transaction that stands in transmission i: that is the one with which it agrees
pub record AnswersIn (by_place : Bool) (sent : List SentContent) (a : RecordValue) (i : ℕ) (f : SentFacts) : Type 0 where
  pub agrees : Agrees by_place sent a i f
  pub alone : (j : ℕ) (g : SentFacts) → Agrees by_place sent a j g → j ≡ i

-- ---- what it answers

-- transmissions by their numbers, with the facts that are found in each
abbrev pub placed : ℕ → Option SentFacts → List (ℕ × SentFacts)
placed i None = []
placed i (Some f) = (i, f) ∷ []

abbrev pub found_by : (SentContent → Option SentFacts) → List SentContent → List (ℕ × SentFacts)
found_by found sent = flat_map (λ p. placed p.0 (found p.1)) (enumerate_from 0 sent)

-- those that have a transaction at the place, and those with whose transaction there it agrees
abbrev pub agreeing_of : RecordValue → Option SentFacts → Option SentFacts
agreeing_of a found = option_and_then (λ f. if agrees a f then Some f else None) found

abbrev pub agreeing_in : Bool → RecordValue → SentContent → Option SentFacts
agreeing_in by_place a content = agreeing_of a (standing_in by_place a content)

-- the one that stands there is of another type, or has another number
abbrev pub differing : RecordValue → SentFacts → Outcome
differing a f = if agrees_type a f then outcomes.Renumbered f.number else outcomes.Retyped f.kind

abbrev pub outcome_without : List (ℕ × SentFacts) → RecordValue → Outcome
outcome_without ((i, f) ∷ []) a = differing a f
outcome_without standing a = outcomes.Unsent

abbrev pub outcome_with : List (ℕ × SentFacts) → List (ℕ × SentFacts) → RecordValue → Outcome
outcome_with [] standing a = outcome_without standing a
outcome_with ((i, f) ∷ []) standing a = outcomes.Answers i f
outcome_with agreeing standing a = outcomes.Unclear

-- what it answers of what was sent, or why it answers nothing
abbrev pub outcome_of : Bool → List SentContent → RecordValue → Outcome
outcome_of by_place sent a =
    outcome_with (found_by (agreeing_in by_place a) sent) (found_by (standing_in by_place a) sent) a
