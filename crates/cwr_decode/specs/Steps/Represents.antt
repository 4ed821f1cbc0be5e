-- What a decoder represents: the input so far, and the items that were handed out.
use Rattle.std.specs.Prelude.{◌≡◌, ◌≢◌, ◌⊎◌, ℕ, ◌+◌, Bool, true, false, IsTrue, IsFalse, List, [], ◌∷◌, ◌++◌, length, map, Option}
use Rattle.std.specs.Prelude.{Some, None}
use Rattle.std.specs.List.{AllZip, AllByRecursion, flat_map, list_any}
use Rattle.cwr_lines.specs.declared.lines.LineEnd.TheVariants as line_ends
use Rattle.cwr_lines.specs.Format.Growth.{AsksMemory}
use Rattle.cwr_lines.specs.Format.Records.{RecordValue, IsRecord}
use Rattle.cwr_lines.specs.Format.Lines.{IsLineOf, closed, is_lf, longest_line}
use Rattle.cwr_lines.specs.Steps.Held.{HeldLine, IsHeld, held_kind, held_text, held_record}
use Rattle.cwr_shape.specs.declared.symbols.Symbol.{Symbol}
use Rattle.cwr_shape.specs.Format.Ranges.{LimitValues, AreInRange}
use Rattle.cwr_shape.specs.Format.Levels.{level_of}
use Rattle.cwr_shape.specs.Format.Outlines.{IsWhole}
use Rattle.cwr_shape.specs.Format.NextSymbols as tallies_there
use Rattle.cwr_shape.specs.Steps.Tallies as tallies
use Rattle.cwr_shape.specs.Format.NextSymbols.{passed_limit, scope_after}
use Rattle.cwr_shape.specs.Steps.Tallies.{TallyValue}
use Rattle.cwr_values.specs.declared.items.Item.{Item}
use Rattle.cwr_values.specs.Format.Values.{symbol_of}
use Rattle.cwr_values.specs.Format.Begins.{rows_so_far}
use Rattle.cwr_decode.specs.declared.outcomes.Outcome.{Outcome}
use Rattle.cwr_decode.specs.declared.outcomes.Outcome.TheVariants as outcomes
use Rattle.cwr_decode.specs.declared.machine.State.{State}
use Rattle.cwr_decode.specs.declared.machine.State.TheVariants.{Reading, Pending, Ended, Refused, Truncated, Memory}
use Rattle.cwr_judge.specs.declared.refusals.Refusal.{Refusal}
use Rattle.cwr_judge.specs.Steps.Judged.{IsOfNone, IsFirstFault}
use Rattle.cwr_decode.specs.declared.endings.End.{End}
use Rattle.cwr_decode.specs.Format.Headline.{IsEndOf, outcome_end}
use Rattle.cwr_decode.specs.Steps.Machines.{Standing, IsReady, held_of}
use Rattle.cwr_judge.specs.Steps.Open.{items_so_far, open_of, continues_open, ended_transaction}

-- the lines, each with its line feed
abbrev pub text_of : List (List ℕ) → List ℕ
text_of lines = flat_map (λ line. line ++ 10 ∷ []) lines

-- the input so far is the text; once it has ended, it is the text but for a line feed at its end
abbrev pub IsInput : Bool → List ℕ → List ℕ → Type 0
IsInput false input text = input ≡ text
IsInput true input text = closed input ≡ text

-- The lines were accepted as those of the records: a transmission begins with these, none of its limits is passed at
-- any of them, and each line is that of its record's row.
pub record AreAccepted (tally : TallyValue) (lines : List (List ℕ)) (records : List RecordValue) : Type 0 where
  pub counted : tallies.IsTallyOf tally (map symbol_of records)
  pub in_order : AllByRecursion IsRecord records
  pub rows : AllZip IsLineOf (rows_so_far records) lines
  pub within : (front rest : List Symbol) → map symbol_of records ≡ front ++ rest → passed_limit tally.limits front ≡ None

-- all lines of the input were accepted, and the bytes after them are those of the line that is read
pub record IsReading (d : Standing) (input : List ℕ) (given : List Item) : Type 0 where
  pub lines : List (List ℕ)
  pub records : List RecordValue
  pub read : AreAccepted d.tally lines records
  pub left : ¬ IsWhole (map symbol_of records)
  pub split : IsInput d.finished input (text_of lines ++ d.line.bytes)
  pub open_line : d.line.ended ≡ line_ends.Open
  pub line : IsHeld d.line
  pub held : d.held ≡ held_of (open_of records)
  pub given_are : given ≡ items_so_far records

-- the line of the last record waits, as it was read: the transaction that it ends was handed out
pub record IsPending (d : Standing) (input : List ℕ) (given : List Item) : Type 0 where
  pub lines : List (List ℕ)
  pub earlier : List (List ℕ)
  pub waits : lines ≡ earlier ++ d.line.bytes ∷ []
  pub records : List RecordValue
  pub last : RecordValue
  pub read : AreAccepted d.tally lines (records ++ last ∷ [])
  pub split : IsInput d.finished input (text_of lines)
  pub ends : continues_open (map symbol_of records) (symbol_of last) ≡ false
  pub line : held_record d.line ≡ Some last
  pub held : d.held ≡ None
  pub given_are : given ≡ items_so_far records ++ ended_transaction (open_of records)

-- all lines of the input were accepted, all their items were handed out, and nothing is held
pub record IsThrough (d : Standing) (input : List ℕ) (given : List Item) : Type 0 where
  pub lines : List (List ℕ)
  pub records : List RecordValue
  pub read : AreAccepted d.tally lines records
  pub split : IsInput d.finished input (text_of lines)
  pub empty : d.line.bytes ≡ []
  pub nothing : d.held ≡ None
  pub given_are : given ≡ items_so_far records

-- the last record stands in a transaction, and found no memory there: the list of those before it asked for some
pub record IsOutOfMemory (d : Standing) (input : List ℕ) (given : List Item) : Type 0 where
  pub through : IsThrough d input given
  pub inside : IsTrue (tallies_there.has_open_transaction (scope_after (map symbol_of through.records)))
  pub earlier : List RecordValue
  pub last : RecordValue
  pub opened : open_of through.records ≡ earlier ++ last ∷ []
  pub asked : AsksMemory earlier last

-- the records of all lines are those of a whole transmission
pub record IsEnded (d : Standing) (input : List ℕ) (given : List Item) : Type 0 where
  pub through : IsThrough d input given
  pub whole : IsWhole (map symbol_of through.records)

-- the input has ended, and the records of all its lines aren't a whole transmission
pub record EndsTooEarly (d : Standing) (input : List ℕ) (given : List Item) (count : ℕ) : Type 0 where
  pub through : IsThrough d input given
  pub input_ended : d.finished ≡ true
  pub left : ¬ IsWhole (map symbol_of through.records)
  pub counted : count ≡ length through.records

-- The line after the accepted ones is that of no record that may come next, and of it nothing is held. Once the input has ended,
-- that line may have ended with it.
pub record IsStopped (d : Standing) (input : List ℕ) (given : List Item) (refusal : Refusal) : Type 0 where
  pub lines : List (List ℕ)
  pub records : List RecordValue
  pub read : AreAccepted d.tally lines records
  pub left : ¬ IsWhole (map symbol_of records)
  pub line : HeldLine
  pub ended : line.ended ≢ line_ends.Open
  pub is_held : IsHeld line
  pub input_ended : Bool
  pub late : input_ended ≡ true → d.finished ≡ true
  pub split : IsInput input_ended input (text_of lines ++ held_text line)
  pub none : IsOfNone d.tally.limits (map symbol_of records) line
  pub first : IsFirstFault d.tally.limits (map symbol_of records) line refusal.field refusal.reason
  pub number : refusal.rec ≡ length records + 1
  pub level : refusal.level ≡ level_of (held_kind line) refusal.field refusal.reason (scope_after (map symbol_of records))
  pub empty : d.line.bytes ≡ []
  pub held : d.held ≡ held_of (open_of records)
  pub given_are : given ≡ items_so_far records

abbrev pub RepresentsIn : State → Standing → List ℕ → List Item → Type 0
RepresentsIn Reading d input given = IsReading d input given
RepresentsIn Pending d input given = IsPending d input given
RepresentsIn Ended d input given = IsEnded d input given
RepresentsIn (Refused refusal) d input given = IsStopped d input given refusal
RepresentsIn (Truncated count) d input given = EndsTooEarly d input given count
RepresentsIn Memory d input given = IsOutOfMemory d input given

-- the decoder represents the input so far and the items that were handed out
pub record Represents (d : Standing) (input : List ℕ) (given : List Item) : Type 0 where
  pub in_range : AreInRange d.tally.limits
  pub here : RepresentsIn d.state d input given

-- the decoder represents some input and some items
pub record RepresentsSome (d : Standing) : Type 0 where
  pub input : List ℕ
  pub given : List Item
  pub stands : Represents d input given

-- what a decoder is at each time
pub record IsSound (d : Standing) : Type 0 where
  pub ready : IsReady d.state d.finished d.line
  pub under_way : RepresentsSome d

-- ---- what an answer says of the input

-- the item of an answer
abbrev pub items_out : Outcome → List Item
items_out outcomes.More = []
items_out (outcomes.Item item) = item ∷ []
items_out (outcomes.Refused refusal) = []
items_out (outcomes.Truncated records) = []
items_out outcomes.Memory = []
items_out outcomes.Done = []

abbrev pub items_in : Option Outcome → List Item
items_in None = []
items_in (Some outcome) = items_out outcome

-- once the input has ended, nothing continues from it
abbrev pub MayFollow : Bool → List ℕ → Type 0
MayFollow false more = Unit {0}
MayFollow true more = more ≡ []

-- however the input continues, it has the end that is reported
abbrev pub IsEndAlways : LimitValues → Bool → List ℕ → List Item → Option End → Type 0
IsEndAlways limits input_ended seen given reported =
    (more : List ℕ) → MayFollow input_ended more → IsEndOf limits (seen ++ more) given reported

-- the bytes end with a line feed
abbrev pub EndsInLf : List ℕ → Type 0
EndsInLf used = (front : List ℕ) × (used ≡ front ++ 10 ∷ [])

-- The line is too long: the used bytes end with as many bytes as a line has at most, none of them a line feed, and the next
-- byte, which is seen and isn't used, is no line feed.
pub record GoesTooFar (used seen : List ℕ) : Type 0 where
  pub front : List ℕ
  pub line : List ℕ
  pub next : ℕ
  pub rest : List ℕ
  pub split : used ≡ front ++ line
  pub longest : length line ≡ longest_line
  pub no_lf : IsFalse (list_any is_lf line)
  pub more : seen ≡ used ++ next ∷ rest
  pub other : next ≢ 10

-- A line ends with the used bytes: by its line feed, or before a byte too many. The end of the input ends it too.
abbrev pub EndsLine : Bool → List ℕ → List ℕ → Type 0
EndsLine false used seen = EndsInLf used ⊎ GoesTooFar used seen
EndsLine true used seen = Unit {0}

-- Where an answer comes: `More` once all that was seen is used, a refusal where a line ends, and the end of a truncated input
-- once the input has ended. `Done` comes only after `Ended`.
abbrev pub ComesAt : Outcome → Bool → List ℕ → List ℕ → Type 0
ComesAt outcomes.More input_ended used seen = (input_ended ≡ false) × (used ≡ seen)
ComesAt (outcomes.Refused refusal) input_ended used seen = EndsLine input_ended used seen
ComesAt (outcomes.Truncated records) input_ended used seen = input_ended ≡ true
ComesAt outcomes.Done input_ended used seen = ⊥
ComesAt outcome input_ended used seen = Unit {0}

-- an answer is right of the input, of which these bytes were used, and these were seen
pub record IsRight (limits : LimitValues) (outcome : Outcome) (input_ended : Bool) (used seen : List ℕ) (given : List Item) : Type
    0 where
  pub ends : IsEndAlways limits input_ended seen given (outcome_end (length used) outcome)
  pub comes : ComesAt outcome input_ended used seen
