-- What is said of a number that isn't the one that belongs there: what is missing or stands twice, or which count wasn't changed.
use Rattle.std.specs.Prelude.{ℕ, ◌-◌, ◌==◌, ◌&&◌, not, nat_lt, min, Bool, true, false, List, [], ◌∷◌, ◌++◌, codes, decimal, length}
use Rattle.std.specs.Prelude.{drop, take, Option, None, Some, if◌then◌else◌}
use Rattle.std.specs.List.{concat}
use Rattle.std.specs.Str.{bytes_eq}
use Rattle.std.specs.Option.{option_and_then, option_map, option_or}
use Rattle.cwr_causes.specs.Format.RefusedWorks.{is_after_header}
use Rattle.cwr_causes.specs.Format.Sequences.{sequence_in, start_of_sequence}
use Rattle.cwr_fields.specs.declared.kinds.Kind.{Kind}
use Rattle.cwr_fields.specs.declared.kinds.Kind.TheVariants.{Agr, Nwr, Rev, Ack, Msg, Grh, Grt, Trl}
use Rattle.cwr_causes.specs.declared.ahead.Ahead.{Ahead}
use Rattle.cwr_causes.specs.declared.sequences.Sequences.{Sequences}
use Rattle.cwr_causes.specs.declared.wrong_numbers.Names.{Names}
use Rattle.cwr_causes.specs.declared.wrong_numbers.Numbered.{Numbered}
use Rattle.cwr_causes.specs.declared.wrong_numbers.WrongNumber.{WrongNumber}
use Rattle.cwr_causes.specs.Format.Texts.{label_words}
use Rattle.cwr_causes.specs.declared.wrong_numbers.Numbered.TheVariants as numbered

-- ---- what is numbered one by one

-- what is numbered, as one and as several, and what its number is called
pub record Naming : Type 0 where
  pub one : List ℕ
  pub several : List ℕ
  pub number : List ℕ

-- as its names are kept
abbrev pub naming_of : Names → Naming
naming_of names = record { one = names.one.now; several = names.several.now; number = names.number.now }

unfoldable pub naming : Numbered → Naming
naming numbered.Record = record { one = codes "record"; several = codes "records"; number = codes "sequence" }
naming numbered.Transaction =
    record { one = codes "transaction"; several = codes "transactions"; number = codes "sequence" }
naming numbered.Group = record { one = codes "group"; several = codes "groups"; number = codes "ID" }

-- that two numbers stand beside each other
abbrev pub beside_words : Naming → Option ℕ → Option ℕ → List ℕ
beside_words what (Some before) (Some here) =
    concat (what.several ∷ codes " " ∷ decimal before ∷ codes " and " ∷ decimal here ∷ codes " stand beside each other: " ∷ [])
beside_words what before here = []

-- the number is the one
abbrev pub is_number : Option ℕ → ℕ → Bool
is_number (Some m) n = m == n
is_number None n = false

-- the number that belongs here is the first one after it
abbrev pub stands_after : Option Ahead → ℕ → Bool
stands_after (Some ahead) expected = is_number ahead.first expected
stands_after None expected = false

-- what is added where nothing after it was looked at
abbrev pub unless_seen : Option Ahead → List ℕ → List ℕ
unless_seen None words = words
unless_seen (Some ahead) words = []

-- that one changed places with the one after it
unfoldable pub swapped_words : Naming → ℕ → List ℕ
swapped_words what expected =
    concat
    (codes "the " ∷ what.one ∷ codes " with " ∷ what.number ∷ codes " " ∷ decimal expected
    ∷ codes " stands after this line: the two changed places" ∷ [])

-- that one is missing
unfoldable pub one_missing_words : Naming → ℕ → List ℕ
one_missing_words what expected =
    concat
    (codes "the " ∷ what.one ∷ codes " with " ∷ what.number ∷ codes " " ∷ decimal expected
    ∷ codes " is missing before this line, or stands elsewhere" ∷ [])

-- that some are missing, up to the last
unfoldable pub some_missing_words : Naming → ℕ → ℕ → List ℕ
some_missing_words what expected last =
    concat
    (codes "the " ∷ what.several ∷ codes " with " ∷ what.number ∷ codes " " ∷ decimal expected ∷ codes " to " ∷ decimal last
    ∷ codes " are missing before this line, or stand elsewhere" ∷ [])

-- where the missing ones are
unfoldable pub place_words : Naming → ℕ → ℕ → Option Ahead → List ℕ
place_words what found expected after =
    if stands_after after expected then swapped_words what expected
    else (if found - 1 == expected then one_missing_words what expected
    else some_missing_words what expected (found - 1) ++ unless_seen after (codes ", or the number is mistyped"))

-- which ones are missing between the one before and this one
unfoldable pub missing_words : Naming → Sequences → ℕ → ℕ → Option Ahead → List ℕ
missing_words what neighbours found expected after =
    beside_words what neighbours.before neighbours.here ++ place_words what found expected after

-- that it is too low after other faults: the lines with these may be those that are numbered wrong
unfoldable pub later_used_words : Naming → ℕ → List ℕ
later_used_words what expected =
    concat
    (codes "by the lines before it, of which some have faults, " ∷ decimal expected ∷ codes " belongs here: mend those first, and look again; else " ∷ what.several
    ∷ codes " stand twice or elsewhere, or only the number is wrong" ∷ [])

-- that the number was used before
unfoldable pub used_words : Naming → ℕ → ℕ → List ℕ
used_words what found expected =
    if expected - found == 1 then concat
    (codes "this " ∷ what.one ∷ codes " has the number of the one before: it stands twice, or another one was put in, or two files were put together, or only the number is wrong" ∷ [])
    else concat
    (decimal (expected - found) ∷ codes " " ∷ what.several ∷ codes " before, this number was used: " ∷ what.several
    ∷ codes " stand twice or elsewhere, or two files were put together, or only the number is wrong" ∷ [])

-- ---- how the numbers go on

-- which numbers are shifted
unfoldable pub shifted_words : Naming → ℕ → List ℕ
shifted_words what count =
    if count == 1 then concat (codes "; this number and that of the " ∷ what.one ∷ codes " after it are " ∷ [])
    else concat
    (codes "; this number and those of the " ∷ decimal count ∷ codes " " ∷ what.several ∷ codes " after it are " ∷ [])

-- by how much they are higher, and what was taken out after that line
unfoldable pub taken_out_words : Naming → ℕ → ℕ → List ℕ
taken_out_words what higher line =
    if higher == 1 then concat (codes "1 higher: the " ∷ what.one ∷ codes " after line " ∷ decimal line ∷ codes " was taken out or stands elsewhere, or, where the counts of GRT and TRL fit, only its number may have been skipped" ∷ [])
    else concat
    (decimal higher ∷ codes " higher: the " ∷ what.several ∷ codes " after line " ∷ decimal line ∷ codes " were taken out or stand elsewhere, or, where the counts of GRT and TRL fit, only numbers may have been skipped" ∷ [])

-- by how much they are higher or lower on the line of that number
unfoldable pub amount_words : Naming → ℕ → ℕ → ℕ → List ℕ
amount_words what found expected line =
    if nat_lt expected found then taken_out_words what (found - expected) (line - 1)
    else decimal (expected - found) ++ codes " lower"

-- the first number after it is one more
abbrev pub is_one_more : Option ℕ → ℕ → Bool
is_one_more None n = false
is_one_more (Some m) n = nat_lt n m && (m - n == 1)

-- that they don't go on from it, or not all of them
unfoldable pub breaking_words : Naming → ℕ → Ahead → List ℕ
breaking_words what found ahead =
    if is_one_more ahead.first found then concat
    (codes "; the " ∷ what.several ∷ codes " after it go on from this number, but not all: what is missing may stand behind those" ∷ [])
    else concat
    (codes "; the " ∷ what.several ∷ codes " after it don't go on from this number, so it may be the one that is wrong" ∷ [])

-- how the numbers after a wrong one go on
unfoldable pub ahead_words : Naming → ℕ → ℕ → ℕ → Ahead → List ℕ
ahead_words what found expected line ahead =
    if ahead.count == 0 then []
    else (if ahead.goes_on then shifted_words what ahead.count ++ amount_words what found expected line
    else breaking_words what found ahead)

-- the same where they were looked at, and where it isn't said that two changed places
abbrev pub going_on_words : Naming → ℕ → ℕ → ℕ → Option Ahead → List ℕ
going_on_words what found expected line None = []
going_on_words what found expected line (Some ahead) =
    if nat_lt expected found && is_number ahead.first expected then [] else ahead_words what found expected line ahead

-- that the number is too low
abbrev pub low_words : Naming → Bool → ℕ → ℕ → List ℕ
low_words what is_later found expected =
    if is_later then later_used_words what expected else used_words what found expected

-- what is missing, or that the number is too low
abbrev pub reason_words : Naming → Bool → Sequences → ℕ → ℕ → Option Ahead → List ℕ
reason_words what is_later neighbours found expected after =
    if nat_lt expected found then missing_words what neighbours found expected after else low_words what is_later found expected

-- what a number points to that is one more with each of what it numbers
unfoldable pub order_words : Naming → Bool → Sequences → ℕ → ℕ → ℕ → Option Ahead → List ℕ
order_words what is_later neighbours found expected line after =
    reason_words what is_later neighbours found expected after ++ going_on_words what found expected line after

-- ---- counts

-- by how much a count is wrong
unfoldable pub difference_words : ℕ → ℕ → List ℕ
difference_words found expected =
    if nat_lt expected found
    then decimal (found - expected) ++ codes " missing, or the count is mistyped or wasn't changed when some were taken out"
    else decimal (expected - found) ++ codes " too many, or the count is mistyped or wasn't changed when some were put in"

-- the end of what is counted, where there are so many
abbrev pub plural : ℕ → List ℕ
plural n = if n == 1 then [] else codes "s"

-- what a count points to: that of some in the whole
unfoldable pub first_count_words : List ℕ → List ℕ → ℕ → ℕ → List ℕ
first_count_words whole counted found expected =
    concat
    (codes "the " ∷ whole ∷ codes " has " ∷ decimal expected ∷ codes " " ∷ counted ∷ plural expected ∷ codes " and says " ∷ decimal found
    ∷ codes ": " ∷ [])
    ++ difference_words found expected

-- the same after other faults: a line that has one may be none of those that are counted
unfoldable pub later_count_words : List ℕ → List ℕ → ℕ → ℕ → List ℕ
later_count_words whole counted found expected =
    concat
    (codes "by the lines before it, of which some have faults, the " ∷ whole ∷ codes " has " ∷ decimal expected ∷ codes " " ∷ counted ∷ plural expected
    ∷ codes " and says " ∷ decimal found ∷ codes ": mend those first, and look again" ∷ [])

-- ---- the sequences of lines

-- the one before a number
abbrev pub one_before : ℕ → Option ℕ
one_before n = if n == 0 then None else Some (n - 1)

-- the sequence of the line before, where that is held and has one, and else the number before the one that belongs here
abbrev pub number_before : ℕ → ℕ → Option (List ℕ) → Option ℕ
number_before start expected before = option_or (option_and_then (sequence_in start) before) (one_before expected)

-- The two numbers that stand beside each other: the sequences of the line before and of this one, or the IDs of two groups. There is
-- no group before the first.
abbrev pub neighbours_of : Kind → ℕ → ℕ → ℕ → List ℕ → Option (List ℕ) → Sequences
neighbours_of Grh field found expected line before =
    record { before = if nat_lt 1 expected then Some (expected - 1) else None; here = Some found }
neighbours_of this_kind field found expected line before =
    record {
      before = number_before (start_of_sequence field) expected before;
      here = sequence_in (start_of_sequence field) line;
    }

-- but for what stands in bytes 4 to 19, where the sequences are, the lines are the same
abbrev pub is_same_line : List ℕ → List ℕ → Bool
is_same_line line before =
    let from = min (min 19 (length line)) (length before) in
    bytes_eq (drop from line) (drop from before) && bytes_eq (take (min 3 from) line) (take (min 3 from) before)

-- whether the line is the one before but for its sequences, where that is known
abbrev pub comparison_words : List ℕ → Option (List ℕ) → List ℕ
comparison_words line None = []
comparison_words line (Some before) =
    if is_same_line line before then codes "; but for the numbers both lines are the same"
    else codes "; the two lines aren't the same"

-- ---- the number that isn't the one that belongs there

-- the record is one that heads transactions
abbrev pub is_header : Kind → Bool
is_header Agr = true
is_header Nwr = true
is_header Rev = true
is_header Ack = true
is_header this_kind = false

-- A number that isn't the one that belongs there: the kind of its record, its field, what stands there, what belongs there, the
-- number of its line, that line, the line before where it is held, how the numbers after it go on where they were looked at, and whether
-- there are faults in the lines before it.
pub record WrongValue : Type 0 where
  pub kind : Kind
  pub field : ℕ
  pub found : ℕ
  pub expected : ℕ
  pub number : ℕ
  pub line : List ℕ
  pub before : Option (List ℕ)
  pub ahead : Option Ahead
  pub is_later : Bool

abbrev pub wrong_value : WrongNumber → WrongValue
wrong_value wrong =
    record {
      kind = wrong.kind;
      field = wrong.field;
      found = wrong.found;
      expected = wrong.expected;
      number = wrong.number;
      line = wrong.line.now;
      before = option_map (λ b. b.now) wrong.before;
      ahead = wrong.ahead;
      is_later = wrong.is_later;
    }

-- it heads its transaction: one that begins the copy in an acknowledgement is a further record of that
abbrev pub heads : WrongValue → Bool
heads wrong = is_header wrong.kind && not (is_after_header (sequence_in 11 wrong.line))

abbrev pub neighbours_at : WrongValue → Sequences
neighbours_at wrong = neighbours_of wrong.kind wrong.field wrong.found wrong.expected wrong.line wrong.before

-- what it points to where it is one more with each of what it numbers
unfoldable pub in_order_words : Numbered → WrongValue → List ℕ
in_order_words what wrong =
    order_words (naming what) wrong.is_later (neighbours_at wrong) wrong.found wrong.expected wrong.number wrong.ahead

-- how the line compares where its number is one less than the one that belongs here
abbrev pub repeated_words : WrongValue → List ℕ
repeated_words wrong =
    if wrong.expected - wrong.found == 1 then comparison_words wrong.line wrong.before else []

-- what the sequence of a record points to
unfoldable pub record_words : WrongValue → List ℕ
record_words wrong =
    if is_header wrong.kind && (wrong.expected == 0)
    then codes "the header of a transaction is its first record, which has sequence 0; if all are numbered so, and none is missing: cwr renumber --new FILE OUT"
    else (if is_header wrong.kind && (wrong.found == 0)
    then codes "this header begins the copy in an acknowledgement, whose records are numbered on from those of the ACK, and not from 0; if none is missing: cwr renumber --new FILE OUT"
    else in_order_words numbered.Record wrong ++ repeated_words wrong)

-- what a transaction sequence points to that isn't its header's
unfoldable pub first_header_words : ℕ → ℕ → List ℕ
first_header_words found expected =
    concat
    (codes "the header of this transaction has sequence " ∷ decimal expected ∷ codes ", and the record " ∷ decimal found
    ∷ codes ": it belongs to another one, or a header is missing before it or stands after it, or the number is mistyped, or bytes were lost in this line" ∷ [])

-- the same after other faults: the header may be one of the lines that couldn't be read
unfoldable pub later_header_words : ℕ → ℕ → List ℕ
later_header_words found expected =
    concat
    (codes "by the lines before it this record is of transaction " ∷ decimal expected ∷ codes ", and it says " ∷ decimal found
    ∷ codes ": if a line before it is at fault, mend that first; else it belongs to another transaction, or a header is missing before it or stands after it, or the number is mistyped" ∷ [])

-- of which a message's number may come that is too high
abbrev pub message_words : Kind → Bool → List ℕ
message_words Msg true = codes "; an MSG has the transaction sequence of its ACK, and isn't counted itself"
message_words this_kind is_higher = []

abbrev pub header_words : WrongValue → List ℕ
header_words wrong =
    (if wrong.is_later then later_header_words wrong.found wrong.expected
    else first_header_words wrong.found wrong.expected)
    ++ message_words wrong.kind (nat_lt wrong.expected wrong.found)

-- what the sequence of a transaction points to
abbrev pub transaction_words : WrongValue → List ℕ
transaction_words wrong =
    if heads wrong then in_order_words numbered.Transaction wrong else header_words wrong

-- what a count points to: that of some in the whole
abbrev pub count_words : WrongValue → List ℕ → List ℕ → List ℕ
count_words wrong whole counted =
    if wrong.is_later then later_count_words whole counted wrong.found wrong.expected
    else first_count_words whole counted wrong.found wrong.expected

-- which works stand twice, where some are too many
abbrev pub twice_words : Bool → List ℕ
twice_words true = codes "; cwr advise --repeated 100000 FILE tells works that stand twice"
twice_words false = []

-- what the count of the transactions of the whole points to
abbrev pub transactions_words : WrongValue → List ℕ → List ℕ
transactions_words wrong whole =
    count_words wrong whole (codes "transaction") ++ twice_words (nat_lt wrong.found wrong.expected && not wrong.is_later)

-- that GRH and GRT themselves weren't counted, where so many are too many
abbrev pub uncounted_words : ℕ → List ℕ
uncounted_words more = if more == 2 then codes ", or GRH and GRT weren't counted" else []

-- what the count of a group's records points to
abbrev pub group_records_words : WrongValue → List ℕ
group_records_words wrong =
    count_words wrong (codes "group") (codes "record")
    ++ (if wrong.is_later then [] else uncounted_words (wrong.expected - wrong.found))

-- what a group ID in GRT points to that isn't GRH's
unfoldable pub first_id_words : ℕ → ℕ → List ℕ
first_id_words found expected =
    concat
    (codes "the group's GRH has ID " ∷ decimal expected ∷ codes ", and its GRT " ∷ decimal found
    ∷ codes ": a GRT and a GRH are missing between, or one was put in the other's place" ∷ [])

-- the same after other faults: the GRH may be one of the lines that couldn't be read
unfoldable pub later_id_words : ℕ → ℕ → List ℕ
later_id_words found expected =
    concat
    (codes "the last GRH that could be read has ID " ∷ decimal expected ∷ codes ", and this GRT " ∷ decimal found
    ∷ codes ": if a GRH before it is at fault, mend that first; else a GRT and a GRH are missing between, or one was put in the other's place" ∷ [])

abbrev pub id_words : WrongValue → List ℕ
id_words wrong =
    if wrong.is_later then later_id_words wrong.found wrong.expected else first_id_words wrong.found wrong.expected

-- what the number of a group's GRT points to
abbrev pub foot_words : WrongValue → List ℕ
foot_words wrong =
    if wrong.field == 2 then id_words wrong
    else (if wrong.field == 3 then transactions_words wrong (codes "group") else group_records_words wrong)

-- that HDR and TRL themselves weren't counted, where so many are too many
abbrev pub uncounted_ends : ℕ → List ℕ
uncounted_ends more = if more == 2 then codes ", or HDR and TRL weren't counted" else []

-- what the count of the file's records points to
abbrev pub file_records_words : WrongValue → List ℕ
file_records_words wrong =
    count_words wrong (codes "file") (codes "record")
    ++ (if wrong.is_later then [] else uncounted_ends (wrong.expected - wrong.found))

-- what a number of the trailer points to
abbrev pub trailer_words : WrongValue → List ℕ
trailer_words wrong =
    if wrong.field == 2 then count_words wrong (codes "file") (codes "group")
    else (if wrong.field == 3 then transactions_words wrong (codes "file") else file_records_words wrong)

-- what a sequence points to
unfoldable pub sequence_words : WrongValue → List ℕ
sequence_words wrong = if wrong.field == 2 then transaction_words wrong else record_words wrong

-- what a number of a record of the kind points to
abbrev pub meaning_words : Kind → WrongValue → List ℕ
meaning_words Grh wrong = in_order_words numbered.Group wrong
meaning_words Grt wrong = foot_words wrong
meaning_words Trl wrong = trailer_words wrong
meaning_words this_kind wrong = sequence_words wrong

-- ---- what helps where records were taken out on purpose

-- the field is a number that is then higher than it should be
abbrev pub counts_on : Kind → WrongValue → Bool
counts_on Grh wrong = true
counts_on Grt wrong = not (wrong.field == 2)
counts_on Trl wrong = true
counts_on this_kind wrong = if heads wrong then wrong.field == 2 else wrong.field == 3

-- the record closes a group or the file: its numbers are counts
abbrev pub is_closing : Kind → Bool
is_closing Grt = true
is_closing Trl = true
is_closing this_kind = false

-- Something may have been taken out before it: the number is higher, the one that belongs here doesn't stand after it, and it is no count
-- in which lines that couldn't be read are missing.
abbrev pub may_be_cut : WrongValue → Bool
may_be_cut wrong =
    nat_lt wrong.expected wrong.found
    && (counts_on wrong.kind wrong
    && (not (stands_after wrong.ahead wrong.expected) && not (wrong.is_later && is_closing wrong.kind)))

-- it is the first transaction of a group
abbrev pub begins_group : WrongValue → Bool
begins_group wrong = heads wrong && ((wrong.field == 2) && (wrong.expected == 0))

-- what else than a cut the first transaction of a group with that number may come of
abbrev pub first_number_words : ℕ → List ℕ
first_number_words found =
    if found == 1 then codes "; if you took it out on purpose, or the file counts from 1: cwr renumber --new FILE OUT"
    else codes "; if you took it out on purpose, or sequences go on from group to group: cwr renumber --new FILE OUT"

-- what it may come of else where faults stand before it
abbrev pub later_purpose_words : Bool → List ℕ
later_purpose_words true =
    codes "; or sequences go on from group to group, or what is missing stands in a line with a fault before this one: mend those first, and look again"
later_purpose_words false =
    codes "; or what is missing stands in a line with a fault before this one: mend those first, and look again"

-- what is said of a cut on purpose: where faults stand before it, what it comes of isn't known yet
abbrev pub purpose_words : WrongValue → List ℕ
purpose_words wrong =
    if may_be_cut wrong then (if wrong.is_later then later_purpose_words (begins_group wrong)
    else (if begins_group wrong then first_number_words wrong.found
    else codes "; if you took it out on purpose: cwr renumber --new FILE OUT")) else []

-- the line that says what the number points to
unfoldable pub points_words : WrongValue → List ℕ
points_words wrong =
    concat (label_words (codes "points to") ∷ meaning_words wrong.kind wrong ∷ purpose_words wrong ∷ codes "\n" ∷ [])
