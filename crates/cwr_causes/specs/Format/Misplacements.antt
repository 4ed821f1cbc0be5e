-- What a misplaced line and the line before it show by their sequences: what is missing between them, or that one stands elsewhere.
use Rattle.std.specs.Prelude.{ℕ, ◌+◌, ◌-◌, ◌==◌, ◌&&◌, ◌||◌, nat_lt, Bool, false, List, Option, None, Some, if◌then◌else◌}
use Rattle.cwr_fields.specs.declared.kinds.Kind.{Kind}
use Rattle.cwr_fields.specs.declared.kinds.Kind.TheVariants.{Hdr, Grh, Grt, Trl}
use Rattle.cwr_shape.specs.declared.stages.Stage.{Stage}
use Rattle.cwr_shape.specs.declared.stages.Stage.TheVariants.{Start, Opened, Within, Closed, Ended}
use Rattle.cwr_shape.specs.declared.stages.TransactionStep.TheVariants.{InGroup}
use Rattle.cwr_causes.specs.declared.misplacements.Gap.TheVariants as gaps
use Rattle.cwr_causes.specs.declared.misplacements.Misplacement.{Misplacement}
use Rattle.cwr_causes.specs.declared.misplacements.Misplacement.TheVariants.{Missing, SecondFile, Moved, GoesOn, HeaderNumber, Unknown}
use Rattle.cwr_causes.specs.declared.sequences.RecordNumbers.{RecordNumbers}
use Rattle.cwr_causes.specs.Format.NumbersAfter.{is_outside}
use Rattle.cwr_causes.specs.Format.Refusals.{first_kind}
use Rattle.cwr_causes.specs.Format.Sequences.{sequence_in}
use Rattle.cwr_causes.specs.Format.WrongNumbers.{is_header}

-- ---- the sequences of a line

abbrev pub numbers_by : Option ℕ → Option ℕ → Option RecordNumbers
numbers_by (Some transaction) (Some own) = Some (record { transaction = transaction; own = own })
numbers_by transaction own = None

-- that of its transaction and its own, where both stand in the line
abbrev pub numbers_in : List ℕ → Option RecordNumbers
numbers_in line = numbers_by (sequence_in 3 line) (sequence_in 11 line)

-- the same of a line of that kind: one that stands in no transaction has none
abbrev pub numbers_of : Option Kind → List ℕ → Option RecordNumbers
numbers_of this_kind line = if is_outside this_kind then None else numbers_in line

-- those of the line before, where that is held
abbrev pub numbers_before : Option (List ℕ) → Option RecordNumbers
numbers_before None = None
numbers_before (Some line) = numbers_of (first_kind line) line

-- they are those of a group's first header
abbrev pub is_first : Option RecordNumbers → Bool
is_first None = false
is_first (Some here) = (here.transaction == 0) && (here.own == 0)

-- ---- a line after records that have come to a stage

-- With these sequences a line begins no transaction, after a line of another one: the header is missing, and the records after that up
-- to this one.
abbrev pub front_missing : Option RecordNumbers → Misplacement
front_missing None = Unknown
front_missing (Some here) =
    if here.own == 0 then HeaderNumber
    else (if here.own == 1 then Missing (gaps.Header here.transaction)
    else Missing (gaps.Front here.transaction (here.own - 1)))

-- after another line of the same transaction
abbrev pub in_same : RecordNumbers → RecordNumbers → Misplacement
in_same before here =
    if nat_lt before.own here.own
    then (if here.own - before.own == 1 then GoesOn else Missing (gaps.Records (before.own + 1) (here.own - 1)))
    else Moved before here

-- the header of a further transaction
abbrev pub next_header : RecordNumbers → RecordNumbers → Misplacement
next_header before here = if here.transaction == before.transaction then Moved before here else Missing gaps.End

-- after a line of a transaction: a line that is a header, or isn't
abbrev pub between : Bool → RecordNumbers → RecordNumbers → Misplacement
between header before here =
    if nat_lt here.transaction before.transaction then Moved before here
    else (if header && (here.own == 0) then next_header before here
    else (if here.transaction == before.transaction then in_same before here else front_missing (Some here)))

-- the same where both lines have sequences
abbrev pub by_numbers : Bool → Option RecordNumbers → Option RecordNumbers → Misplacement
by_numbers header (Some before) (Some here) = between header before here
by_numbers header before here = Unknown

-- after HDR or GRT
abbrev pub outside_group : Kind → Option RecordNumbers → Misplacement
outside_group Hdr here = SecondFile
outside_group Trl here = Missing gaps.Groups
outside_group this_kind here =
    if is_header this_kind && is_first here then Missing gaps.GroupHead else Missing gaps.GroupFront

-- after GRH
abbrev pub after_group_head : Kind → Option RecordNumbers → Misplacement
after_group_head Hdr here = SecondFile
after_group_head Grh here = Missing gaps.Transactions
after_group_head Grt here = Missing gaps.Transactions
after_group_head Trl here = Missing gaps.Transactions
after_group_head this_kind here = front_missing here

-- what must stand before the next group or the trailer, where GRT may come or not
abbrev pub foot_missing : Bool → Misplacement
foot_missing closes = if closes then Missing gaps.GroupFoot else Missing gaps.End

-- in a transaction
abbrev pub inside : Kind → Option RecordNumbers → Option RecordNumbers → Bool → Misplacement
inside Hdr before here closes = SecondFile
inside Grt before here closes = Missing gaps.End
inside Grh before here closes = foot_missing closes
inside Trl before here closes = foot_missing closes
inside this_kind before here closes = by_numbers (is_header this_kind) before here

-- What a misplaced line of the kind shows where the records before have come to that stage, at which GRT may come or not: by the
-- sequences of the line before and its own.
abbrev pub misplacement_at : Stage → Kind → Option RecordNumbers → Option RecordNumbers → Bool → Misplacement
misplacement_at Start this_kind before here closes = Missing gaps.FileHead
misplacement_at Opened this_kind before here closes = outside_group this_kind here
misplacement_at Closed this_kind before here closes = outside_group this_kind here
misplacement_at Ended this_kind before here closes = Unknown
misplacement_at (Within ty InGroup) this_kind before here closes = after_group_head this_kind here
misplacement_at (Within ty step) this_kind before here closes = inside this_kind before here closes

-- the same where the stage isn't known
abbrev pub second_file_if : Kind → Misplacement
second_file_if Hdr = SecondFile
second_file_if this_kind = Unknown

abbrev pub misplacement_of : Option Stage → Kind → Option RecordNumbers → Option RecordNumbers → Bool → Misplacement
misplacement_of None this_kind before here closes = second_file_if this_kind
misplacement_of (Some stage) this_kind before here closes = misplacement_at stage this_kind before here closes

-- ---- a line that names no record

-- these are the sequences of the next record, or of the next header
abbrev pub goes_on_from : RecordNumbers → RecordNumbers → Bool
goes_on_from before here =
    ((here.transaction == before.transaction) && (here.own - before.own == 1))
    || ((here.transaction - before.transaction == 1) && (here.own == 0))

abbrev pub go_on_from : Option RecordNumbers → Option RecordNumbers → Bool
go_on_from (Some before) (Some here) = goes_on_from before here
go_on_from before here = false

-- the sequences of the line are those that belong at that stage
abbrev pub belongs : Option Stage → Option RecordNumbers → Option RecordNumbers → Bool
belongs (Some (Within ty InGroup)) before here = is_first here
belongs stage before here = go_on_from before here
