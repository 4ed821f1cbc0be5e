-- What is known of a state between two lines: what is open, what may come, and what is counted.
use Rattle.std.specs.Prelude.{ℕ, ◌+◌, ◌-◌, ◌^◌, ◌==◌, min, Bool, true, false, not, ◌&&◌, ◌||◌, Option, Some, None, is_some}
use Rattle.std.specs.Prelude.{if◌then◌else◌}
use Rattle.cwr_fields.specs.declared.codes.TransactionType.{TransactionType}
use Rattle.cwr_fields.specs.declared.codes.TransactionType.TheVariants.{Agreement, NewWork, RevisedWork, Acknowledgement}
use Rattle.cwr_fields.specs.declared.kinds.Kind.TheVariants as kinds
use Rattle.cwr_shape.specs.declared.symbols.Symbol.{Symbol}
use Rattle.cwr_shape.specs.declared.symbols.Symbol.TheVariants.{Plain}
use Rattle.cwr_shape.specs.declared.stages.Stage.{Stage}
use Rattle.cwr_shape.specs.Steps.NextStages.{next_stage}
use Rattle.cwr_lint_lines.specs.declared.following.Awaiting.{Awaiting}
use Rattle.cwr_lint_lines.specs.declared.states.OpenTransaction.{OpenTransaction}
use Rattle.cwr_lint_lines.specs.declared.states.OpenGroup.{OpenGroup}
use Rattle.cwr_lint_lines.specs.declared.states.LintState.{LintState}
use Rattle.cwr_lint_lines.specs.Steps.Following.{is_number, just, one_more, settled, stranger}

-- a sum, at most the largest number of 64 bits
abbrev pub added : ℕ → ℕ → ℕ
added n m = min (n + m) (2 ^ 64 - 1)

-- the sum, where the number is known
abbrev pub added_known : Option ℕ → ℕ → Option ℕ
added_known None m = None
added_known (Some n) m = Some (added n m)

-- the sum, where both are known
abbrev pub sum_known : Option ℕ → Option ℕ → Option ℕ
sum_known n None = None
sum_known n (Some m) = added_known n m

-- the number in its place, or else another
abbrev pub number_or : Option ℕ → ℕ → ℕ
number_or None m = m
number_or (Some n) m = n

-- the type is there, and this one
abbrev pub is_type : Option TransactionType → TransactionType → Bool
is_type (Some Agreement) Agreement = true
is_type (Some NewWork) NewWork = true
is_type (Some RevisedWork) RevisedWork = true
is_type (Some Acknowledgement) Acknowledgement = true
is_type found ty = false

-- ---- the open transaction

-- Where its last record leaves its number open, it is the one that stands there, unless the next header goes on from the other.
abbrev pub final_by : ℕ → Option ℕ → Option ℕ → ℕ
final_by n None next = n
final_by n (Some other) next = if is_number next (one_more n) then n else other

abbrev pub final_number : OpenTransaction → Option ℕ → ℕ
final_number t next = final_by t.number t.other next

-- ---- the open group

-- a group that begins, with so many lines; the cell is that of its ID
abbrev pub begun : Awaiting → Option ℕ → Option TransactionType → ℕ → OpenGroup
begun ids cell ty lines = record {
  id = settled ids cell;
  other_id = stranger ids cell;
  ty = ty;
  declared = ty;
  has_header = false;
  has_line = false;
  lines = lines;
  headers = 0;
  next = just 0;
  ended = 0;
  ended_records = Some 0;
  current = None;
}

-- the type is that of the group
abbrev pub is_of : OpenGroup → TransactionType → Bool
is_of g ty = is_type g.ty ty

-- or the one that its GRH says
abbrev pub may_have : OpenGroup → TransactionType → Bool
may_have g ty = is_type g.ty ty || is_type g.declared ty

-- the ID is one of the group's
abbrev pub is_id : OpenGroup → Option ℕ → Bool
is_id g None = false
is_id g (Some id) = (id == g.id) || is_number g.other_id id

-- the ID that stands there
abbrev pub standing_id : OpenGroup → ℕ
standing_id g = number_or g.other_id g.id

-- the records of the transactions that ended and of one more that has that number, where they are known: those before are where it is
-- the next one
abbrev pub records_with : OpenGroup → ℕ → ℕ → Option ℕ
records_with g n more = if n == g.ended then added_known g.ended_records more else None

-- by the numbers, the transactions that ended, with the open one; the cell is that of the next header
abbrev pub transactions_by : ℕ → Option OpenTransaction → Option ℕ → ℕ
transactions_by ended None next = ended
transactions_by ended (Some t) next = one_more (final_number t next)

abbrev pub transactions : OpenGroup → Option ℕ → ℕ
transactions g next = transactions_by g.ended g.current next

-- their records, where they are known
abbrev pub records_by : OpenGroup → Option OpenTransaction → Option ℕ → Option ℕ
records_by g None next = g.ended_records
records_by g (Some t) next = records_with g (final_number t next) t.run

abbrev pub records : OpenGroup → Option ℕ → Option ℕ
records g next = records_by g g.current next

-- by the numbers, the group's records once its GRT has come, where they are known
abbrev pub group_records : OpenGroup → Option ℕ
group_records g = added_known (records g None) 2

-- the transaction that is awaited, of which no header came; that record number comes next
abbrev pub unheaded : Awaiting → ℕ → OpenTransaction
unheaded next r = record { number = next.expected; other = None; next = just r; run_before = None; run = 0 }

abbrev pub transaction_or : Option OpenTransaction → OpenTransaction → OpenTransaction
transaction_or None t = t
transaction_or (Some opened_now) t = opened_now

-- The open transaction. Where no header came, the group's lines stand in the one that is awaited, after a header.
abbrev pub open_transaction : OpenGroup → OpenTransaction
open_transaction g = transaction_or g.current (unheaded g.next 1)

-- ---- the state

-- the stage after one more record, where the lint is in step and the record may come
abbrev pub next_of : Option Stage → Symbol → Option Stage
next_of None s = None
next_of (Some stage) s = next_stage stage s

abbrev pub next_in : LintState → Symbol → Option Stage
next_in st s = next_of st.stage s

-- the lint is in step, and the order doesn't take the record
abbrev pub bars : LintState → Symbol → Bool
bars st s = is_some st.stage && not (is_some (next_in st s))

-- the lint is in step, and the open transaction is whole
abbrev pub is_whole : LintState → Bool
is_whole st = is_some (next_in st (Plain kinds.Grt))

-- the records of the open group once its GRT has come
abbrev pub open_records : Option OpenGroup → Option ℕ
open_records None = Some 0
open_records (Some g) = group_records g

-- by the numbers, the records of the transmission up to TRL, where they are known: an open group counts as though its GRT had come
abbrev pub all_records : LintState → Option ℕ
all_records st = sum_known (sum_known st.records (open_records st.group)) (Some 2)

-- the groups, headers and lines of the whole file, further HDRs left out
abbrev pub all_groups : LintState → ℕ
all_groups st = added st.groups_before st.groups

abbrev pub all_headers : LintState → ℕ
all_headers st = added st.headers_before st.headers

abbrev pub all_lines : LintState → ℕ
all_lines st = st.lines - st.anew

-- by the numbers, its transactions
abbrev pub open_transactions : Option OpenGroup → ℕ
open_transactions None = 0
open_transactions (Some g) = transactions g None

abbrev pub all_transactions : LintState → ℕ
all_transactions st = added st.transactions (open_transactions st.group)
