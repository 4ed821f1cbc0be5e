-- How a lint goes on with one more line.
use Rattle.std.specs.Prelude.{ℕ, ◌-◌, ◌==◌, Bool, true, false, not, ◌&&◌, ◌||◌, Option, Some, None, is_some, if◌then◌else◌}
use Rattle.cwr_fields.specs.declared.codes.Role.{Role}
use Rattle.cwr_fields.specs.declared.codes.Role.TheVariants.{Acquirer}
use Rattle.cwr_fields.specs.declared.codes.TransactionType.{TransactionType}
use Rattle.cwr_fields.specs.declared.kinds.Kind.{Kind}
use Rattle.cwr_lines.specs.Steps.Held.{HeldLine}
use Rattle.cwr_fields.specs.declared.kinds.Kind.TheVariants as kinds
use Rattle.cwr_shape.specs.declared.symbols.Symbol.TheVariants.{Plain, Ipa}
use Rattle.cwr_shape.specs.declared.stages.Stage.{Stage}
use Rattle.cwr_shape.specs.declared.stages.Stage.TheVariants as stages
use Rattle.cwr_shape.specs.declared.stages.TransactionStep.TheVariants as steps
use Rattle.cwr_shape.specs.Steps.NextStages.{header_step, within}
use Rattle.cwr_lint_lines.specs.declared.following.Awaiting.{Awaiting}
use Rattle.cwr_lint_lines.specs.declared.numbers.Belonging.{Belonging}
use Rattle.cwr_lint_lines.specs.declared.numbers.Belonging.TheVariants.{Unsaid, Same, Moved, Strange}
use Rattle.cwr_lint_lines.specs.declared.states.OpenTransaction.{OpenTransaction}
use Rattle.cwr_lint_lines.specs.declared.states.OpenGroup.{OpenGroup}
use Rattle.cwr_lint_lines.specs.declared.states.LintState.{LintState}
use Rattle.cwr_lint_lines.specs.declared.takings.Taking.{Taking}
use Rattle.cwr_lint_lines.specs.declared.takings.Taking.TheVariants as takings
use Rattle.cwr_lint_lines.specs.Format.FaultsAtFields.{LineCut}
use Rattle.cwr_lint_lines.specs.Steps.Following.{after, just, one_more, passing, settled, stranger}
use Rattle.cwr_lint_lines.specs.Steps.Cells.{held_cut, number_at, role_in, symbol_in, type_in}
use Rattle.cwr_lint_lines.specs.Steps.States.{added, all_groups, all_headers, all_transactions, begun, group_records, is_id}
use Rattle.cwr_lint_lines.specs.Steps.States.{is_whole, may_have, next_in, next_of, number_or, open_transaction, records}
use Rattle.cwr_lint_lines.specs.Steps.States.{records_with, standing_id, sum_known, transaction_or, transactions, unheaded}
use Rattle.cwr_lint_lines.specs.Steps.Numbers.{belonging, count_of_group_records, count_of_group_transactions, takes_count}

-- ---- the open transaction

-- that of a header, whose number this awaits
abbrev pub headed : Awaiting → LineCut → OpenTransaction
headed a l = record {
  number = settled a (number_at l 2);
  other = stranger a (number_at l 2);
  next = after (just 0) (number_at l 3);
  run_before = None;
  run = 1;
}

-- after one more line that belongs so, with that record number, and then with so many records
abbrev pub with_belonging : OpenTransaction → Belonging → Option ℕ → ℕ → OpenTransaction
with_belonging t Unsaid r run =
    record { number = t.number; other = t.other; next = after t.next r; run_before = t.run_before; run = run }
with_belonging t Same r run = record { number = t.number; other = None; next = after t.next r; run_before = None; run = run }
with_belonging t (Moved n) r run = record { number = n; other = None; next = after t.next r; run_before = None; run = run }
with_belonging t (Strange n) r run =
    record { number = t.number; other = Some n; next = after t.next r; run_before = Some t.run; run = run }

-- how many records it has by the record number of its last one; where two changed places that of the one before says it
abbrev pub run_with : ℕ → Option ℕ → ℕ
run_with run None = one_more run
run_with run (Some r) = if added r 2 == run then run else one_more r

-- ---- the open group

-- where no header came, the next header may be one after the transaction that is awaited
abbrev pub next_beside : Option OpenTransaction → Awaiting → ℕ → Awaiting
next_beside None next n = passing next (one_more n)
next_beside (Some t) next n = next

-- the next header may go on from the number that stands there
abbrev pub next_by : Belonging → Awaiting → Awaiting
next_by (Strange n) next = passing next (one_more n)
next_by b next = next

-- the line goes on in another transaction: the one before ended
abbrev pub ended_by : Belonging → Option ℕ → OpenGroup → OpenTransaction → ℕ
ended_by (Moved n) (Some before) g t = one_more t.number
ended_by b before g t = g.ended

abbrev pub ended_records_by : Belonging → Option ℕ → OpenGroup → OpenTransaction → Option ℕ
ended_records_by (Moved n) (Some before) g t = records_with g t.number before
ended_records_by b before g t = g.ended_records

-- with one more line that is no header, of these numbers, after which this open transaction has so many records
abbrev pub with_line_of : OpenGroup → OpenTransaction → Belonging → Option ℕ → ℕ → OpenGroup
with_line_of g t b r run = record {
  id = g.id;
  other_id = g.other_id;
  ty = g.ty;
  declared = g.declared;
  has_header = g.has_header;
  has_line = true;
  lines = one_more g.lines;
  headers = g.headers;
  next = next_by b (next_beside g.current g.next t.number);
  ended = ended_by b t.run_before g t;
  ended_records = ended_records_by b t.run_before g t;
  current = Some (with_belonging t b r run);
}

abbrev pub with_line : OpenGroup → OpenTransaction → Option ℕ → Option ℕ → ℕ → OpenGroup
with_line g t n r run = with_line_of g t (belonging t n) r run

-- with a line of the numbers that stand there
abbrev pub with_numbers_of : OpenGroup → LineCut → OpenGroup
with_numbers_of g l =
    with_line g (open_transaction g) (number_at l 2) (number_at l 3) (run_with (open_transaction g).run (number_at l 3))

-- with a line of unknown kind, which may have been a header: where none came it is taken for one
abbrev pub with_unknown_of : OpenGroup → OpenTransaction → OpenGroup
with_unknown_of g t = with_line g t (Some g.next.expected) (Some 0) (one_more t.run)

abbrev pub with_unknown : OpenGroup → OpenGroup
with_unknown g = with_unknown_of g (transaction_or g.current (unheaded g.next 0))

-- with a line of another kind than it says
abbrev pub with_silent : OpenGroup → OpenTransaction → OpenGroup
with_silent g t = with_line g t None None (one_more t.run)

abbrev pub with_other_in : OpenGroup → Kind → LineCut → OpenGroup
with_other_in g kinds.Hdr l = with_silent g (open_transaction g)
with_other_in g kinds.Grh l = with_silent g (open_transaction g)
with_other_in g kinds.Grt l = with_silent g (open_transaction g)
with_other_in g kinds.Trl l = with_silent g (open_transaction g)
with_other_in g this_kind l = with_numbers_of g l

-- The type of the group with a header of that type. The first header decides it, and one of the type that GRH says.
abbrev pub type_with : OpenGroup → TransactionType → Option TransactionType
type_with g ty = if (not (is_some g.ty) || not g.has_header) || may_have g ty then Some ty else g.ty

-- with a header; where the transaction before it was cut off, its records aren't known
abbrev pub with_header : OpenGroup → Bool → TransactionType → LineCut → OpenGroup
with_header g cuts ty l = record {
  id = g.id;
  other_id = g.other_id;
  ty = type_with g ty;
  declared = if is_some g.ty then g.declared else Some ty;
  has_header = true;
  has_line = true;
  lines = one_more g.lines;
  headers = one_more g.headers;
  next = after g.next (number_at l 2);
  ended = transactions g (number_at l 2);
  ended_records = if cuts then None else records g (number_at l 2);
  current = Some (headed g.next l);
}

-- the records that its GRT counts: those that it says, where these are let pass or not judged, and else those by the numbers
abbrev pub records_said : OpenGroup → Bool → Option ℕ → Option ℕ
records_said g misplaced None = if misplaced then None else group_records g
records_said g misplaced (Some n) = if misplaced || takes_count (count_of_group_records g) n then Some n else group_records g

-- the transactions that its GRT counts
abbrev pub transactions_said : OpenGroup → Bool → Option ℕ → ℕ
transactions_said g misplaced None = transactions g None
transactions_said g misplaced (Some n) =
    if misplaced || takes_count (count_of_group_transactions g) n then n else transactions g None

-- ---- the state

-- the stage with a record that the order takes: a party of unknown role may be of either
abbrev pub stage_of_party : Option Role → Option Stage → Option Stage
stage_of_party None next = next_of next (Ipa Acquirer)
stage_of_party (Some role) next = next

abbrev pub stage_with : LintState → Kind → LineCut → Option Stage
stage_with st kinds.Ipa l = stage_of_party (role_in l) (next_in st (symbol_in kinds.Ipa l))
stage_with st this_kind l = next_in st (symbol_in this_kind l)

-- after a further HDR
abbrev pub opened_anew : LintState → LintState
opened_anew st = record {
  lines = st.lines;
  stage = None;
  group = None;
  ids = passing (just 1) st.ids.expected;
  last_id = 0;
  since = 0;
  groups = 0;
  headers = 0;
  records = Some 0;
  transactions = 0;
  anew = one_more st.anew;
  groups_before = all_groups st - (if is_some st.group then 1 else 0);
  headers_before = all_headers st;
  over = false;
}

-- By the numbers, the records of the groups that ended, where the open one ends without its GRT. Where its last transaction was cut off its
-- records aren't known.
abbrev pub records_left_in : Option OpenGroup → LintState → Bool → Option ℕ
records_left_in None st cuts = st.records
records_left_in (Some g) st cuts = if cuts then None else sum_known st.records (group_records g)

abbrev pub records_left : LintState → Bool → Option ℕ
records_left st cuts = records_left_in st.group st cuts

-- the stage after a GRH of the type
abbrev pub stage_in : Option TransactionType → Option Stage
stage_in None = None
stage_in (Some ty) = Some (stages.Within ty steps.InGroup)

-- after GRH
abbrev pub with_group : LintState → Bool → LineCut → LintState
with_group st misplaced l = record {
  lines = st.lines;
  stage = stage_in (type_in l);
  group = Some (begun st.ids (number_at l 3) (type_in l) 1);
  ids = after st.ids (number_at l 3);
  last_id = standing_id (begun st.ids (number_at l 3) (type_in l) 1);
  since = st.since;
  groups = one_more st.groups;
  headers = st.headers;
  records = records_left st (misplaced && not (is_whole st));
  transactions = all_transactions st;
  anew = st.anew;
  groups_before = st.groups_before;
  headers_before = st.headers_before;
  over = st.over;
}

-- after a header of the type in the open group
abbrev pub with_header_in : LintState → OpenGroup → Bool → TransactionType → Kind → LineCut → LintState
with_header_in st g misplaced ty kind l = record {
  lines = st.lines;
  stage = within ty (header_step ty (Plain kind));
  group = Some (with_header g (misplaced && may_have g ty) ty l);
  ids = st.ids;
  last_id = st.last_id;
  since = st.since;
  groups = st.groups;
  headers = one_more st.headers;
  records = st.records;
  transactions = st.transactions;
  anew = st.anew;
  groups_before = st.groups_before;
  headers_before = st.headers_before;
  over = st.over;
}

-- after a header with which a group begins unseen
abbrev pub with_header_of : LintState → OpenGroup → TransactionType → Kind → LineCut → LintState
with_header_of st unseen ty kind l = record {
  lines = st.lines;
  stage = within ty (header_step ty (Plain kind));
  group = Some (with_header unseen false ty l);
  ids = passing (just (one_more unseen.id)) unseen.id;
  last_id = unseen.id;
  since = st.since;
  groups = one_more st.groups;
  headers = one_more st.headers;
  records = st.records;
  transactions = st.transactions;
  anew = st.anew;
  groups_before = st.groups_before;
  headers_before = st.headers_before;
  over = st.over;
}

abbrev pub with_transaction_in : Option OpenGroup → LintState → Bool → TransactionType → Kind → LineCut → LintState
with_transaction_in None st misplaced ty kind l = with_header_of st (begun st.ids None (Some ty) 0) ty kind l
with_transaction_in (Some g) st misplaced ty kind l = with_header_in st g misplaced ty kind l

abbrev pub with_transaction : LintState → Bool → TransactionType → Kind → LineCut → LintState
with_transaction st misplaced ty kind l = with_transaction_in st.group st misplaced ty kind l

-- after the GRT of the open group: the next ID, and the last that stands there
abbrev pub ids_after_foot : OpenGroup → Awaiting → Option ℕ → Awaiting
ids_after_foot g ids None = ids
ids_after_foot g ids (Some id) = if is_id g (Some id) then ids else passing ids (one_more id)

abbrev pub last_after_foot : OpenGroup → ℕ → Option ℕ → ℕ
last_after_foot g last None = last
last_after_foot g last (Some id) = if is_id g (Some id) then id else (if is_some g.other_id then last else id)

abbrev pub with_foot : LintState → Bool → OpenGroup → LineCut → LintState
with_foot st misplaced g l = record {
  lines = st.lines;
  stage = Some stages.Closed;
  group = None;
  ids = ids_after_foot g st.ids (number_at l 2);
  last_id = last_after_foot g st.last_id (number_at l 2);
  since = st.since;
  groups = st.groups;
  headers = st.headers;
  records = sum_known st.records (records_said g misplaced (number_at l 4));
  transactions = added st.transactions (transactions_said g misplaced (number_at l 3));
  anew = st.anew;
  groups_before = st.groups_before;
  headers_before = st.headers_before;
  over = st.over;
}

-- after the GRT of a group that began unseen
abbrev pub ids_after : Awaiting → Option ℕ → Awaiting
ids_after ids None = ids
ids_after ids (Some id) = after ids (Some id)

abbrev pub with_unseen : LintState → LineCut → LintState
with_unseen st l = record {
  lines = st.lines;
  stage = Some stages.Closed;
  group = None;
  ids = ids_after st.ids (number_at l 2);
  last_id = number_or (number_at l 2) st.last_id;
  since = st.since;
  groups = one_more st.groups;
  headers = st.headers;
  records = sum_known st.records (number_at l 4);
  transactions = added st.transactions (number_or (number_at l 3) 0);
  anew = st.anew;
  groups_before = st.groups_before;
  headers_before = st.headers_before;
  over = st.over;
}

-- a GRT where no group is known to be open: in step it changes nothing
abbrev pub with_stray_foot : LintState → LineCut → LintState
with_stray_foot st l = if is_some st.stage then st else with_unseen st l

-- a GRT that is taken for that of the open group
abbrev pub with_foot_in : Option OpenGroup → LintState → Bool → LineCut → LintState
with_foot_in None st misplaced l = with_stray_foot st l
with_foot_in (Some g) st misplaced l = with_foot st misplaced g l

-- another stage and another open group
abbrev pub moved_to : LintState → Option Stage → Option OpenGroup → LintState
moved_to st stage group = record {
  lines = st.lines;
  stage = stage;
  group = group;
  ids = st.ids;
  last_id = st.last_id;
  since = st.since;
  groups = st.groups;
  headers = st.headers;
  records = st.records;
  transactions = st.transactions;
  anew = st.anew;
  groups_before = st.groups_before;
  headers_before = st.headers_before;
  over = st.over;
}

-- after any other line: where the order doesn't take it the lint is out of step
abbrev pub group_further : Option OpenGroup → LineCut → Option OpenGroup
group_further None l = None
group_further (Some g) l = Some (with_numbers_of g l)

abbrev pub with_further : LintState → Kind → LineCut → LintState
with_further st kind l = moved_to st (stage_with st kind l) (group_further st.group l)

-- after a line of another kind than it says
abbrev pub group_other : Option OpenGroup → Kind → LineCut → Option OpenGroup
group_other None this_kind l = None
group_other (Some g) this_kind l = Some (with_other_in g this_kind l)

abbrev pub with_other : LintState → Kind → LineCut → LintState
with_other st kind l = moved_to st None (group_other st.group kind l)

-- after a line of the kind, taken so
abbrev pub after_line : LintState → Taking → Bool → Kind → LineCut → LintState
after_line st takings.Opens misplaced this_kind l = moved_to st (Some stages.Opened) st.group
after_line st takings.OpensAnew misplaced this_kind l = opened_anew st
after_line st takings.OpensGroup misplaced this_kind l = with_group st misplaced l
after_line st (takings.Header ty) misplaced this_kind l = with_transaction st misplaced ty this_kind l
after_line st takings.ClosesGroup misplaced this_kind l = with_foot_in st.group st misplaced l
after_line st takings.ClosesNone misplaced this_kind l = with_stray_foot st l
after_line st takings.Ends misplaced this_kind l = moved_to st (Some stages.Ended) st.group
after_line st takings.Further misplaced this_kind l = with_further st this_kind l
after_line st takings.Other misplaced this_kind l = with_other st this_kind l

-- the line was counted, and is the last one or not
abbrev pub counted_line : ℕ → Bool → LintState → LintState
counted_line lines over st = record {
  lines = one_more lines;
  stage = st.stage;
  group = st.group;
  ids = st.ids;
  last_id = st.last_id;
  since = one_more st.since;
  groups = st.groups;
  headers = st.headers;
  records = st.records;
  transactions = st.transactions;
  anew = st.anew;
  groups_before = st.groups_before;
  headers_before = st.headers_before;
  over = over;
}

-- the line is taken for TRL
abbrev pub is_end : Taking → Bool
is_end takings.Ends = true
is_end taken = false

-- one more line of the kind, taken so
abbrev pub state_with : LintState → Taking → Bool → Kind → LineCut → LintState
state_with st taken misplaced kind l = counted_line st.lines (is_end taken) (after_line st taken misplaced kind l)

-- so of one as it is held
abbrev pub state_after : LintState → Taking → Bool → Kind → HeldLine → LintState
state_after st taken misplaced kind h = state_with st taken misplaced kind (held_cut h)

-- one more line of unknown kind; one of spaces alone is no record, and nothing else changes
abbrev pub group_unknown : Option OpenGroup → Option OpenGroup
group_unknown None = None
group_unknown (Some g) = Some (with_unknown g)

abbrev pub state_with_unknown : LintState → Bool → LintState
state_with_unknown st true = counted_line st.lines false st
state_with_unknown st false = counted_line st.lines false (moved_to st None (group_unknown st.group))
