-- Which numbers of a line are told, and what belongs there.
use Rattle.std.specs.Prelude.{ℕ, ◌==◌, Bool, true, false, not, ◌&&◌, ◌||◌, Option, Some, None, is_some, if◌then◌else◌}
use Rattle.cwr_fields.specs.declared.kinds.Kind.{Kind}
use Rattle.cwr_fields.specs.declared.kinds.Kind.TheVariants as kinds
use Rattle.cwr_fields.specs.declared.codes.TransactionType.{TransactionType}
use Rattle.cwr_lint_lines.specs.declared.following.Awaiting.{Awaiting}
use Rattle.cwr_lint_lines.specs.declared.numbers.Count.{Count}
use Rattle.cwr_lint_lines.specs.declared.numbers.Belonging.{Belonging}
use Rattle.cwr_lint_lines.specs.declared.numbers.Belonging.TheVariants.{Unsaid, Same, Moved, Strange}
use Rattle.cwr_lint_lines.specs.declared.numbers.WrongNumbers.{WrongNumbers}
use Rattle.cwr_lint_lines.specs.declared.states.OpenTransaction.{OpenTransaction}
use Rattle.cwr_lint_lines.specs.declared.states.OpenGroup.{OpenGroup}
use Rattle.cwr_lint_lines.specs.declared.states.LintState.{LintState}
use Rattle.cwr_lint_lines.specs.declared.takings.Taking.{Taking}
use Rattle.cwr_lint_lines.specs.declared.takings.Taking.TheVariants as takings
use Rattle.cwr_lint_lines.specs.Format.FaultsAtFields.{LineCut}
use Rattle.cwr_lint_lines.specs.Steps.Following.{is_number, just, one_more, wanted}
use Rattle.cwr_lint_lines.specs.Steps.Cells.{number_at, type_of_header}
use Rattle.cwr_lint_lines.specs.Steps.States.{all_groups, all_headers, all_lines, all_records, all_transactions, group_records}
use Rattle.cwr_lint_lines.specs.Steps.States.{is_id, number_or, transactions}

-- ---- counts: that of the lines that are there, that by the numbers, and that of the whole file

-- the records of the open group, with its GRT, and its transactions
abbrev pub count_of_group_records : OpenGroup → Count
count_of_group_records g = record { there = one_more g.lines; by_numbers = group_records g; in_file = one_more g.lines }

abbrev pub count_of_group_transactions : OpenGroup → Count
count_of_group_transactions g = record { there = g.headers; by_numbers = Some (transactions g None); in_file = g.headers }

-- the records of the transmission, with its TRL, its transactions and its groups
abbrev pub count_of_all_records : LintState → Count
count_of_all_records st = record { there = one_more st.since; by_numbers = all_records st; in_file = one_more (all_lines st) }

abbrev pub count_of_all_transactions : LintState → Count
count_of_all_transactions st = record { there = st.headers; by_numbers = Some (all_transactions st); in_file = all_headers st }

abbrev pub count_of_groups : LintState → Count
count_of_groups st = record { there = st.groups; by_numbers = Some st.last_id; in_file = all_groups st }

-- the number is one of these; where that by the numbers isn't known, any is let pass
abbrev pub takes_by : Option ℕ → ℕ → ℕ → ℕ → Bool
takes_by None there in_file n = true
takes_by (Some counted) there in_file n = ((n == there) || (n == counted)) || (n == in_file)

abbrev pub takes_count : Count → ℕ → Bool
takes_count c n = takes_by c.by_numbers c.there c.in_file n

-- the count is known, and the cell has one of these
abbrev pub is_borne_by : Count → Option ℕ → Bool
is_borne_by c None = false
is_borne_by c (Some n) = is_some c.by_numbers && takes_count c n

-- what is told as expected, where the cell has another that isn't let pass
abbrev pub wanted_count : Count → Option ℕ → Option ℕ
wanted_count c None = None
wanted_count c (Some n) = if takes_count c n then None else Some (number_or c.by_numbers c.there)

-- ---- which transaction a line says

abbrev pub belonging : OpenTransaction → Option ℕ → Belonging
belonging t None = Unsaid
belonging t (Some n) = if n == t.number then Same else (if is_number t.other n then Moved n else Strange n)

-- ---- what is told of fields 2 to 4

abbrev pub none_wrong : WrongNumbers
none_wrong = record { second = None; third = None; fourth = None }

abbrev pub second_wrong : Option ℕ → WrongNumbers
second_wrong n = record { second = n; third = None; fourth = None }

abbrev pub third_wrong : Option ℕ → WrongNumbers
third_wrong n = record { second = None; third = n; fourth = None }

-- the first of them alone
abbrev pub first_of : Option ℕ → Option ℕ → Option ℕ → WrongNumbers
first_of (Some n) third fourth = second_wrong (Some n)
first_of None (Some n) fourth = third_wrong (Some n)
first_of None None fourth = record { second = None; third = None; fourth = fourth }

abbrev pub first_wrong : WrongNumbers → WrongNumbers
first_wrong w = first_of w.second w.third w.fourth

-- of a header, whose transaction sequence is this
abbrev pub wrong_in_header : Awaiting → LineCut → WrongNumbers
wrong_in_header a l = record { second = wanted a (number_at l 2); third = wanted (just 0) (number_at l 3); fourth = None }

-- of GRH
abbrev pub wrong_in_head : Awaiting → LineCut → WrongNumbers
wrong_in_head ids l = third_wrong (wanted ids (number_at l 3))

-- of the GRT of the open group
abbrev pub wrong_in_foot : OpenGroup → LineCut → WrongNumbers
wrong_in_foot g l = record {
  second = if is_some (number_at l 2) && not (is_id g (number_at l 2)) then Some g.id else None;
  third = wanted_count (count_of_group_transactions g) (number_at l 3);
  fourth = wanted_count (count_of_group_records g) (number_at l 4);
}

-- of TRL
abbrev pub wrong_in_trailer : LintState → LineCut → WrongNumbers
wrong_in_trailer st l = record {
  second = if is_some (wanted_count (count_of_groups st) (number_at l 2)) then Some st.groups else None;
  third = wanted_count (count_of_all_transactions st) (number_at l 3);
  fourth = wanted_count (count_of_all_records st) (number_at l 4);
}

-- of a further record of the transaction; of one of another transaction its own number isn't judged
abbrev pub wrong_by : Belonging → OpenTransaction → LineCut → WrongNumbers
wrong_by (Strange n) t l = second_wrong (Some t.number)
wrong_by b t l = third_wrong (wanted t.next (number_at l 3))

abbrev pub wrong_in_further : OpenTransaction → LineCut → WrongNumbers
wrong_in_further t l = wrong_by (belonging t (number_at l 2)) t l

-- of a line of another kind than it says in the open group: a header's, or a further record's
abbrev pub wrong_in_other_of : Option TransactionType → Option OpenTransaction → OpenGroup → LineCut → WrongNumbers
wrong_in_other_of None (Some t) g l = wrong_in_further t l
wrong_in_other_of ty current g l = second_wrong (Some g.next.expected)

abbrev pub wrong_in_other_in : OpenGroup → Kind → LineCut → WrongNumbers
wrong_in_other_in g kind l = wrong_in_other_of (type_of_header kind) g.current g l

-- of a line that is of another kind than it says, though the order takes it
abbrev pub wrong_in_group : Option OpenGroup → Kind → LineCut → WrongNumbers
wrong_in_group None this_kind l = none_wrong
wrong_in_group (Some g) kinds.Grt l = first_wrong (wrong_in_foot g l)
wrong_in_group (Some g) this_kind l = wrong_in_other_in g this_kind l

abbrev pub wrong_in_other : LintState → Kind → LineCut → WrongNumbers
wrong_in_other st kinds.Grh l = wrong_in_head st.ids l
wrong_in_other st kinds.Trl l = first_wrong (wrong_in_trailer st l)
wrong_in_other st this_kind l = wrong_in_group st.group this_kind l

-- ---- of a line of the kind, taken so, that isn't misplaced

-- the transaction sequence that is awaited of a header
abbrev pub awaited_of : Option OpenGroup → Awaiting
awaited_of None = just 0
awaited_of (Some g) = g.next

abbrev pub wrong_of_foot : Option OpenGroup → LineCut → WrongNumbers
wrong_of_foot None l = none_wrong
wrong_of_foot (Some g) l = wrong_in_foot g l

abbrev pub wrong_of_current : Option OpenTransaction → LineCut → WrongNumbers
wrong_of_current None l = none_wrong
wrong_of_current (Some t) l = wrong_in_further t l

abbrev pub wrong_of_further : Option OpenGroup → LineCut → WrongNumbers
wrong_of_further None l = none_wrong
wrong_of_further (Some g) l = wrong_of_current g.current l

abbrev pub wrong_numbers : LintState → Taking → Kind → LineCut → WrongNumbers
wrong_numbers st (takings.Header ty) this_kind l = wrong_in_header (awaited_of st.group) l
wrong_numbers st takings.OpensGroup this_kind l = wrong_in_head st.ids l
wrong_numbers st takings.ClosesGroup this_kind l = wrong_of_foot st.group l
wrong_numbers st takings.Ends this_kind l = wrong_in_trailer st l
wrong_numbers st takings.Further this_kind l = wrong_of_further st.group l
wrong_numbers st takings.Other this_kind l = wrong_in_other st this_kind l
wrong_numbers st taken this_kind l = none_wrong
