-- What a lint takes a line for, and whether that is misplaced.
use Rattle.std.specs.Prelude.{ℕ, ◌==◌, Bool, true, false, not, ◌&&◌, ◌||◌, Option, Some, None, is_some, if◌then◌else◌}
use Rattle.cwr_fields.specs.declared.codes.TransactionType.{TransactionType}
use Rattle.cwr_fields.specs.declared.kinds.Kind.{Kind}
use Rattle.cwr_fields.specs.declared.kinds.Kind.TheVariants as kinds
use Rattle.cwr_shape.specs.declared.symbols.Symbol.TheVariants.{Plain}
use Rattle.cwr_lint_lines.specs.declared.states.OpenTransaction.{OpenTransaction}
use Rattle.cwr_lint_lines.specs.declared.states.OpenGroup.{OpenGroup}
use Rattle.cwr_lint_lines.specs.declared.states.LintState.{LintState}
use Rattle.cwr_lint_lines.specs.declared.takings.Taking.{Taking}
use Rattle.cwr_lint_lines.specs.declared.takings.Taking.TheVariants as takings
use Rattle.cwr_lint_lines.specs.Format.FaultsAtFields.{LineCut}
use Rattle.cwr_lint_lines.specs.Steps.Following.{is_number, takes}
use Rattle.cwr_lint_lines.specs.Steps.Cells.{has_version, number_at, symbol_in, type_in, type_of_header}
use Rattle.cwr_lint_lines.specs.Steps.States.{bars, is_id, is_of, is_whole, may_have, next_in}
use Rattle.cwr_lint_lines.specs.Steps.Numbers.{count_of_all_records, count_of_group_records, count_of_groups, is_borne_by}

-- ---- lines that are of another kind than they say: they bear nothing of their own, and something stands after them

abbrev pub is_other_hdr : LineCut → Bool
is_other_hdr l = l.excess && not (has_version l)

abbrev pub is_other_grh : LineCut → Bool
is_other_grh l = l.excess && not (is_some (type_in l))

abbrev pub is_other_grt : OpenGroup → LineCut → Bool
is_other_grt g l = (l.excess && not (is_id g (number_at l 2))) && not (is_borne_by (count_of_group_records g) (number_at l 4))

abbrev pub is_other_trl : LintState → LineCut → Bool
is_other_trl st l =
    (l.excess && not (is_borne_by (count_of_groups st) (number_at l 2))) && not
    (is_borne_by (count_of_all_records st) (number_at l 4))

-- ---- headers

-- the numbers are those of a further record of the transaction
abbrev pub goes_on_by : Option ℕ → Option ℕ → OpenTransaction → Bool
goes_on_by (Some n) (Some r) t = ((n == t.number) || is_number t.other n) && (not (r == 0) && takes t.next r)
goes_on_by n r t = false

abbrev pub goes_on : LineCut → OpenTransaction → Bool
goes_on l t = goes_on_by (number_at l 2) (number_at l 3) t

abbrev pub goes_on_in : LineCut → Option OpenTransaction → Bool
goes_on_in l None = false
goes_on_in l (Some t) = goes_on l t

-- the record number is 0
abbrev pub is_first : LineCut → Bool
is_first l = is_number (number_at l 3) 0

-- the line is the header of a copy
abbrev pub heads_copy : LintState → OpenGroup → TransactionType → Kind → Bool
heads_copy st g ty kind = is_some (next_in st (Plain kind)) && not (is_of g ty)

-- A line of the type's kind begins a transaction of the open group. The header of a copy doesn't, and one whose numbers go on in the open
-- transaction doesn't: its kind was mistyped.
abbrev pub begins_in : LintState → OpenGroup → TransactionType → Kind → LineCut → Bool
begins_in st g ty kind l = (not (heads_copy st g ty kind) && not (goes_on_in l g.current))
    && (is_first l || (if is_some g.ty then may_have g ty else not (is_some (number_at l 3))))

-- where no group is open, one begins unseen
abbrev pub begins_unseen : LineCut → Bool
begins_unseen l = is_first l || not (is_some (number_at l 3))

-- ---- what a line is taken for

-- a line of a header's kind: where it begins no transaction, though the order takes it so, it is of another kind
abbrev pub taking_of_header_in : Option OpenGroup → LintState → TransactionType → Kind → LineCut → Taking
taking_of_header_in None st ty this_kind l = if begins_unseen l then takings.Header ty else takings.Further
taking_of_header_in (Some g) st ty this_kind l = if begins_in st g ty this_kind l then takings.Header ty
    else (if is_some (next_in st (Plain this_kind)) && may_have g ty then takings.Other else takings.Further)

abbrev pub taking_of_header : LintState → TransactionType → Kind → LineCut → Taking
taking_of_header st ty kind l = taking_of_header_in st.group st ty kind l

-- a line of no header's kind: one with the numbers of the next header is of another kind
abbrev pub taking_of_further_in : Option OpenGroup → LineCut → Taking
taking_of_further_in None l = takings.Further
taking_of_further_in (Some g) l =
    if (is_some g.current && is_first l) && is_number (number_at l 2) g.next.expected then takings.Other else takings.Further

abbrev pub taking_of_further : LintState → LineCut → Taking
taking_of_further st l = taking_of_further_in st.group l

-- a GRT
abbrev pub taking_of_foot_in : Option OpenGroup → LineCut → Taking
taking_of_foot_in None l = takings.ClosesNone
taking_of_foot_in (Some g) l = if is_other_grt g l then takings.Other else takings.ClosesGroup

abbrev pub taking_of_foot : LintState → LineCut → Taking
taking_of_foot st l = taking_of_foot_in st.group l

-- a line inside a transaction, of a kind that is that type's header or none's
abbrev pub taking_inside : Option TransactionType → LintState → Kind → LineCut → Taking
taking_inside None st this_kind l = taking_of_further st l
taking_inside (Some ty) st this_kind l = taking_of_header st ty this_kind l

-- HDR, GRH and TRL
abbrev pub taking_of_hdr : LintState → LineCut → Taking
taking_of_hdr st l = if st.lines == 0 then takings.Opens else (if is_other_hdr l then takings.Other else takings.OpensAnew)

abbrev pub taking_of_head : LineCut → Taking
taking_of_head l = if is_other_grh l then takings.Other else takings.OpensGroup

abbrev pub taking_of_trailer : LintState → LineCut → Taking
taking_of_trailer st l = if is_other_trl st l then takings.Other else takings.Ends

-- a line of the kind
abbrev pub taking : LintState → Kind → LineCut → Taking
taking st kinds.Hdr l = taking_of_hdr st l
taking st kinds.Grh l = taking_of_head l
taking st kinds.Grt l = taking_of_foot st l
taking st kinds.Trl l = taking_of_trailer st l
taking st this_kind l = taking_inside (type_of_header this_kind) st this_kind l

-- ---- misplaced

-- the header of a type comes where no group is open, in a group of another type, or after a transaction that isn't whole
abbrev pub is_misplaced_header_in : Option OpenGroup → LintState → TransactionType → Bool
is_misplaced_header_in None st ty = is_some st.stage
is_misplaced_header_in (Some g) st ty =
    (is_some g.ty && not (may_have g ty)) || ((is_some st.stage && g.has_line) && not (is_whole st))

abbrev pub is_misplaced_header : LintState → TransactionType → Bool
is_misplaced_header st ty = is_misplaced_header_in st.group st ty

-- a further HDR is; any other record is where the order bars it
abbrev pub is_misplaced_by : LintState → Kind → LineCut → Bool
is_misplaced_by st kinds.Hdr l = true
is_misplaced_by st this_kind l = bars st (symbol_in this_kind l)

-- a line of the kind, taken so
abbrev pub is_misplaced : Taking → LintState → Kind → LineCut → Bool
is_misplaced takings.Opens st this_kind l = false
is_misplaced (takings.Header ty) st this_kind l = is_misplaced_header st ty
is_misplaced taken st this_kind l = is_misplaced_by st this_kind l
