-- What a lint holds where a check has met its first fault: what was counted of the records before, and how far these have come.
use Rattle.std.specs.Prelude.{ℕ, ◌-◌, true, false, Some, None}
use Rattle.cwr_fields.specs.declared.codes.TransactionType.{TransactionType}
use Rattle.cwr_shape.specs.declared.stages.Stage.{Stage}
use Rattle.cwr_shape.specs.declared.stages.Stage.TheVariants.{Within}
use Rattle.cwr_shape.specs.declared.stages.TransactionStep.{TransactionStep}
use Rattle.cwr_shape.specs.declared.stages.TransactionStep.TheVariants.{InGroup}
use Rattle.cwr_shape.specs.declared.tallies.Counts.{Counts}
use Rattle.cwr_lint_lines.specs.declared.states.OpenTransaction.{OpenTransaction}
use Rattle.cwr_lint_lines.specs.declared.states.OpenGroup.{OpenGroup}
use Rattle.cwr_lint_lines.specs.declared.states.LintState.{LintState}
use Rattle.cwr_lint_lines.specs.Steps.Following.{just, one_more}
use Rattle.cwr_lint_lines.specs.Steps.States.{begun}

-- the open transaction
abbrev pub transaction_at : Counts → OpenTransaction
transaction_at c = record {
  number = c.in_group - 1;
  other = None;
  next = just (one_more c.after_header);
  run_before = None;
  run = one_more c.after_header;
}

-- the open group, before its first header and after it
abbrev pub group_before_header : TransactionType → Counts → OpenGroup
group_before_header ty c = begun (just c.groups) None (Some ty) (one_more c.after_grh)

abbrev pub group_with_transaction : TransactionType → Counts → OpenGroup
group_with_transaction ty c = record {
  id = c.groups;
  other_id = None;
  ty = Some ty;
  declared = Some ty;
  has_header = true;
  has_line = true;
  lines = one_more c.after_grh;
  headers = c.in_group;
  next = just c.in_group;
  ended = c.in_group - 1;
  ended_records = Some (c.after_grh - one_more c.after_header);
  current = Some (transaction_at c);
}

abbrev pub group_at : TransactionType → TransactionStep → Counts → OpenGroup
group_at ty InGroup c = group_before_header ty c
group_at ty step c = group_with_transaction ty c

-- where no group is open
abbrev pub state_outside : Stage → Counts → ℕ → LintState
state_outside stage c lines = record {
  lines = lines;
  stage = Some stage;
  group = None;
  ids = just (one_more c.groups);
  last_id = c.groups;
  since = lines;
  groups = c.groups;
  headers = c.transactions;
  records = Some (lines - 1);
  transactions = c.transactions;
  anew = 0;
  groups_before = 0;
  headers_before = 0;
  over = false;
}

-- where one is
abbrev pub state_inside : Stage → OpenGroup → Counts → ℕ → LintState
state_inside stage g c lines = record {
  lines = lines;
  stage = Some stage;
  group = Some g;
  ids = just (one_more c.groups);
  last_id = c.groups;
  since = lines;
  groups = c.groups;
  headers = c.transactions;
  records = Some ((lines - one_more c.after_grh) - 1);
  transactions = c.transactions - c.in_group;
  anew = 0;
  groups_before = 0;
  headers_before = 0;
  over = false;
}

-- after so many lines of records that have come to a stage, of which that was counted
abbrev pub state_at : Stage → Counts → ℕ → LintState
state_at (Within ty step) c lines = state_inside (Within ty step) (group_at ty step c) c lines
state_at stage c lines = state_outside stage c lines
