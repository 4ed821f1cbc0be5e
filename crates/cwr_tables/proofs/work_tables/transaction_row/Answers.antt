use Rattle.std.proofs.Common.{sym, ◌∙◌}
use Rattle.cwr_devices.proofs.lemmas.Adding.{adds_as, adds_nothing}
use Rattle.cwr_tables.proofs.lemmas.TextsOfWorks.{no_records, no_row}
use Rattle.cwr_tables.proofs.work_tables.transaction_row.Goals as goal

pub returns-in_default : goal.returns-in_default
returns-in_default g c =
    adds_as (sym (no_records c.args.encoding c.args.place c.args.transaction.now c.in_default.ensures.value)) adds_nothing

pub returns-then-not-is_header : goal.returns-then-not-is_header
returns-then-not-is_header g c =
    adds_as (sym (no_row c.args.encoding c.args.place c.in-Some.head c.args.transaction.now
    (sym c.is_header.ensures ∙ c.if-not-is_header.true) c.in-Some.ensures.value)) adds_nothing

pub work_text-requires-clause-header : goal.work_text-requires-clause-header
work_text-requires-clause-header g c = sym c.is_header.ensures ∙ c.if-not-is_header.false

pub work_text-requires-clause-first : goal.work_text-requires-clause-first
work_text-requires-clause-first g c = c.in-Some.ensures.value
