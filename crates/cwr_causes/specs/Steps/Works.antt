-- Whose a line is that is held.
use Rattle.std.specs.Prelude.{ℕ, Bool, List, Option}
use Rattle.std.specs.Option.{option_and_then}
use Rattle.cwr_lines.specs.Format.Records.{RecordValue}
use Rattle.cwr_lines.specs.Steps.Held.{HeldLine, held_cell, held_kind}
use Rattle.cwr_shape.specs.declared.reasons.Reason.{Reason}
use Rattle.cwr_causes.specs.Format.RefusedWorks.{begun_work_by, headed_work_by, is_further_by, next_work_by, own_work_by, plain_text, work_refused_by}
use Rattle.cwr_causes.specs.Format.Sequences.{sequence_in}

abbrev pub plain_cell : HeldLine → ℕ → List ℕ
plain_cell h field = plain_text (held_cell h field)

abbrev pub own_work : HeldLine → List ℕ
own_work h = own_work_by (held_kind h) (held_cell h)

abbrev pub is_further : HeldLine → Bool
is_further h = is_further_by (held_cell h)

abbrev pub begun_work : Option RecordValue → HeldLine → List ℕ
begun_work header h = begun_work_by header (held_kind h) (held_cell h)

abbrev pub record_number : HeldLine → Option ℕ
record_number h = option_and_then (sequence_in 0) (held_cell h 3)

abbrev pub next_work : Option RecordValue → HeldLine → List ℕ
next_work header h = next_work_by header (held_kind h) (held_cell h)

abbrev pub headed_work : Option RecordValue → HeldLine → List ℕ
headed_work header h = headed_work_by header (held_kind h) (held_cell h)

abbrev pub work_refused : Option RecordValue → Reason → HeldLine → List ℕ
work_refused header reason h = work_refused_by header reason (held_kind h) (held_cell h)
