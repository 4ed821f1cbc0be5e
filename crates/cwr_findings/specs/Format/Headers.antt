-- What a transaction's header says of whose it is: the number and the title of a work, or the number of an agreement.
use Rattle.std.specs.Prelude.{ℕ, Bool, ◌||◌, List, [], if◌then◌else◌}
use Rattle.cwr_fields.specs.declared.kinds.Kind.TheVariants as kinds
use Rattle.cwr_lines.specs.Format.Records.{RecordValue, cell_named}
use Rattle.cwr_findings.specs.Format.Findings.{is_a}

-- the header is that of a work
abbrev pub is_work : RecordValue → Bool
is_work head = is_a kinds.Nwr head || is_a kinds.Rev head

-- the number of the work or agreement that a transaction's header has, or of what an acknowledgement answers
abbrev pub work_number : RecordValue → List ℕ
work_number head =
    if is_work head then cell_named "submitter work number" head
    else if is_a kinds.Ack head then cell_named "submitter creation number" head
    else if is_a kinds.Agr head then cell_named "submitter agreement number" head
    else []

-- and the title; an agreement has none
abbrev pub work_title : RecordValue → List ℕ
work_title head =
    if is_work head then cell_named "title" head
    else if is_a kinds.Ack head then cell_named "creation title" head
    else []
