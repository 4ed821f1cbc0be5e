-- What is kept of the transactions of a transmission that was sent.
use Rattle.std.specs.Prelude.{ℕ, ◌+◌, ◌*◌, ◌%◌, Bool, ◌||◌, fold, List, [], ◌++◌, map, Option, replicate, slice_get}
use Rattle.std.specs.Prelude.{option_map, unwrap_or, if◌then◌else◌}
use Rattle.std.specs.Option.{option_and_then}
use Rattle.cwr_fields.specs.Format.Bytes.{number_of, trimmed}
use Rattle.cwr_fields.specs.declared.kinds.Kind.{Kind}
use Rattle.cwr_fields.specs.declared.kinds.Kind.TheVariants as kinds
use Rattle.cwr_lines.specs.Format.Records.{RecordValue, cell_named}
use Rattle.cwr_values.specs.Format.Values.{GroupValue, TransmissionValue}
use Rattle.cwr_findings.specs.Format.Findings.{is_a}
use Rattle.cwr_sent.specs.declared.created.Created.{Created}
use Rattle.cwr_sent.specs.declared.facts.SentFacts.{SentFacts}

-- ---- a transaction

-- the check of a title, which two titles have in common where they are equal, and hardly ever else
abbrev pub title_check : List ℕ → ℕ
title_check title = fold (λ n b. (257 * n + b) % 4294967296) 0 title

-- the record is the header of a work
abbrev pub is_work_header : RecordValue → Bool
is_work_header r = is_a kinds.Nwr r || is_a kinds.Rev r

-- the title of a work; an agreement has none
abbrev pub title_of : RecordValue → List ℕ
title_of r = if is_work_header r then cell_named "title" r else []

-- the number that its submitter has given a work or an agreement; an acknowledgement has none
abbrev pub no_number : List ℕ
no_number = replicate 14 32

abbrev pub submitter_number : RecordValue → List ℕ
submitter_number r =
    if is_work_header r then cell_named "submitter work number" r
    else if is_a kinds.Agr r then cell_named "submitter agreement number" r else no_number

-- the kind of a transaction's header
abbrev pub header_kind : List RecordValue → Kind
header_kind t = unwrap_or (option_map (λ r. r.kind) (slice_get t 0)) kinds.Ack

-- the check of a transaction's title; 0 stands for none
abbrev pub header_check : List RecordValue → ℕ
header_check t = unwrap_or (option_map (λ r. title_check (trimmed (title_of r))) (slice_get t 0)) 0

-- the submitter's number of a transaction
abbrev pub header_number : List RecordValue → List ℕ
header_number t = unwrap_or (option_map submitter_number (slice_get t 0)) no_number

-- a transaction's kind, the check of its title, and its submitter's number
abbrev pub facts_of : List RecordValue → SentFacts
facts_of t = record { kind = header_kind t; title = header_check t; number = header_number t }

-- ---- a transmission

-- when it was created, by its HDR record
abbrev pub created_never : Created
created_never = record { date = 0; time = 0 }

abbrev pub created_of : RecordValue → Created
created_of r =
    if is_a kinds.Hdr r
    then record { date = number_of (cell_named "creation date" r); time = number_of (cell_named "creation time" r) }
    else created_never

-- who sent it, by the same record: the sender's type and ID
abbrev pub sender_of : RecordValue → List ℕ
sender_of r =
    if is_a kinds.Hdr r then cell_named "sender type" r ++ cell_named "sender id" r else replicate 11 32

-- what is kept of one
pub record SentContent : Type 0 where
  pub created : Created
  pub groups : List (List SentFacts)

-- that of its transactions, by groups
abbrev pub facts_in : TransmissionValue → List (List SentFacts)
facts_in v = map (λ (g : GroupValue). map facts_of g.transactions) v.groups

abbrev pub content_of : TransmissionValue → SentContent
content_of v = record { created = created_of v.opening; groups = facts_in v }

-- that of transaction t of group g, both from 0
abbrev pub facts_at : SentContent → ℕ → ℕ → Option SentFacts
facts_at content g t = option_and_then (λ row. slice_get row t) (slice_get content.groups g)
