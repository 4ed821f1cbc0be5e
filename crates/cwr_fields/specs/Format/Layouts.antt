-- The record layouts of CWR 2.1: for each kind its fields in order, each with its name, its width, its type and
-- whether it is derived, which is computed and in no value. A field starts where the one before it ends.
use Prim.Native.String.{String}
use Rattle.std.specs.Prelude.{ℕ, zero, suc, ◌+◌, ◌-◌, ◌==◌, Bool, true, false, List, [], ◌∷◌, codes, Option, None, slice_get}
use Rattle.std.specs.Prelude.{sum_by, if◌then◌else◌}
use Rattle.cwr_fields.specs.declared.cell_types.CellType.{CellType}
use Rattle.cwr_fields.specs.declared.cell_types.CellType.TheVariants.{Text, Required, Number, OptNumber, Date, OptDate, Time}
use Rattle.cwr_fields.specs.declared.cell_types.CellType.TheVariants.{OptTime, OptDuration, Share, Flag, Code, OptCode, Constant}
use Rattle.cwr_fields.specs.declared.tables.Table.TheVariants as tables
use Rattle.cwr_fields.specs.declared.cell_types.Word.TheVariants as words
use Rattle.cwr_fields.specs.declared.kinds.Kind.{Kind}
use Rattle.cwr_fields.specs.declared.kinds.Kind.TheVariants.{Hdr, Grh, Grt, Trl, Agr, Ter, Ipa, Nwr, Rev, Spu, Opu, Spt, Swr, Owr}
use Rattle.cwr_fields.specs.declared.kinds.Kind.TheVariants.{Swt, Pwr, Alt, Ewt, Ver, Per, Rec, Orn, Com, Ack, Msg, Opt, Owt, Npn}
use Rattle.cwr_fields.specs.declared.kinds.Kind.TheVariants.{Npr, Nwn, Npa, Net, Now, Nct, Nvt, Nat, Ins, Ind, Ari, Xrf}

-- a field of a layout
pub record FieldLayout : Type 0 where
  pub name : List ℕ
  pub width : ℕ
  pub ty : CellType
  pub derived : Bool

-- a field that a value carries
abbrev pub cell : String → ℕ → CellType → FieldLayout
cell name width ty = record { name = codes name; width = width; ty = ty; derived = false }

-- a derived number
abbrev pub number : String → ℕ → FieldLayout
number name width = record { name = codes name; width = width; ty = Number; derived = true }

-- the first field of each kind
abbrev pub record_type : FieldLayout
record_type = record { name = codes "record type"; width = 3; ty = Required; derived = true }

-- after the record type, a record inside a transaction carries its transaction's place in the group and its own place in the transaction
abbrev pub in_transaction : List FieldLayout → List FieldLayout
in_transaction fields = number "transaction sequence" 8 ∷ number "record sequence" 8 ∷ fields

-- the fields of a new and of a revised work
abbrev pub work_fields : List FieldLayout
work_fields =
    cell "title" 60 Required ∷
    cell "language" 2 Text ∷
    cell "submitter work number" 14 Required ∷
    cell "iswc" 11 Text ∷
    cell "copyright date" 8 OptDate ∷
    cell "copyright number" 12 Text ∷
    cell "distribution category" 3 (OptCode tables.Category) ∷
    cell "duration" 6 OptDuration ∷
    cell "recorded" 1 Flag ∷
    cell "text music relationship" 3 Text ∷
    cell "composite type" 3 (OptCode tables.Composite) ∷
    cell "version type" 3 (Code tables.Version) ∷
    cell "excerpt type" 3 (OptCode tables.Excerpt) ∷
    cell "music arrangement" 3 Text ∷
    cell "lyric adaptation" 3 Text ∷
    cell "contact name" 30 Text ∷
    cell "contact id" 10 Text ∷
    cell "cwr work type" 2 Text ∷
    cell "grand rights" 1 Flag ∷
    cell "composite component count" 3 OptNumber ∷
    cell "date of publication" 8 OptDate ∷
    cell "exceptional clause" 1 Flag ∷
    cell "opus number" 25 Text ∷
    cell "catalogue number" 25 Text ∷
    cell "priority flag" 1 Flag ∷
    []

-- the fields of a publisher, whose number and name are of that type
abbrev pub publisher_fields : CellType → List FieldLayout
publisher_fields required =
    cell "publisher sequence" 2 OptNumber ∷
    cell "interested party number" 9 required ∷
    cell "publisher name" 45 required ∷
    cell "publisher unknown" 1 Flag ∷
    cell "publisher type" 2 (OptCode tables.Publisher) ∷
    cell "tax id" 9 Text ∷
    cell "ipi name number" 11 Text ∷
    cell "submitter agreement number" 14 Text ∷
    cell "pr society" 3 Text ∷
    cell "pr share" 5 Share ∷
    cell "mr society" 3 Text ∷
    cell "mr share" 5 Share ∷
    cell "sr society" 3 Text ∷
    cell "sr share" 5 Share ∷
    cell "special agreements" 1 Text ∷
    cell "first recording refusal" 1 Flag ∷
    cell "filler" 1 Text ∷
    cell "ipi base number" 13 Text ∷
    cell "international standard agreement code" 14 Text ∷
    cell "society-assigned agreement number" 14 Text ∷
    cell "agreement type" 2 (OptCode tables.AgreementType) ∷
    cell "usa license" 1 Text ∷
    []

-- the fields of a writer, whose number and last name are of that type
abbrev pub writer_fields : CellType → List FieldLayout
writer_fields required =
    cell "interested party number" 9 required ∷
    cell "last name" 45 required ∷
    cell "first name" 30 Text ∷
    cell "writer unknown" 1 Flag ∷
    cell "designation" 2 (OptCode tables.Designation) ∷
    cell "tax id" 9 Text ∷
    cell "ipi name number" 11 Text ∷
    cell "pr society" 3 Text ∷
    cell "pr share" 5 Share ∷
    cell "mr society" 3 Text ∷
    cell "mr share" 5 Share ∷
    cell "sr society" 3 Text ∷
    cell "sr share" 5 Share ∷
    cell "reversionary" 1 Flag ∷
    cell "first recording refusal" 1 Flag ∷
    cell "work for hire" 1 Flag ∷
    cell "filler" 1 Text ∷
    cell "ipi base number" 13 Text ∷
    cell "personal number" 12 Text ∷
    cell "usa license" 1 Text ∷
    []

-- the fields of an excerpt's and of a version's original work
abbrev pub original_fields : List FieldLayout
original_fields =
    cell "title" 60 Text ∷
    cell "iswc" 11 Text ∷
    cell "language" 2 Text ∷
    cell "writer 1 last name" 45 Text ∷
    cell "writer 1 first name" 30 Text ∷
    cell "source" 60 Text ∷
    cell "writer 1 ipi name number" 11 Text ∷
    cell "writer 1 ipi base number" 13 Text ∷
    cell "writer 2 last name" 45 Text ∷
    cell "writer 2 first name" 30 Text ∷
    cell "writer 2 ipi name number" 11 Text ∷
    cell "writer 2 ipi base number" 13 Text ∷
    cell "submitter work number" 14 Text ∷
    []

-- the text of a record that is carried as text
abbrev pub carried_text_fields : List FieldLayout
carried_text_fields = cell "carried text" 700 Text ∷ []

-- the fields after the record type
abbrev pub fields_after_type : Kind → List FieldLayout
fields_after_type Hdr =
    cell "sender type" 2 (Code tables.Sender) ∷
    cell "sender id" 9 Required ∷
    cell "sender name" 45 Required ∷
    cell "edi standard version" 5 (Constant words.Edi) ∷
    cell "creation date" 8 Date ∷
    cell "creation time" 6 Time ∷
    cell "transmission date" 8 Date ∷
    cell "character set" 15 Text ∷
    []
fields_after_type Grh =
    cell "transaction type" 3 (Code tables.TransactionType) ∷
    number "group id" 5 ∷
    cell "version" 5 (Constant words.Group) ∷
    cell "batch request" 10 OptNumber ∷
    cell "submission type" 2 Text ∷
    []
fields_after_type Grt =
    number "group id" 5 ∷
    number "transaction count" 8 ∷
    number "record count" 8 ∷
    cell "currency" 3 Text ∷
    cell "total monetary value" 10 OptNumber ∷
    []
fields_after_type Trl =
    number "group count" 5 ∷
    number "transaction count" 8 ∷
    number "record count" 8 ∷
    []
fields_after_type Agr = in_transaction (
    cell "submitter agreement number" 14 Required ∷
    cell "international standard agreement code" 14 Text ∷
    cell "agreement type" 2 (Code tables.AgreementType) ∷
    cell "start date" 8 OptDate ∷
    cell "end date" 8 OptDate ∷
    cell "retention end date" 8 OptDate ∷
    cell "prior royalty status" 1 (OptCode tables.Prior) ∷
    cell "prior royalty start date" 8 OptDate ∷
    cell "post-term collection status" 1 (OptCode tables.PostTerm) ∷
    cell "post-term collection end date" 8 OptDate ∷
    cell "date of signature" 8 OptDate ∷
    cell "number of works" 5 OptNumber ∷
    cell "sales manufacture clause" 1 (OptCode tables.Sales) ∷
    cell "shares change" 1 Flag ∷
    cell "advance given" 1 Flag ∷
    cell "society-assigned agreement number" 14 Text ∷
    [])
fields_after_type Ter = in_transaction (
    cell "inclusion exclusion" 1 (Code tables.Sign) ∷
    cell "tis code" 4 Number ∷
    [])
fields_after_type Ipa = in_transaction (
    cell "agreement role" 2 (Code tables.Role) ∷
    cell "ipi name number" 11 Text ∷
    cell "ipi base number" 13 Text ∷
    cell "interested party number" 9 Text ∷
    cell "last name" 45 Required ∷
    cell "first name" 30 Text ∷
    cell "pr society" 3 Text ∷
    cell "pr share" 5 Share ∷
    cell "mr society" 3 Text ∷
    cell "mr share" 5 Share ∷
    cell "sr society" 3 Text ∷
    cell "sr share" 5 Share ∷
    [])
fields_after_type Nwr = in_transaction work_fields
fields_after_type Rev = in_transaction work_fields
fields_after_type Spu = in_transaction (publisher_fields Required)
fields_after_type Opu = in_transaction (publisher_fields Text)
fields_after_type Spt = in_transaction (
    cell "interested party number" 9 Text ∷
    cell "constant" 6 Text ∷
    cell "pr collection share" 5 Share ∷
    cell "mr collection share" 5 Share ∷
    cell "sr collection share" 5 Share ∷
    cell "inclusion exclusion" 1 (OptCode tables.Sign) ∷
    cell "tis code" 4 OptNumber ∷
    cell "shares change" 1 Flag ∷
    cell "sequence" 3 OptNumber ∷
    [])
fields_after_type Swr = in_transaction (writer_fields Required)
fields_after_type Owr = in_transaction (writer_fields Text)
fields_after_type Swt = in_transaction (
    cell "interested party number" 9 Text ∷
    cell "pr collection share" 5 Share ∷
    cell "mr collection share" 5 Share ∷
    cell "sr collection share" 5 Share ∷
    cell "inclusion exclusion" 1 (OptCode tables.Sign) ∷
    cell "tis code" 4 OptNumber ∷
    cell "shares change" 1 Flag ∷
    cell "sequence" 3 OptNumber ∷
    [])
fields_after_type Pwr = in_transaction (
    cell "publisher interested party number" 9 Text ∷
    cell "publisher name" 45 Text ∷
    cell "submitter agreement number" 14 Text ∷
    cell "society-assigned agreement number" 14 Text ∷
    cell "writer interested party number" 9 Text ∷
    [])
fields_after_type Alt = in_transaction (
    cell "title" 60 Required ∷
    cell "title type" 2 (Code tables.Title) ∷
    cell "language" 2 Text ∷
    [])
fields_after_type Ewt = in_transaction original_fields
fields_after_type Ver = in_transaction original_fields
fields_after_type Per = in_transaction (
    cell "last name" 45 Text ∷
    cell "first name" 30 Text ∷
    cell "ipi name number" 11 Text ∷
    cell "ipi base number" 13 Text ∷
    [])
fields_after_type Rec = in_transaction (
    cell "first release date" 8 OptDate ∷
    cell "constant a" 60 Text ∷
    cell "first release duration" 6 OptDuration ∷
    cell "constant b" 5 Text ∷
    cell "album title" 60 Text ∷
    cell "label" 60 Text ∷
    cell "catalogue number" 18 Text ∷
    cell "ean" 13 Text ∷
    cell "isrc" 12 Text ∷
    cell "recording format" 1 (OptCode tables.Recording) ∷
    cell "recording technique" 1 (OptCode tables.Technique) ∷
    cell "media type" 3 Text ∷
    [])
fields_after_type Orn = in_transaction (
    cell "intended purpose" 3 Text ∷
    cell "production title" 60 Text ∷
    cell "cd identifier" 15 Text ∷
    cell "cut number" 4 Text ∷
    cell "library" 60 Text ∷
    cell "bltvr" 1 Text ∷
    cell "carried bytes" 25 Text ∷
    cell "production number" 12 Text ∷
    cell "episode title" 60 Text ∷
    cell "episode number" 20 Text ∷
    cell "year of production" 4 OptNumber ∷
    cell "avi society code" 3 Text ∷
    cell "audio-visual number" 15 Text ∷
    [])
fields_after_type Com = in_transaction (
    cell "title" 60 Text ∷
    cell "iswc" 11 Text ∷
    cell "submitter work number" 14 Text ∷
    cell "duration" 6 OptDuration ∷
    cell "writer 1 last name" 45 Text ∷
    cell "writer 1 first name" 30 Text ∷
    cell "writer 1 ipi name number" 11 Text ∷
    cell "writer 2 last name" 45 Text ∷
    cell "writer 2 first name" 30 Text ∷
    cell "writer 2 ipi name number" 11 Text ∷
    cell "writer 1 ipi base number" 13 Text ∷
    cell "writer 2 ipi base number" 13 Text ∷
    [])
fields_after_type Ack = in_transaction (
    cell "creation date" 8 OptDate ∷
    cell "creation time" 6 OptTime ∷
    cell "original group id" 5 Number ∷
    cell "original transaction sequence" 8 Number ∷
    cell "original transaction type" 3 Required ∷
    cell "creation title" 60 Text ∷
    cell "submitter creation number" 20 Text ∷
    cell "recipient creation number" 20 Text ∷
    cell "processing date" 8 OptDate ∷
    cell "transaction status" 2 (Code tables.Status) ∷
    [])
fields_after_type Msg = in_transaction (
    cell "message type" 1 (Code tables.Message) ∷
    cell "original record sequence" 8 OptNumber ∷
    cell "message record type" 3 Text ∷
    cell "message level" 1 (Code tables.Message) ∷
    cell "validation number" 3 Text ∷
    cell "message text" 150 Required ∷
    [])
fields_after_type Opt = in_transaction carried_text_fields
fields_after_type Owt = in_transaction carried_text_fields
fields_after_type Npn = in_transaction carried_text_fields
fields_after_type Npr = in_transaction carried_text_fields
fields_after_type Nwn = in_transaction carried_text_fields
fields_after_type Npa = in_transaction carried_text_fields
fields_after_type Net = in_transaction carried_text_fields
fields_after_type Now = in_transaction carried_text_fields
fields_after_type Nct = in_transaction carried_text_fields
fields_after_type Nvt = in_transaction carried_text_fields
fields_after_type Nat = in_transaction carried_text_fields
fields_after_type Ins = in_transaction carried_text_fields
fields_after_type Ind = in_transaction carried_text_fields
fields_after_type Ari = in_transaction carried_text_fields
fields_after_type Xrf = in_transaction carried_text_fields

-- the fields of a kind, numbered from 1
abbrev pub layout : Kind → List FieldLayout
layout kind = record_type ∷ fields_after_type kind

-- the bytes that some fields take
abbrev pub total_width : List FieldLayout → ℕ
total_width fields = sum_by (λ f. f.width) fields

-- the width of the whole line
abbrev pub line_width : Kind → ℕ
line_width kind = total_width (layout kind)

-- each field with the place where it starts: where the one before it ends
abbrev pub fields_with_starts : ℕ → List FieldLayout → List (ℕ × FieldLayout)
fields_with_starts at [] = []
fields_with_starts at (f ∷ fields) = (at, f) ∷ fields_with_starts (at + f.width) fields

-- field j of a kind, from 1, with the place where it starts
abbrev pub field_with_start : Kind → ℕ → Option (ℕ × FieldLayout)
field_with_start kind j = if j == 0 then None else slice_get (fields_with_starts 0 (layout kind)) (j - 1)

-- field j, from 1
abbrev pub field_at : Kind → ℕ → Option FieldLayout
field_at this_kind zero = None
field_at this_kind (suc i) = slice_get (layout this_kind) i
