-- What is written under the line of a finding: where its record stands in the file, the rule in words, how much it rejects, and the
-- cells that it speaks of.
use Prim.Native.String.{String}
use Rattle.std.specs.Prelude.{ℕ, ◌+◌, ◌-◌, Bool, true, false, ◌&&◌, ◌||◌, ◌==◌, List, [], ◌∷◌, ◌++◌, codes, decimal, length, take}
use Rattle.std.specs.Prelude.{drop, Option, Some, None, if◌then◌else◌, flat_map, slice_get, count_by}
use Rattle.std.specs.List.{after_last, enumerate_from, last_or}
use Rattle.std.specs.Option.{option_to_list}
use Rattle.cwr_fields.specs.Format.Bytes.{is_spaces, trimmed}
use Rattle.cwr_fields.specs.declared.kinds.Kind.{Kind}
use Rattle.cwr_fields.specs.declared.kinds.Kind.TheVariants as kinds
use Rattle.cwr_fields.specs.Format.Kinds.{letters}
use Rattle.cwr_fields.specs.Format.Layouts.{FieldLayout, layout}
use Rattle.cwr_lines.specs.Format.Records.{RecordValue}
use Rattle.cwr_lines.specs.Format.Carried.{carried_at, record_cell}
use Rattle.cwr_shape.specs.declared.reasons.Level.{Level}
use Rattle.cwr_shape.specs.declared.reasons.Level.TheVariants as levels
use Rattle.cwr_values.specs.declared.items.Item.{Item}
use Rattle.cwr_values.specs.declared.items.Item.TheVariants.{Transaction}
use Rattle.cwr_judge.specs.Format.Items.{records_in, opens_group, is_transaction}
use Rattle.cwr_findings.specs.declared.rules.Rule.{Rule}
use Rattle.cwr_findings.specs.declared.rules.Rule.TheVariants.{V1, V2, V3, V4, V5, V6, V7, V8, V9, V10, V11}
use Rattle.cwr_findings.specs.declared.rules.Finding.{Finding}
use Rattle.cwr_findings.specs.Format.Fields.{index_of_name}
use Rattle.cwr_findings.specs.Format.Findings.{findings, is_a, is_owner, is_party, ownership}
use Rattle.cwr_findings.specs.Format.ReportLines.{finding_line}
use Rattle.cwr_notes.specs.Format.WorkNames.{work_of}

-- ---- in words

-- what the rule asks for
abbrev pub rule_words : Rule → List ℕ
rule_words V1 = codes "a work code (iswc) is blank, or T, nine digits and the check digit that belongs to them"
rule_words V2 =
    codes "the interested party number of SPT is that of the nearest SPU before it, and that of SWT is that of the nearest SWR"
rule_words V3 = codes "the pr shares of SPU, OPU, SWR and OWR add up to 0, or to 9994 to 10006 (hundredths of a percent)"
rule_words V4 = codes "the mr shares of SPU, OPU, SWR and OWR add up to 0, or to 9994 to 10006 (hundredths of a percent)"
rule_words V5 = codes "the sr shares of SPU, OPU, SWR and OWR add up to 0, or to 9994 to 10006 (hundredths of a percent)"
rule_words V6 = codes "someone has written the words or the music: one of the SWR and OWR has designation A, C or CA"
rule_words V7 = codes "the publisher interested party number of PWR is the interested party number of an SPU of the work"
rule_words V8 = codes "only an excerpt has EWT: where one stands, the excerpt type of the work isn't blank"
rule_words V9 = codes "the composite component count is blank, or it is the number of COM records"
rule_words V10 = codes "an agreement doesn't end before it starts"
rule_words V11 =
    codes
    "in one block the AS records, and so the AC records, have shares of at most 10006 (hundredths of a percent) in each right"

-- how much a level rejects
abbrev pub level_words : Level → List ℕ
level_words levels.E = codes "E: the entire file is rejected"
level_words levels.G = codes "G: the group is rejected"
level_words levels.T = codes "T: the transaction is rejected"
level_words levels.R = codes "R: the record is rejected"
level_words levels.F = codes "F: the field is rejected"

-- ---- a cell

-- the number of the first field of that name, from 1; where the kind has none, the number after its last
abbrev pub number_of_field : List ℕ → Kind → ℕ
number_of_field name kind = 1 + index_of_name name (layout kind)

-- what stands in a cell
abbrev pub value_words : List ℕ → List ℕ
value_words cell = if is_spaces cell then codes "blank" else trimmed cell

-- the line on a cell of a field, where both are there, in a record of the kind on line n of the file
abbrev pub noted_line : ℕ → Kind → Option FieldLayout → Option (List ℕ) → List ℕ
noted_line n this_kind (Some f) (Some cell) =
    codes "  cell      line " ++ decimal n ++ codes ", " ++ letters this_kind ++ codes " " ++ f.name ++ codes ": "
    ++ value_words cell ++ 10 ∷ []
noted_line n this_kind f cell = []

-- the line on the record's cell of that name, if it carries one
unfoldable pub named_line : ℕ → RecordValue → List ℕ → List ℕ
named_line n r name =
    noted_line n r.kind (carried_at r.kind (number_of_field name r.kind)) (record_cell r (number_of_field name r.kind))

-- the lines on the record's cells of which the rule speaks
abbrev pub noted_cells : ℕ → Rule → RecordValue → List ℕ
noted_cells n V1 r = named_line n r (codes "iswc")
noted_cells n V2 r = named_line n r (codes "interested party number")
noted_cells n V3 r = named_line n r (codes "pr share")
noted_cells n V4 r = named_line n r (codes "mr share")
noted_cells n V5 r = named_line n r (codes "sr share")
noted_cells n V6 r = named_line n r (codes "designation")
noted_cells n V7 r =
    named_line n r (codes "publisher interested party number") ++ named_line n r (codes "interested party number")
noted_cells n V8 r = named_line n r (codes "title") ++ named_line n r (codes "excerpt type")
noted_cells n V9 r = named_line n r (codes "title") ++ named_line n r (codes "composite component count")
noted_cells n V10 r = named_line n r (codes "start date") ++ named_line n r (codes "end date")
noted_cells n V11 r =
    named_line n r (codes "agreement role") ++ named_line n r (codes "pr share") ++ named_line n r (codes "mr share")
    ++ named_line n r (codes "sr share")

-- the same of the record at a position of a transaction, whose first record is on line n
unfoldable pub noted_at : ℕ → List RecordValue → Rule → ℕ → List ℕ
noted_at n t rule position = flat_map (noted_cells (n + position) rule) (option_to_list (slice_get t position))

-- ---- the other records of which a rule speaks

-- the positions of the records that pass, where the first has position n
abbrev pub positions_from : (RecordValue → Bool) → ℕ → List RecordValue → List ℕ
positions_from p n [] = []
positions_from p n (r ∷ rest) = if p r then n ∷ positions_from p (n + 1) rest else positions_from p (n + 1) rest

-- their positions, from 0
abbrev pub positions : (RecordValue → Bool) → List RecordValue → List ℕ
positions p records = positions_from p 0 records

-- the position of the last of them, if there is one
abbrev pub last_position : (RecordValue → Bool) → List RecordValue → Option ℕ
last_position p records = last_or None (positions p records)

-- the positions of the parties of a block, where the first of the records has position n: up to the next territory after a party
abbrev pub parties_from : Bool → ℕ → List RecordValue → List ℕ
parties_from seen n [] = []
parties_from seen n (r ∷ rest) =
    if is_party r then n
    ∷ parties_from true (n + 1) rest else (if seen && is_a kinds.Ter r then [] else parties_from seen (n + 1) rest)

-- a writer
abbrev pub is_writer : RecordValue → Bool
is_writer r = is_a kinds.Swr r || is_a kinds.Owr r

-- the header of a work
abbrev pub is_header : RecordValue → Bool
is_header r = is_a kinds.Nwr r || is_a kinds.Rev r

-- the positions of the other records of which the rule speaks, at record r of the transaction t, after k others. The publishers and
-- the header of a work all stand before its PWR and EWT.
abbrev pub others : Rule → List RecordValue → ℕ → RecordValue → List ℕ
others V2 t k r =
    option_to_list
    (if is_a kinds.Spt r then last_position (is_a kinds.Spu) (take k t) else last_position (is_a kinds.Swr) (take k t))
others V3 t k r = positions is_owner t
others V4 t k r = positions is_owner t
others V5 t k r = positions is_owner t
others V6 t k r = positions is_writer t
others V7 t k r = positions (is_a kinds.Spu) (take k t)
others V8 t k r = option_to_list (last_position is_header (take k t))
others V9 t k r = positions (is_a kinds.Com) t
others V11 t k r = parties_from false (k + 1) (drop (k + 1) t)
others rule t k r = []

-- the right that a rule on ownership speaks of
abbrev pub right_of : Rule → String
right_of V3 = "pr share"
right_of V4 = "mr share"
right_of rule = "sr share"

-- ---- the lines under a finding

-- where the record stands
abbrev pub where_line : ℕ → Kind → List ℕ
where_line n kind = codes "  where     line " ++ decimal n ++ codes ", " ++ letters kind ++ 10 ∷ []

-- where the record stands, the line on its work, the rule, the level, and the record's own cells of which the rule speaks
abbrev pub head_lines : ℕ → List ℕ → Finding → RecordValue → List ℕ
head_lines n work f r =
    where_line n r.kind ++ work ++ codes "  rule      " ++ rule_words f.rule ++ codes "\n  level     " ++ level_words f.level
    ++ 10 ∷ [] ++ noted_cells n f.rule r

-- the most other records whose cells are written
abbrev pub most_others : ℕ
most_others = 20

-- how many records more there are
abbrev pub more_line : ℕ → List ℕ
more_line n = if n == 0 then [] else codes "  more      records like these: " ++ decimal n ++ 10 ∷ []

-- What shares add up to, in hundredths of a percent. Where that is 1 %, they may be in percent.
abbrev pub shares_line : ℕ → List ℕ
shares_line total =
    if total == 100 then codes "  total     100, that is 1 %: are the shares in percent?\n"
    else codes "  total     " ++ decimal total ++ 10 ∷ []

-- what the rule adds up or counts
abbrev pub total_line : Rule → ℕ → List RecordValue → List ℕ
total_line V3 count t = shares_line (ownership (right_of V3) t)
total_line V4 count t = shares_line (ownership (right_of V4) t)
total_line V5 count t = shares_line (ownership (right_of V5) t)
total_line V9 count t = codes "  total     COM records: " ++ decimal count ++ 10 ∷ []
total_line rule count t = []

-- an empty line, where what is told stands apart from what follows
abbrev pub gap : Bool → List ℕ
gap false = []
gap true = 10 ∷ []

-- how many records more there are, what is added up, and an empty line where findings stand apart
abbrev pub tail_lines : Bool → Rule → ℕ → List RecordValue → List ℕ
tail_lines apart rule count t = more_line (count - most_others) ++ total_line rule count t ++ gap apart

-- the lines under a finding at a record
abbrev pub notes_on : Bool → ℕ → List RecordValue → Finding → RecordValue → List ℕ
notes_on apart n t f r =
    head_lines (n + f.rec) (work_of t) f r ++ flat_map (noted_at n t f.rule) (take most_others (others f.rule t f.rec r))
    ++ tail_lines apart f.rule (length (others f.rule t f.rec r)) t

-- the lines under a finding in the transaction t, whose first record is on line n of the file
unfoldable pub finding_notes : Bool → ℕ → List RecordValue → Finding → List ℕ
finding_notes apart n t f = flat_map (notes_on apart n t f) (option_to_list (slice_get t f.rec))

-- ---- of items

-- the line of a finding, and the lines under it
abbrev pub explained_finding : Bool → ℕ → ℕ → ℕ → List RecordValue → Finding → List ℕ
explained_finding apart group sequence n t f = finding_line group sequence f ++ finding_notes apart n t f

-- the explained findings of an item, where it is the transaction of that sequence in the group of that ID, and begins on line n
abbrev pub explained_in : Bool → ℕ → ℕ → ℕ → Item → List ℕ
explained_in apart group sequence n (Transaction t) = flat_map (explained_finding apart group sequence n t) (findings t)
explained_in apart group sequence n item = []

-- the same, by the items before it
abbrev pub explained_findings : Bool → List Item → Item → List ℕ
explained_findings apart before item =
    explained_in apart (count_by opens_group before) (count_by is_transaction (after_last opens_group before))
    (length (records_in before) + 1) item

-- what is written of items whose findings are explained, apart from one another or not
unfoldable pub explained_lines : Bool → List Item → List ℕ
explained_lines apart items = flat_map (λ p. explained_findings apart (take p.0 items) p.1) (enumerate_from 0 items)
