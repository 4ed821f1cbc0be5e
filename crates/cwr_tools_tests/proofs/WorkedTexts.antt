-- What the definitions compute on the worked examples: lengths, lines, items, and splits and joins.
use Rattle.std.proofs.Common.{◌≡◌, ℕ, true, false, List, [], ◌∷◌, ◌++◌, length, map, replicate, refl, take, drop, Some, None}
use Rattle.std.specs.Prelude.{codes, slice_index_or}
use Rattle.std.specs.List.{filter, flat_map}
use Rattle.std.specs.Fmt.{digits as plain_digits}
use Rattle.cwr_fields.specs.Format.Bytes.{digits, filled, trimmed}
use Rattle.cwr_fields.specs.declared.kinds.Kind.{Kind}
use Rattle.cwr_fields.specs.declared.kinds.Kind.TheVariants as kinds
use Rattle.cwr_fields.specs.Format.Kinds.{all_kinds, is_carried}
use Rattle.cwr_fields.specs.Format.Layouts.{line_width, layout}
use Rattle.cwr_lines.specs.Format.Records.{full_line, record_of, field_number}
use Rattle.cwr_lines.specs.Format.Lines.{raw_lines, closed, line_kind, line_cells, has_bad_excess}
use Rattle.cwr_shape.specs.declared.limits.Limits.{Limits}
use Rattle.cwr_shape.specs.Format.Numbers.{numbers_of, lengths_of}
use Rattle.cwr_values.specs.declared.transmissions.ValueFault.TheVariants as value_faults
use Rattle.cwr_values.specs.Format.Values.{outline_of}
use Rattle.cwr_values.specs.Format.Rows.{rows, records_of, canonical_text, lengths_of_value}
use Rattle.cwr_values.specs.Format.Fits.{value_fault}
use Rattle.cwr_values.specs.declared.items.Item.TheVariants.{Opened, GroupOpened, Transaction, GroupClosed, Ended}
use Rattle.cwr_judge.specs.Format.Items.{items, items_after}
use Rattle.cwr_findings.specs.Format.Findings.{findings, findings_after}
use Rattle.cwr_notes.specs.Format.RecordTexts.{cell_lines}
use Rattle.cwr_tools.specs.Format.Texts.{check_text, check_lines, show_text, show_lines, good_verdict}
use Rattle.cwr_parts.specs.Format.Splits.{split_of, join_of}
use Rattle.cwr_tools_tests.proofs.Samples

-- kinds with layouts of their own
abbrev laid_out : List Kind
laid_out =
    kinds.Hdr ∷ kinds.Grh ∷ kinds.Grt ∷ kinds.Trl ∷ kinds.Agr ∷ kinds.Ter ∷ kinds.Ipa ∷ kinds.Nwr ∷ kinds.Rev ∷ kinds.Spu ∷ kinds.Opu
    ∷ kinds.Spt ∷ kinds.Swr ∷ kinds.Owr ∷ kinds.Swt ∷ kinds.Pwr ∷ kinds.Alt ∷ kinds.Ewt ∷ kinds.Ver ∷ kinds.Per ∷ kinds.Rec
    ∷ kinds.Orn ∷ kinds.Com ∷ kinds.Ack ∷ kinds.Msg ∷ []

-- the kinds that are carried as text
abbrev carried : List Kind
carried = filter is_carried all_kinds

-- their widths
widths : map line_width laid_out ≡ 101 ∷ 28 ∷ 37 ∷ 24 ∷ 121 ∷ 24 ∷ 153 ∷ 260 ∷ 260 ∷ 183 ∷ 183 ∷ 58 ∷ 180 ∷ 180 ∷ 52 ∷ 110 ∷ 83
    ∷ 364 ∷ 364 ∷ 118 ∷ 266 ∷ 301 ∷ 308 ∷ 159 ∷ 185 ∷ []
widths = refl

carried_widths : map line_width carried ≡ replicate (length carried) 719
carried_widths = refl

-- how many fields they have
field_counts : map (λ kind. length (layout kind)) laid_out ≡ 9 ∷ 6 ∷ 6 ∷ 4 ∷ 19 ∷ 5 ∷ 15 ∷ 28 ∷ 28 ∷ 25 ∷ 25 ∷ 12 ∷ 23 ∷ 23 ∷ 11
    ∷ 8 ∷ 6 ∷ 16 ∷ 16 ∷ 7 ∷ 15 ∷ 16 ∷ 15 ∷ 13 ∷ 9 ∷ []
field_counts = refl

carried_field_counts : map (λ kind. length (layout kind)) carried ≡ replicate (length carried) 4
carried_field_counts = refl

-- ---- one acknowledgement

one_acknowledgement_length : length (canonical_text Samples.one_acknowledgement) ≡ 359
unfolding digits canonical_text rows
one_acknowledgement_length = refl

-- its lines without trailing spaces, as they are written out
abbrev one_acknowledgement_lines : List (List ℕ)
one_acknowledgement_lines =
    (codes "HDRPB123456789MUSIC HOUSE" ++ replicate 34 32 ++ codes "01.102024010210150020240103")
    ∷ codes "GRHACK0000102.100000000001"
    ∷ (codes "ACK0000000000000000202401021015000000100000000NWRBLUE RIVER" ++ replicate 50 32 ++ codes "W0001" ++ replicate 35 32
    ++ codes "20240110AS")
    ∷ codes "GRT000010000000100000003"
    ∷ codes "TRL000010000000100000005" ∷ []

one_acknowledgement_trimmed : map (λ row. trimmed (full_line row)) (rows Samples.one_acknowledgement) ≡ one_acknowledgement_lines
unfolding digits trimmed rows
one_acknowledgement_trimmed = refl

one_acknowledgement_lengths : map length one_acknowledgement_lines ≡ 86 ∷ 26 ∷ 159 ∷ 24 ∷ 24 ∷ []
one_acknowledgement_lengths = refl

-- the canonical text, byte by byte
one_acknowledgement_text : canonical_text Samples.one_acknowledgement ≡ flat_map (λ (p : ℕ × List ℕ). filled p.0 p.1 ++ 13 ∷ 10
    ∷ []) ((101, slice_index_or one_acknowledgement_lines 0 []) ∷ (28, slice_index_or one_acknowledgement_lines 1 [])
    ∷ (159, slice_index_or one_acknowledgement_lines 2 []) ∷ (37, slice_index_or one_acknowledgement_lines 3 [])
    ∷ (24, slice_index_or one_acknowledgement_lines 4 []) ∷ [])
unfolding digits canonical_text rows
one_acknowledgement_text = refl

-- without trailing spaces, with LF alone, and no line end after TRL
abbrev trimmed_acknowledgement_text : List ℕ
trimmed_acknowledgement_text = take 323 (flat_map (λ line. line ++ 10 ∷ []) one_acknowledgement_lines)

trimmed_acknowledgement_length : length trimmed_acknowledgement_text ≡ 323
trimmed_acknowledgement_length = refl

trimmed_acknowledgement_closed : length (closed trimmed_acknowledgement_text) ≡ 324
trimmed_acknowledgement_closed = refl

trimmed_acknowledgement_raw : raw_lines (closed trimmed_acknowledgement_text) ≡ one_acknowledgement_lines
trimmed_acknowledgement_raw = refl

trimmed_acknowledgement_cut : map line_cells (raw_lines (closed trimmed_acknowledgement_text))
    ≡ map (λ row. row.cells) (rows Samples.one_acknowledgement)
unfolding digits rows
trimmed_acknowledgement_cut = refl

-- the records of the rows are those of the value again
one_acknowledgement_records : map record_of (rows Samples.one_acknowledgement) ≡ records_of Samples.one_acknowledgement
unfolding digits rows
one_acknowledgement_records = refl

one_acknowledgement_items : items (rows Samples.one_acknowledgement)
    ≡ Opened Samples.h ∷ GroupOpened (Samples.gr "ACK") ∷ Transaction (Samples.a1 ∷ []) ∷ GroupClosed Samples.grt ∷ Ended ∷ []
unfolding digits rows items_after
one_acknowledgement_items = refl

-- no transaction is handed out before a row follows it
one_acknowledgement_three : items (take 3 (rows Samples.one_acknowledgement))
    ≡ Opened Samples.h ∷ GroupOpened (Samples.gr "ACK") ∷ []
unfolding digits rows items_after
one_acknowledgement_three = refl

one_acknowledgement_check : check_text (items (rows Samples.one_acknowledgement)) (good_verdict Samples.one_acknowledgement)
    ≡ codes "GOOD groups 1 transactions 1 records 5\n"
unfolding digits plain_digits rows items_after check_lines findings findings_after
one_acknowledgement_check = refl

one_acknowledgement_show : show_text (items (rows Samples.one_acknowledgement)) (good_verdict Samples.one_acknowledgement) ≡
    codes
    "1 HDR\n  2 sender type: PB\n  3 sender id: 123456789\n  4 sender name: MUSIC HOUSE\n  5 edi standard version: 01.10\n  6 creation date: 20240102\n  7 creation time: 101500\n  8 transmission date: 20240103\n"
    ++ codes "2 GRH\n  2 transaction type: ACK\n  4 version: 02.10\n  5 batch request: 0000000001\n"
    ++ codes
    "3 ACK\n  4 creation date: 20240102\n  5 creation time: 101500\n  6 original group id: 00001\n  7 original transaction sequence: 00000000\n  8 original transaction type: NWR\n  9 creation title: BLUE RIVER\n  10 submitter creation number: W0001\n  12 processing date: 20240110\n  13 transaction status: AS\n"
    ++ codes "4 GRT\n5 TRL\nGOOD groups 1 transactions 1 records 5\n"
unfolding digits trimmed plain_digits rows items_after cell_lines show_lines
one_acknowledgement_show = refl

-- ---- one work with records of many kinds

one_work_length : length (canonical_text Samples.one_work) ≡ 1893
unfolding digits canonical_text rows
one_work_length = refl

one_work_ends : map (λ row. trimmed (full_line row)) (drop 13 (rows Samples.one_work))
    ≡ codes "GRT000010000000100000013" ∷ codes "TRL000010000000100000015" ∷ []
unfolding digits trimmed rows
one_work_ends = refl

one_work_findings : findings Samples.long_work ≡ []
unfolding findings findings_after
one_work_findings = refl

one_work_check : check_text (items (rows Samples.one_work)) (good_verdict Samples.one_work)
    ≡ codes "GOOD groups 1 transactions 1 records 15\n"
unfolding digits plain_digits rows items_after check_lines findings findings_after
one_work_check = refl

one_agreement_check : check_text (items (rows Samples.one_agreement)) (good_verdict Samples.one_agreement)
    ≡ codes "GOOD groups 1 transactions 1 records 11\n"
unfolding digits plain_digits rows items_after check_lines findings findings_after
one_agreement_check = refl

-- ---- two groups

two_groups_length : length (canonical_text Samples.two_groups) ≡ 1599
unfolding digits canonical_text rows
two_groups_length = refl

two_groups_numbers : numbers_of (lengths_of_value Samples.two_groups) ≡
    [] ∷ (1 ∷ []) ∷ (0 ∷ 0 ∷ []) ∷ (0 ∷ 1 ∷ []) ∷ (1 ∷ 1 ∷ 4 ∷ [])
    ∷ (2 ∷ []) ∷ (0 ∷ 0 ∷ []) ∷ (0 ∷ 1 ∷ []) ∷ (1 ∷ 0 ∷ []) ∷ (1 ∷ 1 ∷ []) ∷ (2 ∷ 2 ∷ 6 ∷ []) ∷ (2 ∷ 3 ∷ 12 ∷ []) ∷ []
two_groups_numbers = refl

two_groups_outline : lengths_of (outline_of Samples.two_groups) ≡ lengths_of_value Samples.two_groups
two_groups_outline = refl

two_groups_check : check_text (items (rows Samples.two_groups)) (good_verdict Samples.two_groups)
    ≡ codes "GOOD groups 2 transactions 3 records 12\n"
unfolding digits plain_digits rows items_after check_lines findings findings_after
two_groups_check = refl

limits : ℕ → ℕ → ℕ → Limits
limits r g t = record { records = r; groups = g; transaction = t }

two_groups_fits : value_fault (limits 11 2 2) Samples.two_groups ≡ Some value_faults.Records
unfolding limits rows
two_groups_fits = refl

two_groups_fits_groups : value_fault (limits 12 1 2) Samples.two_groups ≡ Some value_faults.Groups
unfolding limits rows
two_groups_fits_groups = refl

two_groups_fits_transaction : value_fault (limits 12 2 1) Samples.two_groups ≡ Some (value_faults.Transaction 0 0)
unfolding limits rows
two_groups_fits_transaction = refl

two_groups_fits_all : value_fault (limits 12 2 2) Samples.two_groups ≡ None
unfolding limits rows
two_groups_fits_all = refl

-- ---- split and join

split_in_twos_lengths : map (λ v. length (canonical_text v)) (split_of 2 Samples.two_groups) ≡ 1155 ∷ 642 ∷ []
unfolding digits canonical_text rows
split_in_twos_lengths = refl

split_in_twos_numbers : map (λ v. numbers_of (lengths_of_value v)) (split_of 2 Samples.two_groups) ≡
    ([] ∷ (1 ∷ []) ∷ (0 ∷ 0 ∷ []) ∷ (0 ∷ 1 ∷ []) ∷ (1 ∷ 1 ∷ 4 ∷ []) ∷ (2 ∷ []) ∷ (0 ∷ 0 ∷ []) ∷ (0 ∷ 1 ∷ []) ∷ (2 ∷ 1 ∷ 4 ∷ [])
    ∷ (2 ∷ 2 ∷ 10 ∷ []) ∷ [])
    ∷ ([] ∷ (1 ∷ []) ∷ (0 ∷ 0 ∷ []) ∷ (0 ∷ 1 ∷ []) ∷ (1 ∷ 1 ∷ 4 ∷ []) ∷ (1 ∷ 1 ∷ 6 ∷ []) ∷ []) ∷ []
split_in_twos_numbers = refl

split_in_ones : map (λ v. length (canonical_text v)) (split_of 1 Samples.two_groups) ≡ 642 ∷ 642 ∷ 642 ∷ []
unfolding digits canonical_text rows
split_in_ones = refl

split_in_threes : split_of 3 Samples.two_groups ≡ Samples.two_groups ∷ []
split_in_threes = refl

joined_again_length : map (λ v. length (canonical_text v)) (map
    (λ parts. join_of (slice_index_or parts 0 Samples.one_acknowledgement) (drop 1 parts))
    (split_of 2 Samples.two_groups ∷ [])) ≡ 1668 ∷ []
unfolding digits canonical_text rows
joined_again_length = refl

-- ---- cut lines

-- what stands after the last field is bad where it isn't spaces, and on a line that is too long
long_line_over : has_bad_excess (filled 1025 (slice_index_or one_acknowledgement_lines 0 [])) ≡ true
long_line_over = refl

long_line_fits : has_bad_excess (filled 1024 (slice_index_or one_acknowledgement_lines 0 [])) ≡ false
long_line_fits = refl

unknown_kinds : map line_kind ((239 ∷ 187 ∷ 191 ∷ slice_index_or one_acknowledgement_lines 0 []) ∷ codes "hdr" ∷ [] ∷ [])
    ≡ None ∷ None ∷ None ∷ []
unknown_kinds = refl

-- the fields that rules name
iswc_fields : map (field_number "iswc") (kinds.Nwr ∷ kinds.Rev ∷ kinds.Ewt ∷ kinds.Ver ∷ kinds.Com ∷ []) ≡ 7 ∷ 7 ∷ 5 ∷ 5 ∷ 5 ∷ []
iswc_fields = refl
