-- The records and transmissions of worked examples.
use Prim.Native.String.{String}
use Rattle.std.specs.Prelude.{ℕ, ◌==◌, not, List, [], ◌∷◌, ◌++◌, codes, map, filter, find, option_map, unwrap_or}
use Rattle.std.specs.List.{enumerate_from}
use Rattle.cwr_fields.specs.Format.Bytes.{filled}
use Rattle.cwr_fields.specs.declared.kinds.Kind.{Kind}
use Rattle.cwr_fields.specs.declared.kinds.Kind.TheVariants.{Hdr, Grh, Grt, Agr, Ter, Ipa, Nwr, Rev, Spu, Opu, Spt, Swr, Owr, Swt}
use Rattle.cwr_fields.specs.declared.kinds.Kind.TheVariants.{Pwr, Alt, Ewt, Per, Rec, Ack, Msg}
use Rattle.cwr_fields.specs.Format.Layouts.{FieldLayout, layout}
use Rattle.cwr_lines.specs.Format.Records.{RecordValue, blank_cell, blank_record}
use Rattle.cwr_values.specs.Format.Values.{GroupValue, TransmissionValue}

abbrev pub cell_with : List (ℕ × String) → ℕ → FieldLayout → List ℕ
cell_with sets j f =
    unwrap_or (option_map (λ p. filled f.width (codes p.1)) (find (λ p. p.0 == j) sets)) (blank_cell f.ty f.width)

-- a record with texts in some fields, by their numbers
abbrev pub with_cells : Kind → List (ℕ × String) → RecordValue
with_cells kind sets =
    record
    { kind = kind; cells = map (λ q. cell_with sets q.0 q.1) (filter (λ q. not q.1.derived) (enumerate_from 1 (layout kind))) }

abbrev pub h : RecordValue
h = with_cells Hdr ((2, "PB") ∷ (3, "123456789") ∷ (4, "MUSIC HOUSE") ∷ (6, "20240102") ∷ (7, "101500") ∷ (8, "20240103") ∷ [])

abbrev pub gr : String → RecordValue
gr ty = with_cells Grh ((2, ty) ∷ (5, "0000000001") ∷ [])

abbrev pub a1 : RecordValue
a1 =
    with_cells Ack ((4, "20240102") ∷ (5, "101500") ∷ (6, "00001") ∷ (7, "00000000") ∷ (8, "NWR") ∷ (9, "BLUE RIVER")
    ∷ (10, "W0001") ∷ (12, "20240110") ∷ (13, "AS") ∷ [])

abbrev pub ms1 : RecordValue
ms1 = with_cells Msg ((4, "F") ∷ (7, "F") ∷ (9, "TITLE CHANGED") ∷ [])

abbrev pub w1_sets : List (ℕ × String)
w1_sets = (4, "BLUE RIVER") ∷ (6, "W0001") ∷ (10, "POP") ∷ (15, "ORI") ∷ []

abbrev pub w1 : RecordValue
w1 = with_cells Nwr w1_sets

abbrev pub v1 : RecordValue
v1 = with_cells Rev ((4, "RED HILL") ∷ (6, "W0002") ∷ (15, "ORI") ∷ [])

abbrev pub v2 : RecordValue
v2 = with_cells Rev ((4, "GREEN SEA") ∷ (6, "W0003") ∷ (15, "ORI") ∷ [])

abbrev pub p1_sets : List (ℕ × String)
p1_sets = (4, "01") ∷ (5, "P1") ∷ (6, "MUSIC HOUSE") ∷ (8, "E") ∷ (13, "02500") ∷ (15, "05000") ∷ (17, "05000") ∷ []

abbrev pub p1 : RecordValue
p1 = with_cells Spu p1_sets

abbrev pub pt1 : RecordValue
pt1 = with_cells Spt ((4, "P1") ∷ (6, "05000") ∷ (7, "10000") ∷ (8, "10000") ∷ (9, "I") ∷ (10, "2136") ∷ (12, "001") ∷ [])

abbrev pub o1 : RecordValue
o1 = with_cells Opu ((4, "02") ∷ (7, "Y") ∷ (13, "02500") ∷ (15, "05000") ∷ (17, "05000") ∷ [])

abbrev pub s1_sets : List (ℕ × String)
s1_sets = (4, "W1") ∷ (5, "SMITH") ∷ (6, "ANNA") ∷ (8, "CA") ∷ []

abbrev pub s1 : RecordValue
s1 = with_cells Swr s1_sets

abbrev pub s2 : RecordValue
s2 = with_cells Swr (s1_sets ++ (12, "02500") ∷ [])

abbrev pub st1 : RecordValue
st1 = with_cells Swt ((4, "W1") ∷ (5, "05000") ∷ (8, "I") ∷ (9, "2136") ∷ (11, "001") ∷ [])

abbrev pub pw1 : RecordValue
pw1 = with_cells Pwr ((4, "P1") ∷ (5, "MUSIC HOUSE") ∷ (8, "W1") ∷ [])

abbrev pub ow1 : RecordValue
ow1 = with_cells Owr ((5, "JONES") ∷ (8, "A") ∷ (12, "02500") ∷ [])

abbrev pub al1 : RecordValue
al1 = with_cells Alt ((4, "BLUE RIVERS") ∷ (5, "AT") ∷ [])

abbrev pub ew1 : RecordValue
ew1 = with_cells Ewt ((4, "RIVER SUITE") ∷ [])

abbrev pub pe1 : RecordValue
pe1 = with_cells Per ((4, "SMITH") ∷ (5, "ANNA") ∷ [])

abbrev pub re1 : RecordValue
re1 = with_cells Rec ((4, "20240101") ∷ [])

abbrev pub ag1_sets : List (ℕ × String)
ag1_sets = (4, "AGR0001") ∷ (6, "OS") ∷ []

abbrev pub ag1 : RecordValue
ag1 = with_cells Agr ag1_sets

abbrev pub te1 : RecordValue
te1 = with_cells Ter ((4, "I") ∷ (5, "2136") ∷ [])

abbrev pub ipa_as : RecordValue
ipa_as = with_cells Ipa ((4, "AS") ∷ (8, "SMITH") ∷ [])

abbrev pub ipa_ac : RecordValue
ipa_ac = with_cells Ipa ((4, "AC") ∷ (8, "MUSIC HOUSE") ∷ [])

abbrev pub grt : RecordValue
grt = blank_record Grt

abbrev pub group_with : String → List (List RecordValue) → GroupValue
group_with ty transactions = record { head = gr ty; transactions = transactions; foot = grt }

abbrev pub transmission : List GroupValue → TransmissionValue
transmission groups = record { opening = h; groups = groups }

-- one bare acknowledgement
abbrev pub one_acknowledgement : TransmissionValue
one_acknowledgement = transmission (group_with "ACK" ((a1 ∷ []) ∷ []) ∷ [])

-- one work with records of many kinds
abbrev pub long_work : List RecordValue
long_work = w1 ∷ p1 ∷ pt1 ∷ o1 ∷ s2 ∷ st1 ∷ pw1 ∷ ow1 ∷ al1 ∷ pe1 ∷ re1 ∷ []

abbrev pub one_work : TransmissionValue
one_work = transmission (group_with "NWR" (long_work ∷ []) ∷ [])

-- an agreement of two blocks
abbrev pub one_agreement : TransmissionValue
one_agreement = transmission (group_with "AGR" ((ag1 ∷ te1 ∷ ipa_as ∷ ipa_ac ∷ te1 ∷ ipa_ac ∷ ipa_as ∷ []) ∷ []) ∷ [])

-- a group of a new work, and one of two revised works
abbrev pub two_groups : TransmissionValue
two_groups = transmission (group_with "NWR" ((w1 ∷ s1 ∷ []) ∷ []) ∷ group_with "REV" ((v1 ∷ s1 ∷ []) ∷ (v2 ∷ s1 ∷ []) ∷ []) ∷ [])
