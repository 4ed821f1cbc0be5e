-- Advice on a transaction that is to be sent: which record breaks which rule, and at which field.
use Prim.Native.String.{String}
use Rattle.std.specs.Prelude.{ℕ, ◌+◌, Bool, true, false, not, ◌&&◌, ◌||◌, nat_lt, nat_le, List, [], ◌∷◌, codes, map, filter, take}
use Rattle.std.specs.Prelude.{drop, take_while, unwrap_or, flat_map, count_by, if◌then◌else◌, Option, None}
use Rattle.std.specs.List.{list_any, sum_by, enumerate_from, after_last, last_or}
use Rattle.std.specs.Str.{bytes_eq}
use Rattle.cwr_fields.specs.Format.Bytes.{is_spaces}
use Rattle.cwr_fields.specs.declared.kinds.Kind.{Kind}
use Rattle.cwr_fields.specs.declared.kinds.Kind.TheVariants as kinds
use Rattle.cwr_lines.specs.Format.Carried.{record_cell}
use Rattle.cwr_lines.specs.Format.Records.{RecordValue, cell_named}
use Rattle.cwr_shape.specs.declared.reasons.Level.{Level}
use Rattle.cwr_shape.specs.declared.reasons.Level.TheVariants.{T, R, F}
use Rattle.cwr_findings.specs.Format.Findings.{has_party_number, is_a, is_blank, is_owner, ownership, share_of}
use Rattle.cwr_advice.specs.declared.rules.AdviceRule.{AdviceRule}
use Rattle.cwr_advice.specs.declared.rules.AdviceRule.TheVariants.{A1a, A1b, A2a, A2b, A2c, A2d, A2e, A2f, A2g, A2h, A3a, A3b}
use Rattle.cwr_advice.specs.declared.rules.AdviceRule.TheVariants.{A3c, A3d, A3e, A4a, A4b, A4c, A4d, A5a, A6a, A6b, A6c, A7a}
use Rattle.cwr_advice.specs.declared.rules.AdviceRule.TheVariants.{A8a, A8b, A8c, A8d, A8e, A9a, A9b, A9c}
use Rattle.cwr_advice.specs.declared.rules.Asked.{Asked}
use Rattle.cwr_advice.specs.declared.rules.Advice.{Advice}
use Rattle.cwr_advice.specs.declared.said.Said.{Said}
use Rattle.cwr_advice.specs.Format.Characters.{has_html, has_lost_letter, is_unlike}
use Rattle.cwr_advice.specs.Format.Days.{is_to_come}
use Rattle.cwr_advice.specs.Format.Numbers.{is_ean, is_ipi_base, is_ipi_name, is_isrc, is_language, is_society}
use Rattle.cwr_advice.specs.Format.Numbers.{is_territory_number, is_zero}
use Rattle.cwr_advice.specs.Format.Shifts.{begins_with_letter, ends_with_letter, has_gap}

-- ---- words on records

-- a publisher of a work
abbrev pub is_publisher : RecordValue → Bool
is_publisher r = is_a kinds.Spu r || is_a kinds.Opu r

-- a writer of a work
abbrev pub is_writer : RecordValue → Bool
is_writer r = is_a kinds.Swr r || is_a kinds.Owr r

-- the header of a work
abbrev pub is_header : RecordValue → Bool
is_header r = is_a kinds.Nwr r || is_a kinds.Rev r

-- it owns a share in some right
abbrev pub owns_shares : RecordValue → Bool
owns_shares r = is_owner r && nat_lt 0 (share_of "pr share" r + share_of "mr share" r + share_of "sr share" r)

-- the record's cell of field j
abbrev pub cell_at : RecordValue → ℕ → List ℕ
cell_at r j = unwrap_or (record_cell r j) []

-- ---- A1: where shares are collected

-- a territory of a publisher or of a writer
abbrev pub is_territory : RecordValue → Bool
is_territory r = is_a kinds.Spt r || is_a kinds.Swt r

-- the one of that number
abbrev pub is_territory_of : List ℕ → RecordValue → Bool
is_territory_of code r = is_territory r && bytes_eq (cell_named "tis code" r) code

-- the same, where it isn't left out
abbrev pub collects_in : List ℕ → RecordValue → Bool
collects_in code r = is_territory_of code r && not (bytes_eq (cell_named "inclusion exclusion" r) (codes "E"))

-- what is collected there of a right is more than the whole
abbrev pub is_over_in : List ℕ → List RecordValue → String → Bool
is_over_in code records right = nat_lt 10006 (sum_by (share_of right) (filter (collects_in code) records))

-- the same of one or more of the three rights
abbrev pub are_over_in : List ℕ → List RecordValue → Bool
are_over_in code records =
    is_over_in code records "pr collection share" || is_over_in code records "mr collection share" || is_over_in code records
    "sr collection share"

-- so many territories of a work are compared with one another, and where there are more, none
abbrev pub has_few_territories : List RecordValue → Bool
has_few_territories t = nat_le (count_by is_territory t) 200

-- a territory whose number is filled in, in a work that has few
abbrev pub is_compared : List RecordValue → RecordValue → Bool
is_compared t r = has_few_territories t && is_territory r && not (is_blank "tis code" r)

-- with this territory more than the whole is collected there, and without it not
abbrev pub goes_over : List RecordValue → ℕ → RecordValue → Bool
goes_over t k r =
    is_compared t r && are_over_in (cell_named "tis code" r) (take (k + 1) t) && not
    (are_over_in (cell_named "tis code" r) (take k t))

-- the same territory stands before it already, after the last publisher or writer
abbrev pub stands_twice : List RecordValue → ℕ → RecordValue → Bool
stands_twice t k r = is_compared t r && list_any (is_territory_of (cell_named "tis code" r)) (after_last is_owner (take k t))

-- ---- A2: chains of publishers, and what a party needs

-- the type of an administrator or a sub-publisher
abbrev pub names_agent : List ℕ → Bool
names_agent ty = bytes_eq ty (codes "AM") || bytes_eq ty (codes "SE")

-- an administrator or a sub-publisher
abbrev pub is_agent : RecordValue → Bool
is_agent r = is_publisher r && names_agent (cell_named "publisher type" r)

-- a publisher of the chain with that publisher sequence
abbrev pub in_chain : List ℕ → RecordValue → Bool
in_chain sequence p = is_publisher p && bytes_eq (cell_named "publisher sequence" p) sequence

-- the first publisher of a chain is an administrator or a sub-publisher
abbrev pub begins_with_agent : List RecordValue → ℕ → RecordValue → Bool
begins_with_agent t k r = is_agent r && not (list_any (in_chain (cell_named "publisher sequence" r)) (take k t))

-- a publisher whom the submitter controls, who owns a share in some right
abbrev pub is_owning_publisher : RecordValue → Bool
is_owning_publisher r = is_a kinds.Spu r && owns_shares r

-- there is one, and no record says where they collect
abbrev pub collects_nowhere : List RecordValue → Bool
collects_nowhere t = list_any is_owning_publisher t && not (list_any (is_a kinds.Spt) t)

-- the records of the writer who stands after k others: those up to the next writer
abbrev pub records_of_writer : List RecordValue → ℕ → List RecordValue
records_of_writer t k = take_while (λ r. not (is_writer r)) (drop (k + 1) t)

-- the writer has no publisher, though the work has one whom the submitter controls
abbrev pub has_no_publisher : List RecordValue → ℕ → RecordValue → Bool
has_no_publisher t k r =
    is_a kinds.Swr r && list_any (is_a kinds.Spu) t && not (list_any (is_a kinds.Pwr) (records_of_writer t k))

-- the writer owns shares, and no record says where they are collected
abbrev pub has_no_territory : List RecordValue → ℕ → RecordValue → Bool
has_no_territory t k r = is_a kinds.Swr r && owns_shares r && not (list_any (is_a kinds.Swt) (records_of_writer t k))

-- the writer owns nothing, and no record says that something is collected
abbrev pub has_nothing : List RecordValue → ℕ → RecordValue → Bool
has_nothing t k r = is_a kinds.Swr r && not (owns_shares r) && not (list_any (is_a kinds.Swt) (records_of_writer t k))

-- the record owns shares, and its number, field j, is blank
abbrev pub lacks_number : RecordValue → ℕ → Bool
lacks_number r j = is_spaces (cell_at r j) && owns_shares r

-- the cell of a share is filled in, and not with zero
abbrev pub is_share : List ℕ → Bool
is_share cell = not (is_spaces cell) && not (is_zero cell)

-- the society of a right, field j, is blank, and the share in that right, the field after it, is filled in, and not with zero
abbrev pub lacks_society : RecordValue → ℕ → Bool
lacks_society r j = is_spaces (cell_at r j) && is_share (cell_at r (j + 1))

-- the last writer among the records, if there is one
abbrev pub last_writer : List RecordValue → Option RecordValue
last_writer records = last_or None (filter is_writer records)

-- The publisher of a writer names a writer by a number that isn't blank, and the writer before it doesn't have that number. Where the
-- number is blank, which it may be, the record names none, and is that one's by its place alone.
abbrev pub names_other_writer : List RecordValue → ℕ → RecordValue → Bool
names_other_writer t k r =
    is_a kinds.Pwr r && not (is_blank "writer interested party number" r) && not
    (has_party_number (cell_named "writer interested party number" r) (last_writer (take k t)))

-- ---- A3: who owns the rights

-- more than half of it, with the tolerance of the rules V3 to V5
abbrev pub owns_over_half : RecordValue → Bool
owns_over_half r = is_publisher r && nat_lt 5006 (share_of "pr share" r)

-- what the writers own of it
abbrev pub owned_by_writers : List RecordValue → ℕ
owned_by_writers t = sum_by (share_of "pr share") (filter is_writer t)

-- someone owns some of it, and the writers less than half, with the same tolerance
abbrev pub writers_own_less : List RecordValue → Bool
writers_own_less t = nat_lt 0 (ownership "pr share" t) && nat_lt (owned_by_writers t) 4994

-- the share of an owner in a right is filled in
abbrev pub states : String → RecordValue → Bool
states right r = is_owner r && not (is_blank right r)

-- the work has writers, and nobody's share in the right is filled in
abbrev pub states_nothing : String → List RecordValue → Bool
states_nothing right t = list_any is_writer t && not (list_any (states right) t)

-- ---- A6: composite works and versions

-- the header of a work with a composite type
abbrev pub has_composite_type : RecordValue → Bool
has_composite_type r = is_header r && not (is_blank "composite type" r)

-- there is one, and no component
abbrev pub lacks_components : List RecordValue → RecordValue → Bool
lacks_components t r = has_composite_type r && not (list_any (is_a kinds.Com) t)

-- the header of a work without a composite type
abbrev pub has_no_composite_type : RecordValue → Bool
has_no_composite_type r = is_header r && is_blank "composite type" r

-- a component of a work whose header has none
abbrev pub is_stray_component : List RecordValue → RecordValue → Bool
is_stray_component t r = is_a kinds.Com r && list_any has_no_composite_type (take 1 t)

-- the header of a version of another work
abbrev pub is_version : RecordValue → Bool
is_version r = is_header r && bytes_eq (cell_named "version type" r) (codes "MOD")

-- a version whose original no record names
abbrev pub lacks_original : List RecordValue → RecordValue → Bool
lacks_original t r = is_version r && not (list_any (is_a kinds.Ver) t)

-- ---- A7: text that stands too far to the left

-- the text of field j goes on over its end, and stands behind a gap: it doesn't begin the cell, as a text that is too long does
abbrev pub is_shifted : RecordValue → ℕ → Bool
is_shifted r j = ends_with_letter (cell_at r j) && begins_with_letter (cell_at r (j + 1)) && has_gap (cell_at r j)

-- ---- A4 and A8: cells that are judged by themselves

-- the cell is as the rule asks
abbrev pub is_right : AdviceRule → List ℕ → Bool
is_right A4a cell = is_ipi_name cell
is_right A4b cell = is_ipi_base cell
is_right A4c cell = is_isrc cell
is_right A4d cell = is_ean cell
is_right A8a cell = is_society cell
is_right A8b cell = is_territory_number cell
is_right A8c cell = is_language cell
is_right A8d cell = not (is_zero cell)
is_right rule cell = true

-- it is filled in, and not so
abbrev pub is_wrong : AdviceRule → List ℕ → Bool
is_wrong rule cell = not (is_spaces cell) && not (is_right rule cell)

-- ---- all rules

-- Record r breaks the rule by itself, at field j where that judges a cell. So much is said of the transmission.
abbrev pub breaks_alone : Said → AdviceRule → RecordValue → ℕ → Bool
breaks_alone said A2f r j = lacks_number r j
breaks_alone said A2g r j = lacks_society r j
breaks_alone said A3a r j = owns_over_half r
breaks_alone said A4a r j = is_wrong A4a (cell_at r j)
breaks_alone said A4b r j = is_wrong A4b (cell_at r j)
breaks_alone said A4c r j = is_wrong A4c (cell_at r j)
breaks_alone said A4d r j = is_wrong A4d (cell_at r j)
breaks_alone said A7a r j = is_shifted r j
breaks_alone said A8a r j = is_wrong A8a (cell_at r j)
breaks_alone said A8b r j = is_wrong A8b (cell_at r j)
breaks_alone said A8c r j = is_wrong A8c (cell_at r j)
breaks_alone said A8d r j = is_wrong A8d (cell_at r j)
breaks_alone said A8e r j = is_to_come said.sent (cell_at r j)
breaks_alone said A9a r j = is_unlike said.characters (cell_at r j)
breaks_alone said A9b r j = has_lost_letter (cell_at r j)
breaks_alone said A9c r j = has_html (cell_at r j)
breaks_alone said rule r j = false

-- Record r of the transaction t, after k others, breaks the rule, at field j where that judges a cell.
abbrev pub breaks : Said → AdviceRule → List RecordValue → ℕ → RecordValue → ℕ → Bool
breaks said A1a t k r j = goes_over t k r
breaks said A1b t k r j = stands_twice t k r
breaks said A2a t k r j = begins_with_agent t k r
breaks said A2b t k r j = collects_nowhere t
breaks said A2c t k r j = has_no_publisher t k r
breaks said A2d t k r j = has_no_territory t k r
breaks said A2e t k r j = has_nothing t k r
breaks said A2h t k r j = names_other_writer t k r
breaks said A3b t k r j = writers_own_less t
breaks said A3c t k r j = states_nothing "pr share" t
breaks said A3d t k r j = states_nothing "mr share" t
breaks said A3e t k r j = states_nothing "sr share" t
breaks said A6a t k r j = lacks_components t r
breaks said A6b t k r j = is_stray_component t r
breaks said A6c t k r j = lacks_original t r
breaks said rule t k r j = breaks_alone said rule r j

-- the rule, at this field
abbrev pub at : AdviceRule → ℕ → Asked
at rule j = record { rule = rule; field = j }

-- What is asked of a record of the kind, in this order: the rule, and the number of the field.
abbrev pub asked_of : Kind → List Asked
asked_of kinds.Nwr =
    at A2b 1 ∷ at A3b 1 ∷ at A3c 1 ∷ at A3d 1 ∷ at A3e 1 ∷ at A6a 14 ∷ at A6c 15 ∷ at A7a 4 ∷ at A7a 19 ∷ at A8c 5 ∷ at A8d 11
    ∷ at A8e 8 ∷ at A9a 4 ∷ at A9a 19 ∷ at A9b 4 ∷ at A9b 19 ∷ at A9c 4 ∷ at A9c 19 ∷ []
asked_of kinds.Rev =
    at A2b 1 ∷ at A3b 1 ∷ at A3c 1 ∷ at A3d 1 ∷ at A3e 1 ∷ at A6a 14 ∷ at A6c 15 ∷ at A7a 4 ∷ at A7a 19 ∷ at A8c 5 ∷ at A8d 11
    ∷ at A8e 8 ∷ at A9a 4 ∷ at A9a 19 ∷ at A9b 4 ∷ at A9b 19 ∷ at A9c 4 ∷ at A9c 19 ∷ []
asked_of kinds.Spu =
    at A2a 8 ∷ at A2f 10 ∷ at A2g 12 ∷ at A2g 14 ∷ at A2g 16 ∷ at A3a 13 ∷ at A4a 10 ∷ at A4b 21 ∷ at A7a 5 ∷ at A8a 12
    ∷ at A8a 14 ∷ at A8a 16 ∷ at A9a 6 ∷ at A9b 6 ∷ at A9c 6 ∷ []
asked_of kinds.Opu =
    at A2a 8 ∷ at A3a 13 ∷ at A4a 10 ∷ at A4b 21 ∷ at A7a 5 ∷ at A8a 12 ∷ at A8a 14 ∷ at A8a 16 ∷ at A9a 6 ∷ at A9b 6 ∷ at A9c 6
    ∷ []
asked_of kinds.Swr =
    at A2c 1 ∷ at A2d 1 ∷ at A2e 1 ∷ at A2f 10 ∷ at A2g 11 ∷ at A2g 13 ∷ at A2g 15 ∷ at A4a 10 ∷ at A4b 21 ∷ at A7a 4 ∷ at A7a 5
    ∷ at A8a 11 ∷ at A8a 13 ∷ at A8a 15 ∷ at A9a 5 ∷ at A9a 6 ∷ at A9b 5 ∷ at A9b 6 ∷ at A9c 5 ∷ at A9c 6 ∷ []
asked_of kinds.Owr =
    at A4a 10 ∷ at A4b 21 ∷ at A7a 4 ∷ at A7a 5 ∷ at A8a 11 ∷ at A8a 13 ∷ at A8a 15 ∷ at A9a 5 ∷ at A9a 6 ∷ at A9b 5 ∷ at A9b 6
    ∷ at A9c 5 ∷ at A9c 6 ∷ []
asked_of kinds.Spt = at A1a 10 ∷ at A1b 10 ∷ at A8b 10 ∷ []
asked_of kinds.Swt = at A1a 9 ∷ at A1b 9 ∷ at A8b 9 ∷ []
asked_of kinds.Ter = at A8b 5 ∷ []
asked_of kinds.Ipa =
    at A4a 5 ∷ at A4b 6 ∷ at A7a 7 ∷ at A7a 8 ∷ at A8a 10 ∷ at A8a 12 ∷ at A8a 14 ∷ at A9a 8 ∷ at A9a 9 ∷ at A9b 8 ∷ at A9b 9
    ∷ at A9c 8 ∷ at A9c 9 ∷ []
asked_of kinds.Alt = at A8c 6 ∷ at A9a 4 ∷ at A9b 4 ∷ at A9c 4 ∷ []
asked_of kinds.Ewt =
    at A4a 10 ∷ at A4a 14 ∷ at A4b 11 ∷ at A4b 15 ∷ at A7a 4 ∷ at A7a 7 ∷ at A7a 8 ∷ at A7a 9 ∷ at A7a 12 ∷ at A7a 13 ∷ at A8c 6
    ∷ at A9a 4 ∷ at A9a 7 ∷ at A9a 8 ∷ at A9a 9 ∷ at A9a 12 ∷ at A9a 13 ∷ at A9b 4 ∷ at A9b 7 ∷ at A9b 8 ∷ at A9b 9 ∷ at A9b 12
    ∷ at A9b 13 ∷ at A9c 4 ∷ at A9c 7 ∷ at A9c 8 ∷ at A9c 9 ∷ at A9c 12 ∷ at A9c 13 ∷ []
asked_of kinds.Ver =
    at A4a 10 ∷ at A4a 14 ∷ at A4b 11 ∷ at A4b 15 ∷ at A7a 4 ∷ at A7a 7 ∷ at A7a 8 ∷ at A7a 9 ∷ at A7a 12 ∷ at A7a 13 ∷ at A8c 6
    ∷ at A9a 4 ∷ at A9a 7 ∷ at A9a 8 ∷ at A9a 9 ∷ at A9a 12 ∷ at A9a 13 ∷ at A9b 4 ∷ at A9b 7 ∷ at A9b 8 ∷ at A9b 9 ∷ at A9b 12
    ∷ at A9b 13 ∷ at A9c 4 ∷ at A9c 7 ∷ at A9c 8 ∷ at A9c 9 ∷ at A9c 12 ∷ at A9c 13 ∷ []
asked_of kinds.Per =
    at A4a 6 ∷ at A4b 7 ∷ at A7a 4 ∷ at A7a 5 ∷ at A9a 4 ∷ at A9a 5 ∷ at A9b 4 ∷ at A9b 5 ∷ at A9c 4 ∷ at A9c 5 ∷ []
asked_of kinds.Rec =
    at A4c 12 ∷ at A4d 11 ∷ at A7a 8 ∷ at A7a 9 ∷ at A8d 6 ∷ at A9a 8 ∷ at A9a 9 ∷ at A9b 8 ∷ at A9b 9 ∷ at A9c 8 ∷ at A9c 9 ∷ []
asked_of kinds.Com =
    at A4a 10 ∷ at A4a 13 ∷ at A4b 14 ∷ at A4b 15 ∷ at A6b 1 ∷ at A7a 4 ∷ at A7a 8 ∷ at A7a 9 ∷ at A7a 11 ∷ at A7a 12 ∷ at A8d 7
    ∷ at A9a 4 ∷ at A9a 8 ∷ at A9a 9 ∷ at A9a 11 ∷ at A9a 12 ∷ at A9b 4 ∷ at A9b 8 ∷ at A9b 9 ∷ at A9b 11 ∷ at A9b 12 ∷ at A9c 4
    ∷ at A9c 8 ∷ at A9c 9 ∷ at A9c 11 ∷ at A9c 12 ∷ []
asked_of kinds.Pwr = at A2h 8 ∷ at A7a 4 ∷ at A7a 5 ∷ at A9a 5 ∷ at A9b 5 ∷ at A9c 5 ∷ []
asked_of kinds.Agr = at A8e 14 ∷ []
asked_of kinds.Orn =
    at A7a 5 ∷ at A7a 8 ∷ at A7a 12 ∷ at A9a 5 ∷ at A9a 8 ∷ at A9a 12 ∷ at A9b 5 ∷ at A9b 8 ∷ at A9b 12 ∷ at A9c 5 ∷ at A9c 8
    ∷ at A9c 12 ∷ []
asked_of this_kind = []

-- What is usually rejected where the rule is broken. A5a is asked of works among those of a transmission, and of no record of a transaction.
abbrev pub level_of_rule : AdviceRule → Level
level_of_rule A1a = T
level_of_rule A1b = R
level_of_rule A2a = T
level_of_rule A2b = T
level_of_rule A2c = T
level_of_rule A2d = T
level_of_rule A2e = R
level_of_rule A2f = T
level_of_rule A2g = R
level_of_rule A2h = R
level_of_rule A3a = T
level_of_rule A3b = T
level_of_rule A3c = T
level_of_rule A3d = T
level_of_rule A3e = T
level_of_rule A5a = T
level_of_rule A6a = T
level_of_rule A6b = R
level_of_rule A6c = R
level_of_rule A7a = R
level_of_rule rule = F

-- the advice of what was asked of a record that stands after k others
abbrev pub advice_of_asked : ℕ → Asked → Advice
advice_of_asked k asked = record { rec = k; field = asked.field; rule = asked.rule }

-- the advice at a record
abbrev pub advice_at : Said → List RecordValue → ℕ → RecordValue → List Advice
advice_at said t k r = map (advice_of_asked k) (filter (λ asked. breaks said asked.rule t k r asked.field) (asked_of r.kind))

-- an acknowledgement: it comes from a society
abbrev pub is_acknowledgement : List RecordValue → Bool
is_acknowledgement t = list_any (is_a kinds.Ack) (take 1 t)

-- the advice on the records of a transaction, whole or only begun: by record, and then as asked; an acknowledgement has none
unfoldable pub advice_of : Said → List RecordValue → List Advice
advice_of said t = if is_acknowledgement t then [] else flat_map (λ p. advice_at said t p.0 p.1) (enumerate_from 0 t)
