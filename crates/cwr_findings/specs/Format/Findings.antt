-- The findings of a transaction: which record breaks which rule, and at which field.
use Prim.Native.String.{String}
use Rattle.std.specs.Prelude.{ℕ, ◌+◌, Bool, false, not, ◌&&◌, ◌||◌, ◌==◌, nat_lt, List, [], ◌∷◌, codes, map, filter, take, drop}
use Rattle.std.specs.Prelude.{take_while, sum_by, count_by, Option, Some, None, if◌then◌else◌, flat_map}
use Rattle.std.specs.List.{list_any, last_or, enumerate_from, prefix_len}
use Rattle.std.specs.Str.{bytes_eq}
use Rattle.cwr_fields.specs.declared.codes.Role.{Role}
use Rattle.cwr_fields.specs.declared.codes.Role.TheVariants.{Assignor, Acquirer}
use Rattle.cwr_fields.specs.Format.Bytes.{is_spaces, number_of, filled}
use Rattle.cwr_fields.specs.Format.Codes.{role_code}
use Rattle.cwr_fields.specs.Format.Iswc.{is_iswc}
use Rattle.cwr_fields.specs.declared.kinds.Kind.{Kind}
use Rattle.cwr_fields.specs.declared.kinds.Kind.TheVariants as kinds
use Rattle.cwr_fields.specs.Format.Kinds.{letters}
use Rattle.cwr_lines.specs.Format.Records.{RecordValue, cell_named, field_number}
use Rattle.cwr_shape.specs.declared.reasons.Level.{Level}
use Rattle.cwr_shape.specs.declared.reasons.Level.TheVariants.{T, R, F}
use Rattle.cwr_findings.specs.declared.rules.Rule.{Rule}
use Rattle.cwr_findings.specs.declared.rules.Rule.TheVariants.{V1, V2, V3, V4, V5, V6, V7, V8, V9, V10, V11}
use Rattle.cwr_findings.specs.declared.rules.Finding.{Finding}

-- the record is of the kind
abbrev pub is_a : Kind → RecordValue → Bool
is_a kind r = bytes_eq (letters r.kind) (letters kind)

-- the record's cell of that name is spaces
abbrev pub is_blank : String → RecordValue → Bool
is_blank name r = is_spaces (cell_named name r)

-- a blank share counts as 0
abbrev pub share_of : String → RecordValue → ℕ
share_of name r = if is_blank name r then 0 else number_of (cell_named name r)

-- the last record of the kind, if there is one
abbrev pub nearest : Kind → List RecordValue → Option RecordValue
nearest kind records = last_or None (filter (is_a kind) records)

-- the records begin with the header of a work
abbrev pub is_work : List RecordValue → Bool
is_work t = list_any (λ r. is_a kinds.Nwr r || is_a kinds.Rev r) (take 1 t)

-- the records begin with the header of an agreement
abbrev pub is_agreement : List RecordValue → Bool
is_agreement t = list_any (is_a kinds.Agr) (take 1 t)

-- the records that own shares of a work
abbrev pub is_owner : RecordValue → Bool
is_owner r = is_a kinds.Spu r || is_a kinds.Opu r || is_a kinds.Swr r || is_a kinds.Owr r

-- the shares of the owners in a right, added up
abbrev pub ownership : String → List RecordValue → ℕ
ownership right t = sum_by (share_of right) (filter is_owner t)

-- neither nothing nor about the whole
abbrev pub is_off : ℕ → Bool
is_off total = not (total == 0) && (nat_lt total 9994 || nat_lt 10006 total)

-- the same number stands in two cells, where there is a second record
abbrev pub has_party_number : List ℕ → Option RecordValue → Bool
has_party_number number None = false
has_party_number number (Some r) = bytes_eq number (cell_named "interested party number" r)

-- a designation for someone who has written words or music
abbrev pub names_author : List ℕ → Bool
names_author designation = list_any (λ code. bytes_eq designation (filled 2 code)) (codes "A" ∷ codes "C" ∷ codes "CA" ∷ [])

-- a writer who has written words or music
abbrev pub is_author : RecordValue → Bool
is_author r = (is_a kinds.Swr r || is_a kinds.Owr r) && names_author (cell_named "designation" r)

-- the date is there: an optional date that fits is spaces, zeros or a day
abbrev pub is_day : List ℕ → Bool
is_day cell = not (is_spaces cell) && not (number_of cell == 0)

-- a party to an agreement
abbrev pub is_party : RecordValue → Bool
is_party r = is_a kinds.Ipa r

-- the territories and parties among the records
abbrev pub in_blocks : List RecordValue → List RecordValue
in_blocks records = filter (λ r. is_a kinds.Ter r || is_party r) records

-- there is a record, and it is a TER
abbrev pub is_territory : Option RecordValue → Bool
is_territory None = false
is_territory (Some r) = is_a kinds.Ter r

-- a block begins with a TER that isn't directly after one
abbrev pub begins_block : List RecordValue → Bool
begins_block before = not (is_territory (last_or None (in_blocks before)))

-- the parties of the block whose first TER these records follow
abbrev pub parties_after : List RecordValue → List RecordValue
parties_after after = take_while is_party (drop (prefix_len (is_a kinds.Ter) (in_blocks after)) (in_blocks after))

-- the parties of a role
abbrev pub of_role : Role → List RecordValue → List RecordValue
of_role role parties = filter (λ r. bytes_eq (cell_named "agreement role" r) (role_code role)) parties

-- the shares of the records in a right add up to more than the whole
abbrev pub is_over_whole : List RecordValue → String → Bool
is_over_whole records right = nat_lt 10006 (sum_by (share_of right) records)

-- the same in one or more of the three rights
abbrev pub are_over_whole : List RecordValue → Bool
are_over_whole records = is_over_whole records "pr share" || is_over_whole records "mr share" || is_over_whole records "sr share"

-- the record of a work counts its components, and not so many
abbrev pub counts_others : RecordValue → ℕ → Bool
counts_others r components =
    not (is_blank "composite component count" r) && not (number_of (cell_named "composite component count" r) == components)

-- the record of an agreement has both dates, and its end is before its start
abbrev pub ends_before_start : RecordValue → Bool
ends_before_start r =
    is_day (cell_named "start date" r) && is_day (cell_named "end date" r) && nat_lt (number_of (cell_named "end date" r))
    (number_of (cell_named "start date" r))

-- one side of the parties has more than the whole
abbrev pub have_side_over_whole : List RecordValue → Bool
have_side_over_whole parties = are_over_whole (of_role Assignor parties) || are_over_whole (of_role Acquirer parties)

-- Record r of the transaction t, after k others, breaks the rule.
abbrev pub breaks : Rule → List RecordValue → ℕ → RecordValue → Bool
breaks V1 t k r = (is_a kinds.Nwr r || is_a kinds.Rev r || is_a kinds.Ewt r || is_a kinds.Ver r || is_a kinds.Com r)
    && not (is_blank "iswc" r) && not (is_iswc (cell_named "iswc" r))
breaks V2 t k r = is_work t
    && ((is_a kinds.Spt r && not (has_party_number (cell_named "interested party number" r) (nearest kinds.Spu (take k t))))
    || (is_a kinds.Swt r && not (has_party_number (cell_named "interested party number" r) (nearest kinds.Swr (take k t)))))
breaks V3 t k r = is_work t && (k == 0) && is_off (ownership "pr share" t)
breaks V4 t k r = is_work t && (k == 0) && is_off (ownership "mr share" t)
breaks V5 t k r = is_work t && (k == 0) && is_off (ownership "sr share" t)
breaks V6 t k r = is_work t && (k == 0) && not (list_any is_author t)
breaks V7 t k r = is_work t && is_a kinds.Pwr r
    && not (list_any (λ p. is_a kinds.Spu p && has_party_number (cell_named "publisher interested party number" r) (Some p)) t)
breaks V8 t k r = is_work t && is_a kinds.Ewt r && list_any (is_blank "excerpt type") (take 1 t)
breaks V9 t k r = is_work t && (k == 0) && counts_others r (count_by (is_a kinds.Com) t)
breaks V10 t k r = is_agreement t && (k == 0) && ends_before_start r
breaks V11 t k r =
    is_agreement t && is_a kinds.Ter r && begins_block (take k t) && have_side_over_whole (parties_after (drop (k + 1) t))

-- the field that the rule names in a record of the kind
abbrev pub field_of_rule : Rule → Kind → ℕ
field_of_rule V1 this_kind = field_number "iswc" this_kind
field_of_rule V2 this_kind = field_number "interested party number" this_kind
field_of_rule V7 this_kind = field_number "publisher interested party number" this_kind
field_of_rule V9 this_kind = field_number "composite component count" this_kind
field_of_rule V10 this_kind = field_number "end date" this_kind
field_of_rule rule this_kind = 1

-- how much a finding rejects
abbrev pub level_of_rule : Rule → Level
level_of_rule V1 = F
level_of_rule V2 = R
level_of_rule V7 = R
level_of_rule V8 = R
level_of_rule V10 = F
level_of_rule rule = T

-- the rules in their order
abbrev pub all_rules : List Rule
all_rules = V1 ∷ V2 ∷ V3 ∷ V4 ∷ V5 ∷ V6 ∷ V7 ∷ V8 ∷ V9 ∷ V10 ∷ V11 ∷ []

-- the findings at a record, by rule, where n more stand before those of the list
abbrev pub findings_at : ℕ → List RecordValue → ℕ → RecordValue → List Finding
findings_at n t k r =
    map (λ rule. record { rec = n + k; field = field_of_rule rule r.kind; rule = rule; level = level_of_rule rule })
    (filter (λ rule. breaks rule t k r) all_rules)

-- the findings of records as of a transaction of their own, by record and then by rule, where n more stand before them
unfoldable pub findings_after : ℕ → List RecordValue → List Finding
findings_after n t = flat_map (λ p. findings_at n t p.0 p.1) (enumerate_from 0 t)

-- an acknowledgement, or a message of one
abbrev pub stands_before_copy : RecordValue → Bool
stands_before_copy r = is_a kinds.Ack r || is_a kinds.Msg r

-- how many records stand before an acknowledgement's copy: itself and its messages; before an agreement or a work stands none
abbrev pub before_copy : List RecordValue → ℕ
before_copy t = prefix_len stands_before_copy t

-- the findings of a transaction: of an acknowledgement they are those of its copy
unfoldable pub findings : List RecordValue → List Finding
findings t = findings_after (before_copy t) (drop (before_copy t) t)
