-- What the definitions compute on the worked examples: findings and the lines of reports.
use Prim.Native.String.{String}
use Rattle.std.proofs.Common.{◌≡◌, ℕ, List, [], ◌∷◌, ◌++◌, map, refl, take, drop}
use Rattle.std.specs.Prelude.{codes}
use Rattle.std.specs.Fmt.{digits as plain_digits}
use Rattle.cwr_fields.specs.Format.Bytes.{digits}
use Rattle.cwr_fields.specs.declared.kinds.Kind.TheVariants as kinds
use Rattle.cwr_lines.specs.Format.Records.{RecordValue}
use Rattle.cwr_values.specs.Format.Values.{TransmissionValue}
use Rattle.cwr_values.specs.Format.Rows.{rows}
use Rattle.cwr_judge.specs.Format.Items.{items, items_after}
use Rattle.cwr_shape.specs.declared.reasons.Level.{Level}
use Rattle.cwr_shape.specs.declared.reasons.Level.TheVariants.{T, R, F}
use Rattle.cwr_findings.specs.declared.rules.Rule.{Rule}
use Rattle.cwr_findings.specs.declared.rules.Rule.TheVariants.{V1, V2, V3, V4, V5, V6, V7, V8, V9, V10, V11}
use Rattle.cwr_findings.specs.declared.rules.Finding.{Finding}
use Rattle.cwr_findings.specs.Format.Findings.{findings, findings_after}
use Rattle.cwr_findings.specs.Format.ReportLines.{input_mark, joined_line, limit_line, refusal_line, split_line, truncated_line}
use Rattle.cwr_tools.specs.Format.Texts.{check_text, check_lines, good_verdict}
use Rattle.cwr_fields.specs.declared.cell_types.CellFault.TheVariants as cell_faults
use Rattle.cwr_shape.specs.declared.limits.LimitKind.TheVariants as limit_kinds
use Rattle.cwr_shape.specs.declared.reasons.Reason.{Reason}
use Rattle.cwr_shape.specs.declared.reasons.Reason.TheVariants as reasons
use Rattle.cwr_tools_tests.proofs.Samples

-- ---- findings

-- a group of one transaction
abbrev alone : List RecordValue → List Finding
alone t = findings t

abbrev finding : ℕ → ℕ → Rule → Level → Finding
finding r j rule level = record { rec = r; field = j; rule = rule; level = level }

abbrev with_shares : List (ℕ × String) → List RecordValue
with_shares sets =
    Samples.w1 ∷ Samples.with_cells kinds.Spu sets ∷ Samples.pt1 ∷ Samples.o1 ∷ Samples.s2 ∷ Samples.st1 ∷ Samples.pw1
    ∷ Samples.ow1 ∷ Samples.al1 ∷ Samples.pe1 ∷ Samples.re1 ∷ []

abbrev spu_with : List (ℕ × String) → List (ℕ × String)
spu_with last = (4, "01") ∷ (5, "P1") ∷ (6, "MUSIC HOUSE") ∷ (8, "E") ∷ (13, "02500") ∷ last

wrong_writer : alone (Samples.w1 ∷ Samples.p1 ∷ Samples.pt1 ∷ Samples.o1 ∷ Samples.s2
    ∷ Samples.with_cells kinds.Swt ((4, "W9") ∷ (5, "05000") ∷ (8, "I") ∷ (9, "2136") ∷ (11, "001") ∷ [])
    ∷ drop 6 Samples.long_work) ≡ finding 5 4 V2 R ∷ []
unfolding findings findings_after
wrong_writer = refl

mechanical : alone (with_shares (spu_with ((15, "04993") ∷ (17, "05000") ∷ []))) ≡ finding 0 1 V4 T ∷ []
unfolding findings findings_after
mechanical = refl

synchronisation : alone (with_shares (spu_with ((15, "05000") ∷ (17, "05007") ∷ []))) ≡ finding 0 1 V5 T ∷ []
unfolding findings findings_after
synchronisation = refl

synchronisation_near : alone (with_shares (spu_with ((15, "05000") ∷ (17, "05006") ∷ []))) ≡ []
unfolding findings findings_after
synchronisation_near = refl

no_author : alone (Samples.w1 ∷ Samples.with_cells kinds.Swr ((4, "W1") ∷ (5, "SMITH") ∷ (6, "ANNA") ∷ (8, "AR") ∷ []) ∷ [])
    ≡ finding 0 1 V6 T ∷ []
unfolding findings findings_after
no_author = refl

wrong_publisher : alone (take 6 Samples.long_work
    ++ Samples.with_cells kinds.Pwr ((4, "P9") ∷ (5, "MUSIC HOUSE") ∷ (8, "W1") ∷ [])
    ∷ drop 7 Samples.long_work) ≡ finding 6 4 V7 R ∷ []
unfolding findings findings_after
wrong_publisher = refl

excerpt : alone (Samples.w1 ∷ Samples.s1 ∷ Samples.ew1 ∷ []) ≡ finding 2 1 V8 R ∷ []
unfolding findings findings_after
excerpt = refl

components : alone (Samples.with_cells kinds.Nwr (Samples.w1_sets ++ (23, "001") ∷ []) ∷ Samples.s1 ∷ []) ≡ finding 0 23 V9 T ∷ []
unfolding findings findings_after
components = refl

no_components : alone (Samples.with_cells kinds.Nwr (Samples.w1_sets ++ (23, "000") ∷ []) ∷ Samples.s1 ∷ []) ≡ []
unfolding findings findings_after
no_components = refl

abbrev ipa_share : String → String → RecordValue
ipa_share role amount = Samples.with_cells kinds.Ipa ((4, role) ∷ (8, "SMITH") ∷ (11, amount) ∷ [])

block_over : alone (Samples.ag1 ∷ Samples.te1 ∷ ipa_share "AS" "06000" ∷ ipa_share "AS" "04007" ∷ Samples.ipa_ac ∷ [])
    ≡ finding 1 1 V11 T ∷ []
unfolding findings findings_after
block_over = refl

iswc_and_author : alone (Samples.with_cells kinds.Nwr (Samples.w1_sets ++ (7, "T0345246802") ∷ [])
    ∷ Samples.with_cells kinds.Swr ((4, "W1") ∷ (5, "SMITH") ∷ (6, "ANNA") ∷ (8, "AR") ∷ [])
    ∷ []) ≡ finding 0 7 V1 F ∷ finding 0 1 V6 T ∷ []
unfolding findings findings_after
iswc_and_author = refl

iswc_right : alone (Samples.with_cells kinds.Nwr (Samples.w1_sets ++ (7, "T0345246801") ∷ []) ∷ Samples.s1 ∷ []) ≡ []
unfolding findings findings_after
iswc_right = refl

performing : alone (Samples.w1 ∷ Samples.with_cells kinds.Swr (Samples.s1_sets ++ (12, "09993") ∷ []) ∷ [])
    ≡ finding 0 1 V3 T ∷ []
unfolding findings findings_after
performing = refl

performing_near : alone (Samples.w1 ∷ Samples.with_cells kinds.Swr (Samples.s1_sets ++ (12, "09994") ∷ []) ∷ []) ≡ []
unfolding findings findings_after
performing_near = refl

end_first : alone (Samples.with_cells kinds.Agr (Samples.ag1_sets ++ (7, "20240101") ∷ (8, "20231231") ∷ []) ∷ [])
    ≡ finding 0 8 V10 F ∷ []
unfolding findings findings_after
end_first = refl

bare_acknowledgement : alone (Samples.a1 ∷ Samples.ms1 ∷ []) ≡ []
unfolding findings findings_after
bare_acknowledgement = refl

-- the finding's line, in the first transaction of the first group
abbrev two_groups_with_finding : TransmissionValue
two_groups_with_finding =
    Samples.transmission (Samples.group_with "NWR"
    ((Samples.with_cells kinds.Nwr (Samples.w1_sets ++ (7, "T0345246802") ∷ []) ∷ Samples.s1 ∷ []) ∷ []) ∷ Samples.group_with
    "REV" ((Samples.v1 ∷ Samples.s1 ∷ []) ∷ (Samples.v2 ∷ Samples.s1 ∷ []) ∷ []) ∷ [])

two_groups_with_finding_check : check_text (items (rows two_groups_with_finding)) (good_verdict two_groups_with_finding)
    ≡ codes "FINDING group 1 transaction 0 record 0 field 7 level F rule V1\nGOOD groups 2 transactions 3 records 12\n"
unfolding digits plain_digits rows items_after check_lines findings findings_after
two_groups_with_finding_check = refl

-- ---- lines

split_in_two : split_line 2 3 ≡ codes "SPLIT outputs 2 transactions 3\n"
unfolding plain_digits
split_in_two = refl

joined_from_two : joined_line 2 3 3 14 ≡ codes "JOINED inputs 2 groups 3 transactions 3 records 14\n"
unfolding plain_digits
joined_from_two = refl

second_input : input_mark 2 ++ limit_line limit_kinds.Records ≡ codes "input 2: LIMIT records\n"
unfolding plain_digits
second_input = refl

-- the words for each reason
refused : ℕ → ℕ → Level → Reason → List ℕ
refused r j level reason = refusal_line (record { rec = r; field = j; level = level; reason = reason })

reason_words : map (λ reason. refused 3 1 T reason) (reasons.UnknownKind ∷ reasons.Misplaced ∷ reasons.Cell cell_faults.Blank
    ∷ reasons.Cell cell_faults.Control ∷ reasons.Cell cell_faults.NotDigits ∷ reasons.Cell cell_faults.NotADate
    ∷ reasons.Cell cell_faults.NotATime
    ∷ reasons.Cell cell_faults.OverShare ∷ reasons.Cell cell_faults.NotACode ∷ reasons.Cell cell_faults.NotConstant
    ∷ reasons.Number 3 ∷ reasons.Limit limit_kinds.Records ∷ reasons.Limit limit_kinds.Groups
    ∷ reasons.Limit limit_kinds.Transaction ∷ reasons.Excess ∷ [])
    ≡ map (λ words. codes "REFUSED record 3 field 1 level T " ++ words ++ 10 ∷ []) (codes "unknown kind" ∷ codes "misplaced"
    ∷ codes "cell blank" ∷ codes "cell control" ∷ codes "cell not digits" ∷ codes "cell not a date" ∷ codes "cell not a time"
    ∷ codes "cell over share" ∷ codes "cell not a code" ∷ codes "cell not constant" ∷ codes "number expected 3"
    ∷ codes "limit records" ∷ codes "limit groups" ∷ codes "limit transaction" ∷ codes "excess" ∷ [])
unfolding plain_digits refused
reason_words = refl

truncated_words : truncated_line 0 ≡ codes "TRUNCATED records 0\n"
unfolding plain_digits
truncated_words = refl
