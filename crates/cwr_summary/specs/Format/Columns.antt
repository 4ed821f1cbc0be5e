-- Where each column of a summary stands.
use Rattle.std.specs.Prelude.{ℕ, ◌+◌}
use Rattle.cwr_fields.specs.declared.kinds.Kind.{Kind}
use Rattle.cwr_fields.specs.declared.kinds.Kind.TheVariants as kinds
use Rattle.cwr_fields.specs.declared.codes.TransactionType.{TransactionType}
use Rattle.cwr_fields.specs.declared.codes.TransactionType.TheVariants as types
use Rattle.cwr_fields.specs.declared.work_codes.VersionType.{VersionType}
use Rattle.cwr_fields.specs.declared.work_codes.VersionType.TheVariants as versions
use Rattle.cwr_fields.specs.declared.message_codes.TransactionStatus.{TransactionStatus}
use Rattle.cwr_fields.specs.declared.message_codes.TransactionStatus.TheVariants as statuses
use Rattle.cwr_findings.specs.declared.rules.Rule.{Rule}
use Rattle.cwr_findings.specs.declared.rules.Rule.TheVariants as rules
use Rattle.cwr_summary.specs.declared.columns.Column.{Column}
use Rattle.cwr_summary.specs.declared.columns.Column.TheVariants.{Groups, Transactions, Records, Works, Acknowledgements, Findings, Controlled, Others, WorksWithout, WorksOff}
use Rattle.cwr_summary.specs.declared.columns.Right.{Right}
use Rattle.cwr_summary.specs.declared.columns.Right.TheVariants as rights

-- the places of the types of transactions
abbrev pub type_place : TransactionType → ℕ
type_place types.Agreement = 0
type_place types.NewWork = 1
type_place types.RevisedWork = 2
type_place types.Acknowledgement = 3

-- the places of the kinds, in the order of their table
abbrev pub kind_place : Kind → ℕ
kind_place kinds.Hdr = 0
kind_place kinds.Grh = 1
kind_place kinds.Grt = 2
kind_place kinds.Trl = 3
kind_place kinds.Agr = 4
kind_place kinds.Ter = 5
kind_place kinds.Ipa = 6
kind_place kinds.Nwr = 7
kind_place kinds.Rev = 8
kind_place kinds.Spu = 9
kind_place kinds.Opu = 10
kind_place kinds.Spt = 11
kind_place kinds.Swr = 12
kind_place kinds.Owr = 13
kind_place kinds.Swt = 14
kind_place kinds.Pwr = 15
kind_place kinds.Alt = 16
kind_place kinds.Ewt = 17
kind_place kinds.Ver = 18
kind_place kinds.Per = 19
kind_place kinds.Rec = 20
kind_place kinds.Orn = 21
kind_place kinds.Com = 22
kind_place kinds.Ack = 23
kind_place kinds.Msg = 24
kind_place kinds.Opt = 25
kind_place kinds.Owt = 26
kind_place kinds.Npn = 27
kind_place kinds.Npr = 28
kind_place kinds.Nwn = 29
kind_place kinds.Npa = 30
kind_place kinds.Net = 31
kind_place kinds.Now = 32
kind_place kinds.Nct = 33
kind_place kinds.Nvt = 34
kind_place kinds.Nat = 35
kind_place kinds.Ins = 36
kind_place kinds.Ind = 37
kind_place kinds.Ari = 38
kind_place kinds.Xrf = 39

-- the places of the types of versions
abbrev pub version_place : VersionType → ℕ
version_place versions.Original = 0
version_place versions.Modified = 1

-- the places of the statuses, in the order of their table
abbrev pub status_place : TransactionStatus → ℕ
status_place statuses.Conflict = 0
status_place statuses.Duplicate = 1
status_place statuses.TransactionAccepted = 2
status_place statuses.RegistrationAccepted = 3
status_place statuses.AcceptedWithChanges = 4
status_place statuses.ReadyForPayment = 5
status_place statuses.ChangedReadyForPayment = 6
status_place statuses.Rejected = 7
status_place statuses.NoParticipation = 8
status_place statuses.ClaimRejected = 9

-- the places of the rules of findings
abbrev pub rule_place : Rule → ℕ
rule_place rules.V1 = 0
rule_place rules.V2 = 1
rule_place rules.V3 = 2
rule_place rules.V4 = 3
rule_place rules.V5 = 4
rule_place rules.V6 = 5
rule_place rules.V7 = 6
rule_place rules.V8 = 7
rule_place rules.V9 = 8
rule_place rules.V10 = 9
rule_place rules.V11 = 10

-- the places of the rights
abbrev pub right_place : Right → ℕ
right_place rights.Performing = 0
right_place rights.Mechanical = 1
right_place rights.Synchronization = 2

-- where a column's number stands
abbrev pub place : Column → ℕ
place Groups = 0
place (Transactions type) = 1 + type_place type
place (Records kind) = 5 + kind_place kind
place (Works version) = 45 + version_place version
place (Acknowledgements status) = 47 + status_place status
place (Findings rule) = 57 + rule_place rule
place (Controlled right) = 68 + right_place right
place (Others right) = 71 + right_place right
place (WorksWithout right) = 74 + right_place right
place (WorksOff right) = 77 + right_place right
