-- Each column has its place among the numbers of a summary.
use Rattle.std.proofs.Common.{◌<◌, arith}
use Rattle.cwr_fields.specs.declared.kinds.Kind.{Kind}
use Rattle.cwr_fields.specs.declared.kinds.Kind.TheVariants as kinds
use Rattle.cwr_fields.specs.declared.codes.TransactionType.{TransactionType}
use Rattle.cwr_fields.specs.declared.codes.TransactionType.TheVariants as types
use Rattle.cwr_fields.specs.declared.work_codes.VersionType.{VersionType}
use Rattle.cwr_fields.specs.declared.work_codes.VersionType.TheVariants as versions
use Rattle.cwr_fields.specs.declared.message_codes.TransactionStatus.{TransactionStatus}
use Rattle.cwr_fields.specs.declared.message_codes.TransactionStatus.TheVariants as statuses
use Rattle.cwr_findings.specs.declared.rules.Rule.{Rule}
use Rattle.cwr_findings.specs.declared.rules.Rule.TheVariants as rules
use Rattle.cwr_summary.specs.declared.columns.Column.{Column}
use Rattle.cwr_summary.specs.declared.columns.Column.TheVariants.{Groups, Transactions, Records, Works, Acknowledgements, Findings, Controlled, Others, WorksWithout, WorksOff}
use Rattle.cwr_summary.specs.declared.columns.Right.{Right}
use Rattle.cwr_summary.specs.declared.columns.Right.TheVariants as rights
use Rattle.cwr_summary.specs.Format.Columns.{kind_place, place, right_place, rule_place, status_place, type_place, version_place}

type_below : (it : TransactionType) → type_place it < 4
type_below types.Agreement = omega arith
type_below types.NewWork = omega arith
type_below types.RevisedWork = omega arith
type_below types.Acknowledgement = omega arith

kind_below : (it : Kind) → kind_place it < 40
kind_below kinds.Hdr = omega arith
kind_below kinds.Grh = omega arith
kind_below kinds.Grt = omega arith
kind_below kinds.Trl = omega arith
kind_below kinds.Agr = omega arith
kind_below kinds.Ter = omega arith
kind_below kinds.Ipa = omega arith
kind_below kinds.Nwr = omega arith
kind_below kinds.Rev = omega arith
kind_below kinds.Spu = omega arith
kind_below kinds.Opu = omega arith
kind_below kinds.Spt = omega arith
kind_below kinds.Swr = omega arith
kind_below kinds.Owr = omega arith
kind_below kinds.Swt = omega arith
kind_below kinds.Pwr = omega arith
kind_below kinds.Alt = omega arith
kind_below kinds.Ewt = omega arith
kind_below kinds.Ver = omega arith
kind_below kinds.Per = omega arith
kind_below kinds.Rec = omega arith
kind_below kinds.Orn = omega arith
kind_below kinds.Com = omega arith
kind_below kinds.Ack = omega arith
kind_below kinds.Msg = omega arith
kind_below kinds.Opt = omega arith
kind_below kinds.Owt = omega arith
kind_below kinds.Npn = omega arith
kind_below kinds.Npr = omega arith
kind_below kinds.Nwn = omega arith
kind_below kinds.Npa = omega arith
kind_below kinds.Net = omega arith
kind_below kinds.Now = omega arith
kind_below kinds.Nct = omega arith
kind_below kinds.Nvt = omega arith
kind_below kinds.Nat = omega arith
kind_below kinds.Ins = omega arith
kind_below kinds.Ind = omega arith
kind_below kinds.Ari = omega arith
kind_below kinds.Xrf = omega arith

version_below : (it : VersionType) → version_place it < 2
version_below versions.Original = omega arith
version_below versions.Modified = omega arith

status_below : (it : TransactionStatus) → status_place it < 10
status_below statuses.Conflict = omega arith
status_below statuses.Duplicate = omega arith
status_below statuses.TransactionAccepted = omega arith
status_below statuses.RegistrationAccepted = omega arith
status_below statuses.AcceptedWithChanges = omega arith
status_below statuses.ReadyForPayment = omega arith
status_below statuses.ChangedReadyForPayment = omega arith
status_below statuses.Rejected = omega arith
status_below statuses.NoParticipation = omega arith
status_below statuses.ClaimRejected = omega arith

rule_below : (it : Rule) → rule_place it < 11
rule_below rules.V1 = omega arith
rule_below rules.V2 = omega arith
rule_below rules.V3 = omega arith
rule_below rules.V4 = omega arith
rule_below rules.V5 = omega arith
rule_below rules.V6 = omega arith
rule_below rules.V7 = omega arith
rule_below rules.V8 = omega arith
rule_below rules.V9 = omega arith
rule_below rules.V10 = omega arith
rule_below rules.V11 = omega arith

right_below : (it : Right) → right_place it < 3
right_below rights.Performing = omega arith
right_below rights.Mechanical = omega arith
right_below rights.Synchronization = omega arith

pub place_below : (column : Column) → place column < 80
place_below Groups = omega arith
place_below (Transactions type) = omega (arith, type_below type)
place_below (Records kind) = omega (arith, kind_below kind)
place_below (Works version) = omega (arith, version_below version)
place_below (Acknowledgements status) = omega (arith, status_below status)
place_below (Findings rule) = omega (arith, rule_below rule)
place_below (Controlled right) = omega (arith, right_below right)
place_below (Others right) = omega (arith, right_below right)
place_below (WorksWithout right) = omega (arith, right_below right)
place_below (WorksOff right) = omega (arith, right_below right)
