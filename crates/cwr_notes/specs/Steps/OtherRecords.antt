-- What is known of the positions of records of which a finding speaks.
use Rattle.std.specs.Prelude.{◌≡◌, ℕ, Bool, List, length, take}
use Rattle.cwr_fields.specs.declared.kinds.Kind.TheVariants as kinds
use Rattle.cwr_lines.specs.Format.Records.{RecordValue}
use Rattle.cwr_findings.specs.declared.rules.Rule.{Rule}
use Rattle.cwr_findings.specs.declared.rules.Rule.TheVariants.{V6, V9}
use Rattle.cwr_findings.specs.Format.Findings.{is_a, is_owner}
use Rattle.cwr_notes.specs.declared.other_records.OtherRecords.{OtherRecords}
use Rattle.cwr_notes.specs.declared.passed.Passed.{Passed}
use Rattle.cwr_notes.specs.Format.FindingNotes.{is_header, is_writer, last_position, most_others, positions}

-- the rule, on the header of a work, speaks of the record
abbrev pub is_other : Rule → RecordValue → Bool
is_other V6 r = is_writer r
is_other V9 r = is_a kinds.Com r
is_other rule r = is_owner r

-- the first of these positions are listed, and all are counted
pub record AreListed (all : List ℕ) (x : OtherRecords) : Type 0 where
  pub first : x.listed.items ≡ take most_others all
  pub counted : x.count ≡ length all

-- what the first records leave behind
pub record IsPassed (records : List RecordValue) (x : Passed) : Type 0 where
  pub publishers : AreListed (positions (is_a kinds.Spu) records) x.publishers
  pub publisher : x.publisher ≡ last_position (is_a kinds.Spu) records
  pub writer : x.writer ≡ last_position (is_a kinds.Swr) records
  pub header : x.header ≡ last_position is_header records

-- the same of the records of a transaction that were passed so far
abbrev pub HasPassed : List RecordValue → Passed → Type 0
HasPassed t x = IsPassed (take x.at t) x
