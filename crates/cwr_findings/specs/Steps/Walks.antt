-- What a walk over the records of a transaction knows.
use Rattle.std.specs.Prelude.{◌≡◌, ℕ, ◌<◌, Bool, true, false, ◌&&◌, ◌||◌, min, List, Option, Some, None, option_map, filter}
use Rattle.std.specs.Prelude.{sum_by, count_by, slice_get, IfSome}
use Rattle.std.specs.List.{list_any, last_or}
use Rattle.std.specs.Borrow.{Bor}
use Rattle.std.specs.Str.{bytes_eq}
use Rattle.std.specs.BTreeSet.{BTreeSet, contains_by}
use Rattle.std.specs.Cmp.Lexicographic.{slice_cmp}
use Rattle.std.specs.Ordering.{nat_cmp}
use Rattle.cwr_fields.specs.declared.codes.Role.TheVariants.{Assignor, Acquirer}
use Rattle.cwr_fields.specs.declared.kinds.Kind.{Kind}
use Rattle.cwr_fields.specs.declared.kinds.Kind.TheVariants as kinds
use Rattle.cwr_fields.specs.Format.Kinds.{letters}
use Rattle.cwr_lines.specs.Format.Records.{RecordValue, cell_named}
use Rattle.cwr_findings.specs.declared.rules.Rule.{Rule}
use Rattle.cwr_findings.specs.declared.rules.Rule.TheVariants.{V1, V2, V7, V8, V10, V11}
use Rattle.cwr_findings.specs.declared.publishers.Publishers.{Publishers}
use Rattle.cwr_findings.specs.declared.shares.Shares.{Shares}
use Rattle.cwr_findings.specs.declared.shares.Sides.{Sides}
use Rattle.cwr_findings.specs.declared.totals.TransactionTotals.{TransactionTotals}
use Rattle.cwr_findings.specs.declared.before.Before.{Before}
use Rattle.cwr_findings.specs.Format.Findings.{is_a, share_of, nearest, is_owner, is_author, is_territory, in_blocks}
use Rattle.cwr_findings.specs.Format.Findings.{of_role, all_rules}

-- ---- shares, added up

-- a sum, as far as 64 bits go
abbrev pub capped : ℕ → ℕ
capped n = min n 18446744073709551615

-- the records' shares add up to these
pub record AddUpTo (records : List RecordValue) (s : Shares) : Type 0 where
  pub performing : s.performing ≡ capped (sum_by (share_of "pr share") records)
  pub mechanical : s.mechanical ≡ capped (sum_by (share_of "mr share") records)
  pub synchronization : s.synchronization ≡ capped (sum_by (share_of "sr share") records)

-- the shares of the parties of each role add up to these
pub record SidesAddUpTo (parties : List RecordValue) (s : Sides) : Type 0 where
  pub assignors : AddUpTo (of_role Assignor parties) s.assignors
  pub acquirers : AddUpTo (of_role Acquirer parties) s.acquirers

-- ---- what the rules ask of all records

-- the sums and counts over the records
pub record AreTotals (t : List RecordValue) (x : TransactionTotals) : Type 0 where
  pub ownership : AddUpTo (filter is_owner t) x.ownership
  pub author : x.has_author ≡ list_any is_author t
  pub components : x.components ≡ capped (count_by (is_a kinds.Com) t)
  pub publishers : (i : ℕ) (r : RecordValue) → slice_get t i ≡ Some r → is_a kinds.Spu r ≡ true → i < x.publishers_end

-- ---- what the rules ask of the records before one

-- the interested party's number of a record, where there is one
abbrev pub party_number : Option RecordValue → Option (List ℕ)
party_number r = option_map (cell_named "interested party number") r

-- the number is that of a party, where there is one
abbrev pub is_number : List ℕ → Option (List ℕ) → Bool
is_number number None = false
is_number number (Some other) = bytes_eq number other

-- the record is an SPU of this number
abbrev pub is_publisher : List ℕ → RecordValue → Bool
is_publisher number r = is_a kinds.Spu r && bytes_eq number (cell_named "interested party number" r)

-- the set has the numbers of the SPU records among these
abbrev pub HasNumbersOf : List RecordValue → BTreeSet (Bor (List ℕ)) → Type 0
HasNumbersOf records numbers =
    (number : Bor (List ℕ))
    → contains_by (λ k. slice_cmp nat_cmp number.now k.now) numbers ≡ list_any (is_publisher number.now) records

-- where the numbers of publishers are kept, they are those of the SPU records among these
abbrev pub KnowsNumbersOf : List RecordValue → Publishers → Type 0
KnowsNumbersOf records x = IfSome x.numbers (HasNumbersOf records)

-- what the records before one leave behind
pub record IsBefore (records : List RecordValue) (x : Before) : Type 0 where
  pub publisher : option_map (λ cell. cell.now) x.publisher ≡ party_number (nearest kinds.Spu records)
  pub writer : option_map (λ cell. cell.now) x.writer ≡ party_number (nearest kinds.Swr records)
  pub territory : x.after_territory ≡ is_territory (last_or None (in_blocks records))

-- ---- which rules a kind can break

abbrev pub is_kind : Kind → Kind → Bool
is_kind kind other = bytes_eq (letters other) (letters kind)

-- a record of the kind can break the rule
abbrev pub can_break : Rule → Kind → Bool
can_break V1 this_kind =
    is_kind kinds.Nwr this_kind || is_kind kinds.Rev this_kind || is_kind kinds.Ewt this_kind || is_kind kinds.Ver this_kind
    || is_kind kinds.Com this_kind
can_break V2 this_kind = is_kind kinds.Spt this_kind || is_kind kinds.Swt this_kind
can_break V7 this_kind = is_kind kinds.Pwr this_kind
can_break V8 this_kind = is_kind kinds.Ewt this_kind
can_break V10 this_kind = is_kind kinds.Agr this_kind
can_break V11 this_kind = is_kind kinds.Ter this_kind
can_break rule this_kind = is_kind kinds.Nwr this_kind || is_kind kinds.Rev this_kind

-- the rules that a record of the kind can break, in their order
abbrev pub rules_on : Kind → List Rule
rules_on kind = filter (λ rule. can_break rule kind) all_rules
