-- What a walk over the records of a transaction keeps for the rules of advice.
use Rattle.std.specs.Prelude.{◌≡◌, ℕ, ◌+◌, ◌^◌, ◌<◌, not, if◌then◌else◌, List, filter, count_by}
use Rattle.std.specs.List.{list_any, sum_by}
use Rattle.cwr_fields.specs.declared.kinds.Kind.{Kind}
use Rattle.cwr_fields.specs.declared.kinds.Kind.TheVariants as kinds
use Rattle.cwr_lines.specs.Format.Records.{RecordValue}
use Rattle.cwr_findings.specs.Format.Fields.{IsField}
use Rattle.cwr_findings.specs.Format.Findings.{is_a, is_blank, is_owner, share_of}
use Rattle.cwr_findings.specs.Steps.Walks.{capped}
use Rattle.cwr_advice.specs.declared.owners.Owned.{Owned}
use Rattle.cwr_advice.specs.declared.facts.Facts.{Facts}
use Rattle.cwr_advice.specs.declared.stated.Stated.{Stated}
use Rattle.cwr_advice.specs.Format.Rules.{collects_in, is_owning_publisher, is_territory, is_writer, states}

-- each is less than what ten digits write
pub record AreSmall (s : Owned) : Type 0 where
  pub performing : s.performing < 10 ^ 10
  pub mechanical : s.mechanical < 10 ^ 10
  pub synchronization : s.synchronization < 10 ^ 10

-- these are the record's shares
pub record AreSharesOf (r : RecordValue) (s : Owned) : Type 0 where
  pub performing : s.performing ≡ share_of "pr share" r
  pub mechanical : s.mechanical ≡ share_of "mr share" r
  pub synchronization : s.synchronization ≡ share_of "sr share" r
  pub small : AreSmall s

-- these are the record's shares where it is an owner, and else nothing
pub record AreOwnedBy (r : RecordValue) (s : Owned) : Type 0 where
  pub performing : s.performing ≡ (if is_owner r then share_of "pr share" r else 0)
  pub mechanical : s.mechanical ≡ (if is_owner r then share_of "mr share" r else 0)
  pub synchronization : s.synchronization ≡ (if is_owner r then share_of "sr share" r else 0)
  pub small : AreSmall s

-- in these rights the record's shares are filled in
pub record AreFilledIn (r : RecordValue) (s : Stated) : Type 0 where
  pub performing : s.performing ≡ not (is_blank "pr share" r)
  pub mechanical : s.mechanical ≡ not (is_blank "mr share" r)
  pub synchronization : s.synchronization ≡ not (is_blank "sr share" r)

-- so they are where it is an owner, and else in none
pub record AreStatedBy (r : RecordValue) (s : Stated) : Type 0 where
  pub performing : s.performing ≡ states "pr share" r
  pub mechanical : s.mechanical ≡ states "mr share" r
  pub synchronization : s.synchronization ≡ states "sr share" r

-- in these rights someone's share is filled in
pub record AreStated (t : List RecordValue) (s : Stated) : Type 0 where
  pub performing : s.performing ≡ list_any (states "pr share") t
  pub mechanical : s.mechanical ≡ list_any (states "mr share") t
  pub synchronization : s.synchronization ≡ list_any (states "sr share") t

-- what the rules ask of all records of a transaction
pub record AreFacts (t : List RecordValue) (x : Facts) : Type 0 where
  pub owned : x.owned ≡ capped (sum_by (share_of "pr share") (filter is_owner t))
  pub by_writers : x.by_writers ≡ capped (sum_by (share_of "pr share") (filter is_writer t))
  pub writer : x.has_writer ≡ list_any is_writer t
  pub stated : AreStated t x.stated
  pub publisher : x.has_publisher ≡ list_any (is_a kinds.Spu) t
  pub owner : x.has_owning_publisher ≡ list_any is_owning_publisher t
  pub territory : x.has_territory ≡ list_any (is_a kinds.Spt) t
  pub territories : x.territories ≡ capped (count_by is_territory t)
  pub component : x.has_component ≡ list_any (is_a kinds.Com) t
  pub original : x.has_original ≡ list_any (is_a kinds.Ver) t

-- ---- territories

-- field j of the kind is the collection share in the performing right, and those in the other two rights follow
pub record HasCollectionFrom (kind : Kind) (j : ℕ) : Type 0 where
  pub performing : IsField "pr collection share" kind j 5
  pub mechanical : IsField "mr collection share" kind (j + 1) 5
  pub synchronization : IsField "sr collection share" kind (j + 2) 5

-- these are the record's collection shares
pub record AreCollectedBy (r : RecordValue) (s : Owned) : Type 0 where
  pub performing : s.performing ≡ share_of "pr collection share" r
  pub mechanical : s.mechanical ≡ share_of "mr collection share" r
  pub synchronization : s.synchronization ≡ share_of "sr collection share" r

-- these are the record's collection shares where it collects in that territory, and else nothing
pub record AreCollectedIf (code : List ℕ) (r : RecordValue) (s : Owned) : Type 0 where
  pub performing : s.performing ≡ (if collects_in code r then share_of "pr collection share" r else 0)
  pub mechanical : s.mechanical ≡ (if collects_in code r then share_of "mr collection share" r else 0)
  pub synchronization : s.synchronization ≡ (if collects_in code r then share_of "sr collection share" r else 0)

-- what the records collect in that territory adds up to these
pub record AreCollectedIn (code : List ℕ) (records : List RecordValue) (s : Owned) : Type 0 where
  pub performing : s.performing ≡ capped (sum_by (share_of "pr collection share") (filter (collects_in code) records))
  pub mechanical : s.mechanical ≡ capped (sum_by (share_of "mr collection share") (filter (collects_in code) records))
  pub synchronization : s.synchronization ≡ capped (sum_by (share_of "sr collection share") (filter (collects_in code) records))
