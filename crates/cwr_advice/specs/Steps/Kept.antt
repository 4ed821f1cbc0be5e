-- What is kept of the records of a transaction in place of them, and what that says of them.
use Rattle.std.specs.Prelude.{◌≡◌, ◌⊎◌, ℕ, ◌+◌, Bool, true, false, not, ◌&&◌, if◌then◌else◌, List, filter, drop, take, slice_get}
use Rattle.std.specs.Prelude.{Option, Some, [], ◌∷◌, ◌++◌}
use Rattle.std.specs.List.{list_any, sum_by, after_last}
use Rattle.std.specs.Option.{is_some}
use Rattle.std.specs.Str.{bytes_eq}
use Rattle.cwr_fields.specs.declared.kinds.Kind.TheVariants as kinds
use Rattle.cwr_lines.specs.Format.Records.{RecordValue, cell_named}
use Rattle.cwr_findings.specs.Format.Findings.{has_party_number, is_a, is_blank, is_owner, share_of}
use Rattle.cwr_findings.specs.Steps.Walks.{capped}
use Rattle.cwr_advice.specs.declared.kept.AdviceSums.{AdviceSums}
use Rattle.cwr_advice.specs.declared.kept_headers.Headers.{Headers}
use Rattle.cwr_advice.specs.declared.owing.Owing.{Owing}
use Rattle.cwr_advice.specs.declared.owners.Owned.{Owned}
use Rattle.cwr_advice.specs.declared.rules.AdviceRule.{AdviceRule}
use Rattle.cwr_advice.specs.declared.rules.AdviceRule.TheVariants.{A8e, A9a, A9b, A9c}
use Rattle.cwr_advice.specs.declared.rules.Asked.{Asked}
use Rattle.cwr_advice.specs.Format.Characters.{is_ascii}
use Rattle.cwr_advice.specs.Format.Days.{day_in}
use Rattle.cwr_advice.specs.Format.Rules.{asked_of, at, begins_with_agent, breaks_alone, cell_at, has_composite_type}
use Rattle.cwr_advice.specs.Format.Rules.{has_no_composite_type, in_chain, is_acknowledgement, is_territory, is_territory_of}
use Rattle.cwr_advice.specs.Format.Rules.{is_version, is_writer, last_writer, names_other_writer, records_of_writer}
use Rattle.cwr_advice.specs.Format.Said.{nothing_said}
use Rattle.cwr_advice.specs.Steps.Facts.{AreFacts}

-- ---- headers

-- what headers there are among the records
pub record AreHeaders (t : List RecordValue) (x : Headers) : Type 0 where
  pub composite : x.has_composite ≡ list_any has_composite_type t
  pub plain : x.has_plain ≡ list_any has_no_composite_type t
  pub version : x.has_version ≡ list_any is_version t

-- ---- what is collected

-- these are the record's collection shares where it is a territory, and else nothing
pub record AreCollectedAnywhere (r : RecordValue) (s : Owned) : Type 0 where
  pub performing : s.performing ≡ (if is_territory r then share_of "pr collection share" r else 0)
  pub mechanical : s.mechanical ≡ (if is_territory r then share_of "mr collection share" r else 0)
  pub synchronization : s.synchronization ≡ (if is_territory r then share_of "sr collection share" r else 0)

-- what the records collect in all territories together
pub record AreAllCollected (t : List RecordValue) (s : Owned) : Type 0 where
  pub performing : s.performing ≡ capped (sum_by (share_of "pr collection share") (filter is_territory t))
  pub mechanical : s.mechanical ≡ capped (sum_by (share_of "mr collection share") (filter is_territory t))
  pub synchronization : s.synchronization ≡ capped (sum_by (share_of "sr collection share") (filter is_territory t))

-- ---- what writers need

-- Each record that asks for another one, which gives it, has that before the next writer. Or it is said that some lack it: the last
-- writer alone, or one before it.
abbrev pub AreOwing : (RecordValue → Bool) → (RecordValue → Bool) → List RecordValue → Owing → Type 0
AreOwing asks gives t x = (k : ℕ) (r : RecordValue) → slice_get t k ≡ Some r → asks r ≡ true
    → (list_any gives (records_of_writer t k) ≡ true)
    ⊎ ((x.lacks ≡ true) ⊎ ((x.owes ≡ true) × (list_any is_writer (drop (k + 1) t) ≡ false)))

-- ---- what stands before a record

-- one of the numbers is this
abbrev pub is_among : List ℕ → List (List ℕ) → Bool
is_among number numbers = list_any (λ known. bytes_eq known number) numbers

-- these are the numbers of the territories after the last publisher or writer
abbrev pub AreSinceParty : List RecordValue → List (List ℕ) → Type 0
AreSinceParty t numbers = (number : List ℕ) → list_any (is_territory_of number) (after_last is_owner t) ≡ is_among number numbers

-- the record is a territory that stands before it already, after the last publisher or writer
abbrev pub stands_again : List RecordValue → RecordValue → Bool
stands_again before r =
    is_territory r && not (is_blank "tis code" r) && list_any (is_territory_of (cell_named "tis code" r))
    (after_last is_owner before)

-- that is the sequence of a chain that is begun
abbrev pub IsBegun : List RecordValue → Option (List ℕ) → Type 0
IsBegun t chain = (sequence : List ℕ) → chain ≡ Some sequence → list_any (in_chain sequence) t ≡ true

-- the last writer has that number
abbrev pub IsLastWriter : List RecordValue → Option (List ℕ) → Type 0
IsLastWriter t writer = (number : List ℕ) → writer ≡ Some number → has_party_number number (last_writer t) ≡ true

-- the record may break the rule by itself, whatever is said of the transmission
abbrev pub may_break_alone : AdviceRule → RecordValue → ℕ → Bool
may_break_alone A8e r j = is_some (day_in (cell_at r j))
may_break_alone A9a r j = not (is_ascii (cell_at r j))
may_break_alone A9b r j = not (is_ascii (cell_at r j))
may_break_alone rule r j = breaks_alone nothing_said rule r j

-- what is asked of the last and the first name of a writer by themselves
abbrev pub asked_of_names : List Asked
asked_of_names = at A9a 5 ∷ at A9a 6 ∷ at A9b 5 ∷ at A9b 6 ∷ at A9c 5 ∷ at A9c 6 ∷ []

-- the record may break one of these so
abbrev pub may_break_one : List Asked → RecordValue → Bool
may_break_one rules r = list_any (λ asked. may_break_alone asked.rule r asked.field) rules

-- it may break some rule so
abbrev pub may_break_some : RecordValue → Bool
may_break_some r = list_any (λ asked. may_break_alone asked.rule r asked.field) (asked_of r.kind)

-- the record, after k others, breaks no rule that speaks of it and of those before it
pub record IsCalm (t : List RecordValue) (k : ℕ) (r : RecordValue) : Type 0 where
  pub alone : may_break_some r ≡ false
  pub twice : stands_again (take k t) r ≡ false
  pub chain : begins_with_agent t k r ≡ false
  pub writer : names_other_writer t k r ≡ false

-- each of the records does so
abbrev pub AreCalm : List RecordValue → Type 0
AreCalm t = (k : ℕ) (r : RecordValue) → slice_get t k ≡ Some r → IsCalm t k r

-- ---- all of it

-- it is kept of these records
pub record AreKept (s : AdviceSums) (t : List RecordValue) : Type 0 where
  pub facts : AreFacts t s.facts
  pub headers : AreHeaders t s.headers
  pub collected : AreAllCollected t s.collected
  pub chain : IsBegun t s.chain
  pub writer : IsLastWriter t s.writer
  pub territories : AreSinceParty t s.territories.items
  pub publishers : AreOwing (is_a kinds.Swr) (is_a kinds.Pwr) t s.publishers
  pub collections : AreOwing (is_a kinds.Swr) (is_a kinds.Swt) t s.collections
  pub calm : AreCalm t

-- it is kept of these records, or they are those of an acknowledgement
abbrev pub StandsFor : AdviceSums → List RecordValue → Type 0
StandsFor s t = ((s.is_acknowledgement ≡ true) × (is_acknowledgement t ≡ true)) ⊎ ((s.is_acknowledgement ≡ false) × AreKept s t)

-- what is said of writers goes on to be so with one more record, of which that is said
abbrev pub OwesAfter : Owing → Bool → Bool → Bool → Owing → Type 0
OwesAfter old writes asks gives new =
    (asking giving : RecordValue → Bool) (t : List RecordValue) (r : RecordValue) → AreOwing asking giving t old
    → ((x : RecordValue) → asking x ≡ true → is_writer x ≡ true) → writes ≡ is_writer r → asks ≡ asking r → gives ≡ giving r
    → AreOwing asking giving (t ++ r ∷ []) new
