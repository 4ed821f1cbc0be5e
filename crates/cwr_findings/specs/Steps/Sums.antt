-- What is kept of the records of a work or an agreement in place of them, and what that says of them.
use Rattle.std.specs.Prelude.{◌≡◌, ◌⊎◌, ℕ, Bool, true, false, not, ◌==◌, List, [], ◌∷◌, ◌++◌, length, drop, take, slice_get}
use Rattle.std.specs.Prelude.{Option, Some, None, if◌then◌else◌}
use Rattle.std.specs.List.{fold, list_any, last_or}
use Rattle.std.specs.Str.{bytes_eq}
use Rattle.cwr_fields.specs.declared.kinds.Kind.TheVariants as kinds
use Rattle.cwr_lines.specs.Format.Records.{RecordValue}
use Rattle.cwr_findings.specs.declared.rules.Rule.{Rule}
use Rattle.cwr_findings.specs.declared.rules.Rule.TheVariants.{V1, V2, V7, V8}
use Rattle.cwr_findings.specs.declared.sums.Begun.TheVariants.{Agreement, Nothing, Work}
use Rattle.cwr_findings.specs.declared.sums.Sums.{Sums}
use Rattle.cwr_findings.specs.Format.Findings.{before_copy, breaks, counts_others, have_side_over_whole, in_blocks, is_a, is_agreement}
use Rattle.cwr_findings.specs.Format.Findings.{is_blank, is_party, is_territory, is_work, nearest}
use Rattle.cwr_findings.specs.Steps.Walks.{AreTotals, SidesAddUpTo, capped, is_publisher, party_number}

-- the record, after k others, breaks none of the rules that speak of one record and those around it
pub record IsUnbroken (t : List RecordValue) (k : ℕ) (r : RecordValue) : Type 0 where
  pub iswc : breaks V1 t k r ≡ false
  pub party : breaks V2 t k r ≡ false
  pub publisher : breaks V7 t k r ≡ false
  pub excerpt : breaks V8 t k r ≡ false

-- each of the records does so
abbrev pub AreUnbroken : List RecordValue → Type 0
AreUnbroken t = (k : ℕ) (r : RecordValue) → slice_get t k ≡ Some r → IsUnbroken t k r

-- there is a number of components, and it is another
abbrev pub wants_other : Option ℕ → ℕ → Bool
wants_other None components = false
wants_other (Some wanted) components = not (wanted == components)

-- what the header asks of the number of components
abbrev pub AsksComponents : RecordValue → Option ℕ → Type 0
AsksComponents header wanted = (n components : ℕ) → components ≡ capped n → wants_other wanted components ≡ counts_others header n

-- these are numbers of publishers among the records, though perhaps not all
abbrev pub AreNumbersOf : List RecordValue → List (List ℕ) → Type 0
AreNumbersOf t numbers = (number : List ℕ) → list_any (bytes_eq number) numbers ≡ true → list_any (is_publisher number) t ≡ true

-- the records are those of a work, whole or only begun, of which none is broken, and the sums are those over them
pub record AreSums (s : Sums) (t : List RecordValue) : Type 0 where
  pub begun : s.begun ≡ Work
  pub work : is_work t ≡ true
  pub counted : s.records ≡ length t
  pub totals : AreTotals t s.totals
  pub publisher : s.publisher ≡ party_number (nearest kinds.Spu t)
  pub writer : s.writer ≡ party_number (nearest kinds.Swr t)
  pub territory : is_territory (last_or None (in_blocks t)) ≡ false
  pub publishers : AreNumbersOf t s.publishers.items
  pub excerpt : s.has_excerpt_type ≡ true → list_any (is_blank "excerpt type") (take 1 t) ≡ false
  pub components : (header : RecordValue) → slice_get t 0 ≡ Some header → AsksComponents header s.components
  pub unbroken : AreUnbroken t

-- the numbers that are kept are those with one record more, and nothing else has changed
pub record KeepsNumbers (t : List RecordValue) (r : RecordValue) (old new : Sums) : Type 0 where
  pub others : new ≡ record old { publisher = new.publisher; writer = new.writer; publishers = new.publishers }
  pub publisher : new.publisher ≡ party_number (nearest kinds.Spu (t ++ r ∷ []))
  pub writer : new.writer ≡ party_number (nearest kinds.Swr (t ++ r ∷ []))
  pub territory : is_territory (last_or None (in_blocks (t ++ r ∷ []))) ≡ false
  pub publishers : AreNumbersOf (t ++ r ∷ []) new.publishers.items

-- the parties after the last territory, with one record more
abbrev pub with_record : List RecordValue → RecordValue → List RecordValue
with_record parties r = if is_a kinds.Ter r then [] else if is_party r then parties ++ r ∷ [] else parties

-- the parties after the last territory
abbrev pub last_parties : List RecordValue → List RecordValue
last_parties t = fold with_record [] t

-- no record breaks a rule, by the records that are there
abbrev pub BreakNothing : List RecordValue → Type 0
BreakNothing t = (rule : Rule) (k : ℕ) (r : RecordValue) → slice_get t k ≡ Some r → breaks rule t k r ≡ false

-- The records are those of an agreement, whole or only begun, of which none breaks a rule, and the shares are those of the parties of
-- its last block.
pub record AreSides (s : Sums) (t : List RecordValue) : Type 0 where
  pub begun : s.begun ≡ Agreement
  pub agreement : is_agreement t ≡ true
  pub sides : SidesAddUpTo (last_parties t) s.sides
  pub within : have_side_over_whole (last_parties t) ≡ false
  pub unbroken : BreakNothing t

-- the sums are those over the records of a work or of an agreement, whole or only begun
abbrev pub AreOver : Sums → List RecordValue → Type 0
AreOver s t = AreSums s t ⊎ AreSides s t

-- The sums are those over the records after an acknowledgement and its messages. Or there are none such so far.
abbrev pub StandFor : Sums → List RecordValue → Type 0
StandFor s t = AreOver s (drop (before_copy t) t) ⊎ ((s.begun ≡ Nothing) × (before_copy t ≡ length t))
