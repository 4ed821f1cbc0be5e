-- What stands before a record, with one record more.
use Rattle.std.proofs.Common.{◌≡◌, ℕ, ◌<◌, Bool, true, false, not, List, [], ◌∷◌, ◌++◌, length, take, refl, sym, ap, ap₂, subst}
use Rattle.std.proofs.Common.{◌∙◌, arith, inl, inr}
use Rattle.std.specs.Prelude.{Option, Some, None, IfSome, slice_get, ◌||◌, ◌&&◌, ◌⊎◌}
use Rattle.std.specs.List.{list_any, after_last}
use Rattle.std.specs.Str.{bytes_eq}
use Rattle.std.proofs.lemmas.Bool.{and_from, and_left, and_right, or_left, or_right}
use Rattle.std.proofs.lemmas.List.{take-append-le, take_all}
use Rattle.std.proofs.lemmas.List.Folds.{list_any-append}
use Rattle.std.proofs.lemmas.Slice.Eq.{bytes_eq-Decides}
use Rattle.cwr_lines.specs.Format.Records.{RecordValue, IsRecord, cell_named}
use Rattle.cwr_fields.specs.declared.kinds.Kind.TheVariants as kinds
use Rattle.cwr_findings.specs.Format.Findings.{has_party_number, is_a, is_blank, is_owner}
use Rattle.cwr_findings.proofs.lemmas.RuleTests.{cell_of_field, or_none}
use Rattle.cwr_advice.specs.Format.Rules.{begins_with_agent, in_chain, is_agent, is_publisher, is_territory, is_territory_of}
use Rattle.cwr_advice.specs.Format.Rules.{is_writer, last_writer}
use Rattle.cwr_advice.specs.Steps.Kept.{AreCalm, AreSinceParty, IsBegun, IsCalm, is_among, stands_again}
use Rattle.cwr_advice.proofs.lemmas.AdvisedFields.{named_sequence}
use Rattle.cwr_advice.proofs.lemmas.OwingWriters.{there_or_last}
use Rattle.cwr_advice.proofs.lemmas.SinceParty.{one_since}

-- the records before the last one
pub front_taken : {X : Type 0} → (t : List X) (r : X) → take (length t) (t ++ r ∷ []) ≡ t
front_taken t r = take-append-le (length t) t (r ∷ []) (omega arith) ∙ take_all (length t) t (omega arith)

-- ---- chains

any_still : (p : RecordValue → Bool) (t : List RecordValue) (r : RecordValue) → list_any p t ≡ true
    → list_any p (t ++ r ∷ []) ≡ true
any_still p t r h = list_any-append p t (r ∷ []) ∙ or_left (list_any p t) (list_any p (r ∷ [])) h

pub begun_still : (t : List RecordValue) (r : RecordValue) (chain : Option (List ℕ)) → IsBegun t chain
    → IsBegun (t ++ r ∷ []) chain
begun_still t r chain h = λ sequence e. any_still (in_chain sequence) t r (h sequence e)

-- the publisher is one of its chain
pub begun_by : (t : List RecordValue) (r : RecordValue) (cell : List ℕ) (chain : Option (List ℕ)) → is_publisher r ≡ true
    → IsRecord r → cell ≡ cell_of_field r 4
    → ((sequence : List ℕ) → chain ≡ Some sequence → sequence ≡ cell) → IsBegun (t ++ r ∷ []) chain
begun_by t r cell chain publisher fits e same = λ sequence is.
    let named : cell_named "publisher sequence" r ≡ sequence =
    sym (named_sequence r cell e publisher fits) ∙ sym (same sequence is) in
    let own : in_chain sequence r ≡ true =
    and_from (is_publisher r) (bytes_eq (cell_named "publisher sequence" r) sequence) publisher
    ((bytes_eq-Decides (cell_named "publisher sequence" r) sequence).1 named) in
    list_any-append (in_chain sequence) t (r ∷ []) ∙ or_right (list_any (in_chain sequence) t)
    (list_any (in_chain sequence) (r ∷ [])) (or_left (in_chain sequence r) false own)

pub no_agent : (t : List RecordValue) (r : RecordValue) → is_agent r ≡ false
    → begins_with_agent (t ++ r ∷ []) (length t) r ≡ false
no_agent t r h = and_left (is_agent r) _ h

pub chain_known : (t : List RecordValue) (r : RecordValue) (cell chain : List ℕ) → is_publisher r ≡ true → IsRecord r
    → cell ≡ cell_of_field r 4 → bytes_eq cell chain ≡ true → list_any (in_chain chain) t ≡ true
    → begins_with_agent (t ++ r ∷ []) (length t) r ≡ false
chain_known t r cell chain publisher fits e same begun =
    let named : cell_named "publisher sequence" r ≡ chain =
    sym (named_sequence r cell e publisher fits) ∙ (bytes_eq-Decides cell chain).0 same in
    and_right (is_agent r) _
    (ap not (ap₂ (λ (x : List ℕ) (l : List RecordValue). list_any (in_chain x) l) named (front_taken t r) ∙ begun))

pub some_is : (o : Option (List ℕ)) (cell : List ℕ) → IfSome o (λ x. x ≡ cell) → (sequence : List ℕ) → o ≡ Some sequence
    → sequence ≡ cell
some_is None cell h sequence e = absurd (cc e)
some_is (Some x) cell h sequence e = let same : x ≡ sequence = cc e in sym same ∙ h

-- ---- territories

-- a publisher or a writer
pub since_owner : (t : List RecordValue) (r : RecordValue) (numbers : List (List ℕ)) → is_owner r ≡ true → numbers ≡ []
    → AreSinceParty (t ++ r ∷ []) numbers
since_owner t r numbers owner none =
    λ number. one_since (is_territory_of number) is_owner t r true (is_territory_of number r) owner refl
    ∙ sym (ap (is_among number) none)

-- another record
pub since_other : (t : List RecordValue) (r : RecordValue) (numbers : List (List ℕ)) → is_owner r ≡ false → is_territory r ≡ false
    → AreSinceParty t numbers → AreSinceParty (t ++ r ∷ []) numbers
since_other t r numbers other none h = λ number.
    one_since (is_territory_of number) is_owner t r false false other (and_left (is_territory r) _ none)
    ∙ or_none (list_any (is_territory_of number) (after_last is_owner t)) ∙ h number

-- a territory
pub since_territory : (t : List RecordValue) (r : RecordValue) (code : List ℕ) (numbers kept : List (List ℕ)) → is_owner r ≡ false
    → is_territory r ≡ true → AreSinceParty t numbers → kept ≡ numbers ++ code ∷ [] → code ≡ cell_named "tis code" r
    → AreSinceParty (t ++ r ∷ []) kept
since_territory t r code numbers kept other territory h e own = λ number.
    let here : is_territory_of number r ≡ bytes_eq code number =
    ap₂ (λ (b : Bool) (x : List ℕ). b && bytes_eq x number) territory (sym own) in
    one_since (is_territory_of number) is_owner t r false (is_territory_of number r) other refl
    ∙ ap₂ (λ (a b : Bool). a || b) (h number) (here ∙ sym (or_none (bytes_eq code number)))
    ∙ sym (ap (is_among number) e ∙ list_any-append (λ known. bytes_eq known number) numbers (code ∷ []))

-- ---- all records

still_calm : (t : List RecordValue) (r : RecordValue) (k : ℕ) (x : RecordValue) → k < length t → IsCalm t k x
    → IsCalm (t ++ r ∷ []) k x
still_calm t r k x below h =
    let same : take k (t ++ r ∷ []) ≡ take k t = take-append-le k t (r ∷ []) (omega (arith, below)) in
    record {
      alone = h.alone;
      twice = ap (λ (l : List RecordValue). stands_again l x) same ∙ h.twice;
      chain =
          ap (λ (l : List RecordValue). is_agent x && not (list_any (in_chain (cell_named "publisher sequence" x)) l)) same
          ∙ h.chain;
      writer =
          ap (λ (l : List RecordValue). is_a kinds.Pwr x && not (is_blank "writer interested party number" x)
          && not (has_party_number (cell_named "writer interested party number" x) (last_writer l))) same ∙ h.writer;
    }

pub calm_more : (t : List RecordValue) (r : RecordValue) → AreCalm t → IsCalm (t ++ r ∷ []) (length t) r → AreCalm (t ++ r ∷ [])
calm_more t r all last = λ k x there. by k x (there_or_last t r k x there)
  where
    by : (k : ℕ) (x : RecordValue) → ((k < length t) × (slice_get t k ≡ Some x)) ⊎ ((k ≡ length t) × (x ≡ r))
        → IsCalm (t ++ r ∷ []) k x
    by k x (inl p) = still_calm t r k x p.0 (all k x p.1)
    by k x (inr p) =
        subst (λ (n : ℕ). IsCalm (t ++ r ∷ []) n x) (sym p.0)
        (subst (λ (y : RecordValue). IsCalm (t ++ r ∷ []) (length t) y) (sym p.1) last)

-- ---- who asks for a record

pub controlled_writes : (r : RecordValue) → is_a kinds.Swr r ≡ true → is_writer r ≡ true
controlled_writes r h = or_left (is_a kinds.Swr r) (is_a kinds.Owr r) h
