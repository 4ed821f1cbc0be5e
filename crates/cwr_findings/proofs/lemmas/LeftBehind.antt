-- What the records before one leave behind, with one more of them.
use Rattle.std.proofs.Common.{◌≡◌, Bool, true, false, cond, List, [], ◌∷◌, ◌++◌, refl, ap, ◌∙◌}
use Rattle.std.specs.Prelude.{Option, Some, None, filter, ◌||◌}
use Rattle.std.specs.List.{last_or}
use Rattle.std.proofs.lemmas.List.{append-nil}
use Rattle.std.proofs.lemmas.List.Elements.{filter-append}
use Rattle.cwr_fields.specs.declared.kinds.Kind.{Kind}
use Rattle.cwr_fields.specs.declared.kinds.Kind.TheVariants as kinds
use Rattle.cwr_lines.specs.Format.Records.{RecordValue, cell_named}
use Rattle.cwr_findings.specs.Format.Findings.{is_a, nearest, is_party, is_territory, in_blocks}
use Rattle.cwr_findings.specs.Steps.Walks.{party_number}
use Rattle.cwr_findings.proofs.lemmas.KindTests.{is_of_kind, is_of_no_kind}

last_pushed : (o : Option RecordValue) (xs : List RecordValue) (r : RecordValue) → last_or o (xs ++ r ∷ []) ≡ Some r
last_pushed o [] r = refl
last_pushed o (x ∷ xs) r = last_pushed (Some x) xs r

last_kept : (p : RecordValue → Bool) (rs : List RecordValue) (r : RecordValue) (b : Bool) → p r ≡ b
    → last_or None (filter p rs ++ filter p (r ∷ [])) ≡ cond b (Some r) (last_or None (filter p rs))
last_kept p rs r true e = rw e (last_pushed None (filter p rs) r)
last_kept p rs r false e = rw e (ap (last_or None) (append-nil (filter p rs)))

last_more : (p : RecordValue → Bool) (rs : List RecordValue) (r : RecordValue) (b : Bool) → p r ≡ b
    → last_or None (filter p (rs ++ r ∷ [])) ≡ cond b (Some r) (last_or None (filter p rs))
last_more p rs r b e = ap (last_or None) (filter-append p rs (r ∷ [])) ∙ last_kept p rs r b e

-- a record of the kind is the nearest
pub number_more : (kind : Kind) (rs : List RecordValue) (r : RecordValue) → r.kind ≡ kind
    → party_number (nearest kind (rs ++ r ∷ [])) ≡ Some (cell_named "interested party number" r)
number_more kind rs r h = ap party_number (last_more (is_a kind) rs r true (is_of_kind kind r h))

pub number_same : (kind : Kind) (rs : List RecordValue) (r : RecordValue) → (r.kind ≡ kind → ⊥)
    → party_number (nearest kind (rs ++ r ∷ [])) ≡ party_number (nearest kind rs)
number_same kind rs r h = ap party_number (last_more (is_a kind) rs r false (is_of_no_kind kind r h))

abbrev ends_with_territory : List RecordValue → Bool
ends_with_territory rs = is_territory (last_or None (in_blocks rs))

pub territory_more : (rs : List RecordValue) (r : RecordValue) → r.kind ≡ kinds.Ter → ends_with_territory (rs ++ r ∷ []) ≡ true
territory_more rs r h =
    let is_ter : is_a kinds.Ter r ≡ true = is_of_kind kinds.Ter r h in
    ap is_territory (last_more (λ x. is_a kinds.Ter x || is_party x) rs r true (rw is_ter refl)) ∙ is_ter

pub party_more : (rs : List RecordValue) (r : RecordValue) → r.kind ≡ kinds.Ipa → ends_with_territory (rs ++ r ∷ []) ≡ false
party_more rs r h =
    let is_ter : is_a kinds.Ter r ≡ false = ap (λ (k : Kind). by k) h in
    let is_ipa : is_a kinds.Ipa r ≡ true = is_of_kind kinds.Ipa r h in
    ap is_territory (last_more (λ x. is_a kinds.Ter x || is_party x) rs r true (rw (is_ter, is_ipa) refl)) ∙ is_ter
  where
    by : Kind → Bool
    by k = is_a kinds.Ter (record { kind = k; cells = [] })

pub territory_same : (rs : List RecordValue) (r : RecordValue) → (r.kind ≡ kinds.Ter → ⊥) → (r.kind ≡ kinds.Ipa → ⊥)
    → ends_with_territory (rs ++ r ∷ []) ≡ ends_with_territory rs
territory_same rs r no_ter no_ipa =
    let is_ter : is_a kinds.Ter r ≡ false = is_of_no_kind kinds.Ter r no_ter in
    let is_ipa : is_a kinds.Ipa r ≡ false = is_of_no_kind kinds.Ipa r no_ipa in
    ap is_territory (last_more (λ x. is_a kinds.Ter x || is_party x) rs r false (rw (is_ter, is_ipa) refl))
