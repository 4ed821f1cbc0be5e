-- What the rules ask, by the cells that a record shows.
use Rattle.std.proofs.Common.{◌≡◌, ℕ, ◌<◌, Bool, true, false, not, List, [], ◌∷◌, take, refl, sym, ap, ap₂, ◌∙◌, inl, inr}
use Rattle.std.specs.Prelude.{Option, Some, None, ◌&&◌, ◌||◌, slice_get, unwrap_or, ◌⊎◌}
use Rattle.std.specs.List.{list_any}
use Rattle.std.proofs.lemmas.Bool.{or_cases, and_parts}
use Rattle.std.specs.Str.{bytes_eq}
use Rattle.cwr_fields.specs.Format.Bytes.{is_spaces}
use Rattle.cwr_fields.specs.Format.Iswc.{is_iswc}
use Rattle.cwr_fields.specs.declared.kinds.Kind.{Kind}
use Rattle.cwr_fields.specs.declared.kinds.Kind.TheVariants as kinds
use Rattle.cwr_lines.specs.Format.Carried.{record_cell}
use Rattle.cwr_lines.specs.Format.Records.{RecordValue, IsRecord, cell_named}
use Rattle.cwr_findings.specs.declared.rules.Rule.TheVariants.{V1, V2, V7}
use Rattle.cwr_findings.specs.Format.Fields.{IsField}
use Rattle.cwr_findings.specs.Format.Findings.{breaks, is_a, is_work, is_agreement, is_blank, nearest, has_party_number, names_author, is_author}
use Rattle.cwr_findings.specs.Steps.Walks.{can_break, is_kind, is_number, party_number, is_publisher}
use Rattle.cwr_findings.proofs.lemmas.KindTests.{kind_of}
use Rattle.cwr_findings.proofs.lemmas.NamedCells.{named_cell}
use Rattle.cwr_findings.proofs.lemmas.OneMore.{any_among_first}
use Rattle.cwr_findings.proofs.lemmas.RuleFields.{publisher_of_pwr, number_of_spu, number_of_spt, number_of_swt, excerpt_of_nwr, excerpt_of_rev}

-- the record's cell of field j
abbrev pub cell_of_field : RecordValue → ℕ → List ℕ
cell_of_field r j = unwrap_or (record_cell r j) []

and_with : (a b c : Bool) → a ≡ true → (b && c) ≡ (a && b && c)
and_with true b c e = refl
and_with false b c e = absurd (cc e)

and_true : (a b : Bool) → a ≡ true → b ≡ (a && b)
and_true true b e = refl
and_true false b e = absurd (cc e)

pub wrong_iswc : (kind : Kind) (j : ℕ) (r : RecordValue) (t : List RecordValue) (k : ℕ) → IsField "iswc" kind j 11 → can_break V1 kind ≡ true → r.kind ≡ kind → IsRecord r
    → (not (is_spaces (cell_of_field r j)) && not (is_iswc (cell_of_field r j))) ≡ breaks V1 t k r
wrong_iswc kind j r t k field can e fits =
    ap (λ (x : List ℕ). not (is_spaces x) && not (is_iswc x)) (named_cell "iswc" kind j 11 r field e fits)
    ∙ and_with (can_break V1 r.kind) (not (is_blank "iswc" r)) (not (is_iswc (cell_named "iswc" r))) (ap (can_break V1) e ∙ can)

-- ---- territories

same_number : (number : List ℕ) (o : Option RecordValue) → is_number number (party_number o) ≡ has_party_number number o
same_number number None = refl
same_number number (Some r) = refl

first_of_two : (w a b x y : Bool) → w ≡ true → a ≡ true → b ≡ false → x ≡ (w && ((a && x) || (b && y)))
first_of_two true true false true y e f g = refl
first_of_two true true false false y e f g = refl
first_of_two true true true x y e f g = absurd (cc g)
first_of_two true false b x y e f g = absurd (cc f)
first_of_two false a b x y e f g = absurd (cc e)

second_of_two : (w a b x y : Bool) → w ≡ true → a ≡ false → b ≡ true → y ≡ (w && ((a && x) || (b && y)))
second_of_two true false true x y e f g = refl
second_of_two true false false x y e f g = absurd (cc g)
second_of_two true true b x y e f g = absurd (cc f)
second_of_two false a b x y e f g = absurd (cc e)

names_other : (kind near : Kind) (r : RecordValue) (t : List RecordValue) (k : ℕ) (o : Option (List ℕ)) → IsField "interested party number" kind 4 9 → r.kind ≡ kind → IsRecord r
    → o ≡ party_number (nearest near (take k t)) → not (is_number (cell_of_field r 4) o) ≡ not (has_party_number (cell_named "interested party number" r) (nearest near (take k t)))
names_other kind near r t k o field e fits known =
    ap₂ (λ (number : List ℕ) (p : Option (List ℕ)). not (is_number number p)) (named_cell "interested party number" kind 4 9 r field e fits) known
    ∙ ap not (same_number (cell_named "interested party number" r) (nearest near (take k t)))

pub other_publisher : (r : RecordValue) (t : List RecordValue) (k : ℕ) (o : Option (List ℕ)) → is_work t ≡ true → r.kind ≡ kinds.Spt → IsRecord r
    → o ≡ party_number (nearest kinds.Spu (take k t)) → not (is_number (cell_of_field r 4) o) ≡ breaks V2 t k r
other_publisher r t k o work e fits known =
    names_other kinds.Spt kinds.Spu r t k o number_of_spt e fits known
    ∙ first_of_two (is_work t) (is_kind kinds.Spt r.kind) (is_kind kinds.Swt r.kind) (not (has_party_number (cell_named "interested party number" r) (nearest kinds.Spu (take k t))))
    (not (has_party_number (cell_named "interested party number" r) (nearest kinds.Swr (take k t)))) work (ap (is_kind kinds.Spt) e) (ap (is_kind kinds.Swt) e)

pub other_writer : (r : RecordValue) (t : List RecordValue) (k : ℕ) (o : Option (List ℕ)) → is_work t ≡ true → r.kind ≡ kinds.Swt → IsRecord r
    → o ≡ party_number (nearest kinds.Swr (take k t)) → not (is_number (cell_of_field r 4) o) ≡ breaks V2 t k r
other_writer r t k o work e fits known =
    names_other kinds.Swt kinds.Swr r t k o number_of_swt e fits known
    ∙ second_of_two (is_work t) (is_kind kinds.Spt r.kind) (is_kind kinds.Swt r.kind) (not (has_party_number (cell_named "interested party number" r) (nearest kinds.Spu (take k t))))
    (not (has_party_number (cell_named "interested party number" r) (nearest kinds.Swr (take k t)))) work (ap (is_kind kinds.Spt) e) (ap (is_kind kinds.Swt) e)

-- ---- headers

pub or_none : (a : Bool) → (a || false) ≡ a
or_none true = refl
or_none false = refl

-- the header of a work is of one of two kinds
pub header_of_work : (r : RecordValue) → is_work (r ∷ []) ≡ true → (r.kind ≡ kinds.Nwr) ⊎ (r.kind ≡ kinds.Rev)
header_of_work r h = elim (or_cases (is_a kinds.Nwr r) (is_a kinds.Rev r) (sym (or_none (is_a kinds.Nwr r || is_a kinds.Rev r)) ∙ h)) [ inl e ↦ inl (kind_of kinds.Nwr r e) | inr e ↦ inr (kind_of kinds.Rev r e) ]

-- and that of an agreement of one
pub header_of_agreement : (r : RecordValue) → is_agreement (r ∷ []) ≡ true → r.kind ≡ kinds.Agr
header_of_agreement r h = kind_of kinds.Agr r (sym (or_none (is_a kinds.Agr r)) ∙ h)

-- a work, or an agreement, is known by its first record alone
pub first_of_work : (t : List RecordValue) (r : RecordValue) → slice_get t 0 ≡ Some r → is_work (r ∷ []) ≡ is_work t
first_of_work [] r e = absurd (cc e)
first_of_work (x ∷ t) r e = let same : x ≡ r = cc e in ap (λ (y : RecordValue). is_work (y ∷ [])) (sym same)

pub first_of_agreement : (t : List RecordValue) (r : RecordValue) → slice_get t 0 ≡ Some r → is_agreement (r ∷ []) ≡ is_agreement t
first_of_agreement [] r e = absurd (cc e)
first_of_agreement (x ∷ t) r e = let same : x ≡ r = cc e in ap (λ (y : RecordValue). is_agreement (y ∷ [])) (sym same)

excerpt_cell : (r : RecordValue) → is_work (r ∷ []) ≡ true → IsRecord r → cell_of_field r 16 ≡ cell_named "excerpt type" r
excerpt_cell r h fits = elim (header_of_work r h) [ inl e ↦ named_cell "excerpt type" kinds.Nwr 16 3 r excerpt_of_nwr e fits | inr e ↦ named_cell "excerpt type" kinds.Rev 16 3 r excerpt_of_rev e fits ]

-- the excerpt type of a work's header
pub blank_excerpt_type : (t : List RecordValue) (r : RecordValue) → slice_get t 0 ≡ Some r → is_work t ≡ true → IsRecord r → is_spaces (cell_of_field r 16) ≡ list_any (is_blank "excerpt type") (take 1 t)
blank_excerpt_type [] r e h fits = absurd (cc e)
blank_excerpt_type (x ∷ t) r e h fits =
    let same : x ≡ r = cc e in
    ap is_spaces (excerpt_cell r (first_of_work (x ∷ t) r e ∙ h) fits) ∙ sym (or_none (is_blank "excerpt type" r)) ∙ ap (λ (y : RecordValue). list_any (is_blank "excerpt type") (y ∷ [])) (sym same)

-- ---- publishers and authors

pub publisher_of_number : (r : RecordValue) (number : List ℕ) → r.kind ≡ kinds.Spu → IsRecord r → bytes_eq number (cell_of_field r 5) ≡ is_publisher number r
publisher_of_number r number e fits =
    ap (bytes_eq number) (named_cell "interested party number" kinds.Spu 5 9 r number_of_spu e fits)
    ∙ and_true (is_kind kinds.Spu r.kind) (bytes_eq number (cell_named "interested party number" r)) (ap (is_kind kinds.Spu) e)

pub author_of_kind : (kind : Kind) (r : RecordValue) → (is_kind kinds.Swr kind || is_kind kinds.Owr kind) ≡ true → IsField "designation" kind 8 2 → r.kind ≡ kind → IsRecord r → names_author (cell_of_field r 8) ≡ is_author r
author_of_kind kind r h field e fits =
    ap names_author (named_cell "designation" kind 8 2 r field e fits)
    ∙ and_true (is_kind kinds.Swr r.kind || is_kind kinds.Owr r.kind) (names_author (cell_named "designation" r)) (ap (λ (k : Kind). is_kind kinds.Swr k || is_kind kinds.Owr k) e ∙ h)

whole_and : (w a x : Bool) → w ≡ true → a ≡ true → x ≡ (w && a && x)
whole_and true true x e f = refl
whole_and true false x e f = absurd (cc f)
whole_and false a x e f = absurd (cc e)

-- where all publishers stand among the first records, only these are asked
pub unknown_publisher : (t : List RecordValue) (r : RecordValue) (number : List ℕ) (end k : ℕ) → ((i : ℕ) (p : RecordValue) → slice_get t i ≡ Some p → is_a kinds.Spu p ≡ true → i < end)
    → is_work t ≡ true → is_a kinds.Pwr r ≡ true → IsRecord r → number ≡ cell_of_field r 4 → not (list_any (is_publisher number) (take end t)) ≡ breaks V7 t k r
unknown_publisher t r number end k publishers work pwr fits shows =
    ap not (any_among_first (is_publisher number) t end (λ i p e q. publishers i p e (and_parts (is_a kinds.Spu p) (bytes_eq number (cell_named "interested party number" p)) q).0)
    ∙ ap (λ (n : List ℕ). list_any (is_publisher n) t) (shows ∙ named_cell "publisher interested party number" kinds.Pwr 4 9 r publisher_of_pwr (kind_of kinds.Pwr r pwr) fits))
    ∙ whole_and (is_work t) (is_a kinds.Pwr r) (not (list_any (is_publisher (cell_named "publisher interested party number" r)) t)) work pwr
