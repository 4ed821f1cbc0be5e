-- The fields that the rules of advice read, in the kinds that carry them, and tests of kinds.
use Rattle.std.proofs.Common.{◌≡◌, ℕ, Bool, true, false, cond, List, refl, sym, ap, subst, ◌∙◌, inl, inr}
use Rattle.std.specs.Prelude.{◌⊎◌, ◌&&◌, ◌||◌}
use Rattle.cwr_fields.specs.declared.kinds.Kind.{Kind}
use Rattle.cwr_fields.specs.declared.kinds.Kind.TheVariants as kinds
use Rattle.cwr_fields.specs.Format.Bytes.{is_spaces}
use Rattle.cwr_lines.specs.Format.Records.{RecordValue, IsRecord, cell_named}
use Rattle.cwr_findings.specs.Format.Fields.{HasSharesFrom, IsField}
use Rattle.cwr_findings.specs.Format.Findings.{is_a, is_blank, is_owner}
use Rattle.cwr_findings.proofs.lemmas.KindTests.{kind_of}
use Rattle.cwr_findings.proofs.lemmas.NamedCells.{named_cell}
use Rattle.cwr_findings.proofs.lemmas.RuleTests.{cell_of_field}
use Rattle.cwr_findings.proofs.lemmas.RuleFields.{shares_of_opu, shares_of_owr, shares_of_spu, shares_of_swr}
use Rattle.cwr_advice.specs.Format.Rules.{is_header, is_publisher, is_writer}

-- ---- tests joined

pub and_true : (a b : Bool) → a ≡ true → b ≡ (a && b)
and_true true b e = refl
and_true false b e = absurd (cc e)

pub and_false : (a b : Bool) → a ≡ false → false ≡ (a && b)
and_false true b e = absurd (cc e)
and_false false b e = refl

pub all_three : (a b x : Bool) → a ≡ true → b ≡ true → x ≡ (a && b && x)
all_three true true x e f = refl
all_three true false x e f = absurd (cc f)
all_three false b x e f = absurd (cc e)

pub second_fails : (a b x : Bool) → a ≡ true → b ≡ false → b ≡ (a && b && x)
second_fails true true x e f = absurd (cc f)
second_fails true false x e f = refl
second_fails false b x e f = absurd (cc e)

-- nothing is counted of who isn't one of them
pub none_if : (b : Bool) (n : ℕ) → b ≡ false → 0 ≡ cond b n 0
none_if true n e = absurd (cc e)
none_if false n e = refl

pub all_if : (b : Bool) (m n : ℕ) → b ≡ true → m ≡ n → m ≡ cond b n 0
all_if true m n e same = same
all_if false m n e same = absurd (cc e)

either : (a b : Bool) → (a || b) ≡ true → (a ≡ true) ⊎ (b ≡ true)
either true b h = inl refl
either false b h = inr h

or_assoc : (a b c d : Bool) → (a || b || c || d) ≡ true → (a || b) ≡ false → (c || d) ≡ true
or_assoc true b c d h e = absurd (cc e)
or_assoc false true c d h e = absurd (cc e)
or_assoc false false c d h e = h

or_first : (a b c d : Bool) → (a || b) ≡ true → (a || b || c || d) ≡ true
or_first true b c d h = refl
or_first false true c d h = refl
or_first false false c d h = absurd (cc h)

or_last : (a b c d : Bool) → (c || d) ≡ true → (a || b || c || d) ≡ true
or_last true b c d h = refl
or_last false true c d h = refl
or_last false false c d h = h

-- what two kinds have, a record has that is of one of them
pub of_either : (P : Kind → Type 0) (one two : Kind) (r : RecordValue) → (is_a one r || is_a two r) ≡ true → P one → P two
    → P r.kind
of_either P one two r h p q = elim (either (is_a one r) (is_a two r) h) [
  | inl e ↦ subst P (sym (kind_of one r e)) p
  | inr e ↦ subst P (sym (kind_of two r e)) q
]

-- ---- owners

pub shares_of_publisher : (r : RecordValue) → is_publisher r ≡ true → HasSharesFrom r.kind 13
shares_of_publisher r h = of_either (λ k. HasSharesFrom k 13) kinds.Spu kinds.Opu r h shares_of_spu shares_of_opu

pub shares_of_other : (r : RecordValue) → is_owner r ≡ true → is_publisher r ≡ false → HasSharesFrom r.kind 12
shares_of_other r h e =
    of_either (λ k. HasSharesFrom k 12) kinds.Swr kinds.Owr r
    (or_assoc (is_a kinds.Spu r) (is_a kinds.Opu r) (is_a kinds.Swr r) (is_a kinds.Owr r) h e) shares_of_swr shares_of_owr

pub publisher_owns : (r : RecordValue) → is_publisher r ≡ true → is_owner r ≡ true
publisher_owns r h = or_first (is_a kinds.Spu r) (is_a kinds.Opu r) (is_a kinds.Swr r) (is_a kinds.Owr r) h

pub writer_owns : (r : RecordValue) → is_writer r ≡ true → is_owner r ≡ true
writer_owns r h = or_last (is_a kinds.Spu r) (is_a kinds.Opu r) (is_a kinds.Swr r) (is_a kinds.Owr r) h

-- ---- fields

pub type_of_publisher : (r : RecordValue) → is_publisher r ≡ true → IsField "publisher type" r.kind 8 2
type_of_publisher r h =
    of_either (λ k. IsField "publisher type" k 8 2) kinds.Spu kinds.Opu r h
    (record { carried = refl; place = refl; width = refl }) (record { carried = refl; place = refl; width = refl })

pub sequence_of_publisher : (r : RecordValue) → is_publisher r ≡ true → IsField "publisher sequence" r.kind 4 2
sequence_of_publisher r h =
    of_either (λ k. IsField "publisher sequence" k 4 2) kinds.Spu kinds.Opu r h
    (record { carried = refl; place = refl; width = refl }) (record { carried = refl; place = refl; width = refl })

pub composite_of_header : (r : RecordValue) → is_header r ≡ true → IsField "composite type" r.kind 14 3
composite_of_header r h =
    of_either (λ k. IsField "composite type" k 14 3) kinds.Nwr kinds.Rev r h
    (record { carried = refl; place = refl; width = refl }) (record { carried = refl; place = refl; width = refl })

pub version_of_header : (r : RecordValue) → is_header r ≡ true → IsField "version type" r.kind 15 3
version_of_header r h =
    of_either (λ k. IsField "version type" k 15 3) kinds.Nwr kinds.Rev r h (record { carried = refl; place = refl; width = refl })
    (record { carried = refl; place = refl; width = refl })

pub number_of_writer : (r : RecordValue) → is_writer r ≡ true → IsField "interested party number" r.kind 4 9
number_of_writer r h =
    of_either (λ k. IsField "interested party number" k 4 9) kinds.Swr kinds.Owr r h
    (record { carried = refl; place = refl; width = refl }) (record { carried = refl; place = refl; width = refl })

-- ---- cells by their names

pub blank_composite : (r : RecordValue) (cell : List ℕ) → cell ≡ cell_of_field r 14 → is_header r ≡ true → IsRecord r
    → is_spaces cell ≡ is_blank "composite type" r
blank_composite r cell e h fits = ap is_spaces (e ∙ named_cell "composite type" r.kind 14 3 r (composite_of_header r h) refl fits)

pub named_version : (r : RecordValue) (cell : List ℕ) → cell ≡ cell_of_field r 15 → is_header r ≡ true → IsRecord r
    → cell ≡ cell_named "version type" r
named_version r cell e h fits = e ∙ named_cell "version type" r.kind 15 3 r (version_of_header r h) refl fits

pub named_sequence : (r : RecordValue) (cell : List ℕ) → cell ≡ cell_of_field r 4 → is_publisher r ≡ true → IsRecord r
    → cell ≡ cell_named "publisher sequence" r
named_sequence r cell e h fits = e ∙ named_cell "publisher sequence" r.kind 4 2 r (sequence_of_publisher r h) refl fits

pub named_number : (r : RecordValue) (cell : List ℕ) → cell ≡ cell_of_field r 4 → is_writer r ≡ true → IsRecord r
    → cell ≡ cell_named "interested party number" r
named_number r cell e h fits = e ∙ named_cell "interested party number" r.kind 4 9 r (number_of_writer r h) refl fits

pub named_writer : (r : RecordValue) (cell : List ℕ) → cell ≡ cell_of_field r 8 → is_a kinds.Pwr r ≡ true → IsRecord r
    → cell ≡ cell_named "writer interested party number" r
named_writer r cell e h fits =
    e ∙ named_cell "writer interested party number" kinds.Pwr 8 9 r (record { carried = refl; place = refl; width = refl })
    (kind_of kinds.Pwr r h) fits
