-- The cells of a header that say whose a transaction is.
use Prim.Native.String.{String}
use Rattle.std.proofs.Common.{◌≡◌, ℕ, ◌≤◌, ◌⊎◌, Bool, true, false, cond, List, [], length, refl, sym, ap, subst, ◌∙◌, arith, inl, inr}
use Rattle.std.specs.Prelude.{◌||◌, unwrap_or}
use Rattle.cwr_fields.specs.declared.kinds.Kind.TheVariants as kinds
use Rattle.cwr_lines.specs.Format.Records.{RecordValue, IsRecord, cell_named}
use Rattle.cwr_lines.specs.Format.Carried.{record_cell}
use Rattle.cwr_findings.specs.Format.Fields.{IsField}
use Rattle.cwr_findings.specs.Format.Findings.{is_a}
use Rattle.cwr_findings.specs.Format.Headers.{is_work, work_number, work_title}
use Rattle.cwr_findings.proofs.lemmas.KindTests.{kind_of}
use Rattle.cwr_findings.proofs.lemmas.NamedCells.{cell_width, named_cell}

-- ---- fields

-- the cell of a field is that of its name, and as wide as the field
cell_is : (name : String) (r : RecordValue) (j wide : ℕ) (cell : List ℕ) → cell ≡ unwrap_or (record_cell r j) []
    → IsField name r.kind j wide → IsRecord r → cell ≡ cell_named name r
cell_is name r j wide cell e field fits = e ∙ named_cell name r.kind j wide r field refl fits

cell_long : (name : String) (r : RecordValue) (j wide : ℕ) (cell : List ℕ) → cell ≡ unwrap_or (record_cell r j) []
    → IsField name r.kind j wide → IsRecord r → length cell ≡ wide
cell_long name r j wide cell e field fits = ap length e ∙ cell_width name r.kind j wide r field refl fits

-- the header of a work is one of two
of_two : (a b : Bool) → (a || b) ≡ true → (a ≡ true) ⊎ (b ≡ true)
of_two true b h = inl refl
of_two false b h = inr h

number_of_work : (r : RecordValue) → is_work r ≡ true → IsField "submitter work number" r.kind 6 14
number_of_work r h = elim (of_two (is_a kinds.Nwr r) (is_a kinds.Rev r) h) [
  | inl e ↦ subst (λ k. IsField "submitter work number" k 6 14) (sym (kind_of kinds.Nwr r e))
      (record { carried = refl; place = refl; width = refl })
  | inr e ↦ subst (λ k. IsField "submitter work number" k 6 14) (sym (kind_of kinds.Rev r e))
      (record { carried = refl; place = refl; width = refl })
]

title : (r : RecordValue) → is_work r ≡ true → IsField "title" r.kind 4 60
title r h = elim (of_two (is_a kinds.Nwr r) (is_a kinds.Rev r) h) [
  | inl e ↦ subst (λ k. IsField "title" k 4 60) (sym (kind_of kinds.Nwr r e))
      (record { carried = refl; place = refl; width = refl })
  | inr e ↦ subst (λ k. IsField "title" k 4 60) (sym (kind_of kinds.Rev r e))
      (record { carried = refl; place = refl; width = refl })
]

creation_number : (r : RecordValue) → is_a kinds.Ack r ≡ true → IsField "submitter creation number" r.kind 10 20
creation_number r h =
    subst (λ k. IsField "submitter creation number" k 10 20) (sym (kind_of kinds.Ack r h))
    (record { carried = refl; place = refl; width = refl })

creation_title : (r : RecordValue) → is_a kinds.Ack r ≡ true → IsField "creation title" r.kind 9 60
creation_title r h =
    subst (λ k. IsField "creation title" k 9 60) (sym (kind_of kinds.Ack r h)) (record { carried = refl; place = refl; width = refl })

agreement_number : (r : RecordValue) → is_a kinds.Agr r ≡ true → IsField "submitter agreement number" r.kind 4 14
agreement_number r h =
    subst (λ k. IsField "submitter agreement number" k 4 14) (sym (kind_of kinds.Agr r h))
    (record { carried = refl; place = refl; width = refl })

-- ---- choices

abbrev three : Bool → Bool → Bool → List ℕ → List ℕ → List ℕ → List ℕ
three a b c x y z = cond a x (cond b y (cond c z []))

abbrev two : Bool → Bool → List ℕ → List ℕ → List ℕ
two a b x y = cond a x (cond b y [])

first_of : (a b c : Bool) (x y z : List ℕ) → a ≡ true → x ≡ three a b c x y z
first_of true b c x y z e = refl
first_of false b c x y z e = absurd (cc e)

second_of : (a b c : Bool) (x y z : List ℕ) → a ≡ false → b ≡ true → y ≡ three a b c x y z
second_of true b c x y z e f = absurd (cc e)
second_of false true c x y z e f = refl
second_of false false c x y z e f = absurd (cc f)

third_of : (a b c : Bool) (x y z : List ℕ) → a ≡ false → b ≡ false → c ≡ true → z ≡ three a b c x y z
third_of true b c x y z e f g = absurd (cc e)
third_of false true c x y z e f g = absurd (cc f)
third_of false false true x y z e f g = refl
third_of false false false x y z e f g = absurd (cc g)

none_of : (a b c : Bool) (x y z : List ℕ) → a ≡ false → b ≡ false → c ≡ false → [] ≡ three a b c x y z
none_of true b c x y z e f g = absurd (cc e)
none_of false true c x y z e f g = absurd (cc f)
none_of false false true x y z e f g = absurd (cc g)
none_of false false false x y z e f g = refl

first_of_two : (a b : Bool) (x y : List ℕ) → a ≡ true → x ≡ two a b x y
first_of_two true b x y e = refl
first_of_two false b x y e = absurd (cc e)

second_of_two : (a b : Bool) (x y : List ℕ) → a ≡ false → b ≡ true → y ≡ two a b x y
second_of_two true b x y e f = absurd (cc e)
second_of_two false true x y e f = refl
second_of_two false false x y e f = absurd (cc f)

none_of_two : (a b : Bool) (x y : List ℕ) → a ≡ false → b ≡ false → [] ≡ two a b x y
none_of_two true b x y e f = absurd (cc e)
none_of_two false true x y e f = absurd (cc f)
none_of_two false false x y e f = refl

-- ---- numbers and titles

pub number_of_header : (r : RecordValue) (cell : List ℕ) → cell ≡ unwrap_or (record_cell r 6) [] → IsRecord r
    → is_work r ≡ true → cell ≡ work_number r
number_of_header r cell e fits h =
    cell_is "submitter work number" r 6 14 cell e (number_of_work r h) fits
    ∙ first_of (is_work r) (is_a kinds.Ack r) (is_a kinds.Agr r) (cell_named "submitter work number" r)
    (cell_named "submitter creation number" r) (cell_named "submitter agreement number" r) h

pub number_of_answer : (r : RecordValue) (cell : List ℕ) → cell ≡ unwrap_or (record_cell r 10) [] → IsRecord r
    → is_work r ≡ false → is_a kinds.Ack r ≡ true → cell ≡ work_number r
number_of_answer r cell e fits other h =
    cell_is "submitter creation number" r 10 20 cell e (creation_number r h) fits
    ∙ second_of (is_work r) (is_a kinds.Ack r) (is_a kinds.Agr r) (cell_named "submitter work number" r)
    (cell_named "submitter creation number" r) (cell_named "submitter agreement number" r) other h

pub number_of_agreement : (r : RecordValue) (cell : List ℕ) → cell ≡ unwrap_or (record_cell r 4) [] → IsRecord r
    → is_work r ≡ false → is_a kinds.Ack r ≡ false → is_a kinds.Agr r ≡ true → cell ≡ work_number r
number_of_agreement r cell e fits other answer h =
    cell_is "submitter agreement number" r 4 14 cell e (agreement_number r h) fits
    ∙ third_of (is_work r) (is_a kinds.Ack r) (is_a kinds.Agr r) (cell_named "submitter work number" r)
    (cell_named "submitter creation number" r) (cell_named "submitter agreement number" r) other answer h

pub no_number : (r : RecordValue) → is_work r ≡ false → is_a kinds.Ack r ≡ false → is_a kinds.Agr r ≡ false → [] ≡ work_number r
no_number r other answer agreement =
    none_of (is_work r) (is_a kinds.Ack r) (is_a kinds.Agr r) (cell_named "submitter work number" r)
    (cell_named "submitter creation number" r) (cell_named "submitter agreement number" r) other answer agreement

pub title_of_header : (r : RecordValue) (cell : List ℕ) → cell ≡ unwrap_or (record_cell r 4) [] → IsRecord r
    → is_work r ≡ true → cell ≡ work_title r
title_of_header r cell e fits h =
    cell_is "title" r 4 60 cell e (title r h) fits
    ∙ first_of_two (is_work r) (is_a kinds.Ack r) (cell_named "title" r) (cell_named "creation title" r) h

pub title_of_answer : (r : RecordValue) (cell : List ℕ) → cell ≡ unwrap_or (record_cell r 9) [] → IsRecord r
    → is_work r ≡ false → is_a kinds.Ack r ≡ true → cell ≡ work_title r
title_of_answer r cell e fits other h =
    cell_is "creation title" r 9 60 cell e (creation_title r h) fits
    ∙ second_of_two (is_work r) (is_a kinds.Ack r) (cell_named "title" r) (cell_named "creation title" r) other h

pub no_title : (r : RecordValue) → is_work r ≡ false → is_a kinds.Ack r ≡ false → [] ≡ work_title r
no_title r other answer =
    none_of_two (is_work r) (is_a kinds.Ack r) (cell_named "title" r) (cell_named "creation title" r) other answer

-- ---- lengths

short_by : (m wide most : ℕ) → m ≡ wide → wide ≤ most → m ≤ most
short_by m wide most e h = omega (arith, e, h)

pub short_number_of_header : (r : RecordValue) (cell : List ℕ) → cell ≡ unwrap_or (record_cell r 6) [] → IsRecord r
    → is_work r ≡ true → length cell ≤ 20
short_number_of_header r cell e fits h =
    short_by (length cell) 14 20 (cell_long "submitter work number" r 6 14 cell e (number_of_work r h) fits) (omega arith)

pub short_number_of_answer : (r : RecordValue) (cell : List ℕ) → cell ≡ unwrap_or (record_cell r 10) [] → IsRecord r
    → is_a kinds.Ack r ≡ true → length cell ≤ 20
short_number_of_answer r cell e fits h =
    short_by (length cell) 20 20 (cell_long "submitter creation number" r 10 20 cell e (creation_number r h) fits) (omega arith)

pub short_number_of_agreement : (r : RecordValue) (cell : List ℕ) → cell ≡ unwrap_or (record_cell r 4) [] → IsRecord r
    → is_a kinds.Agr r ≡ true → length cell ≤ 20
short_number_of_agreement r cell e fits h =
    short_by (length cell) 14 20 (cell_long "submitter agreement number" r 4 14 cell e (agreement_number r h) fits) (omega arith)

pub short_title_of_header : (r : RecordValue) (cell : List ℕ) → cell ≡ unwrap_or (record_cell r 4) [] → IsRecord r
    → is_work r ≡ true → length cell ≤ 60
short_title_of_header r cell e fits h =
    short_by (length cell) 60 60 (cell_long "title" r 4 60 cell e (title r h) fits) (omega arith)

pub short_title_of_answer : (r : RecordValue) (cell : List ℕ) → cell ≡ unwrap_or (record_cell r 9) [] → IsRecord r
    → is_a kinds.Ack r ≡ true → length cell ≤ 60
short_title_of_answer r cell e fits h =
    short_by (length cell) 60 60 (cell_long "creation title" r 9 60 cell e (creation_title r h) fits) (omega arith)
