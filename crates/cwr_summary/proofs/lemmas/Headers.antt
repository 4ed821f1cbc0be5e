-- What the header of a transaction says of it.
use Rattle.std.proofs.Common.{◌≡◌, ◌⊎◌, ℕ, Bool, true, false, List, [], ◌∷◌, take, codes, refl, sym, ap, ap₂, subst, ◌∙◌, append-nil, inl, inr}
use Rattle.std.proofs.Common.{Some, None, slice_get, if◌then◌else◌}
use Rattle.std.specs.Prelude.{◌||◌, flat_map, unwrap_or}
use Rattle.std.specs.Str.{bytes_eq}
use Rattle.cwr_fields.specs.declared.kinds.Kind.TheVariants as kinds
use Rattle.cwr_fields.specs.declared.work_codes.VersionType.TheVariants as versions
use Rattle.cwr_lines.specs.Format.Records.{RecordValue, IsRecord}
use Rattle.cwr_lines.specs.Format.Carried.{record_cell}
use Rattle.cwr_findings.specs.Format.Fields.{IsField}
use Rattle.cwr_findings.specs.Format.Findings.{is_a, is_work}
use Rattle.cwr_findings.specs.Format.Headers.{is_work as is_work_header}
use Rattle.cwr_findings.proofs.lemmas.KindTests.{kind_of}
use Rattle.cwr_findings.proofs.lemmas.NamedCells.{named_cell}
use Rattle.cwr_summary.specs.Format.Summaries.{header_parts, version_of}

-- ---- the version of a work

of_two : (a b : Bool) → (a || b) ≡ true → (a ≡ true) ⊎ (b ≡ true)
of_two true b h = inl refl
of_two false b h = inr h

version_field : (r : RecordValue) → is_work_header r ≡ true → IsField "version type" r.kind 15 3
version_field r h = elim (of_two (is_a kinds.Nwr r) (is_a kinds.Rev r) h) [
  | inl e ↦ subst (λ k. IsField "version type" k 15 3) (sym (kind_of kinds.Nwr r e))
      (record { carried = refl; place = refl; width = refl })
  | inr e ↦ subst (λ k. IsField "version type" k 15 3) (sym (kind_of kinds.Rev r e))
      (record { carried = refl; place = refl; width = refl })
]

-- a work is modified where its cell says so
pub version_is : (r : RecordValue) (cell word : List ℕ) (b : Bool) → cell ≡ unwrap_or (record_cell r 15) [] → IsRecord r
    → is_work_header r ≡ true → b ≡ bytes_eq cell word → word ≡ codes "MOD"
    → (if b then versions.Modified else versions.Original) ≡ version_of r
version_is r cell word b e fits work same is =
    ap (λ (c : Bool). if c then versions.Modified else versions.Original)
    (same ∙ ap₂ bytes_eq (e ∙ named_cell "version type" r.kind 15 3 r (version_field r work) refl fits) is)

-- ---- the header

-- a transaction without a header adds nothing for one
pub no_header : (t : List RecordValue) → None ≡ slice_get t 0 → flat_map header_parts (take 1 t) ≡ []
no_header [] e = refl
no_header (r ∷ t) e = absurd (cc e)

-- and any other what its header does
pub one_header : (t : List RecordValue) (r : RecordValue) → Some r ≡ slice_get t 0 → flat_map header_parts (take 1 t) ≡ header_parts r
one_header [] r e = absurd (cc e)
one_header (s ∷ t) r e =
    let same : r ≡ s = cc e in append-nil (header_parts s) ∙ ap header_parts (sym same)

or_nothing : (b : Bool) → (b || false) ≡ b
or_nothing true = refl
or_nothing false = refl

-- records without a header are no work
pub no_work : (t : List RecordValue) → None ≡ slice_get t 0 → is_work t ≡ false
no_work [] e = refl
no_work (r ∷ t) e = absurd (cc e)

-- and others are one where their header is that of one
pub work_header : (t : List RecordValue) (r : RecordValue) → Some r ≡ slice_get t 0 → is_work t ≡ is_work_header r
work_header [] r e = absurd (cc e)
work_header (s ∷ t) r e =
    let same : s ≡ r = cc (sym e) in or_nothing (is_work_header s) ∙ ap is_work_header same
