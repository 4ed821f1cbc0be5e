-- An import to an output writes the transmission that its lines are.
use Rattle.std.proofs.Common.{◌≡◌, ℕ, Bool, true, List, Option, refl, ap, sym, subst, ◌∙◌}
use Rattle.std.specs.Prelude.{IfOk, OnOk, Result, Ok, Err}
use Rattle.std.specs.Io.KnownBytes.{Appends}
use Rattle.cwr_values.specs.Format.Rows.{canonical_text}
use Rattle.cwr_write.specs.declared.writing.Written.{Written}
use Rattle.cwr_write.specs.declared.writing.WriteFault.{WriteFault}
use Rattle.cwr_write.specs.declared.writing.WriteFault.TheVariants as write_faults
use Rattle.cwr_write.specs.Format.Imports.{WritesWhole}
use Rattle.cwr_files.specs.declared.faults.Told.{Told}
use Rattle.cwr_endings.specs.declared.endings.Status.{Status}
use Rattle.cwr_endings.specs.declared.stops.Stop.{Stop}
use Rattle.cwr_endings.specs.declared.stops.Stop.TheVariants as stops
use Rattle.cwr_transform.specs.declared.imports.Import.{Import}
use Rattle.cwr_transform.specs.Format.Imports.{HandsOnImport, ImportEndsAs, WritesImport}

module _ {W : Type 0} (contents : W → Option (List ℕ)) (handed_on : W → Bool) (import : Import) (left : Option (List ℕ)) (old mid new : W)
    (read : Told) (ending : Result Status Stop) where
  pub import_told : (outcome : Result Written WriteFault)
      → IfOk outcome (λ w. WritesWhole import.encoding import.limits left contents old mid w.bytes) → OnOk outcome (new ≡ mid)
      → ImportEndsAs read stops.Output outcome ending → WritesImport import left contents old new ending
  import_told (Ok w) h same is =
      subst (λ (r : Result Status Stop). WritesImport import left contents old new r) (sym is) (
        canonical_text h.value,
        record {
          value = h.value;
          whole = h.whole;
          within = h.within;
          canonical = refl;
          items = h.items;
          records_are = h.records_are;
          said = h.said;
        },
        subst (λ (it : W). Appends (contents old) (contents it) (canonical_text h.value)) (sym same) h.written.appended,
      )
  import_told (Err (write_faults.Refused r)) h same is =
      subst (λ (x : Result Status Stop). WritesImport import left contents old new x) (sym is) tt
  import_told (Err (write_faults.Early n)) h same is =
      subst (λ (x : Result Status Stop). WritesImport import left contents old new x) (sym is) tt
  import_told (Err write_faults.Reader) h same is =
      subst (λ (x : Result Status Stop). WritesImport import left contents old new x) (sym is) tt
  import_told (Err (write_faults.Writer n)) h same is =
      subst (λ (x : Result Status Stop). WritesImport import left contents old new x) (sym is) tt
  import_told (Err write_faults.Memory) h same is =
      subst (λ (x : Result Status Stop). WritesImport import left contents old new x) (sym is) tt

  pub import_handed : (outcome : Result Written WriteFault) → OnOk outcome (handed_on mid ≡ true) → OnOk outcome (new ≡ mid)
      → ImportEndsAs read stops.Output outcome ending → HandsOnImport ending (handed_on new)
  import_handed (Ok w) h same is =
      subst (λ (r : Result Status Stop). HandsOnImport r (handed_on new)) (sym is) (ap handed_on same ∙ h)
  import_handed (Err (write_faults.Refused r)) h same is =
      subst (λ (x : Result Status Stop). HandsOnImport x (handed_on new)) (sym is) tt
  import_handed (Err (write_faults.Early n)) h same is =
      subst (λ (x : Result Status Stop). HandsOnImport x (handed_on new)) (sym is) tt
  import_handed (Err write_faults.Reader) h same is =
      subst (λ (x : Result Status Stop). HandsOnImport x (handed_on new)) (sym is) tt
  import_handed (Err (write_faults.Writer n)) h same is =
      subst (λ (x : Result Status Stop). HandsOnImport x (handed_on new)) (sym is) tt
  import_handed (Err write_faults.Memory) h same is =
      subst (λ (x : Result Status Stop). HandsOnImport x (handed_on new)) (sym is) tt
