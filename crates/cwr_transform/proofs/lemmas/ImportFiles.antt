-- What is left of an import to a file.
use Rattle.std.proofs.Common.{◌≡◌, ℕ, ◌+◌, ◌≤◌, ◌<◌, Bool, true, false, List, [], Option, Some, refl, sym, subst, arith}
use Rattle.std.specs.Prelude.{Result, Ok, Err, IfOk}
use Rattle.std.specs.Result.{is_ok}
use Rattle.std.specs.Io.KnownBytes.{Keeps}
use Rattle.cwr_devices.specs.Format.Failures.{most_failures, one_more_failure}
use Rattle.cwr_write.specs.declared.writing.Written.{Written}
use Rattle.cwr_write.specs.declared.writing.WriteFault.{WriteFault}
use Rattle.cwr_write.specs.declared.writing.WriteFault.TheVariants as write_faults
use Rattle.cwr_write.specs.Format.Imports.{CountsReaderFault, CountsWriterFault, WritesWhole}
use Rattle.cwr_values.specs.Format.Rows.{canonical_text}
use Rattle.cwr_files.specs.declared.faults.Fault.{Fault}
use Rattle.cwr_files.specs.declared.faults.Fault.TheVariants as faults
use Rattle.cwr_files.specs.declared.faults.Told.{Told}
use Rattle.cwr_files.specs.declared.new_files.NewFile.{NewFile}
use Rattle.cwr_files.specs.Format.Files.{Texts, Turns, counted_on}
use Rattle.cwr_files.specs.Format.NewFiles.{HoldsNew, LeavesAll}
use Rattle.cwr_files.specs.Steps.NewFiles.{EndsDropped, EndsKept, HasBegun, final_name}
use Rattle.cwr_endings.specs.declared.endings.Status.{Status}
use Rattle.cwr_endings.specs.declared.stops.Stop.{Stop}
use Rattle.cwr_endings.specs.declared.stops.Stop.TheVariants as stops
use Rattle.cwr_endings.specs.Format.Endings.{WritesOut}
use Rattle.cwr_endings.proofs.lemmas.Outs.{Begins, kept_whole, out_dropped, out_kept}
use Rattle.cwr_transform.specs.declared.imports.Import.{Import}
use Rattle.cwr_transform.specs.Format.Imports.{ImportEndsAs, IsImportOf}

-- ---- how many calls failed

few_same : (times old on failures : ℕ) → times ≡ 0 → on ≡ old → failures ≤ old → failures ≤ counted_on times on
few_same times old on failures t e le =
    subst (λ (n : ℕ). failures ≤ counted_on n on) (sym t) (subst (λ (n : ℕ). failures ≤ n) (sym e) le)

few_read : (times old on failures : ℕ) → times ≡ 0 → on ≡ one_more_failure old → failures ≤ old + 1 → failures < most_failures
    → failures ≤ counted_on times on
few_read times old on failures t e le lt =
    subst (λ (n : ℕ). failures ≤ counted_on n on) (sym t) (subst (λ (n : ℕ). failures ≤ n) (sym e) (omega arith))

few_written : (times old on failures : ℕ) → times ≡ one_more_failure 0 → on ≡ old → failures ≤ old + 1 → failures < most_failures
    → failures ≤ counted_on times on
few_written times old on failures t e le lt =
    subst (λ (n : ℕ). failures ≤ counted_on n on) (sym t) (subst (λ (n : ℕ). failures ≤ counted_on (one_more_failure 0) n) (sym e) (omega arith))

-- after what was read of the input
pub few_more : (outcome : Result Written WriteFault) (old on failures : ℕ) → CountsReaderFault {A = Written} outcome old on
    → failures ≤ old + 1 → failures < most_failures → failures ≤ on + 1
few_more (Ok w) old on failures e le lt = subst (λ (n : ℕ). failures ≤ n + 1) (sym e) le
few_more (Err (write_faults.Refused r)) old on failures e le lt = subst (λ (n : ℕ). failures ≤ n + 1) (sym e) le
few_more (Err (write_faults.Early n)) old on failures e le lt = subst (λ (m : ℕ). failures ≤ m + 1) (sym e) le
few_more (Err write_faults.Reader) old on failures e le lt = subst (λ (n : ℕ). failures ≤ n + 1) (sym e) (omega arith)
few_more (Err (write_faults.Writer n)) old on failures e le lt = subst (λ (m : ℕ). failures ≤ m + 1) (sym e) le
few_more (Err write_faults.Memory) old on failures e le lt = subst (λ (n : ℕ). failures ≤ n + 1) (sym e) le

-- ---- what was written

module _ {W : Type 0} (import : Import) (left : Option (List ℕ)) (contents : W → Option (List ℕ)) (first last : W) (final : Option (List ℕ))
    (out : List ℕ) (made : NewFile) (making : Option (List ℕ)) (f0 f2 f3 times : ℕ) (h0 h2 h3 : Option Texts) (wanted whole : Bool)
    (read told : Told) (named : final_name made ≡ out) (begun : Begins made making h0 h2) (fresh : contents first ≡ Some [])
    (keeps : whole ≡ true → Keeps (contents last) final) (is_whole : wanted ≡ true → whole ≡ true)
    (kept : wanted ≡ true → (texts : Texts) (text : List ℕ) → HasBegun made making texts h2 → final ≡ Some text
    → EndsKept {A = Unit {0}} {E = Fault} made text f2 f3 (Ok tt) texts h3)
    (dropped : wanted ≡ false → (texts : Texts) → HasBegun made making texts h2 → EndsDropped made (counted_on times f2) f3 texts h3) where
  left_so : (more : ℕ) → wanted ≡ false → (f3 ≤ more → f3 < most_failures → f3 ≤ counted_on times f2) → Turns h0 h3 (LeavesAll out more f3)
  left_so more e few = out_dropped made out making (counted_on times f2) more f3 h0 h2 h3 named begun (dropped e) few

  holds_so : (w : Written) → wanted ≡ true → WritesWhole import.encoding import.limits left contents first last w.bytes
      → Turns h0 h3 (HoldsNew out (IsImportOf import left))
  holds_so w e h =
      let text : List ℕ = canonical_text h.value in
      let has : final ≡ Some text = kept_whole (contents first) (contents last) final text fresh h.written.appended (keeps (is_whole e)) in
      out_kept (Unit {0}) Fault made out text (IsImportOf import left) making f2 f3 tt h0 h2 h3 named begun
      (record {
        value = h.value;
        whole = h.whole;
        within = h.within;
        canonical = refl;
        items = h.items;
        records_are = h.records_are;
        said = h.said;
      })
      (λ texts b. kept e texts text b has)

  pub import_out : (outcome : Result Written WriteFault) (ending : Result Status Stop) → wanted ≡ is_ok outcome
      → IfOk outcome (λ w. WritesWhole import.encoding import.limits left contents first last w.bytes)
      → CountsReaderFault {A = Written} outcome f0 f2 → CountsWriterFault {A = Written} outcome 0 times
      → ImportEndsAs read (stops.Fault (faults.Write told)) outcome ending
      → Turns h0 h3 (WritesOut out f0 f3 (IsImportOf import left) ending)
  import_out (Ok w) ending is h reads writes ends =
      subst (λ (r : Result Status Stop). Turns h0 h3 (WritesOut out f0 f3 (IsImportOf import left) r)) (sym ends) (holds_so w is h)
  import_out (Err (write_faults.Refused r)) ending is h reads writes ends =
      subst (λ (r : Result Status Stop). Turns h0 h3 (WritesOut out f0 f3 (IsImportOf import left) r)) (sym ends)
      (left_so f0 is (λ le lt. few_same times f0 f2 f3 writes reads le))
  import_out (Err (write_faults.Early n)) ending is h reads writes ends =
      subst (λ (r : Result Status Stop). Turns h0 h3 (WritesOut out f0 f3 (IsImportOf import left) r)) (sym ends)
      (left_so f0 is (λ le lt. few_same times f0 f2 f3 writes reads le))
  import_out (Err write_faults.Reader) ending is h reads writes ends =
      subst (λ (r : Result Status Stop). Turns h0 h3 (WritesOut out f0 f3 (IsImportOf import left) r)) (sym ends)
      (left_so (f0 + 1) is (λ le lt. few_read times f0 f2 f3 writes reads le lt))
  import_out (Err (write_faults.Writer n)) ending is h reads writes ends =
      subst (λ (r : Result Status Stop). Turns h0 h3 (WritesOut out f0 f3 (IsImportOf import left) r)) (sym ends)
      (left_so (f0 + 1) is (λ le lt. few_written times f0 f2 f3 writes reads le lt))
  import_out (Err write_faults.Memory) ending is h reads writes ends =
      subst (λ (r : Result Status Stop). Turns h0 h3 (WritesOut out f0 f3 (IsImportOf import left) r)) (sym ends)
      (left_so f0 is (λ le lt. few_same times f0 f2 f3 writes reads le))
