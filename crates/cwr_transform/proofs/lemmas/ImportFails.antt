-- What failed where an import ends as one that did.
use Rattle.std.proofs.Common.{◌≡◌, ℕ, Bool, false, Bor, List, Option, sym, subst, arith}
use Rattle.std.specs.Prelude.{Result, Ok, Err}
use Rattle.std.specs.Result.{is_ok}
use Rattle.cwr_write.specs.declared.writing.Written.{Written}
use Rattle.cwr_write.specs.declared.writing.WriteFault.{WriteFault}
use Rattle.cwr_write.specs.declared.writing.WriteFault.TheVariants as write_faults
use Rattle.cwr_write.specs.Format.Imports.{CountsReaderFault, CountsWriterFault}
use Rattle.cwr_files.specs.declared.faults.Fault.TheVariants as faults
use Rattle.cwr_files.specs.declared.faults.Told.{Told}
use Rattle.cwr_files.specs.Format.Files.{Texts, counted_on}
use Rattle.cwr_files.specs.Steps.NewFiles.{HasKeptCount}
use Rattle.cwr_files.proofs.lemmas.Counts.{counted_kept, counted_then_kept, kept_then_counted, one_counted, same_count}
use Rattle.cwr_files.proofs.lemmas.Parts.{counted_up}
use Rattle.cwr_endings.specs.declared.endings.Status.{Status}
use Rattle.cwr_endings.specs.declared.stops.Stop.{Stop}
use Rattle.cwr_endings.specs.declared.stops.Stop.TheVariants as stops
use Rattle.cwr_endings.specs.Format.Failures.{FailsSo, FailsToWrite}
use Rattle.cwr_transform.specs.Format.Imports.{ImportEndsAs}

-- reading takes no failure away
pub reads_kept : (outcome : Result Written WriteFault) (old now : ℕ) → CountsReaderFault {A = Written} outcome old now → HasKeptCount old now
reads_kept (Ok w) old now e = same_count old now e
reads_kept (Err (write_faults.Refused r)) old now e = same_count old now e
reads_kept (Err (write_faults.Early n)) old now e = same_count old now e
reads_kept (Err write_faults.Reader) old now e = counted_kept old now (one_counted old now e)
reads_kept (Err (write_faults.Writer n)) old now e = same_count old now e
reads_kept (Err write_faults.Memory) old now e = same_count old now e

-- to standard output
pub input_fails : (outcome : Result Written WriteFault) (read : Told) (ending : Result Status Stop) (old now : ℕ)
    → CountsReaderFault {A = Written} outcome old now → ImportEndsAs read stops.Output outcome ending → FailsSo ending old now
input_fails (Ok w) read ending old now e ends = subst (λ (r : Result Status Stop). FailsSo r old now) (sym ends) tt
input_fails (Err (write_faults.Refused r)) read ending old now e ends = subst (λ (x : Result Status Stop). FailsSo x old now) (sym ends) tt
input_fails (Err (write_faults.Early n)) read ending old now e ends = subst (λ (r : Result Status Stop). FailsSo r old now) (sym ends) tt
input_fails (Err write_faults.Reader) read ending old now e ends =
    subst (λ (r : Result Status Stop). FailsSo r old now) (sym ends) (one_counted old now e)
input_fails (Err (write_faults.Writer n)) read ending old now e ends = subst (λ (r : Result Status Stop). FailsSo r old now) (sym ends) tt
input_fails (Err write_faults.Memory) read ending old now e ends = subst (λ (r : Result Status Stop). FailsSo r old now) (sym ends) tt

-- to a file
module _ (out : Bor (List ℕ)) (making : Option (List ℕ)) (held after : Option Texts) (read told : Told) (f0 f2 f3 times : ℕ) (wanted : Bool)
    (kept : HasKeptCount f2 f3) (given_up : wanted ≡ false → HasKeptCount (counted_on times f2) f3) where
  pub import_fails : (outcome : Result Written WriteFault) (ending : Result Status Stop) → wanted ≡ is_ok outcome
      → CountsReaderFault {A = Written} outcome f0 f2 → CountsWriterFault {A = Written} outcome 0 times
      → ImportEndsAs read (stops.Fault (faults.Write told)) outcome ending → FailsToWrite out making held after ending f0 f3
  import_fails (Ok w) ending is reads writes ends =
      subst (λ (r : Result Status Stop). FailsToWrite out making held after r f0 f3) (sym ends) tt
  import_fails (Err (write_faults.Refused r)) ending is reads writes ends =
      subst (λ (x : Result Status Stop). FailsToWrite out making held after x f0 f3) (sym ends) tt
  import_fails (Err (write_faults.Early n)) ending is reads writes ends =
      subst (λ (r : Result Status Stop). FailsToWrite out making held after r f0 f3) (sym ends) tt
  import_fails (Err write_faults.Reader) ending is reads writes ends =
      subst (λ (r : Result Status Stop). FailsToWrite out making held after r f0 f3) (sym ends)
      (counted_then_kept f0 f2 f3 (one_counted f0 f2 reads) kept)
  import_fails (Err (write_faults.Writer n)) ending is reads writes ends =
      subst (λ (r : Result Status Stop). FailsToWrite out making held after r f0 f3) (sym ends)
      (kept_then_counted f0 f2 f3 (same_count f0 f2 reads) (counted_up times f2 f3 (omega (arith, writes)) (given_up is)))
  import_fails (Err write_faults.Memory) ending is reads writes ends =
      subst (λ (r : Result Status Stop). FailsToWrite out making held after r f0 f3) (sym ends) tt
