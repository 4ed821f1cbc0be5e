-- An import ends as its text does.
use Rattle.std.proofs.Common.{◌≡◌, ℕ, List, Option, Some, None, sym, ap, subst, ◌∙◌, inl, inr}
use Rattle.std.specs.Prelude.{Result, Ok, Err}
use Rattle.cwr_devices.specs.Format.Failures.{one_more_failure}
use Rattle.cwr_write.specs.declared.writing.Written.{Written}
use Rattle.cwr_write.specs.declared.writing.WriteFault.{WriteFault}
use Rattle.cwr_write.specs.declared.writing.WriteFault.TheVariants as write_faults
use Rattle.cwr_endings.specs.declared.endings.Status.{Status}
use Rattle.cwr_endings.specs.declared.endings.Status.TheVariants as statuses
use Rattle.cwr_transform.specs.declared.imports.Import.{Import}
use Rattle.cwr_files.specs.declared.faults.Told.{Told}
use Rattle.cwr_files.specs.declared.faults.Fault.TheVariants as faults
use Rattle.cwr_endings.specs.declared.stops.Stop.{Stop}
use Rattle.cwr_endings.specs.declared.stops.Stop.TheVariants as stops
use Rattle.cwr_files.specs.Format.Files.{counted_on}
use Rattle.cwr_write.specs.Format.Imports.{CountsReaderFault}
use Rattle.cwr_transform.specs.Format.Imports.{EndsAsFileImport, EndsAsImport, ImportEndsAs, JudgesImport}

ends_well : (import : Import) (input : Option (List ℕ)) (w : Written) → JudgesImport import input (Ok w)
    → EndsAsImport import input (Ok statuses.Good)
ends_well import None w judged = tt
ends_well import (Some text) w judged = λ short. (w.lines, judged short)

ends_refused : (import : Import) (input : Option (List ℕ)) (r : _) → JudgesImport import input (Err (write_faults.Refused r))
    → EndsAsImport import input (Ok statuses.Refused)
ends_refused import None r judged = tt
ends_refused import (Some text) r judged = λ short. inl (r.line, r.fault, judged short)

ends_early : (import : Import) (input : Option (List ℕ)) (n : ℕ) → JudgesImport import input (Err (write_faults.Early n))
    → EndsAsImport import input (Ok statuses.Refused)
ends_early import None n judged = tt
ends_early import (Some text) n judged = λ short. inr (n, judged short)

pub import_ends : (import : Import) (input : Option (List ℕ)) (read : Told) (outcome : Result Written WriteFault)
    (ending : Result Status Stop) → JudgesImport import input outcome → ImportEndsAs read stops.Output outcome ending
    → EndsAsImport import input ending
import_ends import input read (Ok w) ending judged ends =
    subst (EndsAsImport import input) (sym ends) (ends_well import input w judged)
import_ends import input read (Err (write_faults.Refused r)) ending judged ends =
    subst (EndsAsImport import input) (sym ends) (ends_refused import input r judged)
import_ends import input read (Err (write_faults.Early n)) ending judged ends =
    subst (EndsAsImport import input) (sym ends) (ends_early import input n judged)
import_ends import input read (Err write_faults.Reader) ending judged ends = subst (EndsAsImport import input) (sym ends) tt
import_ends import input read (Err (write_faults.Writer n)) ending judged ends = subst (EndsAsImport import input) (sym ends) tt
import_ends import input read (Err write_faults.Memory) ending judged ends = subst (EndsAsImport import input) (sym ends) tt

-- and one to a file
pub file_ends : (import : Import) (input : Option (List ℕ)) (read written : Told) (outcome : Result Written WriteFault)
    (ending : Result Status Stop) → JudgesImport import input outcome
    → ImportEndsAs read (stops.Fault (faults.Write written)) outcome ending → EndsAsFileImport import input ending
file_ends import input read written (Ok w) ending judged ends =
    subst (EndsAsFileImport import input) (sym ends) (ends_well import input w judged)
file_ends import input read written (Err (write_faults.Refused r)) ending judged ends =
    subst (EndsAsFileImport import input) (sym ends) (ends_refused import input r judged)
file_ends import input read written (Err (write_faults.Early n)) ending judged ends =
    subst (EndsAsFileImport import input) (sym ends) (ends_early import input n judged)
file_ends import input read written (Err write_faults.Reader) ending judged ends = subst (EndsAsFileImport import input) (sym ends) tt
file_ends import input read written (Err (write_faults.Writer n)) ending judged ends = subst (EndsAsFileImport import input) (sym ends) tt
file_ends import input read written (Err write_faults.Memory) ending judged ends = subst (EndsAsFileImport import input) (sym ends) tt

-- the reader's failures are counted by the store that takes it back
pub reads_at_store : (outcome : Result Written WriteFault) (read read_now old new : ℕ) → read ≡ 0
    → CountsReaderFault {A = Written} outcome read read_now → new ≡ counted_on read_now old → CountsReaderFault {A = Written} outcome old new
reads_at_store (Ok w) read read_now old new none h e = e ∙ ap (λ (n : ℕ). counted_on n old) (h ∙ none)
reads_at_store (Err (write_faults.Refused r)) read read_now old new none h e = e ∙ ap (λ (n : ℕ). counted_on n old) (h ∙ none)
reads_at_store (Err (write_faults.Early n)) read read_now old new none h e = e ∙ ap (λ (n : ℕ). counted_on n old) (h ∙ none)
reads_at_store (Err write_faults.Reader) read read_now old new none h e =
    e ∙ ap (λ (n : ℕ). counted_on n old) (h ∙ ap one_more_failure none)
reads_at_store (Err (write_faults.Writer n)) read read_now old new none h e = e ∙ ap (λ (n : ℕ). counted_on n old) (h ∙ none)
reads_at_store (Err write_faults.Memory) read read_now old new none h e = e ∙ ap (λ (n : ℕ). counted_on n old) (h ∙ none)
