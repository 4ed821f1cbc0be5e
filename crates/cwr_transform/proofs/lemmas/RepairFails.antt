-- What failed where putting numbers right ends as one that did.
use Rattle.std.proofs.Common.{◌≡◌, ◌≢◌, ℕ, Bool, true, false, ◌&&◌, Bor, List, Option, None, refl, sym, subst, arith}
use Rattle.std.specs.Prelude.{IfOk, Result, Ok, Err}
use Rattle.std.specs.Result.{is_ok}
use Rattle.cwr_tools.specs.declared.verdicts.JoinReport.{JoinReport}
use Rattle.cwr_tools.specs.declared.verdicts.ToolFault.{ToolFault}
use Rattle.cwr_tools.specs.declared.verdicts.ToolFault.TheVariants as tool_faults
use Rattle.cwr_files.specs.declared.faults.Fault.{Fault}
use Rattle.cwr_files.specs.declared.faults.Fault.TheVariants as faults
use Rattle.cwr_files.specs.declared.faults.Name.TheVariants.{File}
use Rattle.cwr_files.specs.declared.faults.Told.{Told}
use Rattle.cwr_files.specs.Format.Faults.{IfErr}
use Rattle.cwr_files.specs.Format.Files.{Texts, counted_on}
use Rattle.cwr_files.specs.Steps.NewFiles.{HasKeptCount}
use Rattle.cwr_files.proofs.lemmas.Counts.{counted_kept, counted_then_kept, kept_then_counted}
use Rattle.cwr_files.proofs.lemmas.Parts.{counted_up}
use Rattle.cwr_endings.specs.declared.endings.Look.{Look}
use Rattle.cwr_endings.specs.declared.endings.Look.TheVariants as looks
use Rattle.cwr_endings.specs.declared.endings.Status.{Status}
use Rattle.cwr_endings.specs.declared.stops.Stop.{Stop}
use Rattle.cwr_endings.specs.declared.stops.Stop.TheVariants as stops
use Rattle.cwr_endings.specs.Format.Failures.{FailsSo, FailsToWrite, IsFaultOfOut}
use Rattle.cwr_endings.proofs.lemmas.Fails.{fault_on}
use Rattle.cwr_renumber.specs.Steps.Renumberings.{CountsWriter}
use Rattle.cwr_transform.specs.declared.renumberings.Repaired.{Repaired}
use Rattle.cwr_transform.specs.declared.renumberings.RepairedFile.{RepairedFile}
use Rattle.cwr_transform.specs.Steps.Repairs.{CountsFile, CountsRead, EndsRepaired, EndsRewritten, keeps_repaired}

-- reading takes no failure away
pub read_kept : (outcome : Result JoinReport ToolFault) (look : Look) (old now : ℕ) → CountsRead outcome look old now → HasKeptCount old now
read_kept (Ok report) looks.Failed old now h = counted_kept old now h
read_kept (Ok report) (looks.Found trailing) old now h = h
read_kept (Ok report) looks.Unasked old now h = h
read_kept (Err tool_faults.Reader) look old now h = counted_kept old now h
read_kept (Err (tool_faults.Writer n)) look old now h = h
read_kept (Err tool_faults.Memory) look old now h = h
read_kept (Err tool_faults.Output) look old now h = h
read_kept (Err (tool_faults.Refused r)) look old now h = h
read_kept (Err (tool_faults.Truncated n)) look old now h = h
read_kept (Err (tool_faults.Limit l)) look old now h = h

-- where a device failed that is counted; the file isn't kept where its writer did
pub file_counted : (outcome : Result JoinReport ToolFault) (look : Look) (alone calm unmixed wanted : Bool) (times old on now : ℕ)
    → CountsWriter outcome 0 times → wanted ≡ (((is_ok outcome && alone) && calm) && unmixed) → CountsRead outcome look old on
    → HasKeptCount on now → (wanted ≡ false → HasKeptCount (counted_on times on) now) → CountsFile outcome look old now
file_counted (Ok report) looks.Failed alone calm unmixed wanted times old on now writes is reads kept given_up =
    counted_then_kept old on now reads kept
file_counted (Ok report) (looks.Found t) alone calm unmixed wanted times old on now writes is reads kept given_up = tt
file_counted (Ok report) looks.Unasked alone calm unmixed wanted times old on now writes is reads kept given_up = tt
file_counted (Err (tool_faults.Writer n)) look alone calm unmixed wanted times old on now writes is reads kept given_up =
    kept_then_counted old on now reads (counted_up times on now (omega (arith, writes)) (given_up is))
file_counted (Err tool_faults.Reader) look alone calm unmixed wanted times old on now writes is reads kept given_up =
    counted_then_kept old on now reads kept
file_counted (Err tool_faults.Memory) look alone calm unmixed wanted times old on now writes is reads kept given_up = tt
file_counted (Err tool_faults.Output) look alone calm unmixed wanted times old on now writes is reads kept given_up = tt
file_counted (Err (tool_faults.Refused r)) look alone calm unmixed wanted times old on now writes is reads kept given_up = tt
file_counted (Err (tool_faults.Truncated n)) look alone calm unmixed wanted times old on now writes is reads kept given_up = tt
file_counted (Err (tool_faults.Limit l)) look alone calm unmixed wanted times old on now writes is reads kept given_up = tt

-- where others failed before it
counted_since : (outcome : Result JoinReport ToolFault) (look : Look) (old on now : ℕ) → HasKeptCount old on → CountsFile outcome look on now
    → CountsFile outcome look old now
counted_since (Ok report) looks.Failed old on now kept h = kept_then_counted old on now kept h
counted_since (Ok report) (looks.Found t) old on now kept h = tt
counted_since (Ok report) looks.Unasked old on now kept h = tt
counted_since (Err (tool_faults.Writer n)) look old on now kept h = kept_then_counted old on now kept h
counted_since (Err tool_faults.Reader) look old on now kept h = kept_then_counted old on now kept h
counted_since (Err tool_faults.Memory) look old on now kept h = tt
counted_since (Err tool_faults.Output) look old on now kept h = tt
counted_since (Err (tool_faults.Refused r)) look old on now kept h = tt
counted_since (Err (tool_faults.Truncated n)) look old on now kept h = tt
counted_since (Err (tool_faults.Limit l)) look old on now kept h = tt

pub file_since : (file : Result RepairedFile Fault) (old on now : ℕ) → HasKeptCount old on
    → IfOk file (λ it. CountsFile it.repaired.outcome it.repaired.look on now)
    → IfOk file (λ it. CountsFile it.repaired.outcome it.repaired.look old now)
file_since (Ok file) old on now kept h = counted_since file.repaired.outcome file.repaired.look old on now kept h
file_since (Err fault) old on now kept h = tt

pub unmade_on : (file : Result RepairedFile Fault) (out : Bor (List ℕ)) (making writing : Option (List ℕ)) (held there after : Option Texts)
    (old on now : ℕ) → writing ≡ making → there ≡ held → HasKeptCount old on
    → IfErr file (λ fault. IsFaultOfOut out writing there after fault on now)
    → IfErr file (λ fault. IsFaultOfOut out making held after fault old now)
unmade_on (Ok file) out making writing held there after old on now m e kept h = tt
unmade_on (Err fault) out making writing held there after old on now m e kept h =
    fault_on out making writing held there after fault old on now m e kept h

-- ---- the end of a run to a file

module _ (out : Bor (List ℕ)) (making : Option (List ℕ)) (held after : Option Texts) (old now : ℕ) (repaired : Repaired) (whole : Bool)
    (told : Told) where
  abbrev Ends : Result Status Stop → Type 0
  Ends ending = FailsToWrite out making held after ending old now

  rewritten_fails : (keeps : Bool) (report : JoinReport) (look : Look) (ending : Result Status Stop) → CountsFile (Ok report) look old now
      → EndsRewritten keeps look repaired ending → Ends ending
  rewritten_fails true report look ending counted e = subst Ends (sym e) tt
  rewritten_fails false report (looks.Found trailing) ending counted e = subst Ends (sym e) tt
  rewritten_fails false report looks.Failed ending counted e = subst Ends (sym e) counted
  rewritten_fails false report looks.Unasked ending counted e = subst Ends (sym e) tt

  pub repair_fails : (outcome : Result JoinReport ToolFault) (ending : Result Status Stop) → (outcome ≢ Err tool_faults.Output)
      → CountsFile outcome repaired.look old now
      → EndsRepaired whole (stops.Fault (faults.Write told)) (stops.Fault (faults.Output (File out) None)) outcome repaired ending
      → Ends ending
  repair_fails (Ok report) ending made counted e = rewritten_fails (keeps_repaired whole repaired) report repaired.look ending counted e
  repair_fails (Err tool_faults.Reader) ending made counted e = subst Ends (sym e) counted
  repair_fails (Err (tool_faults.Writer n)) ending made counted e = subst Ends (sym e) counted
  repair_fails (Err tool_faults.Memory) ending made counted e = subst Ends (sym e) tt
  repair_fails (Err tool_faults.Output) ending made counted e = absurd (made refl)
  repair_fails (Err (tool_faults.Refused r)) ending made counted e = subst Ends (sym e) tt
  repair_fails (Err (tool_faults.Truncated n)) ending made counted e = subst Ends (sym e) tt
  repair_fails (Err (tool_faults.Limit l)) ending made counted e = subst Ends (sym e) tt

-- ---- and of one to standard output

module _ (old now : ℕ) (repaired : Repaired) (whole : Bool) where
  abbrev EndsSo : Result Status Stop → Type 0
  EndsSo ending = FailsSo ending old now

  rewritten_so : (keeps : Bool) (report : JoinReport) (look : Look) (ending : Result Status Stop) → CountsRead (Ok report) look old now
      → EndsRewritten keeps look repaired ending → EndsSo ending
  rewritten_so true report look ending reads e = subst EndsSo (sym e) tt
  rewritten_so false report (looks.Found trailing) ending reads e = subst EndsSo (sym e) tt
  rewritten_so false report looks.Failed ending reads e = subst EndsSo (sym e) reads
  rewritten_so false report looks.Unasked ending reads e = subst EndsSo (sym e) tt

  pub output_fails : (outcome : Result JoinReport ToolFault) (ending : Result Status Stop) → CountsRead outcome repaired.look old now
      → EndsRepaired whole stops.Output stops.Output outcome repaired ending → EndsSo ending
  output_fails (Ok report) ending reads e = rewritten_so (keeps_repaired whole repaired) report repaired.look ending reads e
  output_fails (Err tool_faults.Reader) ending reads e = subst EndsSo (sym e) reads
  output_fails (Err (tool_faults.Writer n)) ending reads e = subst EndsSo (sym e) tt
  output_fails (Err tool_faults.Memory) ending reads e = subst EndsSo (sym e) tt
  output_fails (Err tool_faults.Output) ending reads e = subst EndsSo (sym e) tt
  output_fails (Err (tool_faults.Refused r)) ending reads e = subst EndsSo (sym e) tt
  output_fails (Err (tool_faults.Truncated n)) ending reads e = subst EndsSo (sym e) tt
  output_fails (Err (tool_faults.Limit l)) ending reads e = subst EndsSo (sym e) tt
