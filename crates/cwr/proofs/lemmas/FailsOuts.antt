-- A run that may write a file has the status of a fault only where something failed.
use Rattle.std.proofs.Common.{◌≡◌, ℕ, false, List, Option, Some, None, Bor, refl, sym, subst}
use Rattle.std.specs.Prelude.{IfSome, Result, Ok, Err}
use Rattle.cwr_files.specs.declared.faults.Fault.{Fault}
use Rattle.cwr_files.specs.declared.faults.Fault.TheVariants as faults
use Rattle.cwr_files.specs.declared.faults.Name.TheVariants as names
use Rattle.cwr_files.specs.Format.Files.{Texts}
use Rattle.cwr_files.specs.Format.Inputs.{IsUnopenedBy}
use Rattle.cwr_files.specs.Steps.NewFiles.{HasKeptCount}
use Rattle.cwr_files.proofs.lemmas.Counts.{kept_then_counted}
use Rattle.cwr_endings.specs.declared.endings.Status.{Status}
use Rattle.cwr_endings.specs.declared.endings.Status.TheVariants as statuses
use Rattle.cwr_endings.specs.declared.stops.Stop.{Stop}
use Rattle.cwr_endings.specs.declared.stops.Stop.TheVariants as stops
use Rattle.cwr_endings.specs.Format.Endings.{IsRefusedOut}
use Rattle.cwr_endings.specs.Format.Failures.{FailsOut, FailsSo, FailsToWrite, IsFaultOfRead}
use Rattle.cwr_endings.proofs.lemmas.Fails.{out_since, refused_fails, unopened_fails, unread_fails, write_on}

-- ---- where others failed before it

read_since : (fault : Fault) (old mid now : ℕ) → HasKeptCount old mid → IsFaultOfRead fault mid now → IsFaultOfRead fault old now
read_since (faults.Open names.StandardInput reason) old mid now k h = h
read_since (faults.Open names.StandardOutput reason) old mid now k h = kept_then_counted old mid now k h
read_since (faults.Open (names.File name) reason) old mid now k h = kept_then_counted old mid now k h
read_since (faults.Open (names.Part prefix number) reason) old mid now k h = kept_then_counted old mid now k h
read_since (faults.Read told) old mid now k h = kept_then_counted old mid now k h
read_since (faults.Write told) old mid now k h = h
read_since (faults.Output of reason) old mid now k h = h
read_since (faults.IsInput of) old mid now k h = h
read_since (faults.IsThere of) old mid now k h = h
read_since (faults.IsTwice of) old mid now k h = h
read_since (faults.IsOther of) old mid now k h = h
read_since (faults.IsLate of) old mid now k h = h
read_since faults.Memory old mid now k h = h

so_since : (ending : Result Status Stop) (old mid now : ℕ) → HasKeptCount old mid → FailsSo ending mid now → FailsSo ending old now
so_since (Ok statuses.Good) old mid now k h = tt
so_since (Ok statuses.Refused) old mid now k h = tt
so_since (Ok statuses.CommandLine) old mid now k h = tt
so_since (Ok statuses.Fault) old mid now k h = h
so_since (Err stops.Output) old mid now k h = tt
so_since (Err (stops.Fault fault)) old mid now k h = read_since fault old mid now k h

-- ---- with or without a file

module _ (making : Option (List ℕ)) (held after : Option Texts) where
  pub out_fails : (out : Option (Bor (List ℕ))) (name : Bor (List ℕ)) (writing : Option (List ℕ)) (there : Option Texts)
      (ending : Result Status Stop) (old mid now : ℕ) → out ≡ Some name → writing ≡ making → there ≡ held → HasKeptCount old mid
      → FailsToWrite name writing there after ending mid now → FailsOut out making held after ending old now
  out_fails out name writing there ending old mid now e m t kept h =
      subst (λ (o : Option (Bor (List ℕ))). FailsOut o making held after ending old now) (sym e)
      (write_on name making writing held there after ending old mid now m t kept h)

  pub no_out_fails : (out : Option (Bor (List ℕ))) (ending : Result Status Stop) (old mid now : ℕ) → out ≡ None → HasKeptCount old mid
      → FailsSo ending mid now → FailsOut out making held after ending old now
  no_out_fails out ending old mid now e kept h =
      subst (λ (o : Option (Bor (List ℕ))). FailsOut o making held after ending old now) (sym e) (so_since ending old mid now kept h)

  pub out_refused : (out : Option (Bor (List ℕ))) (fault : Fault) (old now : ℕ)
      → IfSome out (λ name. IsRefusedOut (names.File name) false fault) → (out ≡ None → ⊥)
      → FailsOut out making held after (Err (stops.Fault fault)) old now
  out_refused None fault old now refused free = absurd (free refl)
  out_refused (Some name) fault old now refused free = refused_fails name false making held after fault old now refused

  pub out_unopened : {I : Type 0} → (word : Option (List ℕ)) (input : I) (out : Option (Bor (List ℕ))) (fault : Fault) (old mid now : ℕ)
      → HasKeptCount old mid → IsUnopenedBy word (Some input) mid now fault → FailsOut out making held after (Err (stops.Fault fault)) old now
  out_unopened word input None fault old mid now kept h = read_since fault old mid now kept (unopened_fails word input fault mid now h)
  out_unopened word input (Some name) fault old mid now kept h =
      out_since name making held after fault old mid now kept (unread_fails word input name making held after fault mid now h)
