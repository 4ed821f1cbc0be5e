-- What failed where a run that writes a file ends as one that did.
use Rattle.std.proofs.Common.{◌≡◌, ◌⊎◌, ℕ, Bool, Bor, List, Option, Some, None, sym, subst, inl, inr, true≢false}
use Rattle.std.specs.Prelude.{Result, Ok, Err}
use Rattle.cwr_files.specs.declared.faults.Fault.{Fault}
use Rattle.cwr_files.specs.declared.faults.Fault.TheVariants as faults
use Rattle.cwr_files.specs.declared.faults.Name.TheVariants as names
use Rattle.cwr_files.specs.Format.Faults.{IsUnkept, IsUnmade, IsUnmadeBy}
use Rattle.cwr_files.specs.Format.Files.{HasCounted, Texts}
use Rattle.cwr_files.specs.Steps.NewFiles.{HasKeptCount}
use Rattle.cwr_files.specs.Format.Inputs.{IsUnopenedBy}
use Rattle.cwr_files.proofs.lemmas.Counts.{kept_then_counted, one_counted}
use Rattle.cwr_files.proofs.lemmas.Unopened.{by_unopened}
use Rattle.std.proofs.lemmas.Option.{none-some}
use Rattle.cwr_endings.specs.declared.endings.Status.{Status}
use Rattle.cwr_endings.specs.declared.endings.Status.TheVariants as statuses
use Rattle.cwr_endings.specs.declared.stops.Stop.{Stop}
use Rattle.cwr_endings.specs.declared.stops.Stop.TheVariants as stops
use Rattle.cwr_endings.specs.Format.Endings.{IsRefusedOut}
use Rattle.cwr_endings.specs.Format.Failures.{FailsSo, FailsToWrite, IsFaultOfOut, IsFaultOfUnion}

-- the file couldn't be made
pub made_fails : (out : Bor (List ℕ)) (making : Option (List ℕ)) (held after : Option Texts) (fault : Fault) (old now : ℕ)
    → IsUnmade (names.File out) fault → IsUnmadeBy out.now making held after old now fault → IsFaultOfOut out making held after fault old now
made_fails out making held after (faults.Open names.StandardInput reason) old now u f = absurd (cc u.0)
made_fails out making held after (faults.Open names.StandardOutput reason) old now u f = absurd (cc u.0)
made_fails out making held after (faults.Open (names.Part prefix number) reason) old now u f = absurd (cc u.0)
made_fails out making held after (faults.Open (names.File name) reason) old now u f =
    elim f [
      | inl empty ↦ inr (u.0, inl empty)
      | inr other ↦ elim other [
        | inl counted ↦ inl counted
        | inr taken ↦ inr (u.0, inr taken)
      ]
    ]
made_fails out making held after (faults.Read told) old now u f = absurd u
made_fails out making held after (faults.Write told) old now u f = absurd u
made_fails out making held after (faults.Output of reason) old now u f = absurd u
made_fails out making held after (faults.IsInput of) old now u f = absurd u
made_fails out making held after (faults.IsThere of) old now u f = absurd u
made_fails out making held after (faults.IsTwice of) old now u f = absurd u
made_fails out making held after (faults.IsOther of) old now u f = absurd u
made_fails out making held after (faults.IsLate of) old now u f = absurd u
made_fails out making held after faults.Memory old now u f = tt

-- it couldn't be given its name
pub unkept_fails : (out : Bor (List ℕ)) (making : Option (List ℕ)) (held after : Option Texts) (fault : Fault) (old now : ℕ)
    → IsUnkept (names.File out) fault → HasCounted old now → IsFaultOfOut out making held after fault old now
unkept_fails out making held after (faults.Output of None) old now u f = absurd (true≢false (sym u.1))
unkept_fails out making held after (faults.Output of (Some reason)) old now u f = (u.0, f)
unkept_fails out making held after (faults.Open of reason) old now u f = absurd u
unkept_fails out making held after (faults.Read told) old now u f = absurd u
unkept_fails out making held after (faults.Write told) old now u f = absurd u
unkept_fails out making held after (faults.IsInput of) old now u f = absurd u
unkept_fails out making held after (faults.IsThere of) old now u f = absurd u
unkept_fails out making held after (faults.IsTwice of) old now u f = absurd u
unkept_fails out making held after (faults.IsOther of) old now u f = absurd u
unkept_fails out making held after (faults.IsLate of) old now u f = absurd u
unkept_fails out making held after faults.Memory old now u f = absurd u

-- ---- where others failed before it

open_since : {P : Type 0} (old mid now : ℕ) → HasKeptCount old mid → HasCounted mid now ⊎ P → HasCounted old now ⊎ P
open_since old mid now k h =
    elim h [
      | inl counted ↦ inl (kept_then_counted old mid now k counted)
      | inr other ↦ inr other
    ]

pub out_since : (out : Bor (List ℕ)) (making : Option (List ℕ)) (held after : Option Texts) (fault : Fault) (old mid now : ℕ)
    → HasKeptCount old mid → IsFaultOfOut out making held after fault mid now → IsFaultOfOut out making held after fault old now
out_since out making held after (faults.Open names.StandardInput reason) old mid now k h = h
out_since out making held after (faults.Open names.StandardOutput reason) old mid now k h = open_since old mid now k h
out_since out making held after (faults.Open (names.File name) reason) old mid now k h = open_since old mid now k h
out_since out making held after (faults.Open (names.Part prefix number) reason) old mid now k h = open_since old mid now k h
out_since out making held after (faults.Read told) old mid now k h = kept_then_counted old mid now k h
out_since out making held after (faults.Write told) old mid now k h = kept_then_counted old mid now k h
out_since out making held after (faults.Output of None) old mid now k h = h
out_since out making held after (faults.Output of (Some reason)) old mid now k h = (h.0, kept_then_counted old mid now k h.1)
out_since out making held after (faults.IsInput of) old mid now k h = tt
out_since out making held after (faults.IsThere of) old mid now k h = tt
out_since out making held after (faults.IsTwice of) old mid now k h = tt
out_since out making held after (faults.IsOther of) old mid now k h = tt
out_since out making held after (faults.IsLate of) old mid now k h = tt
out_since out making held after faults.Memory old mid now k h = tt

pub write_since : (out : Bor (List ℕ)) (making : Option (List ℕ)) (held after : Option Texts) (ending : Result Status Stop) (old mid now : ℕ)
    → HasKeptCount old mid → FailsToWrite out making held after ending mid now → FailsToWrite out making held after ending old now
write_since out making held after (Ok statuses.Good) old mid now k h = tt
write_since out making held after (Ok statuses.Refused) old mid now k h = tt
write_since out making held after (Ok statuses.CommandLine) old mid now k h = tt
write_since out making held after (Ok statuses.Fault) old mid now k h = h
write_since out making held after (Err stops.Output) old mid now k h = tt
write_since out making held after (Err (stops.Fault fault)) old mid now k h = out_since out making held after fault old mid now k h

-- and where that is what lay under names too
pub write_on : (out : Bor (List ℕ)) (making writing : Option (List ℕ)) (held on after : Option Texts) (ending : Result Status Stop)
    (old mid now : ℕ) → writing ≡ making → on ≡ held → HasKeptCount old mid → FailsToWrite out writing on after ending mid now
    → FailsToWrite out making held after ending old now
write_on out making writing held on after ending old mid now m e k h =
    write_since out making held after ending old mid now k
    (subst (λ (w : Option (List ℕ)). FailsToWrite out w held after ending mid now) m
    (subst (λ (t : Option Texts). FailsToWrite out writing t after ending mid now) e h))

-- ---- a file that may not be written

pub refused_fails : (out : Bor (List ℕ)) (only_new : Bool) (making : Option (List ℕ)) (held after : Option Texts) (fault : Fault) (old now : ℕ)
    → IsRefusedOut (names.File out) only_new fault → IsFaultOfOut out making held after fault old now
refused_fails out only_new making held after (faults.IsInput of) old now u = tt
refused_fails out only_new making held after (faults.IsThere of) old now u = tt
refused_fails out only_new making held after (faults.Open of reason) old now u = absurd u
refused_fails out only_new making held after (faults.Read told) old now u = absurd u
refused_fails out only_new making held after (faults.Write told) old now u = absurd u
refused_fails out only_new making held after (faults.Output of reason) old now u = absurd u
refused_fails out only_new making held after (faults.IsTwice of) old now u = absurd u
refused_fails out only_new making held after (faults.IsOther of) old now u = absurd u
refused_fails out only_new making held after (faults.IsLate of) old now u = absurd u
refused_fails out only_new making held after faults.Memory old now u = absurd u

-- ---- what couldn't be read, where standard input is there

pub unopened_fails : {I : Type 0} → (name : Option (List ℕ)) (input : I) (fault : Fault) (old now : ℕ)
    → IsUnopenedBy name (Some input) old now fault → FailsSo (Err (stops.Fault fault)) old now
unopened_fails name input fault old now h =
    by_unopened name (Some input) old now (λ (f : Fault). FailsSo (Err (stops.Fault f)) old now)
    (λ is gone same. absurd (none-some input (sym gone))) (λ of reason is word counted. one_counted old now counted) fault h

pub unread_fails : {I : Type 0} → (name : Option (List ℕ)) (input : I) (out : Bor (List ℕ)) (making : Option (List ℕ)) (held after : Option Texts)
    (fault : Fault) (old now : ℕ) → IsUnopenedBy name (Some input) old now fault → IsFaultOfOut out making held after fault old now
unread_fails name input out making held after fault old now h =
    by_unopened name (Some input) old now (λ (f : Fault). IsFaultOfOut out making held after f old now)
    (λ is gone same. absurd (none-some input (sym gone))) (λ of reason is word counted. inl (one_counted old now counted)) fault h

-- ---- a run over several inputs

pub union_fails : (out : Bor (List ℕ)) (making : Option (List ℕ)) (held after : Option Texts) (fault : Fault) (old now : ℕ)
    → IsFaultOfOut out making held after fault old now → IsFaultOfUnion out making held after fault old now
union_fails out making held after (faults.Open names.StandardInput reason) old now h = tt
union_fails out making held after (faults.Open names.StandardOutput reason) old now h = h
union_fails out making held after (faults.Open (names.File name) reason) old now h = h
union_fails out making held after (faults.Open (names.Part prefix number) reason) old now h = h
union_fails out making held after (faults.Read told) old now h = h
union_fails out making held after (faults.Write told) old now h = h
union_fails out making held after (faults.Output of reason) old now h = h
union_fails out making held after (faults.IsInput of) old now h = h
union_fails out making held after (faults.IsThere of) old now h = h
union_fails out making held after (faults.IsTwice of) old now h = h
union_fails out making held after (faults.IsOther of) old now h = h
union_fails out making held after (faults.IsLate of) old now h = h
union_fails out making held after faults.Memory old now h = h

-- where that is what lay under names too
pub fault_on : (out : Bor (List ℕ)) (making writing : Option (List ℕ)) (held on after : Option Texts) (fault : Fault) (old mid now : ℕ)
    → writing ≡ making → on ≡ held → HasKeptCount old mid → IsFaultOfOut out writing on after fault mid now
    → IsFaultOfOut out making held after fault old now
fault_on out making writing held on after fault old mid now m e k h =
    out_since out making held after fault old mid now k
    (subst (λ (w : Option (List ℕ)). IsFaultOfOut out w held after fault mid now) m
    (subst (λ (t : Option Texts). IsFaultOfOut out writing t after fault mid now) e h))
