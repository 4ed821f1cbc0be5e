-- How often calls failed, and what that says of a part that failed.
use Rattle.std.proofs.Common.{◌≡◌, ℕ, zero, suc, ◌<◌, ◌≤◌, Option, true, false, Some, None, refl, subst, sym, true≢false, arith}
use Rattle.cwr_devices.specs.Format.Failures.{one_more_failure}
use Rattle.cwr_files.specs.declared.faults.Fault.{Fault}
use Rattle.cwr_files.specs.declared.faults.Fault.TheVariants as faults
use Rattle.std.specs.Option.{is_some}
use Rattle.cwr_files.specs.declared.faults.Name.{Name}
use Rattle.cwr_files.specs.declared.faults.Told.{Told}
use Rattle.cwr_files.specs.declared.new_files.NewFile.{NewFile}
use Rattle.cwr_files.specs.Format.Faults.{IsFaultOfPart, IsUnkept}
use Rattle.cwr_files.specs.Format.Files.{HasCounted, counted_on}
use Rattle.cwr_files.specs.Steps.NewFiles.{HasKeptCount}
use Rattle.cwr_files.specs.Steps.NumberedFiles.{FaultIsOfPart, KeepsFault, fault_after, written_at}

-- ---- counts

pub same_count : (old now : ℕ) → now ≡ old → HasKeptCount old now
same_count old now e = λ lt. omega (arith, e)

pub one_counted : (old now : ℕ) → now ≡ one_more_failure old → HasCounted old now
one_counted old now e = λ lt. omega (arith, e, lt)

pub counted_kept : (old now : ℕ) → HasCounted old now → HasKeptCount old now
counted_kept old now h = λ lt. let more : old < now = h lt in omega (arith, more)

pub kept_then_kept : (old mid now : ℕ) → HasKeptCount old mid → HasKeptCount mid now → HasKeptCount old now
kept_then_kept old mid now h k = λ lt.
    let later : mid ≤ now = k lt in
    let before : old ≤ mid = h (omega (arith, lt, later)) in
    omega (arith, later, before)

pub kept_then_counted : (old mid now : ℕ) → HasKeptCount old mid → HasCounted mid now → HasCounted old now
kept_then_counted old mid now h k = λ lt.
    let later : mid < now = k lt in
    let before : old ≤ mid = h (omega (arith, lt, later)) in
    omega (arith, later, before)

pub counted_then_kept : (old mid now : ℕ) → HasCounted old mid → HasKeptCount mid now → HasCounted old now
counted_then_kept old mid now h k = λ lt.
    let later : mid ≤ now = k lt in
    let before : old < mid = h (omega (arith, lt, later)) in
    omega (arith, later, before)

-- those that came with a device that was taken back
pub times_kept : (times old now : ℕ) → now ≡ counted_on times old → HasKeptCount old now
times_kept zero old now e = λ lt. omega (arith, e)
times_kept (suc times) old now e = λ lt. omega (arith, e, lt)

pub times_then_kept : (times old now : ℕ) → HasKeptCount (counted_on times old) now → HasKeptCount old now
times_then_kept times old now h = kept_then_kept old (counted_on times old) now (times_kept times old (counted_on times old) refl) h

-- ---- a part that failed

-- so it did, where others failed before it
pub part_since : (old mid now : ℕ) (fault : Fault) → HasKeptCount old mid → IsFaultOfPart mid now fault → IsFaultOfPart old now fault
part_since old mid now (faults.Open of reason) k h = h
part_since old mid now (faults.Read told) k h = h
part_since old mid now (faults.Write told) k h = kept_then_counted old mid now k h
part_since old mid now (faults.Output of None) k h = tt
part_since old mid now (faults.Output of (Some reason)) k h = λ other. kept_then_counted old mid now k (h other)
part_since old mid now (faults.IsInput of) k h = tt
part_since old mid now (faults.IsThere of) k h = tt
part_since old mid now (faults.IsTwice of) k h = h
part_since old mid now (faults.IsOther of) k h = h
part_since old mid now (faults.IsLate of) k h = tt
part_since old mid now faults.Memory k h = tt

-- and where others fail after it
pub part_still : (old mid now : ℕ) (fault : Fault) → IsFaultOfPart old mid fault → HasKeptCount mid now → IsFaultOfPart old now fault
part_still old mid now (faults.Open of reason) h k = h
part_still old mid now (faults.Read told) h k = h
part_still old mid now (faults.Write told) h k = counted_then_kept old mid now h k
part_still old mid now (faults.Output of None) h k = tt
part_still old mid now (faults.Output of (Some reason)) h k = λ other. counted_then_kept old mid now (h other) k
part_still old mid now (faults.IsInput of) h k = tt
part_still old mid now (faults.IsThere of) h k = tt
part_still old mid now (faults.IsTwice of) h k = h
part_still old mid now (faults.IsOther of) h k = h
part_still old mid now (faults.IsLate of) h k = tt
part_still old mid now faults.Memory h k = tt

-- where there may be one
fault_still : (old mid now : ℕ) (fault : Option Fault) → FaultIsOfPart old mid fault → HasKeptCount mid now → FaultIsOfPart old now fault
fault_still old mid now None h k = tt
fault_still old mid now (Some fault) h k = part_still old mid now fault h k

pub fault_kept : (failures after : ℕ) (was now : Option Fault) → HasKeptCount failures after → now ≡ was → KeepsFault failures after was now
fault_kept failures after was now k e = λ first h f.
    subst (FaultIsOfPart first after) (sym e) (fault_still first failures after was f k)

-- another one takes its place
pub fault_new : (failures mid after : ℕ) (was now : Option Fault) (fault : Fault) → IsFaultOfPart failures mid fault
    → HasKeptCount mid after → now ≡ Some fault → KeepsFault failures after was now
fault_new failures mid after was now fault is k e = λ first h f.
    subst (FaultIsOfPart first after) (sym e)
    (part_still first mid after fault (part_since first failures mid fault h is) k)

-- or the first that is known, or that nothing is known
pub fault_first : (failures after : ℕ) (was now : Option Fault) (fault : Fault)
    → ((old on : ℕ) → FaultIsOfPart old on was → IsFaultOfPart old on fault) → HasKeptCount failures after → now ≡ Some fault
    → KeepsFault failures after was now
fault_first failures after was now fault first_is k e = λ first h f.
    subst (FaultIsOfPart first after) (sym e) (part_still first failures after fault (first_is first failures f) k)

-- so it is where the part in hand is given up
pub fault_gone : (times failures after : ℕ) (made : Option NewFile) (told : Told) (was now : Option Fault) → HasKeptCount failures after
    → (written_at made ≡ 1 → 1 ≤ times → HasCounted failures after) → now ≡ fault_after times made told was
    → KeepsFault failures after was now
fault_gone zero failures after made told was now k counted e = fault_kept failures after was now k e
fault_gone (suc times) failures after None told was now k counted e = fault_kept failures after was now k e
fault_gone (suc times) failures after (Some made) told was now k counted e =
    fault_new failures after after was now (faults.Write told) (counted refl (omega arith)) (same_count after after refl) e

-- what is told of a writer that failed
pub told_none : (times : ℕ) (made : Option NewFile) (told : Told) (fault : Option Fault) → is_some made ≡ false
    → fault ≡ fault_after times made told fault
told_none zero made told fault e = refl
told_none (suc times) None told fault e = refl
told_none (suc times) (Some made) told fault e = absurd (true≢false e)

pub told_some : (times : ℕ) (made : Option NewFile) (told : Told) (fault : Option Fault) → (times ≡ 0 → ⊥) → is_some made ≡ true
    → Some (faults.Write told) ≡ fault_after times made told fault
told_some zero made told fault some e = absurd (some refl)
told_some (suc times) None told fault some e = absurd (true≢false (sym e))
told_some (suc times) (Some made) told fault some e = refl

-- a part that couldn't be given its name
pub part_unkept : (old now : ℕ) (name : Name) (fault : Fault) → IsUnkept name fault → HasCounted old now → IsFaultOfPart old now fault
part_unkept old now name (faults.Open of reason) u c = absurd u
part_unkept old now name (faults.Read told) u c = absurd u
part_unkept old now name (faults.Write told) u c = absurd u
part_unkept old now name (faults.Output of None) u c = tt
part_unkept old now name (faults.Output of (Some reason)) u c = λ other. c
part_unkept old now name (faults.IsInput of) u c = absurd u
part_unkept old now name (faults.IsThere of) u c = absurd u
part_unkept old now name (faults.IsTwice of) u c = absurd u
part_unkept old now name (faults.IsOther of) u c = absurd u
part_unkept old now name (faults.IsLate of) u c = absurd u
part_unkept old now name faults.Memory u c = absurd u
