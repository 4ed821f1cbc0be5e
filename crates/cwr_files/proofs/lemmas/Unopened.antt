-- What is so of an input that couldn't be opened, by what its word names.
use Rattle.std.proofs.Common.{◌≡◌, ℕ, Bor, true, false, List, Option, Some, None, sym, subst, true≢false}
use Rattle.cwr_devices.specs.Format.Failures.{one_more_failure}
use Rattle.cwr_files.specs.declared.faults.Fault.{Fault}
use Rattle.cwr_files.specs.declared.faults.Fault.TheVariants as faults
use Rattle.cwr_files.specs.declared.faults.Name.TheVariants as names
use Rattle.cwr_files.specs.declared.faults.Reason.{Reason}
use Rattle.cwr_files.specs.Format.Inputs.{IsUnopenedBy, is_standard}

-- so is what is so of standard input that isn't there, and of a file by the reason that the system said
pub by_unopened : {I : Type 0} (name : Option (List ℕ)) (standard : Option I) (old now : ℕ) (is : Fault → Type 0)
    → (is_standard name ≡ true → standard ≡ None → now ≡ old → is (faults.Open names.StandardInput None))
    → ((of : Bor (List ℕ)) (reason : Reason) → is_standard name ≡ false → name ≡ Some of.now → now ≡ one_more_failure old
    → is (faults.Open (names.File of) (Some reason)))
    → (fault : Fault) → IsUnopenedBy name standard old now fault → is fault
by_unopened name standard old now is gone failed (faults.Open names.StandardInput reason) h =
    subst (λ (r : Option Reason). is (faults.Open names.StandardInput r)) (sym h.2) (gone h.0 h.1 h.3)
by_unopened name standard old now is gone failed (faults.Open (names.File of) (Some reason)) h = failed of reason h.0 h.1 h.3
by_unopened name standard old now is gone failed (faults.Open (names.File of) None) h = absurd (true≢false (sym h.2))
by_unopened name standard old now is gone failed (faults.Open names.StandardOutput reason) h = absurd h
by_unopened name standard old now is gone failed (faults.Open (names.Part prefix number) reason) h = absurd h
by_unopened name standard old now is gone failed (faults.Read told) h = absurd h
by_unopened name standard old now is gone failed (faults.Write told) h = absurd h
by_unopened name standard old now is gone failed (faults.Output of reason) h = absurd h
by_unopened name standard old now is gone failed (faults.IsInput of) h = absurd h
by_unopened name standard old now is gone failed (faults.IsThere of) h = absurd h
by_unopened name standard old now is gone failed (faults.IsTwice of) h = absurd h
by_unopened name standard old now is gone failed (faults.IsOther of) h = absurd h
by_unopened name standard old now is gone failed (faults.IsLate of) h = absurd h
by_unopened name standard old now is gone failed faults.Memory h = absurd h
