-- What failed where a join ends as one that did.
use Rattle.std.proofs.Common.{◌≡◌, ◌≢◌, ℕ, Bool, true, false, not, ◌&&◌, Bor, List, Option, Some, None, refl, sym, subst, arith, inl}
use Rattle.std.specs.Prelude.{Result, Ok, Err}
use Rattle.cwr_tools.specs.declared.verdicts.JoinFault.{JoinFault}
use Rattle.cwr_tools.specs.declared.verdicts.JoinReport.{JoinReport}
use Rattle.cwr_tools.specs.declared.verdicts.ToolFault.{ToolFault}
use Rattle.cwr_tools.specs.declared.verdicts.ToolFault.TheVariants as tool_faults
use Rattle.cwr_files.specs.declared.faults.Fault.{Fault}
use Rattle.cwr_files.specs.declared.faults.Fault.TheVariants as faults
use Rattle.cwr_files.specs.declared.faults.Name.TheVariants as names
use Rattle.cwr_files.specs.declared.faults.Told.{Told}
use Rattle.cwr_files.specs.Format.Files.{HasCounted, Texts, counted_on}
use Rattle.cwr_files.specs.Format.Inputs.{IsUnopenedBy}
use Rattle.cwr_files.specs.Steps.NewFiles.{HasKeptCount}
use Rattle.cwr_files.proofs.lemmas.Counts.{counted_then_kept, kept_then_counted, kept_then_kept, one_counted}
use Rattle.cwr_files.proofs.lemmas.Parts.{counted_up}
use Rattle.cwr_files.proofs.lemmas.Unopened.{by_unopened}
use Rattle.cwr_endings.specs.declared.endings.Status.{Status}
use Rattle.cwr_endings.specs.declared.stops.Stop.{Stop}
use Rattle.cwr_endings.specs.declared.stops.Stop.TheVariants as stops
use Rattle.cwr_endings.specs.Format.Endings.{EndsAfterFault}
use Rattle.cwr_endings.specs.Format.Failures.{FailsToJoin, IsFaultOfOut, IsFaultOfUnion}
use Rattle.cwr_transform.specs.declared.joins.Union.{Union}
use Rattle.cwr_transform.specs.Format.Joins.{EndsJoined, EndsLooked, EndsUnseen, IsRefusedSender, IsUnreadBy, is_wanted}
use Rattle.cwr_transform.specs.Steps.Joins.{CountsFault, CountsJoined, CountsWriter, FailsAs, HasFailed, StopsAs, writer_faults, writer_faults_of}

-- ---- the inputs

pub unopened_counted : {I : Type 0} (name : Option (List ℕ)) (standard : Option I) (old now : ℕ) (fault : Fault)
    → IsUnopenedBy name standard old now fault → IsUnreadBy fault old now
unopened_counted name standard old now fault h =
    by_unopened name standard old now (λ (f : Fault). IsUnreadBy f old now) (λ is gone same. tt)
    (λ of reason is word counted. one_counted old now counted) fault h

pub unread_fails : (out : Bor (List ℕ)) (making : Option (List ℕ)) (held after : Option Texts) (fault : Fault) (old now : ℕ)
    → IsUnreadBy fault old now → IsFaultOfUnion out making held after fault old now
unread_fails out making held after (faults.Open names.StandardInput reason) old now h = tt
unread_fails out making held after (faults.Open names.StandardOutput reason) old now h = inl h
unread_fails out making held after (faults.Open (names.File name) reason) old now h = inl h
unread_fails out making held after (faults.Open (names.Part prefix number) reason) old now h = inl h
unread_fails out making held after (faults.Read told) old now h = absurd h
unread_fails out making held after (faults.Write told) old now h = absurd h
unread_fails out making held after (faults.Output of reason) old now h = absurd h
unread_fails out making held after (faults.IsInput of) old now h = absurd h
unread_fails out making held after (faults.IsThere of) old now h = absurd h
unread_fails out making held after (faults.IsTwice of) old now h = absurd h
unread_fails out making held after (faults.IsOther of) old now h = absurd h
unread_fails out making held after (faults.IsLate of) old now h = absurd h
unread_fails out making held after faults.Memory old now h = tt

-- ---- the file

-- another sender is no failure
pub sender_fails : (out : Bor (List ℕ)) (making : Option (List ℕ)) (held after : Option Texts) (same_sender : Bool) (fault : Fault) (old now : ℕ)
    → IsRefusedSender same_sender fault → IsFaultOfOut out making held after fault old now
sender_fails out making held after same_sender (faults.Open of reason) old now h = absurd h
sender_fails out making held after same_sender (faults.Read told) old now h = absurd h
sender_fails out making held after same_sender (faults.Write told) old now h = absurd h
sender_fails out making held after same_sender (faults.Output of reason) old now h = absurd h
sender_fails out making held after same_sender (faults.IsInput of) old now h = absurd h
sender_fails out making held after same_sender (faults.IsThere of) old now h = absurd h
sender_fails out making held after same_sender (faults.IsTwice of) old now h = absurd h
sender_fails out making held after same_sender (faults.IsOther of) old now h = tt
sender_fails out making held after same_sender (faults.IsLate of) old now h = absurd h
sender_fails out making held after same_sender faults.Memory old now h = tt

-- where the writer failed it isn't kept, and that is counted
pub writer_counted : (whole : Bool) (outcome : Result JoinReport JoinFault) (found : Bool) (looked : Option (Result Bool ℕ)) (wanted : Bool)
    (times old now : ℕ) → StopsAs outcome looked → wanted ≡ (is_wanted whole looked && not found) → times ≡ writer_faults outcome
    → HasKeptCount old now → (wanted ≡ false → HasKeptCount (counted_on times old) now) → CountsWriter outcome old now
writer_counted whole (Ok report) found looked wanted times old now stops is e kept given_up = (kept, λ one. absurd (omega (arith, one)))
writer_counted whole (Err stopped) found looked wanted times old now stops is e kept given_up = (
  kept,
  λ one. counted_up times old now (omega (arith, one, e)) (given_up (subst (λ (o : Option (Result Bool ℕ)). wanted ≡ (is_wanted whole o && not found)) stops.1 is)),
)

-- ---- once the inputs are taken back too

module _ (old on mid now : ℕ) (before : HasKeptCount old on) (after : HasKeptCount mid now) where
  fault_counted : (fault : ToolFault) (failed : Type 0) → (fault ≡ tool_faults.Reader → failed) → fault ≢ tool_faults.Output
      → HasKeptCount on mid → (writer_faults_of fault ≡ 1 → HasCounted on mid) → (failed → HasCounted mid now) → CountsFault fault old now
  fault_counted tool_faults.Reader failed read made kept wrote counted =
      kept_then_counted old mid now (kept_then_kept old on mid before kept) (counted (read refl))
  fault_counted (tool_faults.Writer n) failed read made kept wrote counted =
      counted_then_kept old mid now (kept_then_counted old on mid before (wrote refl)) after
  fault_counted tool_faults.Output failed read made kept wrote counted = absurd (made refl)
  fault_counted tool_faults.Memory failed read made kept wrote counted = tt
  fault_counted (tool_faults.Refused r) failed read made kept wrote counted = tt
  fault_counted (tool_faults.Truncated n) failed read made kept wrote counted = tt
  fault_counted (tool_faults.Limit l) failed read made kept wrote counted = tt

  pub joined_counted : {R : Type 0} (failures : R → ℕ) (readers : List R) (outcome : Result JoinReport JoinFault)
      (looked : Option (Result Bool ℕ)) → FailsAs failures readers outcome looked → StopsAs outcome looked → CountsWriter outcome on mid
      → (HasFailed failures readers → HasCounted mid now) → CountsJoined outcome looked old now
  joined_counted failures readers (Err stopped) looked fails stops writes counted =
      fault_counted stopped.fault (HasFailed failures readers) fails stops.0 writes.0 writes.1 counted
  joined_counted failures readers (Ok report) (Some (Err n)) fails stops writes counted =
      kept_then_counted old mid now (kept_then_kept old on mid before writes.0) (counted fails)
  joined_counted failures readers (Ok report) (Some (Ok b)) fails stops writes counted = tt
  joined_counted failures readers (Ok report) None fails stops writes counted = tt

-- ---- at the end

module _ (union : Union) (making : Option (List ℕ)) (held there : Option Texts) (old now : ℕ) where
  abbrev Ends : Result Status Stop → Type 0
  Ends ending = FailsToJoin union.out making held there ending old now

  stopped_fails : (fault : ToolFault) (read written : Told) (ending : Result Status Stop)
      → EndsAfterFault read (stops.Fault (faults.Write written)) (stops.Fault (faults.Output (names.File union.out) None)) (Some fault) ending
      → CountsFault fault old now → Ends ending
  stopped_fails tool_faults.Reader read written ending e h = subst Ends (sym e) h
  stopped_fails (tool_faults.Writer n) read written ending e h = subst Ends (sym e) h
  stopped_fails tool_faults.Memory read written ending e h = subst Ends (sym e) tt
  stopped_fails (tool_faults.Refused r) read written ending e h = subst Ends (sym e) tt
  stopped_fails (tool_faults.Truncated n) read written ending e h = subst Ends (sym e) tt
  stopped_fails tool_faults.Output read written ending e h = absurd h
  stopped_fails (tool_faults.Limit l) read written ending e h = subst Ends (sym e) tt

  looked_fails : (b : Bool) (ending : Result Status Stop) → EndsLooked b ending → Ends ending
  looked_fails true ending e = subst Ends (sym e) tt
  looked_fails false ending e = subst Ends (sym e) tt

  unseen_fails : (whole : Bool) (ending : Result Status Stop) → EndsUnseen whole ending → HasCounted old now → Ends ending
  unseen_fails true ending e h = subst Ends (sym e.1) h
  unseen_fails false ending e h = subst Ends (sym e) tt

  pub join_fails : (outcome : Result JoinReport JoinFault) (found : Bool) (looked : Option (Result Bool ℕ)) (ending : Result Status Stop)
      → EndsJoined union outcome found looked ending → CountsJoined outcome looked old now → Ends ending
  join_fails (Ok report) true looked ending e h = subst Ends (sym e) tt
  join_fails (Ok report) false (Some (Ok follows)) ending e h = looked_fails (union.wanted.whole && follows) ending e
  join_fails (Ok report) false (Some (Err n)) ending e h = unseen_fails union.wanted.whole ending e h
  join_fails (Ok report) false None ending e h = subst Ends (sym e) tt
  join_fails (Err stopped) found looked ending e h = stopped_fails stopped.fault e.0 e.1 ending e.2 h
