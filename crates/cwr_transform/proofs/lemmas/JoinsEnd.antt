-- A join ends as what it is made of answers.
use Rattle.std.proofs.Common.{◌≡◌, ℕ, ◌<◌, Bool, true, false, ◌&&◌, List, Option, Some, None, sym, subst}
use Rattle.std.specs.Prelude.{Result, Ok, Err}
use Rattle.cwr_tools.specs.declared.verdicts.JoinFault.{JoinFault}
use Rattle.cwr_tools.specs.declared.verdicts.JoinReport.{JoinReport}
use Rattle.cwr_tools.specs.declared.verdicts.ToolFault.{ToolFault}
use Rattle.cwr_tools.specs.declared.verdicts.ToolFault.TheVariants as tool_faults
use Rattle.cwr_files.specs.declared.faults.Fault.{Fault}
use Rattle.cwr_files.specs.declared.faults.Fault.TheVariants as faults
use Rattle.cwr_files.specs.declared.faults.Name.TheVariants.{File}
use Rattle.cwr_files.specs.declared.faults.Told.{Told}
use Rattle.cwr_files.specs.Format.Faults.{IsUnkept, IsUnmade}
use Rattle.cwr_files.specs.Format.Inputs.{IsUnopenedBy}
use Rattle.cwr_files.proofs.lemmas.Unopened.{by_unopened}
use Rattle.cwr_endings.specs.declared.endings.Status.{Status}
use Rattle.cwr_endings.specs.declared.endings.Status.TheVariants as statuses
use Rattle.cwr_transform.specs.declared.joins.Union.{Union}
use Rattle.cwr_endings.specs.declared.stops.Stop.{Stop}
use Rattle.cwr_endings.specs.declared.stops.Stop.TheVariants as stops
use Rattle.cwr_endings.specs.Format.Endings.{EndsAfterFault, IsRefusedOut}
use Rattle.cwr_transform.specs.Format.Joins.{EndsAfterJoin, EndsAsJoin, EndsFound, EndsJoined, EndsLooked, EndsUnseen, IsJoinFault}
use Rattle.cwr_transform.specs.Format.Joins.{IsRefusedSender, IsUnjoined, IsUnread}

-- ---- faults

pub unread : (union : Union) (fault : Fault) → IsUnread fault → IsJoinFault union fault
unread union (faults.Open name reason) h = tt
unread union (faults.Read told) h = absurd h
unread union (faults.Write told) h = absurd h
unread union (faults.Output name reason) h = absurd h
unread union (faults.IsInput name) h = absurd h
unread union (faults.IsThere name) h = absurd h
unread union (faults.IsTwice name) h = absurd h
unread union (faults.IsOther name) h = absurd h
unread union (faults.IsLate name) h = absurd h
unread union faults.Memory h = tt

pub refused_out : (union : Union) (fault : Fault) → IsRefusedOut (File union.out) union.only_new fault → IsJoinFault union fault
refused_out union (faults.Open name reason) h = absurd h
refused_out union (faults.Read told) h = absurd h
refused_out union (faults.Write told) h = absurd h
refused_out union (faults.Output name reason) h = absurd h
refused_out union (faults.IsInput name) h = h
refused_out union (faults.IsThere name) h = h
refused_out union (faults.IsTwice name) h = absurd h
refused_out union (faults.IsOther name) h = absurd h
refused_out union (faults.IsLate name) h = absurd h
refused_out union faults.Memory h = absurd h

pub unjoined : (union : Union) (fault : Fault) → IsUnjoined union fault → IsJoinFault union fault
unjoined union (faults.Open name reason) h = tt
unjoined union (faults.Read told) h = absurd h
unjoined union (faults.Write told) h = absurd h
unjoined union (faults.Output name reason) h = tt
unjoined union (faults.IsInput name) h = absurd h
unjoined union (faults.IsThere name) h = absurd h
unjoined union (faults.IsTwice name) h = absurd h
unjoined union (faults.IsOther name) h = h
unjoined union (faults.IsLate name) h = absurd h
unjoined union faults.Memory h = tt

pub unmade : (union : Union) (fault : Fault) → IsUnmade (File union.out) fault → IsUnjoined union fault
unmade union (faults.Open of reason) h = h.0
unmade union (faults.Read told) h = absurd h
unmade union (faults.Write told) h = absurd h
unmade union (faults.Output of reason) h = absurd h
unmade union (faults.IsInput of) h = absurd h
unmade union (faults.IsThere of) h = absurd h
unmade union (faults.IsTwice of) h = absurd h
unmade union (faults.IsOther of) h = absurd h
unmade union (faults.IsLate of) h = absurd h
unmade union faults.Memory h = tt

pub unkept : (union : Union) (fault : Fault) → IsUnkept (File union.out) fault → IsUnjoined union fault
unkept union (faults.Open of reason) h = absurd h
unkept union (faults.Read told) h = absurd h
unkept union (faults.Write told) h = absurd h
unkept union (faults.Output of reason) h = h.0
unkept union (faults.IsInput of) h = absurd h
unkept union (faults.IsThere of) h = absurd h
unkept union (faults.IsTwice of) h = absurd h
unkept union (faults.IsOther of) h = absurd h
unkept union (faults.IsLate of) h = absurd h
unkept union faults.Memory h = absurd h

-- ---- the end

as_join : (union : Union) (n : ℕ) (ending goal : Result Status Stop) → ending ≡ goal → EndsAsJoin union n goal
    → EndsAsJoin union n ending
as_join union n ending goal e h = subst (EndsAsJoin union n) (sym e) h

looked : (union : Union) (n : ℕ) (b : Bool) (ending : Result Status Stop) → 0 < n → EndsLooked b ending → EndsAsJoin union n ending
looked union n true ending some h = as_join union n ending (Ok statuses.Refused) h some
looked union n false ending some h = as_join union n ending (Ok statuses.Good) h some

unseen : (union : Union) (n : ℕ) (b : Bool) (ending : Result Status Stop) → 0 < n → EndsUnseen b ending → EndsAsJoin union n ending
unseen union n true ending some h = as_join union n ending (Err (stops.Fault (faults.Read h.0))) h.1 tt
unseen union n false ending some h = as_join union n ending (Ok statuses.Good) h some

after : (union : Union) (n : ℕ) (whole : Bool) (found : Option (Result Bool ℕ)) (ending : Result Status Stop) → 0 < n
    → EndsAfterJoin whole found ending → EndsAsJoin union n ending
after union n whole (Some (Ok follows)) ending some h = looked union n (whole && follows) ending some h
after union n whole (Some (Err number)) ending some h = unseen union n whole ending some h
after union n whole None ending some h = as_join union n ending (Ok statuses.Good) h some

failed : (union : Union) (n : ℕ) (read written : Told) (fault : ToolFault) (ending : Result Status Stop) → 0 < n
    → EndsAfterFault read (stops.Fault (faults.Write written)) (stops.Fault (faults.Output (File union.out) None)) (Some fault) ending → EndsAsJoin union n ending
failed union n read written tool_faults.Reader ending some h = as_join union n ending (Err (stops.Fault (faults.Read read))) h tt
failed union n read written (tool_faults.Writer k) ending some h = as_join union n ending (Err (stops.Fault (faults.Write written))) h tt
failed union n read written tool_faults.Memory ending some h = as_join union n ending (Err (stops.Fault faults.Memory)) h tt
failed union n read written tool_faults.Output ending some h =
    as_join union n ending (Err (stops.Fault (faults.Output (File union.out) None))) h tt
failed union n read written (tool_faults.Refused r) ending some h = as_join union n ending (Ok statuses.Refused) h some
failed union n read written (tool_faults.Truncated k) ending some h = as_join union n ending (Ok statuses.Refused) h some
failed union n read written (tool_faults.Limit l) ending some h = as_join union n ending (Ok statuses.Refused) h some

pub refused_sender : (union : Union) (fault : Fault) → IsRefusedSender union.same_sender fault → IsUnjoined union fault
refused_sender union (faults.Open of reason) h = absurd h
refused_sender union (faults.Read told) h = absurd h
refused_sender union (faults.Write told) h = absurd h
refused_sender union (faults.Output of reason) h = absurd h
refused_sender union (faults.IsInput of) h = absurd h
refused_sender union (faults.IsThere of) h = absurd h
refused_sender union (faults.IsTwice of) h = absurd h
refused_sender union (faults.IsOther of) h = h
refused_sender union (faults.IsLate of) h = absurd h
refused_sender union faults.Memory h = tt

found_or_after : (union : Union) (n : ℕ) (found whole : Bool) (looked : Option (Result Bool ℕ)) (ending : Result Status Stop)
    → 0 < n → EndsFound found whole looked ending → EndsAsJoin union n ending
found_or_after union n true whole looked ending some h = as_join union n ending (Ok statuses.Refused) h some
found_or_after union n false whole looked ending some h = after union n whole looked ending some h

pub join_ends : (union : Union) (n : ℕ) (outcome : Result JoinReport JoinFault) (found : Bool) (looked : Option (Result Bool ℕ))
    (ending : Result Status Stop) → 0 < n → EndsJoined union outcome found looked ending → EndsAsJoin union n ending
join_ends union n (Ok report) found looked ending some h = found_or_after union n found union.wanted.whole looked ending some h
join_ends union n (Err stopped) found looked ending some h = failed union n h.0 h.1 stopped.fault ending some h.2

pub unopened : {I : Type 0} (name : Option (List ℕ)) (standard : Option I) (old new : ℕ) (fault : Fault)
    → IsUnopenedBy name standard old new fault → IsUnread fault
unopened name standard old new fault h =
    by_unopened name standard old new (λ (f : Fault). IsUnread f) (λ is gone same. tt) (λ of reason is word counted. tt) fault h
