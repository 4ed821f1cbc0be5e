-- What is left of a join to a file.
use Rattle.std.proofs.Common.{◌≡◌, ℕ, zero, suc, ◌+◌, ◌≤◌, ◌<◌, Bool, true, false, not, ◌&&◌, List, Option, Some, None, refl, sym, subst, arith}
use Rattle.std.specs.Prelude.{IfOk, IsSome, Result, Ok, Err}
use Rattle.cwr_devices.specs.Format.Failures.{most_failures}
use Rattle.cwr_values.specs.Format.Values.{TransmissionValue}
use Rattle.cwr_tools.specs.declared.verdicts.JoinFault.{JoinFault}
use Rattle.cwr_tools.specs.declared.verdicts.JoinReport.{JoinReport}
use Rattle.cwr_tools.specs.declared.verdicts.ToolFault.{ToolFault}
use Rattle.cwr_tools.specs.declared.verdicts.ToolFault.TheVariants as tool_faults
use Rattle.cwr_parts.specs.Format.Joins.{IsOfDevice}
use Rattle.cwr_files.specs.declared.faults.Fault.{Fault}
use Rattle.cwr_files.specs.declared.faults.Fault.TheVariants as faults
use Rattle.cwr_files.specs.declared.faults.Name.TheVariants.{File}
use Rattle.cwr_files.specs.declared.faults.Told.{Told}
use Rattle.cwr_files.specs.Format.Files.{HasCounted, Texts, counted_on}
use Rattle.cwr_files.specs.Format.NewFiles.{LeavesAll}
use Rattle.cwr_files.specs.Steps.NewFiles.{HasKeptCount}
use Rattle.cwr_endings.specs.declared.endings.Status.{Status}
use Rattle.cwr_endings.specs.declared.endings.Status.TheVariants as statuses
use Rattle.cwr_endings.specs.declared.stops.Stop.{Stop}
use Rattle.cwr_endings.specs.declared.stops.Stop.TheVariants as stops
use Rattle.cwr_endings.specs.Format.Endings.{EndsAfterFault, SettlesOut, WritesOut}
use Rattle.cwr_endings.proofs.lemmas.Outs.{leaves_fewer}
use Rattle.cwr_transform.specs.declared.joins.Joined.{Joined}
use Rattle.cwr_transform.specs.declared.joins.Union.{Union}
use Rattle.cwr_transform.specs.Format.Joins.{EndsAfterJoin, EndsJoined, EndsLooked, EndsUnseen, IsJoinStatus, IsRefusedSender, IsStatusOfJoin, JoinsTo, is_wanted}
use Rattle.cwr_transform.specs.Steps.Joins.{FailsAs, HasFailed, Joins, JudgesJoin, JudgesNamed, JudgesUnseen, StopsAs, faults_of, join_faults, writer_faults}
use Rattle.cwr_transform.specs.Steps.Joins.{writer_faults_of}

-- ---- once the file is settled

pub few_counted : (times most old now : ℕ) → times ≡ most → now ≤ old + most → now < most_failures → now ≤ counted_on times old
few_counted zero most old now e le lt = omega (arith, e, le)
few_counted (suc times) most old now e le lt = omega (arith, e, le, lt)

-- a join that was given up, because of a sender or for want of memory
pub sender_leaves : (out : List ℕ) (old now : ℕ) (is : List ℕ → Type 0) (same_sender : Bool) (fault : Fault) (texts new : Texts)
    → IsRefusedSender same_sender fault → LeavesAll out old now texts new → WritesOut out old now is (Err (stops.Fault fault)) texts new
sender_leaves out old now is same_sender (faults.Open name reason) texts new h k = absurd h
sender_leaves out old now is same_sender (faults.Read told) texts new h k = absurd h
sender_leaves out old now is same_sender (faults.Write told) texts new h k = absurd h
sender_leaves out old now is same_sender (faults.Output name reason) texts new h k = absurd h
sender_leaves out old now is same_sender (faults.IsInput name) texts new h k = absurd h
sender_leaves out old now is same_sender (faults.IsThere name) texts new h k = absurd h
sender_leaves out old now is same_sender (faults.IsTwice name) texts new h k = absurd h
sender_leaves out old now is same_sender (faults.IsOther name) texts new h k = k
sender_leaves out old now is same_sender (faults.IsLate name) texts new h k = absurd h
sender_leaves out old now is same_sender faults.Memory texts new h k = k

-- ---- once the inputs are taken back too

-- fewer calls had failed before
leaves_later : (name : List ℕ) (most more failures later : ℕ) (texts new : Texts)
    → (later ≤ more → later < most_failures → (failures ≤ most) × (failures < most_failures))
    → LeavesAll name most failures texts new → LeavesAll name more later texts new
leaves_later name most more failures later texts new few h = record {
  others = h.others;
  all = λ le lt. h.all (few le lt).0 (few le lt).1;
}

few_stopped : (fault : ToolFault) (failed : Type 0) (old now later : ℕ) → (fault ≡ tool_faults.Reader → failed) → HasKeptCount now later
    → (failed → HasCounted now later) → later ≤ old + faults_of fault → later < most_failures
    → (now ≤ old + writer_faults_of fault) × (now < most_failures)
few_stopped tool_faults.Reader failed old now later h kept counted le lt =
    let less = counted (h refl) lt in (omega (arith, less, le), omega (arith, less, lt))
few_stopped (tool_faults.Writer n) failed old now later h kept counted le lt =
    let less = kept lt in (omega (arith, less, le), omega (arith, less, lt))
few_stopped tool_faults.Memory failed old now later h kept counted le lt =
    let less = kept lt in (omega (arith, less, le), omega (arith, less, lt))
few_stopped (tool_faults.Refused r) failed old now later h kept counted le lt =
    let less = kept lt in (omega (arith, less, le), omega (arith, less, lt))
few_stopped (tool_faults.Truncated n) failed old now later h kept counted le lt =
    let less = kept lt in (omega (arith, less, le), omega (arith, less, lt))
few_stopped tool_faults.Output failed old now later h kept counted le lt =
    let less = kept lt in (omega (arith, less, le), omega (arith, less, lt))
few_stopped (tool_faults.Limit l) failed old now later h kept counted le lt =
    let less = kept lt in (omega (arith, less, le), omega (arith, less, lt))

few_more : {R : Type 0} (failures : R → ℕ) (readers : List R) (outcome : Result JoinReport JoinFault) (looked : Option (Result Bool ℕ))
    (old now later : ℕ) → FailsAs failures readers outcome looked → HasKeptCount now later
    → (HasFailed failures readers → HasCounted now later) → later ≤ old + join_faults outcome looked → later < most_failures
    → (now ≤ old + writer_faults outcome) × (now < most_failures)
few_more failures readers (Err stopped) looked old now later fails kept counted le lt =
    few_stopped stopped.fault (HasFailed failures readers) old now later fails kept counted le lt
few_more failures readers (Ok report) (Some (Err n)) old now later fails kept counted le lt =
    let less = counted fails lt in (omega (arith, less, le), omega (arith, less, lt))
few_more failures readers (Ok report) (Some (Ok b)) old now later fails kept counted le lt =
    let less = kept lt in (omega (arith, less, le), omega (arith, less, lt))
few_more failures readers (Ok report) None old now later fails kept counted le lt =
    let less = kept lt in (omega (arith, less, le), omega (arith, less, lt))

pub named_settles : {R : Type 0} (failures : R → ℕ) (readers : List R) (outcome : Result JoinReport JoinFault)
    (looked : Option (Result Bool ℕ)) (out : List ℕ) (is : List ℕ → Type 0) (keeps : Bool) (old now later : ℕ) (texts new : Texts)
    → FailsAs failures readers outcome looked → HasKeptCount now later → (HasFailed failures readers → HasCounted now later)
    → SettlesOut out (old + writer_faults outcome) now is keeps texts new
    → SettlesOut out (old + join_faults outcome looked) later is keeps texts new
named_settles failures readers outcome looked out is true old now later texts new fails kept counted h = h
named_settles failures readers outcome looked out is false old now later texts new fails kept counted h =
    leaves_later out (old + writer_faults outcome) (old + join_faults outcome looked) now later texts new
    (few_more failures readers outcome looked old now later fails kept counted) h

-- ---- at the end

and_not : (b : Bool) → (b && false) ≡ false
and_not true = refl
and_not false = refl

module _ (union : Union) (old now : ℕ) (is : List ℕ → Type 0) (texts new : Texts) where
  abbrev Leaves : ℕ → Type 0
  Leaves most = LeavesAll union.out.now (old + most) now texts new

  abbrev Ends : Result Status Stop → Type 0
  Ends ending = WritesOut union.out.now old now is ending texts new

  refused : (most : ℕ) (ending : Result Status Stop) → ending ≡ Ok statuses.Refused → Leaves most → Ends ending
  refused most ending e h = subst Ends (sym e) (leaves_fewer union.out.now old most now texts new h)

  stopped_by : (fault : ToolFault) (read written : Told) (ending : Result Status Stop) → (fault ≡ tool_faults.Output → ⊥)
      → EndsAfterFault read (stops.Fault (faults.Write written)) (stops.Fault (faults.Output (File union.out) None)) (Some fault) ending
      → Leaves (faults_of fault) → Ends ending
  stopped_by tool_faults.Reader read written ending unmade e h = subst Ends (sym e) h
  stopped_by (tool_faults.Writer n) read written ending unmade e h = subst Ends (sym e) h
  stopped_by tool_faults.Memory read written ending unmade e h = subst Ends (sym e) (leaves_fewer union.out.now old 0 now texts new h)
  stopped_by (tool_faults.Refused r) read written ending unmade e h = refused 0 ending e h
  stopped_by (tool_faults.Truncated n) read written ending unmade e h = refused 0 ending e h
  stopped_by tool_faults.Output read written ending unmade e h = absurd (unmade refl)
  stopped_by (tool_faults.Limit l) read written ending unmade e h = refused 0 ending e h

  looked_by : (b : Bool) (ending : Result Status Stop) → EndsLooked b ending → SettlesOut union.out.now (old + 0) now is (not b && true) texts new
      → Ends ending
  looked_by true ending e h = refused 0 ending e h
  looked_by false ending e h = subst Ends (sym e) h

  unseen_by : (whole : Bool) (ending : Result Status Stop) → EndsUnseen whole ending
      → SettlesOut union.out.now (old + 1) now is (not whole && true) texts new → Ends ending
  unseen_by true ending e h = subst Ends (sym e.1) h
  unseen_by false ending e h = subst Ends (sym e) h

  after_by : (whole : Bool) (report : JoinReport) (looked : Option (Result Bool ℕ)) (ending : Result Status Stop) → IsSome looked
      → EndsAfterJoin whole looked ending
      → SettlesOut union.out.now (old + join_faults (Ok report) looked) now is (is_wanted whole looked && true) texts new → Ends ending
  after_by whole report (Some (Ok follows)) ending some e h = looked_by (whole && follows) ending e h
  after_by whole report (Some (Err n)) ending some e h = unseen_by whole ending e h
  after_by whole report None ending some e h = absurd (cc some)

  -- where its line was written
  pub join_leaves : (outcome : Result JoinReport JoinFault) (found : Bool) (looked : Option (Result Bool ℕ)) (ending : Result Status Stop)
      → StopsAs outcome looked → EndsJoined union outcome found looked ending
      → SettlesOut union.out.now (old + join_faults outcome looked) now is (is_wanted union.wanted.whole looked && not found) texts new
      → Ends ending
  join_leaves (Ok report) true looked ending stops e h =
      refused (join_faults (Ok report) looked) ending e
      (subst (λ (b : Bool). SettlesOut union.out.now (old + join_faults (Ok report) looked) now is b texts new)
      (and_not (is_wanted union.wanted.whole looked)) h)
  join_leaves (Ok report) false looked ending stops e h = after_by union.wanted.whole report looked ending stops e h
  join_leaves (Err stopped) found looked ending stops e h =
      stopped_by stopped.fault e.0 e.1 ending stops.0 e.2
      (subst (λ (o : Option (Result Bool ℕ)). SettlesOut union.out.now (old + faults_of stopped.fault) now is
      (is_wanted union.wanted.whole o && not found) texts new) stops.1 h)

-- ---- the status

module _ (union : Union) (texts : List (List ℕ)) where
  abbrev Right : Result Status Stop → Type 0
  Right (Ok status) = IsJoinStatus union.limits union.wanted texts status
  Right (Err stop) = Unit {0}

  pub status_right : (outcome : Result JoinReport JoinFault) (found : Bool) (looked : Option (Result Bool ℕ)) (ending : Result Status Stop)
      → JudgesJoin union.limits union.wanted texts outcome found looked → EndsJoined union outcome found looked ending → Right ending
  status_right (Ok report) true looked ending h e = subst Right (sym e) h
  status_right (Ok report) false (Some (Ok follows)) ending h e = by (union.wanted.whole && follows) h e where
    by : (b : Bool) → Joins union.limits union.wanted texts (not b) → EndsLooked b ending → Right ending
    by true h e = subst Right (sym e) h
    by false h e = subst Right (sym e) h
  status_right (Ok report) false (Some (Err n)) ending h e = by union.wanted.whole h e where
    by : (b : Bool) → JudgesUnseen union.limits union.wanted texts b → EndsUnseen b ending → Right ending
    by true h e = subst Right (sym e.1) tt
    by false h e = subst Right (sym e) h
  status_right (Ok report) false None ending h e = absurd h
  status_right (Err stopped) found looked ending h e = by stopped.fault h e.2 where
    by : (fault : ToolFault) → ((joined : TransmissionValue) → JoinsTo union.limits union.wanted texts joined → IsOfDevice fault)
        → EndsAfterFault e.0 (stops.Fault (faults.Write e.1)) (stops.Fault (faults.Output (File union.out) None)) (Some fault) ending
        → Right ending
    by tool_faults.Reader h e = subst Right (sym e) tt
    by (tool_faults.Writer n) h e = subst Right (sym e) tt
    by tool_faults.Memory h e = subst Right (sym e) tt
    by (tool_faults.Refused r) h e = subst Right (sym e) h
    by (tool_faults.Truncated n) h e = subst Right (sym e) h
    by tool_faults.Output h e = subst Right (sym e) tt
    by (tool_faults.Limit l) h e = subst Right (sym e) h

-- so it is of what the words name
pub status_of_join : (union : Union) (held : Option Texts) (standard : Option (List ℕ)) (names : List (List ℕ)) (joined : Joined)
    (ending : Result Status Stop) → JudgesNamed union.limits union.wanted held standard names joined
    → EndsJoined union joined.outcome joined.found joined.after ending
    → IfOk ending (IsStatusOfJoin union.limits union.wanted held standard names)
status_of_join union held standard names joined (Ok status) judged ends =
    (judged.0, λ texts are. status_right union texts joined.outcome joined.found joined.after (Ok status) (judged.1 texts are) ends)
status_of_join union held standard names joined (Err stop) judged ends = tt
