-- What is left of a selection to a file, and how it ends.
use Rattle.std.proofs.Common.{◌≡◌, ◌||◌, inl, inr, ℕ, ◌+◌, ◌≤◌, ◌<◌, Bool, true, false, List, Option, Some, None, refl, sym, subst, arith}
use Rattle.std.specs.Prelude.{Result, Ok, Err, if◌then◌else◌}
use Rattle.cwr_devices.specs.Format.Failures.{most_failures, one_more_failure}
use Rattle.cwr_shape.specs.declared.limits.Limits.{Limits}
use Rattle.cwr_tools.specs.declared.verdicts.ToolFault.{ToolFault}
use Rattle.cwr_tools.specs.declared.verdicts.ToolFault.TheVariants as tool_faults
use Rattle.cwr_parts.specs.Format.Splitting.{CountsSplitWriter}
use Rattle.cwr_select.specs.declared.reports.SelectReport.{SelectReport}
use Rattle.cwr_select.specs.declared.changes.Changes.{Changes}
use Rattle.cwr_select.specs.Format.Selections.{Choice}
use Rattle.cwr_select.specs.Format.Sent.{sent_text}
use Rattle.cwr_files.specs.declared.faults.Fault.TheVariants as faults
use Rattle.cwr_files.specs.declared.faults.Name.{Name}
use Rattle.cwr_files.specs.declared.faults.Told.{Told}
use Rattle.cwr_files.specs.Format.Files.{Texts, counted_on}
use Rattle.cwr_files.specs.Format.NewFiles.{LeavesAll}
use Rattle.cwr_endings.specs.declared.endings.Look.{Look}
use Rattle.cwr_endings.specs.declared.endings.Look.TheVariants as looks
use Rattle.cwr_endings.specs.declared.endings.Status.{Status}
use Rattle.cwr_endings.specs.declared.endings.Status.TheVariants as statuses
use Rattle.cwr_endings.specs.declared.endings.Wanted.{Wanted}
use Rattle.cwr_endings.specs.declared.stops.Stop.{Stop}
use Rattle.cwr_endings.specs.declared.stops.Stop.TheVariants as stops
use Rattle.cwr_endings.specs.Format.Endings.{SettlesOut, WritesOut}
use Rattle.cwr_endings.specs.Steps.Looks.{follows, good_status, whole_status}
use Rattle.cwr_endings.proofs.lemmas.Outs.{leaves_fewer, writes_since}
use Rattle.cwr_files.specs.Steps.NewFiles.{HasKeptCount}
use Rattle.cwr_transform.specs.declared.selections.Selected.{Selected}
use Rattle.cwr_transform.specs.Format.Selections.{EndsAsSelection, WritesSelection}
use Rattle.cwr_transform.specs.Steps.Selections.{CountsSelecting, EndsBy, EndsSelected, EndsWith, JudgesBy, JudgesSelected, is_good, keeps, keeps_selected}
use Rattle.cwr_transform.specs.Steps.Selections.{look_faults, selected_faults, selected_status, short_status, status_where}
use Rattle.cwr_transform.proofs.lemmas.SelectionsJudged.{from_known, wanted_so}

-- ---- how many calls failed

few_same : (times old on now : ℕ) → times ≡ 0 → on ≡ old → now ≤ old + 0 → now ≤ counted_on times on
few_same times old on now t e le =
    subst (λ (n : ℕ). now ≤ counted_on n on) (sym t) (subst (λ (n : ℕ). now ≤ n) (sym e) (omega (arith, le)))

few_read : (times old on now : ℕ) → times ≡ 0 → on ≡ one_more_failure old → now ≤ old + 1 → now < most_failures → now ≤ counted_on times on
few_read times old on now t e le lt =
    subst (λ (n : ℕ). now ≤ counted_on n on) (sym t) (subst (λ (n : ℕ). now ≤ n) (sym e) (omega arith))

few_written : (times old on now : ℕ) → times ≡ one_more_failure 0 → on ≡ old → now ≤ old + 1 → now < most_failures
    → now ≤ counted_on times on
few_written times old on now t e le lt =
    subst (λ (n : ℕ). now ≤ counted_on n on) (sym t) (subst (λ (n : ℕ). now ≤ counted_on (one_more_failure 0) n) (sym e) (omega arith))

pub few_selected : (outcome : Result SelectReport ToolFault) (look : Look) (times old on now : ℕ) → CountsSelecting outcome look old on
    → CountsSplitWriter {A = SelectReport} outcome 0 times → now ≤ old + selected_faults outcome look → now < most_failures
    → now ≤ counted_on times on
few_selected (Ok report) (looks.Found t) times old on now r w le lt = few_same times old on now w r le
few_selected (Ok report) looks.Failed times old on now r w le lt = few_read times old on now w r le lt
few_selected (Ok report) looks.Unasked times old on now r w le lt = few_same times old on now w r le
few_selected (Err tool_faults.Reader) look times old on now r w le lt = few_read times old on now w r le lt
few_selected (Err (tool_faults.Writer n)) look times old on now r w le lt = few_written times old on now w r le lt
few_selected (Err tool_faults.Memory) look times old on now r w le lt = few_same times old on now w r le
few_selected (Err (tool_faults.Refused f)) look times old on now r w le lt = few_same times old on now w r le
few_selected (Err (tool_faults.Truncated n)) look times old on now r w le lt = few_same times old on now w r le
few_selected (Err tool_faults.Output) look times old on now r w le lt = few_same times old on now w r le
few_selected (Err (tool_faults.Limit l)) look times old on now r w le lt = few_same times old on now w r le

as_many : (old on now : ℕ) → on ≡ old → now ≤ old + 1 → now ≤ on + 1
as_many old on now e le = subst (λ (n : ℕ). now ≤ n + 1) (sym e) le

one_more : (old on now : ℕ) → on ≡ one_more_failure old → now ≤ old + 1 → now < most_failures → now ≤ on + 1
one_more old on now e le lt = subst (λ (n : ℕ). now ≤ n + 1) (sym e) (omega arith)

-- where the file couldn't be given its name
pub few_unsettled : (outcome : Result SelectReport ToolFault) (look : Look) (old on now : ℕ) → CountsSelecting outcome look old on
    → now ≤ old + 1 → now < most_failures → now ≤ on + 1
few_unsettled (Ok report) (looks.Found t) old on now r le lt = as_many old on now r le
few_unsettled (Ok report) looks.Failed old on now r le lt = one_more old on now r le lt
few_unsettled (Ok report) looks.Unasked old on now r le lt = as_many old on now r le
few_unsettled (Err tool_faults.Reader) look old on now r le lt = one_more old on now r le lt
few_unsettled (Err (tool_faults.Writer n)) look old on now r le lt = as_many old on now r le
few_unsettled (Err tool_faults.Memory) look old on now r le lt = as_many old on now r le
few_unsettled (Err (tool_faults.Refused f)) look old on now r le lt = as_many old on now r le
few_unsettled (Err (tool_faults.Truncated n)) look old on now r le lt = as_many old on now r le
few_unsettled (Err tool_faults.Output) look old on now r le lt = as_many old on now r le
few_unsettled (Err (tool_faults.Limit l)) look old on now r le lt = as_many old on now r le

-- ---- the status of what is selected

-- it is none's, or that of the transmission, or `Refused`
short_none : (short : Bool) (o : Option Status) → short_status short o ≡ None → o ≡ None
short_none false o e = e
short_none true None e = refl
short_none true (Some statuses.Good) e = cc
short_none true (Some statuses.Refused) e = cc
short_none true (Some statuses.CommandLine) e = cc
short_none true (Some statuses.Fault) e = cc

short_fault : (short : Bool) (o : Option Status) → short_status short o ≡ Some statuses.Fault → o ≡ Some statuses.Fault
short_fault false o e = e
short_fault true None e = cc
short_fault true (Some statuses.Good) e = cc
short_fault true (Some statuses.Refused) e = cc
short_fault true (Some statuses.CommandLine) e = cc
short_fault true (Some statuses.Fault) e = refl

whole_none : (whole : Bool) (look : Look) → whole_status whole look ≡ None → look ≡ looks.Failed
whole_none false look e = absurd (cc e)
whole_none true (looks.Found t) e = by (follows t) e where
  by : (b : Bool) → (if b then Some statuses.Refused else Some statuses.Good) ≡ None → looks.Found t ≡ looks.Failed
  by true e = absurd (cc e)
  by false e = absurd (cc e)
whole_none true looks.Failed e = refl
whole_none true looks.Unasked e = absurd (cc e)

whole_fault : (whole : Bool) (look : Look) → whole_status whole look ≡ Some statuses.Fault → ⊥
whole_fault false look e = cc
whole_fault true (looks.Found t) e = by (follows t) e where
  by : (b : Bool) → (if b then Some statuses.Refused else Some statuses.Good) ≡ Some statuses.Fault → ⊥
  by true e = cc
  by false e = cc
whole_fault true looks.Failed e = cc
whole_fault true looks.Unasked e = cc

good_none : (wanted : Wanted) (look : Look) (found : Bool) → good_status wanted look found ≡ None → look ≡ looks.Failed
good_none wanted look true e = absurd (cc e)
good_none wanted look false e = whole_none wanted.whole look e

good_fault : (wanted : Wanted) (look : Look) (found : Bool) → good_status wanted look found ≡ Some statuses.Fault → ⊥
good_fault wanted look true e = cc
good_fault wanted look false e = whole_fault wanted.whole look e

-- there is none only where the input failed after its transmission
none_by : (wanted : Wanted) (look : Look) (same short found : Bool)
    → (if same then Some statuses.CommandLine else short_status short (good_status wanted look found)) ≡ None → look ≡ looks.Failed
none_by wanted look true short found e = absurd (cc e)
none_by wanted look false short found e = good_none wanted look found (short_none short (good_status wanted look found) e)

fault_by : (wanted : Wanted) (look : Look) (same short found : Bool)
    → (if same then Some statuses.CommandLine else short_status short (good_status wanted look found)) ≡ Some statuses.Fault → ⊥
fault_by wanted look true short found e = cc
fault_by wanted look false short found e = good_fault wanted look found (short_fault short (good_status wanted look found) e)

-- ---- how it ends

module _ (limits : Limits) (wanted : Wanted) (changes : Changes) (choice : Choice) (left : Option (List ℕ)) (s : Selected)
    (ending : Result Status Stop) where
  abbrev Ends : Result Status Stop → Type 0
  Ends other = EndsAsSelection limits wanted.whole changes choice left other

  -- with that status
  with_status : (report : SelectReport) (o : Option Status) → selected_status wanted s ≡ o → JudgesBy limits choice left (Ok report) s.look s.is_empty
      → EndsWith s.read o ending → Ends ending
  with_status report (Some statuses.Good) is h e =
      let so = wanted_so s.is_missing wanted s (subst (λ (o : Option Status). is_good o ≡ true) (sym is) refl) in
      subst Ends (sym e) (
        sent_text changes choice h.value,
        record {
          value = h.value;
          some = h.some so.0;
          text_is = refl;
          from = from_known limits wanted.whole left h.value s.look so.1 h.from;
        },
      )
  with_status report (Some statuses.Refused) is h e = subst Ends (sym e) tt
  with_status report (Some statuses.CommandLine) is h e = subst Ends (sym e) tt
  with_status report (Some statuses.Fault) is h e = absurd (fault_by wanted s.look s.is_same_moment (s.is_missing || s.is_empty) s.found is)
  with_status report None is h e = subst Ends (sym e) tt

  pub select_ends : (written made : Stop) → JudgesSelected limits choice left s → EndsSelected wanted written made s ending → Ends ending
  select_ends written made judged ends = by s.outcome judged ends where
    by : (outcome : Result SelectReport ToolFault) → JudgesBy limits choice left outcome s.look s.is_empty
        → EndsBy written made s.read outcome (selected_status wanted s) ending → Ends ending
    by (Ok report) h e = with_status report (selected_status wanted s) refl h e
    by (Err tool_faults.Reader) h e = subst Ends (sym e) tt
    by (Err (tool_faults.Writer n)) h e = subst Ends (sym e) tt
    by (Err tool_faults.Memory) h e = subst Ends (sym e) tt
    by (Err (tool_faults.Refused r)) h e = subst Ends (sym e) tt
    by (Err (tool_faults.Truncated n)) h e = subst Ends (sym e) tt
    by (Err tool_faults.Output) h e = absurd h
    by (Err (tool_faults.Limit l)) h e = subst Ends (sym e) tt

-- ---- what is left

module _ (limits : Limits) (wanted : Wanted) (choice : Choice) (left : Option (List ℕ)) (s : Selected) (ending : Result Status Stop)
    (out : List ℕ) (old now : ℕ) (is : List ℕ → Type 0) (texts new : Texts) where
  abbrev Leaves : ℕ → Type 0
  Leaves most = LeavesAll out (old + most) now texts new

  abbrev Writes : Result Status Stop → Type 0
  Writes other = WritesOut out old now is other texts new

  fewer : (most : ℕ) → Leaves most → LeavesAll out old now texts new
  fewer most h = leaves_fewer out old most now texts new h

  -- or, where something is missing, the file holds it all the same
  abbrev Keeps : Result Status Stop → Type 0
  Keeps other = WritesSelection out old now is other texts new

  -- with that status, where nothing is missing
  status_leaves : (o : Option Status) → status_where false wanted s ≡ o → EndsWith s.read o ending
      → SettlesOut out (old + look_faults s.look) now is (is_good o) texts new → Writes ending
  status_leaves (Some statuses.Good) same e h = subst Writes (sym e) h
  status_leaves (Some statuses.Refused) same e h = subst Writes (sym e) (fewer (look_faults s.look) h)
  status_leaves (Some statuses.CommandLine) same e h = subst Writes (sym e) (fewer (look_faults s.look) h)
  status_leaves (Some statuses.Fault) same e h = subst Writes (sym e) (fewer (look_faults s.look) h)
  status_leaves None same e h =
      subst Writes (sym e)
      (subst (λ (look : Look). Leaves (look_faults look)) (none_by wanted s.look s.is_same_moment s.is_empty s.found same) h)

  -- with the status of the transmission, where something is
  short_leaves : (same empty : Bool) (good : Option Status) → (good ≡ None → s.look ≡ looks.Failed)
      → EndsWith s.read (if same then Some statuses.CommandLine else short_status true good) ending
      → SettlesOut out (old + look_faults s.look) now is (is_good (if same then Some statuses.CommandLine else short_status empty good)) texts
      new
      → Keeps ending
  short_leaves true empty good none e h = inl (subst Writes (sym e) (fewer (look_faults s.look) h))
  short_leaves false true (Some statuses.Good) none e h = inl (subst Writes (sym e) (fewer (look_faults s.look) h))
  short_leaves false false (Some statuses.Good) none e h = inr (e, h)
  short_leaves false true (Some statuses.Refused) none e h = inl (subst Writes (sym e) (fewer (look_faults s.look) h))
  short_leaves false false (Some statuses.Refused) none e h = inl (subst Writes (sym e) (fewer (look_faults s.look) h))
  short_leaves false true (Some statuses.CommandLine) none e h = inl (subst Writes (sym e) (fewer (look_faults s.look) h))
  short_leaves false false (Some statuses.CommandLine) none e h = inl (subst Writes (sym e) (fewer (look_faults s.look) h))
  short_leaves false true (Some statuses.Fault) none e h = inl (subst Writes (sym e) (fewer (look_faults s.look) h))
  short_leaves false false (Some statuses.Fault) none e h = inl (subst Writes (sym e) (fewer (look_faults s.look) h))
  short_leaves false true None none e h =
      inl (subst Writes (sym e) (subst (λ (look : Look). Leaves (look_faults look)) (none refl) h))
  short_leaves false false None none e h =
      inl (subst Writes (sym e) (subst (λ (look : Look). Leaves (look_faults look)) (none refl) h))

  missing_leaves : (missing : Bool) → EndsWith s.read (status_where missing wanted s) ending
      → SettlesOut out (old + look_faults s.look) now is (is_good (status_where false wanted s)) texts new → Keeps ending
  missing_leaves false e h = inl (status_leaves (status_where false wanted s) refl e h)
  missing_leaves true e h =
      short_leaves s.is_same_moment s.is_empty (good_status wanted s.look s.found) (good_none wanted s.look s.found) e h

  pub select_leaves : (written : Told) (name : Name) → JudgesSelected limits choice left s
      → EndsSelected wanted (stops.Fault (faults.Write written)) (stops.Fault (faults.Output name None)) s ending
      → SettlesOut out (old + selected_faults s.outcome s.look) now is (keeps_selected wanted s) texts new → Keeps ending
  select_leaves written name judged ends settled = by s.outcome judged ends settled where
    by : (outcome : Result SelectReport ToolFault) → JudgesBy limits choice left outcome s.look s.is_empty
        → EndsBy (stops.Fault (faults.Write written)) (stops.Fault (faults.Output name None)) s.read outcome (selected_status wanted s) ending
        → SettlesOut out (old + selected_faults outcome s.look) now is (keeps outcome (status_where false wanted s)) texts new → Keeps ending
    by (Ok report) h e k = missing_leaves s.is_missing e k
    by (Err tool_faults.Reader) h e k = inl (subst Writes (sym e) k)
    by (Err (tool_faults.Writer n)) h e k = inl (subst Writes (sym e) k)
    by (Err tool_faults.Memory) h e k = inl (subst Writes (sym e) (fewer 0 k))
    by (Err (tool_faults.Refused r)) h e k = inl (subst Writes (sym e) (fewer 0 k))
    by (Err (tool_faults.Truncated n)) h e k = inl (subst Writes (sym e) (fewer 0 k))
    by (Err tool_faults.Output) h e k = absurd h
    by (Err (tool_faults.Limit l)) h e k = inl (subst Writes (sym e) (fewer 0 k))

-- ---- where calls failed before

pub selection_since : (out : List ℕ) (before old now : ℕ) (is : List ℕ → Type 0) (ending : Result Status Stop) (texts new : Texts)
    → HasKeptCount before old → WritesSelection out old now is ending texts new → WritesSelection out before now is ending texts new
selection_since out before old now is ending texts new kept h =
    elim h [
      | inl k ↦ inl (writes_since out before old now is ending texts new kept k)
      | inr k ↦ inr k
    ]
