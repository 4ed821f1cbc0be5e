-- How the reading of acknowledgements ends, by the texts that are read.
use Rattle.std.proofs.Common.{◌≡◌, ℕ, ◌<◌, ◌≤◌, Bool, true, false, List, [], ◌∷◌, ◌++◌, get_or, length, map, Option, Some, None, Bor, refl, sym, ap, subst, ◌∙◌, inl, inr, arith, true≢false}
use Rattle.std.specs.Prelude.{IfOk, IfSome, OnOk, Result, Ok, Err}
use Rattle.std.specs.Option.{is_some}
use Rattle.cwr_shape.specs.declared.limits.Limits.{Limits}
use Rattle.cwr_states.specs.declared.state_sets.States.{States}
use Rattle.cwr_tools.specs.declared.verdicts.Verdict.{Verdict}
use Rattle.cwr_tools.specs.declared.verdicts.ToolFault.{ToolFault}
use Rattle.cwr_tools.specs.Format.Verdicts.{JudgesText}
use Rattle.cwr_files.specs.declared.faults.Fault.{Fault}
use Rattle.cwr_files.specs.declared.faults.Fault.TheVariants as faults
use Rattle.cwr_files.specs.Format.Files.{Texts}
use Rattle.cwr_files.specs.Format.Inputs.{IfReadAt, IsUnopenedBy, is_standard}
use Rattle.cwr_files.specs.Steps.Inputs.{IsLeftOf, IsThereFor, standard_after, standard_left}
use Rattle.cwr_files.proofs.lemmas.Unopened.{by_unopened}
use Rattle.cwr_endings.specs.declared.endings.Look.{Look}
use Rattle.cwr_endings.specs.declared.endings.Status.{Status}
use Rattle.cwr_endings.specs.declared.endings.Status.TheVariants as statuses
use Rattle.cwr_endings.specs.declared.endings.Wanted.{Wanted}
use Rattle.cwr_endings.specs.declared.judgements.Judgement.{Judgement}
use Rattle.cwr_endings.specs.declared.stops.Stop.{Stop}
use Rattle.cwr_endings.specs.declared.stops.Stop.TheVariants as stops
use Rattle.cwr_endings.specs.Format.Endings.{IsStatusBy, worse_status}
use Rattle.cwr_endings.specs.Steps.Looks.{judgement_in}
use Rattle.cwr_reports.specs.Format.Endings.{Counts, EndsOnEach, EndsOnRead, IsWorstOf}
use Rattle.cwr_reports.specs.Steps.Looks.{JudgesOn, LooksAfter}
use Rattle.cwr_reports.specs.Steps.Several.{IfNextAt, IsFirst}
use Rattle.cwr_reports.proofs.lemmas.EndsOnTexts.{judges_on, sees_nothing}
use Rattle.cwr_reports.proofs.lemmas.Pieces.{left_first}
use Rattle.cwr_reports.proofs.lemmas.WorstOf.{worst_more}
use Rattle.cwr_answers.specs.Format.Endings.{EndsOnAnswers, Has, IsStatusOfAnswers, wanted_of}
use Rattle.cwr_answers.specs.Steps.Reading.{CountsOne, EndsOnFiles, IsUnread, IsUnreadOrUntold, IsUntold}

-- ---- one transmission

if_judges : (limits : Limits) (wanted : Wanted) (before : Option (List ℕ)) (judged : Result Judgement ToolFault)
    → JudgesOn None limits wanted before judged
    → IfOk judged (λ judgement. IfSome before (λ text. IsStatusBy (Counts None) limits wanted text judgement.status))
if_judges limits wanted before (Ok judgement) h = h
if_judges limits wanted before (Err fault) h = tt

-- its status is that on its bytes
pub judged_status : (limits : Limits) (whole : Bool) (before : Option (List ℕ)) (outcome : Result Verdict ToolFault) (look : Look)
    → JudgesText limits before outcome → OnOk outcome (LooksAfter limits before look)
    → IfOk (judgement_in (wanted_of whole) outcome look false)
    (λ judgement. IfSome before (λ text. IsStatusBy (Counts None) limits (wanted_of whole) text judgement.status))
judged_status limits whole before outcome look judged looked =
    if_judges limits (wanted_of whole) before (judgement_in (wanted_of whole) outcome look false)
    (judges_on None limits (wanted_of whole) before outcome look false judged
    (sees_nothing None limits before None None outcome refl refl refl) looked)

-- what couldn't be opened wasn't read
pub unopened_unread : {I : Type 0} (name : Option (List ℕ)) (standard : Option I) (old new : ℕ) (fault : Fault)
    → IsUnopenedBy name standard old new fault → IsUnread fault
unopened_unread name standard old new fault h =
    by_unopened name standard old new (λ (f : Fault). IsUnread f) (λ is gone same. tt) (λ of reason is word counted. tt) fault h

-- ---- what a word names, where standard input is read once

pub left_of_first : {I : Type 0} (held : Option Texts) (of_standard : I → Option (List ℕ)) (standard : Option I)
    (first name left : Option (List ℕ)) → IsLeftOf held (standard_left of_standard standard) name left
    → IsThereFor (is_standard name) standard → IsFirst of_standard standard first → IsLeftOf held first name left
left_of_first held of_standard standard first None left h there is = h ∙ is there
left_of_first held of_standard standard first (Some name) left h there is =
    left_first held of_standard standard first name left h there is

-- standard input is read once
pub first_on : {I : Type 0} (b : Bool) (of_standard : I → Option (List ℕ)) (standard after : Option I) (first : Option (List ℕ))
    → after ≡ standard_after b standard → IsFirst of_standard standard first → IsFirst of_standard after first
first_on true of_standard standard after first e is = λ some. absurd (true≢false (sym some ∙ ap is_some e))
first_on {I = I} false of_standard standard after first e is = subst (λ (o : Option I). IsFirst of_standard o first) (sym e) is

-- ---- several transmissions

next_of : (b : Bool) (held : Option Texts) (first : Option (List ℕ)) (name : List ℕ) (is : List ℕ → Type 0) → IfReadAt b held first name is
    → IfNextAt b held (λ (o : Option (List ℕ)). o) (Some first) name is
next_of true held first name is h = h
next_of false held first name is h = h

module _ (limits : Limits) (whole : Bool) (held : Option Texts) (first : Option (List ℕ)) (names : List (List ℕ)) (name : List ℕ)
    (before now : Status) where
  -- one more that was read
  pub answers_more : (status : Status) → IsWorstOf None limits (wanted_of whole) held first names before
      → Has limits whole held first (Some name) status → now ≡ worse_status before status
      → IsWorstOf None limits (wanted_of whole) held first (names ++ name ∷ []) now
  answers_more status worst h e =
      worst_more None limits (wanted_of whole) held (λ (o : Option (List ℕ)). o) first (Some first) names name before now (inl refl) worst
      (inl (
        status,
        e,
        next_of (is_standard (Some name)) held first name (λ text. IsStatusBy (Counts None) limits (wanted_of whole) text status) h,
      ))

  -- or that failed
  pub failed_more : IsWorstOf None limits (wanted_of whole) held first names before → now ≡ statuses.Fault
      → IsWorstOf None limits (wanted_of whole) held first (names ++ name ∷ []) now
  failed_more worst e =
      worst_more None limits (wanted_of whole) held (λ (o : Option (List ℕ)). o) first (Some first) names name before now (inl refl) worst
      (inr e)

-- one more of several
pub one_more : (limits : Limits) (whole : Bool) (held : Option Texts) (first : Option (List ℕ)) (names : List (List ℕ)) (name : List ℕ)
    (before now : Status) → IsWorstOf None limits (wanted_of whole) held first names before
    → CountsOne limits whole held first name before now (Ok tt) → IsWorstOf None limits (wanted_of whole) held first (names ++ name ∷ []) now
one_more limits whole held first names name before now worst next =
    elim next [
      | inl (status, e, h) ↦ answers_more limits whole held first names name before now status worst h e
      | inr e ↦ failed_more limits whole held first names name before now worst e
    ]

-- ---- how reading ends

unread : (it : Stop) → IsUntold it → IsUnreadOrUntold it
unread stops.Output k = tt
unread (stops.Fault faults.Memory) k = tt
unread (stops.Fault (faults.Open of reason)) k = absurd k
unread (stops.Fault (faults.Read told)) k = absurd k
unread (stops.Fault (faults.Write told)) k = absurd k
unread (stops.Fault (faults.Output of reason)) k = absurd k
unread (stops.Fault (faults.IsInput of)) k = absurd k
unread (stops.Fault (faults.IsThere of)) k = absurd k
unread (stops.Fault (faults.IsTwice of)) k = absurd k
unread (stops.Fault (faults.IsOther of)) k = absurd k
unread (stops.Fault (faults.IsLate of)) k = absurd k

module _ (limits : Limits) (whole : Bool) (held : Option Texts) (first : Option (List ℕ)) where
  -- that of one
  pub one_ends : (name : Option (List ℕ)) (stop : Stop) → IsUnreadOrUntold stop
      → EndsOnRead None limits (wanted_of whole) held first name (Err stop)
  one_ends name stops.Output h = tt
  one_ends name (stops.Fault (faults.Open of reason)) h = tt
  one_ends name (stops.Fault (faults.Read told)) h = tt
  one_ends name (stops.Fault faults.Memory) h = tt
  one_ends name (stops.Fault (faults.Write told)) h = absurd h
  one_ends name (stops.Fault (faults.Output of reason)) h = absurd h
  one_ends name (stops.Fault (faults.IsInput of)) h = absurd h
  one_ends name (stops.Fault (faults.IsThere of)) h = absurd h
  one_ends name (stops.Fault (faults.IsTwice of)) h = absurd h
  one_ends name (stops.Fault (faults.IsOther of)) h = absurd h
  one_ends name (stops.Fault (faults.IsLate of)) h = absurd h

  -- of several
  pub each_ends : (names : List (List ℕ)) (stop : Stop) → IsUntold stop → EndsOnEach None limits (wanted_of whole) held first names (Err stop)
  each_ends names stops.Output h = tt
  each_ends names (stops.Fault faults.Memory) h = tt
  each_ends names (stops.Fault (faults.Open of reason)) h = absurd h
  each_ends names (stops.Fault (faults.Read told)) h = absurd h
  each_ends names (stops.Fault (faults.Write told)) h = absurd h
  each_ends names (stops.Fault (faults.Output of reason)) h = absurd h
  each_ends names (stops.Fault (faults.IsInput of)) h = absurd h
  each_ends names (stops.Fault (faults.IsThere of)) h = absurd h
  each_ends names (stops.Fault (faults.IsTwice of)) h = absurd h
  each_ends names (stops.Fault (faults.IsOther of)) h = absurd h
  each_ends names (stops.Fault (faults.IsLate of)) h = absurd h

  -- of what is named
  pub none_named : (names : List (Bor (List ℕ))) (ending : Result Status Stop) → length names < 1
      → EndsOnRead None limits (wanted_of whole) held first None ending
      → EndsOnFiles limits whole held first (map (λ name. name.now) names) ending
  none_named [] ending none h = h
  none_named (name ∷ names) ending none h = absurd (omega (arith, none))

  pub one_named : (names : List (Bor (List ℕ))) (d : Bor (List ℕ)) (ending : Result Status Stop) → 1 ≤ length names → length names < 2
      → EndsOnRead None limits (wanted_of whole) held first (Some (get_or names 0 d).now) ending
      → EndsOnFiles limits whole held first (map (λ name. name.now) names) ending
  one_named [] d ending some one h = absurd (omega (arith, some))
  one_named (name ∷ []) d ending some one h = h
  one_named (name ∷ other ∷ names) d ending some one h = absurd (omega (arith, one))

  pub several_named : (names : List (Bor (List ℕ))) (ending : Result Status Stop) → 2 ≤ length names
      → EndsOnEach None limits (wanted_of whole) held first (map (λ name. name.now) names) ending
      → EndsOnFiles limits whole held first (map (λ name. name.now) names) ending
  several_named [] ending enough h = absurd (omega (arith, enough))
  several_named (name ∷ []) ending enough h = absurd (omega (arith, enough))
  several_named (name ∷ other ∷ names) ending enough h = h

  -- where there was no memory, or standard output failed
  pub untold_ends : (names : List (List ℕ)) (stop : Stop) → IsUntold stop → EndsOnFiles limits whole held first names (Err stop)
  untold_ends [] stop h = one_ends None stop (unread stop h)
  untold_ends (name ∷ []) stop h = one_ends (Some name) stop (unread stop h)
  untold_ends (name ∷ other ∷ names) stop h = each_ends (name ∷ other ∷ names) stop h

-- ---- what stopped a run

read_stop : (limits : Limits) (wanted : Wanted) (held : Option Texts) (first name : Option (List ℕ)) (stop : Stop)
    → EndsOnRead None limits wanted held first name (Err stop) → IsUnreadOrUntold stop
read_stop limits wanted held first name stops.Output h = tt
read_stop limits wanted held first name (stops.Fault (faults.Open of reason)) h = tt
read_stop limits wanted held first name (stops.Fault (faults.Read told)) h = tt
read_stop limits wanted held first name (stops.Fault faults.Memory) h = tt
read_stop limits wanted held first name (stops.Fault (faults.Write told)) h = absurd h
read_stop limits wanted held first name (stops.Fault (faults.Output of reason)) h = absurd h
read_stop limits wanted held first name (stops.Fault (faults.IsInput of)) h = absurd h
read_stop limits wanted held first name (stops.Fault (faults.IsThere of)) h = absurd h
read_stop limits wanted held first name (stops.Fault (faults.IsTwice of)) h = absurd h
read_stop limits wanted held first name (stops.Fault (faults.IsOther of)) h = absurd h
read_stop limits wanted held first name (stops.Fault (faults.IsLate of)) h = absurd h

each_stop : (limits : Limits) (wanted : Wanted) (held : Option Texts) (first : Option (List ℕ)) (names : List (List ℕ)) (stop : Stop)
    → EndsOnEach None limits wanted held first names (Err stop) → IsUnreadOrUntold stop
each_stop limits wanted held first names stops.Output h = tt
each_stop limits wanted held first names (stops.Fault faults.Memory) h = tt
each_stop limits wanted held first names (stops.Fault (faults.Open of reason)) h = absurd h
each_stop limits wanted held first names (stops.Fault (faults.Read told)) h = absurd h
each_stop limits wanted held first names (stops.Fault (faults.Write told)) h = absurd h
each_stop limits wanted held first names (stops.Fault (faults.Output of reason)) h = absurd h
each_stop limits wanted held first names (stops.Fault (faults.IsInput of)) h = absurd h
each_stop limits wanted held first names (stops.Fault (faults.IsThere of)) h = absurd h
each_stop limits wanted held first names (stops.Fault (faults.IsTwice of)) h = absurd h
each_stop limits wanted held first names (stops.Fault (faults.IsOther of)) h = absurd h
each_stop limits wanted held first names (stops.Fault (faults.IsLate of)) h = absurd h

module _ (limits : Limits) (whole by_place : Bool) (fail_on : States) (held : Option Texts) (standard : Option (List ℕ)) (names sent : List (List ℕ)) where
  stop_ends : (stop : Stop) → IsUnreadOrUntold stop → EndsOnAnswers limits whole by_place fail_on held standard names sent (Err stop)
  stop_ends stops.Output h = tt
  stop_ends (stops.Fault (faults.Open of reason)) h = tt
  stop_ends (stops.Fault (faults.Read told)) h = tt
  stop_ends (stops.Fault faults.Memory) h = tt
  stop_ends (stops.Fault (faults.Write told)) h = absurd h
  stop_ends (stops.Fault (faults.Output of reason)) h = absurd h
  stop_ends (stops.Fault (faults.IsInput of)) h = absurd h
  stop_ends (stops.Fault (faults.IsThere of)) h = absurd h
  stop_ends (stops.Fault (faults.IsTwice of)) h = absurd h
  stop_ends (stops.Fault (faults.IsOther of)) h = absurd h
  stop_ends (stops.Fault (faults.IsLate of)) h = absurd h

  -- what was sent couldn't be read
  pub unsent_ends : (fault : Fault) → IsUnread fault → EndsOnAnswers limits whole by_place fail_on held standard names sent (Err (stops.Fault fault))
  unsent_ends fault h = stop_ends (stops.Fault fault) h

  -- what the acknowledgements are read from couldn't be
  pub files_stop : (stop : Stop) → EndsOnFiles limits whole held standard names (Err stop)
      → EndsOnAnswers limits whole by_place fail_on held standard names sent (Err stop)
  files_stop stop h = stop_ends stop (of names h)
    where
      of : (them : List (List ℕ)) → EndsOnFiles limits whole held standard them (Err stop) → IsUnreadOrUntold stop
      of [] k = read_stop limits (wanted_of whole) held standard None stop k
      of (name ∷ []) k = read_stop limits (wanted_of whole) held standard (Some name) stop k
      of (name ∷ other ∷ more) k = each_stop limits (wanted_of whole) held standard (name ∷ other ∷ more) stop k

-- or it has a status
pub files_status : (limits : Limits) (whole : Bool) (held : Option Texts) (standard : Option (List ℕ)) (names : List (List ℕ))
    (other : Status) → EndsOnFiles limits whole held standard names (Ok other) → IsStatusOfAnswers limits whole held standard names other
files_status limits whole held standard [] other h = h
files_status limits whole held standard (name ∷ []) other h = h
files_status limits whole held standard (name ∷ more ∷ names) other h = h
