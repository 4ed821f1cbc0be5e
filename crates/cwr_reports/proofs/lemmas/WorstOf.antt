-- The worst status of several files, with that of one more.
use Rattle.std.proofs.Common.{◌≡◌, ℕ, Bool, true, false, List, [], ◌∷◌, ◌++◌, get_or, All, Option, Some, None, sym, subst, inl, inr, arith, true≢false}
use Rattle.std.specs.Prelude.{◌⊎◌, Any, Err, IfSome, IsSome}
use Rattle.std.proofs.lemmas.Grind.{common_steps}
use Rattle.std.proofs.lemmas.List.Elements.{All-push}
use Rattle.std.proofs.lemmas.List.Quantifiers.{Any-push}
use Rattle.cwr_shape.specs.declared.limits.Limits.{Limits}
use Rattle.cwr_files.specs.Format.Files.{Texts}
use Rattle.cwr_files.specs.Format.Inputs.{IfRead, IfReadAt, IfThere, IsThereOrRead, is_standard}
use Rattle.cwr_files.specs.Steps.Inputs.{IsLeftAt, IsThereFor, standard_left}
use Rattle.cwr_files.specs.declared.faults.Fault.TheVariants as faults
use Rattle.cwr_endings.specs.declared.stops.Stop.{Stop}
use Rattle.cwr_endings.specs.declared.stops.Stop.TheVariants as stops
use Rattle.cwr_files.proofs.lemmas.Reads.{read_so}
use Rattle.cwr_endings.specs.declared.endings.Status.{Status}
use Rattle.cwr_endings.specs.declared.endings.Status.TheVariants as statuses
use Rattle.cwr_endings.specs.declared.endings.Wanted.{Wanted}
use Rattle.cwr_endings.specs.Format.Endings.{IsStatusBy, worse_status}
use Rattle.cwr_reports.specs.Format.Endings.{Counts, EndsOnEach, IsWorstOf}
use Rattle.cwr_reports.specs.Steps.Several.{CountsNext, IfNextAt, IfStandard, IsNext, IsUnsummed}

standard_so : {I : Type 0} (of_standard : I → Option (List ℕ)) (input : I) (standard : Option I) (is : List ℕ → Type 0)
    → IsThereOrRead input standard → IfStandard of_standard standard is → IfSome (of_standard input) is
standard_so {I = I} of_standard input standard is lent h =
    elim lent [
      | inl e ↦ subst (λ (o : Option I). IfStandard of_standard o is) e h
      | inr e ↦ absurd (subst (λ (o : Option I). IfStandard of_standard o is) e h)
    ]

next_read : {I : Type 0} (b : Bool) (held : Option Texts) (of_standard : I → Option (List ℕ)) (input : I) (standard : Option I)
    (name : List ℕ) (is : List ℕ → Type 0) → IsThereOrRead input standard → IfNextAt b held of_standard standard name is
    → IfReadAt b held (of_standard input) name is
next_read true held of_standard input standard name is lent h = standard_so of_standard input standard is lent h
next_read false held of_standard input standard name is lent h = h

any_longer : {X : Type 0} (P : X → Type 0) (xs : List X) (y : X) → Any P xs → Any P (xs ++ y ∷ [])
any_longer P xs y h = (h.0, h.1, grind (arith, common_steps, h.2), grind (arith, common_steps, h.2, h.3), h.4)

-- the status of a text that has this one
abbrev pub Has : Option (Bool × ℕ) → Limits → Wanted → Option Texts → Option (List ℕ) → Status → List ℕ → Type 0
Has advice limits wanted held standard status name =
    IfRead held standard (Some name) (λ text. IsStatusBy (Counts advice) limits wanted text status)

abbrev pub HasEither : Option (Bool × ℕ) → Limits → Wanted → Option Texts → Option (List ℕ) → List ℕ → Type 0
HasEither advice limits wanted held standard name =
    IfRead held standard (Some name) (λ text. IsStatusBy (Counts advice) limits wanted text statuses.Good
    ⊎ IsStatusBy (Counts advice) limits wanted text statuses.Refused)

module _ (advice : Option (Bool × ℕ)) (limits : Limits) (wanted : Wanted) (held : Option Texts) (standard : Option (List ℕ)) where
  good : (name : List ℕ) → Has advice limits wanted held standard statuses.Good name → HasEither advice limits wanted held standard name
  good name h =
      read_so held standard (Some name) (λ text. IsStatusBy (Counts advice) limits wanted text statuses.Good)
      (λ text. IsStatusBy (Counts advice) limits wanted text statuses.Good ⊎ IsStatusBy (Counts advice) limits wanted text statuses.Refused)
      (λ text is. inl is) h

  refused : (name : List ℕ) → Has advice limits wanted held standard statuses.Refused name
      → HasEither advice limits wanted held standard name
  refused name h =
      read_so held standard (Some name) (λ text. IsStatusBy (Counts advice) limits wanted text statuses.Refused)
      (λ text. IsStatusBy (Counts advice) limits wanted text statuses.Good ⊎ IsStatusBy (Counts advice) limits wanted text statuses.Refused)
      (λ text is. inr is) h

  all_good : (names : List (List ℕ)) → All (Has advice limits wanted held standard statuses.Good) names
      → All (HasEither advice limits wanted held standard) names
  all_good names h k d within = good (get_or names k d) (h k d within)

  joins : (names : List (List ℕ)) (name : List ℕ) (before status : Status)
      → IsWorstOf advice limits wanted held standard names before → Has advice limits wanted held standard status name
      → IsWorstOf advice limits wanted held standard (names ++ name ∷ []) (worse_status before status)
  joins names name statuses.Fault status h k = tt
  joins names name statuses.CommandLine statuses.Fault h k = tt
  joins names name statuses.CommandLine statuses.CommandLine h k = any_longer _ names name h
  joins names name statuses.CommandLine statuses.Refused h k = any_longer _ names name h
  joins names name statuses.CommandLine statuses.Good h k = any_longer _ names name h
  joins names name statuses.Refused statuses.Fault h k = tt
  joins names name statuses.Refused statuses.CommandLine h k = Any-push _ names name k
  joins names name statuses.Refused statuses.Refused h k = (
    All-push (HasEither advice limits wanted held standard) names name h.0 (refused name k),
    any_longer (Has advice limits wanted held standard statuses.Refused) names name h.1,
  )
  joins names name statuses.Refused statuses.Good h k = (
    All-push (HasEither advice limits wanted held standard) names name h.0 (good name k),
    any_longer (Has advice limits wanted held standard statuses.Refused) names name h.1,
  )
  joins names name statuses.Good statuses.Fault h k = tt
  joins names name statuses.Good statuses.CommandLine h k = Any-push _ names name k
  joins names name statuses.Good statuses.Refused h k = (
    All-push (HasEither advice limits wanted held standard) names name (all_good names h) (refused name k),
    Any-push (Has advice limits wanted held standard statuses.Refused) names name k,
  )
  joins names name statuses.Good statuses.Good h k = All-push (Has advice limits wanted held standard statuses.Good) names name h k

pub worst_more : {I : Type 0} (advice : Option (Bool × ℕ)) (limits : Limits) (wanted : Wanted) (held : Option Texts)
    (of_standard : I → Option (List ℕ)) (input : I) (standard : Option I) (names : List (List ℕ)) (name : List ℕ) (before now : Status)
    → IsThereOrRead input standard → IsWorstOf advice limits wanted held (of_standard input) names before
    → IsNext advice limits wanted held of_standard standard name before now
    → IsWorstOf advice limits wanted held (of_standard input) (names ++ name ∷ []) now
worst_more advice limits wanted held of_standard input standard names name before now lent worst next =
    elim next [
      | inl (status, e, h) ↦ subst (IsWorstOf advice limits wanted held (of_standard input) (names ++ name ∷ [])) (sym e)
          (joins advice limits wanted held (of_standard input) names name before status worst
          (next_read (is_standard (Some name)) held of_standard input standard name
          (λ text. IsStatusBy (Counts advice) limits wanted text status) lent h))
      | inr e ↦ subst (IsWorstOf advice limits wanted held (of_standard input) (names ++ name ∷ [])) (sym e) tt
    ]

-- ---- the next one

there : (found left : Option (List ℕ)) (is : List ℕ → Type 0) → IsSome found → left ≡ found → IfSome left is → IfThere found is
there None left is some e h = absurd (true≢false (sym some))
there (Some text) left is some e h = subst (λ (o : Option (List ℕ)). IfSome o is) e h

on_standard : {I : Type 0} (of_standard : I → Option (List ℕ)) (standard : Option I) (left : Option (List ℕ)) (is : List ℕ → Type 0)
    → left ≡ standard_left of_standard standard → IsSome standard → IfSome left is → IfStandard of_standard standard is
on_standard of_standard None left is e some h = absurd (true≢false (sym some))
on_standard of_standard (Some input) left is e some h = subst (λ (o : Option (List ℕ)). IfSome o is) e h

-- what is so of the bytes that are left of it is so of what its word names
pub next_so : {I : Type 0} (b : Bool) (held : Option Texts) (of_standard : I → Option (List ℕ)) (standard : Option I) (name : List ℕ)
    (left : Option (List ℕ)) (is : List ℕ → Type 0) → IsLeftAt b held (standard_left of_standard standard) name left → IsThereFor b standard
    → IfSome left is → IfNextAt b held of_standard standard name is
next_so true held of_standard standard name left is e some h = on_standard of_standard standard left is e some h
next_so false None of_standard standard name left is e some h = tt
next_so false (Some texts) of_standard standard name left is e some h = there (texts name) left is e.0 e.1 h

-- ---- the end

-- a stop of one is a stop of all
pub next_stops : {I : Type 0} (advice : Option (Bool × ℕ)) (limits : Limits) (wanted : Wanted) (held here : Option Texts)
    (of_standard : I → Option (List ℕ)) (standard : Option I) (name : List ℕ) (before now : Status) (stop : Stop) (left : Option (List ℕ))
    (names : List (List ℕ)) → CountsNext advice limits wanted here of_standard standard name before now (Err stop)
    → EndsOnEach advice limits wanted held left names (Err stop)
next_stops advice limits wanted held here of_standard standard name before now stops.Output left names h = tt
next_stops advice limits wanted held here of_standard standard name before now (stops.Fault faults.Memory) left names h = tt
next_stops advice limits wanted held here of_standard standard name before now (stops.Fault (faults.Open of reason)) left names h = absurd h
next_stops advice limits wanted held here of_standard standard name before now (stops.Fault (faults.Read told)) left names h = absurd h
next_stops advice limits wanted held here of_standard standard name before now (stops.Fault (faults.Write told)) left names h = absurd h
next_stops advice limits wanted held here of_standard standard name before now (stops.Fault (faults.Output of reason)) left names h = absurd h
next_stops advice limits wanted held here of_standard standard name before now (stops.Fault (faults.IsInput of)) left names h = absurd h
next_stops advice limits wanted held here of_standard standard name before now (stops.Fault (faults.IsThere of)) left names h = absurd h
next_stops advice limits wanted held here of_standard standard name before now (stops.Fault (faults.IsTwice of)) left names h = absurd h
next_stops advice limits wanted held here of_standard standard name before now (stops.Fault (faults.IsOther of)) left names h = absurd h
next_stops advice limits wanted held here of_standard standard name before now (stops.Fault (faults.IsLate of)) left names h = absurd h

pub sums_stop : (advice : Option (Bool × ℕ)) (limits : Limits) (wanted : Wanted) (held : Option Texts) (left : Option (List ℕ))
    (names : List (List ℕ)) (stop : Stop) → IsUnsummed stop → EndsOnEach advice limits wanted held left names (Err stop)
sums_stop advice limits wanted held left names stops.Output h = tt
sums_stop advice limits wanted held left names (stops.Fault faults.Memory) h = tt
sums_stop advice limits wanted held left names (stops.Fault (faults.Open of reason)) h = absurd h
sums_stop advice limits wanted held left names (stops.Fault (faults.Read told)) h = absurd h
sums_stop advice limits wanted held left names (stops.Fault (faults.Write told)) h = absurd h
sums_stop advice limits wanted held left names (stops.Fault (faults.Output of reason)) h = absurd h
sums_stop advice limits wanted held left names (stops.Fault (faults.IsInput of)) h = absurd h
sums_stop advice limits wanted held left names (stops.Fault (faults.IsThere of)) h = absurd h
sums_stop advice limits wanted held left names (stops.Fault (faults.IsTwice of)) h = absurd h
sums_stop advice limits wanted held left names (stops.Fault (faults.IsOther of)) h = absurd h
sums_stop advice limits wanted held left names (stops.Fault (faults.IsLate of)) h = absurd h
