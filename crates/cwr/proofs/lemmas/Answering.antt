-- How a run over acknowledgements ends, by how many words it has.
use Rattle.std.proofs.Common.{◌≡◌, ℕ, Bool, List, [], ◌∷◌, Option, None, Some, Bor, refl, subst}
use Rattle.std.specs.Prelude.{Result, Ok, Err}
use Rattle.cwr_fields.specs.declared.message_codes.TransactionStatus.{TransactionStatus}
use Rattle.cwr_acks.specs.declared.forms.Form.{Form}
use Rattle.cwr_reports.specs.declared.tellings.Telling.TheVariants as tellings
use Rattle.cwr_shape.specs.declared.limits.Limits.{Limits}
use Rattle.cwr_states.specs.declared.state_sets.States.{States}
use Rattle.cwr_files.specs.declared.faults.Fault.{Fault}
use Rattle.cwr_files.specs.declared.faults.Fault.TheVariants as faults
use Rattle.cwr_files.specs.declared.faults.Name.TheVariants as names
use Rattle.cwr_files.specs.Format.Files.{Texts}
use Rattle.cwr_endings.specs.declared.endings.Status.{Status}
use Rattle.cwr_endings.specs.declared.endings.Wanted.{Wanted}
use Rattle.cwr_endings.specs.declared.stops.Stop.{Stop}
use Rattle.cwr_endings.specs.declared.stops.Stop.TheVariants as stops
use Rattle.cwr_endings.specs.Format.Failures.{FailsSo, IsFaultOfRead}
use Rattle.cwr_reports.specs.Format.Endings.{EndsOnRead}
use Rattle.cwr_answers.specs.Format.Endings.{EndsOnAnswers}
use Rattle.cwr_answers.specs.Format.Failures.{FailsOnAnswers}
use Rattle.cwr.specs.Format.Endings.{EndsAsAnswers}
use Rattle.cwr.specs.Format.Failures.{OfOne, one_of}
use Rattle.cwr.specs.Steps.Tells.{TellsAnswers, TellsRead}

module _ (limits other : Limits) (whole by_place : Bool) (wanted : Wanted) (fail_on : States) (held : Option Texts) (standard : Option (List ℕ)) where
  -- where there is one input, and nothing was sent
  alone_ends : (names sent : List (List ℕ)) (name : Option (List ℕ)) (ending : Result Status Stop) → one_of names sent ≡ Some name
      → EndsOnRead None limits (record { whole = whole; fail_on = None }) held standard name ending
      → EndsAsAnswers limits whole by_place fail_on held standard names sent ending
  alone_ends [] [] name ending e h =
      let same : name ≡ None = cc in
      subst (λ (o : Option (List ℕ)). EndsOnRead None limits (record { whole = whole; fail_on = None }) held standard o ending) same h
  alone_ends (file ∷ []) [] name ending e h =
      let same : name ≡ Some file = cc in
      subst (λ (o : Option (List ℕ)). EndsOnRead None limits (record { whole = whole; fail_on = None }) held standard o ending) same h
  alone_ends (file ∷ other ∷ names) [] name ending e h = cc
  alone_ends [] (one ∷ sent) name ending e h = cc
  alone_ends (file ∷ []) (one ∷ sent) name ending e h = cc
  alone_ends (file ∷ other ∷ names) (one ∷ sent) name ending e h = cc

  pub asked_ends : (names sent : List (List ℕ)) (name : Option (List ℕ)) (ending : Result Status Stop) → other ≡ limits
      → wanted ≡ record { whole = whole; fail_on = None } → one_of names sent ≡ Some name
      → EndsOnRead None other wanted held standard name ending → EndsAsAnswers limits whole by_place fail_on held standard names sent ending
  asked_ends names sent name ending same so e h =
      alone_ends names sent name ending e
      (subst (λ (l : Limits). EndsOnRead None l (record { whole = whole; fail_on = None }) held standard name ending) same
      (subst (λ (w : Wanted). EndsOnRead None other w held standard name ending) so h))

  -- where there are several, or something was sent
  pub matched_ends : (names sent : List (List ℕ)) (ending : Result Status Stop) → one_of names sent ≡ None
      → EndsOnAnswers limits whole by_place fail_on held standard names sent ending
      → EndsAsAnswers limits whole by_place fail_on held standard names sent ending
  matched_ends [] [] ending e h = cc
  matched_ends (file ∷ []) [] ending e h = cc
  matched_ends (file ∷ other ∷ names) [] ending e h = h
  matched_ends [] (one ∷ sent) ending e h = h
  matched_ends (file ∷ []) (one ∷ sent) ending e h = h
  matched_ends (file ∷ other ∷ names) (one ∷ sent) ending e h = h

-- ---- what is so of one that is matched with nothing

pub of_alone : (names sent : List (List ℕ)) (is : Option (List ℕ) → Type 0) (name : Option (List ℕ)) → one_of names sent ≡ Some name → is name
    → OfOne names sent is
of_alone [] [] is name e h = let same : name ≡ None = cc in subst is same h
of_alone (file ∷ []) [] is name e h = let same : name ≡ Some file = cc in subst is same h
of_alone (file ∷ other ∷ names) [] is name e h = cc
of_alone [] (one ∷ sent) is name e h = cc
of_alone (file ∷ []) (one ∷ sent) is name e h = cc
of_alone (file ∷ other ∷ names) (one ∷ sent) is name e h = cc

pub of_matched : (names sent : List (List ℕ)) (is : Option (List ℕ) → Type 0) → one_of names sent ≡ None → OfOne names sent is
of_matched [] [] is e = cc
of_matched (file ∷ []) [] is e = cc
of_matched (file ∷ other ∷ names) [] is e = tt
of_matched [] (one ∷ sent) is e = tt
of_matched (file ∷ []) (one ∷ sent) is e = tt
of_matched (file ∷ other ∷ names) (one ∷ sent) is e = tt

-- what was read was told
pub answers_told : {W : Type 0} (form : Form) (statuses : Bor (List TransactionStatus)) (limits other : Limits) (held : Option Texts)
    (standard name : Option (List ℕ)) (contents : W → Option (List ℕ)) (old new : W) (ending : Result Status Stop) → other ≡ limits
    → TellsRead (tellings.Answers form statuses) other held standard name contents old new ending
    → TellsAnswers form statuses.now limits held standard name contents old new ending
answers_told form statuses limits other held standard name contents old new (Ok status) e h =
    (statuses, refl, subst (λ (l : Limits). TellsRead (tellings.Answers form statuses) l held standard name contents old new (Ok status)) e h)
answers_told form statuses limits other held standard name contents old new (Err stop) e h = tt

-- what stops a report stops a run over acknowledgements
fault_answers : (fault : Fault) (old now : ℕ) → IsFaultOfRead fault old now → FailsOnAnswers (Err (stops.Fault fault)) old now
fault_answers (faults.Open names.StandardInput reason) old now h = tt
fault_answers (faults.Open names.StandardOutput reason) old now h = h
fault_answers (faults.Open (names.File name) reason) old now h = h
fault_answers (faults.Open (names.Part prefix number) reason) old now h = h
fault_answers (faults.Read told) old now h = h
fault_answers faults.Memory old now h = tt
fault_answers (faults.Write told) old now h = absurd h
fault_answers (faults.Output of reason) old now h = absurd h
fault_answers (faults.IsInput of) old now h = absurd h
fault_answers (faults.IsThere of) old now h = absurd h
fault_answers (faults.IsTwice of) old now h = tt
fault_answers (faults.IsOther of) old now h = absurd h
fault_answers (faults.IsLate of) old now h = absurd h

pub so_answers : (ending : Result Status Stop) (old now : ℕ) → FailsSo ending old now → FailsOnAnswers ending old now
so_answers (Ok status) old now h = tt
so_answers (Err stops.Output) old now h = tt
so_answers (Err (stops.Fault fault)) old now h = fault_answers fault old now h
