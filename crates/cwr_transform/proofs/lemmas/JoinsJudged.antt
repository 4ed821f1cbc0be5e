-- What is answered of a join is right of the texts of its readers.
use Rattle.std.proofs.Common.{◌≡◌, ℕ, zero, suc, ◌<◌, Bool, true, false, not, ◌&&◌, List, [], ◌∷◌, length, drop, get_or, flat_map, All, Option, Some, None, refl, sym, ap, subst, ◌∙◌, arith, true≢false}
use Rattle.std.specs.Prelude.{◌≢◌, Any, IfSome, IsSome, IfOk, OnOk, Result, Ok, Err}
use Rattle.std.specs.List.{AllZip}
use Rattle.std.proofs.lemmas.Option.{none-some}
use Rattle.cwr_shape.specs.declared.limits.Limits.{Limits}
use Rattle.cwr_values.specs.Format.Values.{TransmissionValue}
use Rattle.cwr_values.specs.Format.Rows.{canonical_text}
use Rattle.cwr_judge.specs.Format.Ends.{IsAccepted}
use Rattle.cwr_judge.specs.Format.Items.{value_items}
use Rattle.cwr_judge.proofs.lemmas.Accepted.{accepted_once}
use Rattle.cwr_tools.specs.declared.verdicts.JoinFault.{JoinFault}
use Rattle.cwr_tools.specs.declared.verdicts.JoinReport.{JoinReport}
use Rattle.cwr_tools.specs.Format.Watching.{any_from, is_reached}
use Rattle.cwr_parts.specs.Format.Joins.{HasInput, SeesInputs, TakeInputs, TakesInput}
use Rattle.cwr_files.specs.declared.faults.Fault.{Fault}
use Rattle.cwr_files.specs.declared.outputs.Written.{Written}
use Rattle.cwr_files.specs.Format.Written.{is_whole, writer_in}
use Rattle.cwr_endings.specs.declared.endings.Wanted.{Wanted}
use Rattle.cwr_transform.specs.declared.join_views.JoinView.{JoinView}
use Rattle.cwr_transform.specs.declared.joins.Joined.{Joined}
use Rattle.cwr_transform.specs.Format.Joins.{IsInput, JoinsTo, JoinsToNone, is_wanted}
use Rattle.cwr_transform.specs.Steps.Joins.{FailsAs, FindsIn, HasJoined, HaveTexts, IsTextOfReaders, JoinsReaders, JudgesAfter, JudgesJoin}
use Rattle.cwr_transform.specs.Steps.Joins.{LooksAfter, LooksOn, StopsAs, WritesJoin, has_seen, keeps_file}

-- ---- one input

-- its text begins with the transmission, and its reader lost just that front
taken_text : {R : Type 0} (limits : Limits) (remaining : R → Option (List ℕ)) (failures : R → ℕ) (old : R) (v : TransmissionValue) (new : R)
    (text : List ℕ) → remaining old ≡ Some text → TakesInput limits remaining failures old v new
    → (n : ℕ) × IsAccepted limits text v n × (remaining new ≡ Some (drop n text))
taken_text limits remaining failures old v new text e t = by (remaining old) t.takes.front e where
  by : (before : Option (List ℕ))
      → IfSome before (λ known. IsAccepted limits known v (length t.takes.input) × (remaining new ≡ Some (drop (length t.takes.input) known)))
      → before ≡ Some text → (n : ℕ) × IsAccepted limits text v n × (remaining new ≡ Some (drop n text))
  by None front is = absurd (none-some text is)
  by (Some known) front is =
      let same : known ≡ text = cc is in
      subst (λ (l : List ℕ). (n : ℕ) × IsAccepted limits l v n × (remaining new ≡ Some (drop n l))) same
      (length t.takes.input, front.0, front.1)

-- ---- all inputs

module _ {R : Type 0} (limits : Limits) (remaining : R → Option (List ℕ)) (failures : R → ℕ) where
  ended : (reader : R) (more : List ℕ) → remaining reader ≡ Some more → IfSome (remaining reader) (λ m. m ≡ []) → more ≡ []
  ended reader more e h = subst (λ (o : Option (List ℕ)). IfSome o (λ m. m ≡ [])) e h

  followed : (reader : R) (more : List ℕ) → remaining reader ≡ Some more → IfSome (remaining reader) (λ m. m ≢ []) → more ≢ []
  followed reader more e h = subst (λ (o : Option (List ℕ)). IfSome o (λ m. m ≢ [])) e h

  -- each is what is wanted, where nothing follows or something may
  inputs_are : (whole : Bool) (olds : List R) (vs : List TransmissionValue) (news : List R) (texts : List (List ℕ))
      → TakeInputs limits remaining failures olds vs news → HaveTexts remaining olds texts
      → (whole ≡ true → All (λ reader. IfSome (remaining reader) (λ more. more ≡ [])) news) → AllZip (IsInput limits whole) texts vs
  inputs_are whole [] [] [] [] t h a = tt
  inputs_are whole (o ∷ olds) (v ∷ vs) (n ∷ news) (x ∷ texts) t h a =
      let one = taken_text limits remaining failures o v n x h.0 t.0 in (
        (one.0, one.1, λ w. ended n (drop one.0 x) one.2 (a w 0 n (omega arith))),
        inputs_are whole olds vs news texts t.1 h.1 (λ w k d lt. a w (suc k) d (omega (arith, lt))),
      )
  inputs_are whole [] [] [] (x ∷ texts) t h a = absurd h
  inputs_are whole (o ∷ olds) (v ∷ vs) (n ∷ news) [] t h a = absurd h
  inputs_are whole [] [] (n ∷ news) texts t h a = absurd t
  inputs_are whole [] (v ∷ vs) news texts t h a = absurd t
  inputs_are whole (o ∷ olds) [] news texts t h a = absurd t
  inputs_are whole (o ∷ olds) (v ∷ vs) [] texts t h a = absurd t

  -- none is, where something follows and nothing may
  none_are : (olds : List R) (vs : List TransmissionValue) (news : List R) (texts : List (List ℕ)) (ws : List TransmissionValue)
      → TakeInputs limits remaining failures olds vs news → HaveTexts remaining olds texts
      → (k : ℕ) (x : R) → k < length news → get_or news k x ≡ x → IfSome (remaining x) (λ more. more ≢ [])
      → AllZip (IsInput limits true) texts ws → ⊥
  none_are [] [] [] texts ws t h k x lt is f a = omega (arith, lt)
  none_are (o ∷ olds) (v ∷ vs) (n ∷ news) (y ∷ texts) (w ∷ ws) t h zero x lt is f a =
      let one = taken_text limits remaining failures o v n y h.0 t.0 in
      let same : one.0 ≡ a.0.0 = (accepted_once limits y v w one.0 a.0.0 one.1 a.0.1).1 in
      followed n (drop one.0 y) one.2 (subst (λ (r : R). IfSome (remaining r) (λ more. more ≢ [])) (sym is) f)
      (ap (λ (m : ℕ). drop m y) same ∙ a.0.2 refl)
  none_are (o ∷ olds) (v ∷ vs) (n ∷ news) (y ∷ texts) (w ∷ ws) t h (suc k) x lt is f a =
      none_are olds vs news texts ws t.1 h.1 k x (omega (arith, lt)) is f a.1
  none_are (o ∷ olds) (v ∷ vs) (n ∷ news) (y ∷ texts) [] t h k x lt is f a = a
  none_are (o ∷ olds) (v ∷ vs) (n ∷ news) [] ws t h k x lt is f a = h
  none_are [] [] (n ∷ news) texts ws t h k x lt is f a = t
  none_are [] (v ∷ vs) news texts ws t h k x lt is f a = t
  none_are (o ∷ olds) [] news texts ws t h k x lt is f a = t
  none_are (o ∷ olds) (v ∷ vs) [] texts ws t h k x lt is f a = t

  -- what is accepted is an input
  have_inputs : (whole : Bool) (olds : List R) (texts : List (List ℕ)) (ws : List TransmissionValue) → HaveTexts remaining olds texts
      → AllZip (IsInput limits whole) texts ws → AllZip (HasInput limits remaining) olds ws
  have_inputs whole [] [] [] h a = tt
  have_inputs whole (o ∷ olds) (x ∷ texts) (w ∷ ws) h a = ((x, a.0.0, h.0, a.0.1), have_inputs whole olds texts ws h.1 a.1)
  have_inputs whole [] [] (w ∷ ws) h a = absurd a
  have_inputs whole (o ∷ olds) (x ∷ texts) [] h a = absurd a
  have_inputs whole [] (x ∷ texts) ws h a = absurd h
  have_inputs whole (o ∷ olds) [] ws h a = absurd h

-- ---- the join

-- whether a finding in the inputs is unwanted
found_in : {R : Type 0} (limits : Limits) (remaining : R → Option (List ℕ)) (wanted : Wanted) (olds : List R) (old new : JoinView)
    (found : Bool) (ws : List TransmissionValue) → has_seen old [] → SeesInputs limits remaining has_seen olds old new
    → new.findings.lacks_memory ≡ false → found ≡ is_reached wanted.fail_on new.findings.count.worst
    → AllZip (HasInput limits remaining) olds ws → any_from wanted.fail_on (flat_map value_items ws) ≡ found
found_in limits remaining wanted olds old new found ws begun seen had is have =
    sym (is ∙ ((seen ws have [] begun).0 had).worst wanted.fail_on)

module _ {R : Type 0} (limits : Limits) (wanted : Wanted) (remaining : R → Option (List ℕ)) (failures : R → ℕ) (olds mids news : List R)
    (old new : JoinView) (first final : Option (List ℕ)) (took_all : Bool) (begun : has_seen old []) where
  -- an unwanted finding leaves no join
  found_none : (found : Bool) (texts : List (List ℕ)) → found ≡ true → SeesInputs limits remaining has_seen olds old new
      → new.findings.lacks_memory ≡ false → found ≡ is_reached wanted.fail_on new.findings.count.worst → HaveTexts remaining olds texts
      → JoinsToNone limits wanted texts
  found_none found texts some seen had is have joined j =
      true≢false (sym some ∙ sym (found_in limits remaining wanted olds old new found j.inputs begun seen had is
      (have_inputs limits remaining failures wanted.whole olds texts j.inputs have j.accepted)) ∙ j.calm)

  -- else the inputs are joined, where nothing follows or something may
  joins : (h : HasJoined limits remaining failures olds mids first final took_all) (found : Bool) (texts : List (List ℕ)) → found ≡ false
      → SeesInputs limits remaining has_seen olds old new → new.findings.lacks_memory ≡ false
      → found ≡ is_reached wanted.fail_on new.findings.count.worst → HaveTexts remaining olds texts
      → (wanted.whole ≡ true → All (λ reader. IfSome (remaining reader) (λ more. more ≡ [])) mids)
      → JoinsTo limits wanted texts h.joined
  joins h found texts none seen had is have ended =
      let accepted = inputs_are limits remaining failures wanted.whole olds h.inputs mids texts h.taken have ended in
      record {
        inputs = h.inputs;
        accepted = accepted;
        joined_of = h.joined_of;
        within = h.within;
        calm = found_in limits remaining wanted olds old new found h.inputs begun seen had is
            (have_inputs limits remaining failures wanted.whole olds texts h.inputs have accepted) ∙ none;
      }

  -- and where something follows and nothing may, they aren't
  follows_none : (h : HasJoined limits remaining failures olds mids first final took_all) (texts : List (List ℕ)) → wanted.whole ≡ true
      → HaveTexts remaining olds texts → Any (λ reader. IfSome (remaining reader) (λ more. more ≢ [])) mids
      → JoinsToNone limits wanted texts
  follows_none h texts whole have f joined j =
      none_are limits remaining failures olds h.inputs mids texts j.inputs h.taken have f.0 f.1 f.2 f.3 f.4
      (subst (λ (b : Bool). AllZip (IsInput limits b) texts j.inputs) whole j.accepted)

  -- what was seen after the inputs
  ended_by : (whole : Bool) (after : Result Bool ℕ) → is_wanted whole (Some after) ≡ true → LooksAfter remaining failures mids news after
      → whole ≡ true → All (λ reader. IfSome (remaining reader) (λ more. more ≡ [])) mids
  ended_by true (Ok false) e h w = h
  ended_by true (Ok true) e h w = absurd (true≢false (sym e))
  ended_by true (Err n) e h w = absurd (true≢false (sym e))
  ended_by false after e h w = absurd (true≢false (sym w))

  judged_after : (h : HasJoined limits remaining failures olds mids first final took_all) (found : Bool) (texts : List (List ℕ))
      (whole : Bool) (after : Result Bool ℕ) → wanted.whole ≡ whole → found ≡ false → SeesInputs limits remaining has_seen olds old new
      → new.findings.lacks_memory ≡ false → found ≡ is_reached wanted.fail_on new.findings.count.worst → HaveTexts remaining olds texts
      → LooksAfter remaining failures mids news after → JudgesAfter limits wanted whole texts (Some after)
  judged_after h found texts true (Ok true) w none seen had is have looks = follows_none h texts w have looks
  judged_after h found texts true (Ok false) w none seen had is have looks =
      (h.joined, joins h found texts none seen had is have (λ _. looks))
  judged_after h found texts false (Ok follows) w none seen had is have looks =
      (h.joined, joins h found texts none seen had is have (λ t. absurd (true≢false (sym t ∙ w))))
  judged_after h found texts true (Err n) w none seen had is have looks = tt
  judged_after h found texts false (Err n) w none seen had is have looks =
      (h.joined, joins h found texts none seen had is have (λ t. absurd (true≢false (sym t ∙ w))))

  pub judged_right : (outcome : Result JoinReport JoinFault) (found : Bool) (after : Option (Result Bool ℕ)) (texts : List (List ℕ))
      → JoinsReaders limits remaining failures olds mids first final took_all outcome
      → OnOk outcome (SeesInputs limits remaining has_seen olds old new) → LooksOn remaining failures mids news outcome after
      → FindsIn wanted new outcome found → HaveTexts remaining olds texts → JudgesJoin limits wanted texts outcome found after
  judged_right (Err stopped) found after texts h seen looks finds have =
      λ joined j. h.right j.inputs joined (have_inputs limits remaining failures wanted.whole olds texts j.inputs have j.accepted)
      j.joined_of j.within
  judged_right (Ok report) true after texts h seen looks finds have = found_none true texts refl seen finds.0 finds.1 have
  judged_right (Ok report) false after texts h seen looks finds have =
      subst (λ (o : Option (Result Bool ℕ)). JudgesAfter limits wanted wanted.whole texts o) (sym looks.1)
      (judged_after h false texts wanted.whole looks.0 refl refl seen finds.0 finds.1 have looks.2)

  -- where the file is kept it has the text
  pub text_right : (outcome : Result JoinReport JoinFault) (found : Bool) (after : Option (Result Bool ℕ))
      → is_wanted wanted.whole after ≡ true → found ≡ false
      → JoinsReaders limits remaining failures olds mids first final took_all outcome
      → OnOk outcome (SeesInputs limits remaining has_seen olds old new) → LooksOn remaining failures mids news outcome after
      → FindsIn wanted new outcome found → took_all ≡ true → first ≡ Some []
      → (text : List ℕ) × (final ≡ Some text) × IsTextOfReaders limits wanted remaining olds text
  text_right (Err stopped) found after keeps none h seen looks finds all empty =
      absurd (true≢false (sym keeps ∙ ap (is_wanted wanted.whole) looks.0))
  text_right (Ok report) found after keeps none h seen looks finds all empty = (
    canonical_text h.joined,
    h.written all empty,
    λ texts have. (
      h.joined,
      joins h found texts none seen finds.0 finds.1 have
          (ended_by wanted.whole looks.0 (sym (ap (is_wanted wanted.whole) looks.1) ∙ keeps) looks.2),
      refl,
    ),
  )

  -- a reader failed where that is answered
  pub failed_right : (outcome : Result JoinReport JoinFault) (after : Option (Result Bool ℕ))
      → JoinsReaders limits remaining failures olds mids first final took_all outcome → LooksOn remaining failures mids news outcome after
      → FailsAs failures news outcome after
  failed_right (Err stopped) after h looks =
      λ e. subst (λ (l : List R). Any (λ reader. 0 < failures reader) l) (sym looks.1) (h.failed e)
  failed_right (Ok report) after h looks = by looks.0 looks.1 looks.2 where
    by : (found : Result Bool ℕ) → after ≡ Some found → LooksAfter remaining failures mids news found
        → FailsAs failures news (Ok report) after
    by (Ok b) e l = subst (λ (o : Option (Result Bool ℕ)). FailsAs failures news (Ok report) o) (sym e) tt
    by (Err n) e l = subst (λ (o : Option (Result Bool ℕ)). FailsAs failures news (Ok report) o) (sym e) l

  -- and something was looked at where the join didn't stop
  pub stops_right : (outcome : Result JoinReport JoinFault) (after : Option (Result Bool ℕ))
      → JoinsReaders limits remaining failures olds mids first final took_all outcome → LooksOn remaining failures mids news outcome after
      → StopsAs outcome after
  stops_right (Err stopped) after h looks = (h.unmade, looks.0)
  stops_right (Ok report) after h looks = subst (λ (o : Option (Result Bool ℕ)). IsSome o) (sym looks.1) refl

-- ---- the same of what was judged

and_both : (a b : Bool) → (a && b) ≡ true → (a ≡ true) × (b ≡ true)
and_both true true e = (refl, refl)
and_both true false e = absurd (true≢false (sym e))
and_both false b e = absurd (true≢false (sym e))

not_found : (b : Bool) → not b ≡ true → b ≡ false
not_found true e = absurd (true≢false (sym e))
not_found false e = refl

module _ {R F : Type 0} (limits : Limits) (wanted : Wanted) (remaining : R → Option (List ℕ)) (failures : R → ℕ) (olds mids news : List R)
    (old new : JoinView) (first : Option (List ℕ)) (contents : F → Option (List ℕ)) (written : Written F) (begun : has_seen old [])
    (outcome : Result JoinReport JoinFault)
    (h : JoinsReaders limits remaining failures olds mids first (contents (writer_in written)) (is_whole written) outcome) where
  pub all_judged : (judged : Result Joined Fault) → OnOk outcome (SeesInputs limits remaining has_seen olds old new)
      → IfOk judged (λ joined. joined.outcome ≡ outcome)
      → IfOk judged (λ joined. LooksOn remaining failures mids news outcome joined.after)
      → IfOk judged (λ joined. FindsIn wanted new outcome joined.found)
      → IfOk judged (λ joined. (texts : List (List ℕ)) → HaveTexts remaining olds texts
      → JudgesJoin limits wanted texts joined.outcome joined.found joined.after)
  all_judged (Ok joined) seen is looks finds =
      λ texts have. subst (λ (o : Result JoinReport JoinFault). JudgesJoin limits wanted texts o joined.found joined.after) (sym is)
      (judged_right limits wanted remaining failures olds mids news old new first (contents (writer_in written)) (is_whole written) begun
      outcome joined.found joined.after texts h seen looks finds have)
  all_judged (Err fault) seen is looks finds = tt

  pub all_written : (judged : Result Joined Fault) → OnOk outcome (SeesInputs limits remaining has_seen olds old new)
      → IfOk judged (λ joined. LooksOn remaining failures mids news outcome joined.after)
      → IfOk judged (λ joined. FindsIn wanted new outcome joined.found)
      → IfOk judged (λ joined. keeps_file wanted.whole joined ≡ true → WritesJoin limits wanted remaining olds first contents written)
  all_written (Ok joined) seen looks finds =
      λ keeps all empty. let both = and_both (is_wanted wanted.whole joined.after) (not joined.found) keeps in
      text_right limits wanted remaining failures olds mids news old new first (contents (writer_in written)) (is_whole written) begun
      outcome joined.found joined.after both.0 (not_found joined.found both.1) h seen looks finds all empty
  all_written (Err fault) seen looks finds = tt
