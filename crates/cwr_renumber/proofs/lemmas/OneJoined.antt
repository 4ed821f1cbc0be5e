-- A join of one input is that input.
use Rattle.std.proofs.Common.{◌≡◌, ℕ, List, [], ◌∷◌, ◌++◌, length, drop, Option, Some, None, sym, ap, inl, inr, subst, ◌∙◌, arith}
use Rattle.std.proofs.Common.{append-nil}
use Rattle.std.specs.Prelude.{Result, Ok, Err, IfErr, IfSome, MatchResult, OnOk, option_map}
use Rattle.std.specs.Io.KnownBytes.{Appends}
use Rattle.std.proofs.lemmas.List.{length-append}
use Rattle.cwr_shape.specs.declared.limits.Limits.{Limits}
use Rattle.cwr_values.specs.declared.items.Item.{Item}
use Rattle.cwr_judge.specs.Format.Items.{value_items}
use Rattle.cwr_tools.specs.Format.Viewing.{SeesText}
use Rattle.cwr_values.specs.Format.Values.{FitsIn, GroupValue, IsTransmission, TransmissionValue}
use Rattle.cwr_values.specs.Format.Rows.{canonical_text}
use Rattle.cwr_judge.specs.Format.Ends.{IsAccepted, IsRefused, IsTruncated}
use Rattle.cwr_tools.specs.declared.verdicts.JoinFault.{JoinFault}
use Rattle.cwr_tools.specs.declared.verdicts.JoinReport.{JoinReport}
use Rattle.cwr_tools.specs.declared.verdicts.ToolFault.{ToolFault}
use Rattle.cwr_tools.specs.declared.verdicts.ToolFault.TheVariants as faults
use Rattle.cwr_parts.specs.Format.Joins.{AreJoined, CountsInputFault, CountsJoinWriter, IsOfDevice, JoinsAccepted, JoinsAll, SeesInputs, TakeInputs}
use Rattle.cwr_parts.specs.Format.Joins.{join_report}
use Rattle.cwr_parts.specs.Format.Splits.{join_of}
use Rattle.cwr_parts.specs.Format.Told.{IsJoinedText, JoinsBefore, JoinsSoFar, JoinsTexts}
use Rattle.cwr_renumber.specs.Steps.Renumbered.{renumbered_text}
use Rattle.cwr_renumber.specs.Steps.Renumberings.{CountsReader, CountsWriter, IsTextOfItems, LeavesItems, LeavesRenumbered, Renumbers}
use Rattle.cwr_renumber.specs.Steps.Renumberings.{RenumbersAccepted, of_one}

same_value : (v : TransmissionValue) → join_of v [] ≡ v
same_value v = ap (λ (gs : List GroupValue). record { opening = v.opening; groups = gs }) (append-nil v.groups)

-- ---- what is written of one input

-- the text is accepted as the transmission
abbrev IsAcceptedAs : Limits → TransmissionValue → List ℕ → Type 0
IsAcceptedAs limits v text = (n : ℕ) × IsAccepted limits text v n

-- a transmission is written, as which the text is accepted
abbrev IsWritten : Limits → Option (List ℕ) → Option (List ℕ) → JoinReport → Option (List ℕ) → Type 0
IsWritten limits before now report o =
    (v : TransmissionValue) × IsTransmission v × FitsIn limits v × Appends before now (canonical_text v) × (report ≡ join_report 1 v)
    × IfSome o (IsAcceptedAs limits v)

accepted_as : (limits : Limits) (o after : Option (List ℕ)) (v u : TransmissionValue) (n : ℕ)
    → IfSome o (λ text. IsAccepted limits text v n × (after ≡ Some (drop n text))) → u ≡ v → IfSome o (IsAcceptedAs limits u)
accepted_as limits None after v u n k same = tt
accepted_as limits (Some text) after v u n k same = subst (λ (x : TransmissionValue). IsAcceptedAs limits x text) (sym same) (n, k.0)

all_of_one : {R W : Type 0} (limits : Limits) (remaining : R → Option (List ℕ)) (failures : R → ℕ)
    (contents : W → Option (List ℕ)) (old : R) (after : List R) (before now : W) (report : JoinReport)
    → JoinsAll limits remaining failures contents (old ∷ []) after before now report
    → IsWritten limits (contents before) (contents now) report (remaining old)
all_of_one {R = R} {W = W} limits remaining failures contents old after before now report h =
    by h.inputs after h.taken h.joined_of
  where
    by : (inputs : List TransmissionValue) (after : List R) → TakeInputs limits remaining failures (old ∷ []) inputs after
        → AreJoined inputs h.joined → IsWritten limits (contents before) (contents now) report (remaining old)
    by [] after t j = absurd j
    by (v ∷ []) [] t j = absurd t
    by (v ∷ w ∷ inputs) [] t j = absurd t
    by (v ∷ w ∷ inputs) (new ∷ news) t j = absurd t.1
    by (v ∷ []) (new ∷ m ∷ news) t j = absurd t.1
    by (v ∷ []) (new ∷ []) t j = (
      h.joined,
      h.whole,
      h.within,
      h.written,
      h.reported,
      accepted_as limits (remaining old) (remaining new) v h.joined (length t.0.takes.input) t.0.takes.front (j ∙ same_value v),
    )

-- ---- why one input isn't written

-- the fault is that of the text
abbrev FaultOn : Limits → Option (List ℕ) → ToolFault → Type 0
FaultOn limits o (faults.Refused refusal) = IfSome o (λ text. IsRefused limits text refusal)
FaultOn limits o (faults.Truncated records) = IfSome o (λ text. IsTruncated limits text records)
FaultOn limits o faults.Output = ⊥
FaultOn limits o fault = Unit {0}

-- what is so of a text is so of the bytes that are known, which are that text
known_text : (o : Option (List ℕ)) (text : List ℕ) (P : List ℕ → Type 0) → IfSome o (λ bytes. bytes ≡ text) → P text → IfSome o P
known_text None text P e h = tt
known_text (Some bytes) text P e h = subst P (sym e) h

stops_on : {R W : Type 0} (limits : Limits) (fault : ToolFault) (contents : W → Option (List ℕ)) (inputs : List TransmissionValue)
    (o after : Option (List ℕ)) (later : List R) (before now : W)
    → JoinsSoFar limits fault contents inputs o after later before now → FaultOn limits o fault
stops_on limits (faults.Refused refusal) contents inputs o after later before now h =
    known_text o h.before_it.text (λ text. IsRefused limits text refusal) h.before_it.known h.before_it.items.0
stops_on limits (faults.Truncated records) contents inputs o after later before now h =
    known_text o h.before_it.text (λ text. IsTruncated limits text records) h.before_it.known h.before_it.items.0
stops_on limits faults.Reader contents inputs o after later before now h = tt
stops_on limits (faults.Writer written) contents inputs o after later before now h = tt
stops_on limits faults.Memory contents inputs o after later before now h = tt
stops_on limits faults.Output contents inputs o after later before now h = absurd h
stops_on limits (faults.Limit limit) contents inputs o after later before now h = tt

hand_is : {R : Type 0} (earlier : List R) (hand : R) (later : List R) (old : R) → old ∷ [] ≡ earlier ++ hand ∷ later → hand ≡ old
hand_is [] hand later old e = cc e
hand_is (x ∷ earlier) hand later old e = absurd (omega (arith, ap length e, length-append earlier (hand ∷ later)))

fault_of_one : {R W : Type 0} (limits : Limits) (remaining : R → Option (List ℕ)) (failures : R → ℕ)
    (contents : W → Option (List ℕ)) (old : R) (after : List R) (before now : W) (stopped : JoinFault)
    → JoinsBefore limits remaining failures contents (old ∷ []) after before now stopped
    → FaultOn limits (remaining old) stopped.fault
fault_of_one limits remaining failures contents old after before now stopped h =
    subst (λ (r : _). FaultOn limits (remaining r) stopped.fault) (hand_is h.earlier h.hand h.later old h.before_are)
    (stops_on limits stopped.fault contents h.inputs (remaining h.hand) (remaining h.left) h.later before now h.stops)

-- ---- the same of a source with its numbers put right

of_text : (o : Option (List ℕ)) (P : List ℕ → Type 0) → IfSome (option_map renumbered_text o) P
    → IfSome o (λ text. P (renumbered_text text))
of_text None P h = tt
of_text (Some text) P h = h

fault_of_text : {W : Type 0} (limits : Limits) (o : Option (List ℕ)) (contents : W → Option (List ℕ)) (before now : W)
    (fault : ToolFault) → FaultOn limits (option_map renumbered_text o) fault → Renumbers limits o contents before now (Err fault)
fault_of_text limits o contents before now (faults.Refused refusal) h = of_text o (λ text. IsRefused limits text refusal) h
fault_of_text limits o contents before now (faults.Truncated records) h = of_text o (λ text. IsTruncated limits text records) h
fault_of_text limits o contents before now faults.Reader h = tt
fault_of_text limits o contents before now (faults.Writer written) h = tt
fault_of_text limits o contents before now faults.Memory h = tt
fault_of_text limits o contents before now faults.Output h = absurd h
fault_of_text limits o contents before now (faults.Limit limit) h = tt

renumbers_by : {R W : Type 0} (limits : Limits) (remaining : R → Option (List ℕ)) (failures : R → ℕ)
    (contents : W → Option (List ℕ)) (old : R) (after : List R) (before now : W) (o : Option (List ℕ))
    (joined : Result JoinReport JoinFault)
    → remaining old ≡ option_map renumbered_text o
    → JoinsTexts limits remaining failures contents (old ∷ []) after before now joined
    → Renumbers limits o contents before now (of_one joined)
renumbers_by limits remaining failures contents old after before now o (Ok report) same h =
    let all = all_of_one limits remaining failures contents old after before now report h in (
      all.0,
      all.1,
      all.2,
      all.3,
      all.4,
      of_text o (IsAcceptedAs limits all.0)
          (subst (λ (x : Option (List ℕ)). IfSome x (IsAcceptedAs limits all.0)) same all.5),
    )
renumbers_by limits remaining failures contents old after before now o (Err stopped) same h =
    fault_of_text limits o contents before now stopped.fault
    (subst (λ (x : Option (List ℕ)). FaultOn limits x stopped.fault) same
    (fault_of_one limits remaining failures contents old after before now stopped h))

-- what is written of a text whose numbers are put right
pub renumbers_one : {R W : Type 0} (limits : Limits) (remaining : R → Option (List ℕ)) (failures : R → ℕ)
    (contents : W → Option (List ℕ)) (old : R) (olds after : List R) (before now : W) (o : Option (List ℕ))
    → (joined : Result JoinReport JoinFault) (result : Result JoinReport ToolFault) → olds ≡ old ∷ []
    → remaining old ≡ option_map renumbered_text o → result ≡ of_one joined
    → JoinsTexts limits remaining failures contents olds after before now joined → Renumbers limits o contents before now result
renumbers_one limits remaining failures contents old olds after before now o joined result one same answer h =
    subst (λ (r : Result JoinReport ToolFault). Renumbers limits o contents before now r) (sym answer)
    (renumbers_by limits remaining failures contents old after before now o joined same
    (subst (λ (rs : List _). JoinsTexts limits remaining failures contents rs after before now joined) one h))

accepted_by : {W : Type 0} (contents : W → Option (List ℕ)) (before now : W) (v : TransmissionValue)
    (joined : Result JoinReport JoinFault)
    → MatchResult joined (λ report. (report ≡ join_report 1 v) × Appends (contents before) (contents now) (canonical_text v))
    (λ stopped. IsOfDevice stopped.fault)
    → MatchResult (of_one joined)
    (λ report. (report ≡ join_report 1 v) × Appends (contents before) (contents now) (canonical_text v)) IsOfDevice
accepted_by contents before now v (Ok report) h = h
accepted_by contents before now v (Err stopped) h = h

-- and where that one is accepted
pub accepted_one : {R W : Type 0} (limits : Limits) (remaining : R → Option (List ℕ)) (contents : W → Option (List ℕ)) (old : R)
    (olds : List R) (before now : W) (o : Option (List ℕ))
    → (joined : Result JoinReport JoinFault) (result : Result JoinReport ToolFault) → olds ≡ old ∷ []
    → remaining old ≡ option_map renumbered_text o → result ≡ of_one joined
    → JoinsAccepted limits remaining contents olds before now joined → RenumbersAccepted limits o contents before now result
accepted_one limits remaining contents old olds before now None joined result one same answer h = tt
accepted_one {R = R} limits remaining contents old olds before now (Some text) joined result one same answer h = λ v n a.
    let all : JoinsAccepted limits remaining contents (old ∷ []) before now joined =
    subst (λ (rs : List R). JoinsAccepted limits remaining contents rs before now joined) one h in
    subst (λ (r : Result JoinReport ToolFault). MatchResult r
    (λ report. (report ≡ join_report 1 v) × Appends (contents before) (contents now) (canonical_text v)) IsOfDevice) (sym
    answer)
    (accepted_by contents before now v joined
    (all (v ∷ []) v ((renumbered_text text, n, same, a), tt) (sym (same_value v)) a.within))

-- ---- what is written where it isn't accepted

items_of : {R : Type 0} (limits : Limits) (fault : ToolFault) (o after : Option (List ℕ)) (later : List R) (text : List ℕ)
    → IsJoinedText limits fault [] o after later text → IsTextOfItems limits fault o text
items_of limits fault o after later text (inl part) = inl (after, part.0, part.1, part.2)
items_of limits fault o after later text (inr whole) = inr (after, whole.0)

left_so_far : {R W : Type 0} (limits : Limits) (fault : ToolFault) (contents : W → Option (List ℕ)) (o after : Option (List ℕ))
    (later : List R) (before now : W) → JoinsSoFar limits fault contents [] o after later before now
    → LeavesItems limits o contents before now fault
left_so_far limits (faults.Writer written) contents o after later before now h =
    (h.0, items_of limits (faults.Writer written) o after later h.0 h.1, h.2)
left_so_far limits (faults.Limit limit) contents o after later before now h = (after, h)
left_so_far limits faults.Output contents o after later before now h = h
left_so_far limits (faults.Refused refusal) contents o after later before now h = (after, h)
left_so_far limits (faults.Truncated records) contents o after later before now h = (after, h)
left_so_far limits faults.Reader contents o after later before now h = (after, h)
left_so_far limits faults.Memory contents o after later before now h = (after, h)

left_of_one : {R W : Type 0} (limits : Limits) (remaining : R → Option (List ℕ)) (failures : R → ℕ)
    (contents : W → Option (List ℕ)) (old : R) (after : List R) (before now : W) (stopped : JoinFault)
    → JoinsBefore limits remaining failures contents (old ∷ []) after before now stopped
    → LeavesItems limits (remaining old) contents before now stopped.fault
left_of_one {R = R} limits remaining failures contents old after before now stopped h =
    by h.earlier h.inputs h.finished h.before_are h.taken h.stops
  where
    by : (earlier : List R) (inputs : List TransmissionValue) (finished : List R) → old ∷ [] ≡ earlier ++ h.hand ∷ h.later
        → TakeInputs limits remaining failures earlier inputs finished
        → JoinsSoFar limits stopped.fault contents inputs (remaining h.hand) (remaining h.left) h.later before now
        → LeavesItems limits (remaining old) contents before now stopped.fault
    by [] [] [] e t s =
        subst (λ (r : R). LeavesItems limits (remaining r) contents before now stopped.fault) (hand_is [] h.hand h.later old e)
        (left_so_far limits stopped.fault contents (remaining h.hand) (remaining h.left) h.later before now s)
    by [] [] (x ∷ finished) e t s = absurd t
    by [] (v ∷ inputs) [] e t s = absurd t
    by [] (v ∷ inputs) (x ∷ finished) e t s = absurd t
    by (x ∷ earlier) inputs finished e t s = absurd (omega (arith, ap length e, length-append earlier (h.hand ∷ h.later)))

left_by : {R W : Type 0} (limits : Limits) (remaining : R → Option (List ℕ)) (failures : R → ℕ)
    (contents : W → Option (List ℕ)) (old : R) (after : List R) (before now : W) (o : Option (List ℕ))
    (joined : Result JoinReport JoinFault)
    → remaining old ≡ option_map renumbered_text o
    → JoinsTexts limits remaining failures contents (old ∷ []) after before now joined
    → IfErr (of_one joined) (LeavesRenumbered limits o contents before now)
left_by limits remaining failures contents old after before now o (Ok report) same h = tt
left_by limits remaining failures contents old after before now o (Err stopped) same h =
    subst (λ (x : Option (List ℕ)). LeavesItems limits x contents before now stopped.fault) same
    (left_of_one limits remaining failures contents old after before now stopped h)

-- what is left of a text whose numbers are put right
pub left_one : {R W : Type 0} (limits : Limits) (remaining : R → Option (List ℕ)) (failures : R → ℕ)
    (contents : W → Option (List ℕ)) (old : R) (olds after : List R) (before now : W) (o : Option (List ℕ))
    → (joined : Result JoinReport JoinFault) (result : Result JoinReport ToolFault) → olds ≡ old ∷ []
    → remaining old ≡ option_map renumbered_text o → result ≡ of_one joined
    → JoinsTexts limits remaining failures contents olds after before now joined
    → IfErr result (LeavesRenumbered limits o contents before now)
left_one limits remaining failures contents old olds after before now o joined result one same answer h =
    subst (λ (r : Result JoinReport ToolFault). IfErr r (LeavesRenumbered limits o contents before now)) (sym answer)
    (left_by limits remaining failures contents old after before now o joined same
    (subst (λ (rs : List _). JoinsTexts limits remaining failures contents rs after before now joined) one h))

-- ---- the writer's failures

writer_by : (joined : Result JoinReport JoinFault) (old new : ℕ) → CountsJoinWriter joined old new
    → CountsWriter (of_one joined) old new
writer_by (Ok report) old new h = h
writer_by (Err stopped) old new h = h

pub writer_one : (joined : Result JoinReport JoinFault) (result : Result JoinReport ToolFault) (old new : ℕ)
    → result ≡ of_one joined → CountsJoinWriter joined old new → CountsWriter result old new
writer_one joined result old new answer h =
    subst (λ (r : Result JoinReport ToolFault). CountsWriter r old new) (sym answer) (writer_by joined old new h)

-- ---- the reader's failures

reader_by : {R W : Type 0} (limits : Limits) (remaining : R → Option (List ℕ)) (failures : R → ℕ)
    (contents : W → Option (List ℕ)) (old new : R) (before now : W) (joined : Result JoinReport JoinFault)
    → JoinsTexts limits remaining failures contents (old ∷ []) (new ∷ []) before now joined
    → CountsReader (of_one joined) (failures old) (failures new)
reader_by limits remaining failures contents old new before now (Ok report) h = by h.inputs h.taken
  where
    by : (inputs : List TransmissionValue) → TakeInputs limits remaining failures (old ∷ []) inputs (new ∷ [])
        → failures new ≡ failures old
    by [] t = absurd t
    by (v ∷ inputs) t = t.0.quiet
reader_by limits remaining failures contents old new before now (Err stopped) h =
    subst (λ (n : ℕ). CountsInputFault stopped.fault n (failures new)) (ap failures (hand_is h.earlier h.hand h.later old h.before_are))
    (subst (λ (n : ℕ). CountsInputFault stopped.fault (failures h.hand) n) (ap failures (hand_is h.finished h.left h.later new h.after_are))
    h.counts)

-- those of the source count one more where its fault is answered
pub reader_one : {R W : Type 0} (limits : Limits) (remaining : R → Option (List ℕ)) (failures : R → ℕ)
    (contents : W → Option (List ℕ)) (old new : R) (before now : W) (joined : Result JoinReport JoinFault)
    (result : Result JoinReport ToolFault) → result ≡ of_one joined
    → JoinsTexts limits remaining failures contents (old ∷ []) (new ∷ []) before now joined
    → CountsReader result (failures old) (failures new)
reader_one limits remaining failures contents old new before now joined result answer h =
    subst (λ (r : Result JoinReport ToolFault). CountsReader r (failures old) (failures new)) (sym answer)
    (reader_by limits remaining failures contents old new before now joined h)

-- ---- what is seen of one input

seen_in : {R V : Type 0} (limits : Limits) (remaining : R → Option (List ℕ)) (has_seen : V → List Item → Type 0) (old : R)
    (before : Option (List ℕ)) (v w : V) → remaining old ≡ before → SeesInputs limits remaining has_seen (old ∷ []) v w
    → SeesText limits has_seen before v w
seen_in limits remaining has_seen old None v w e seen = tt
seen_in limits remaining has_seen old (Some text) v w e seen = λ value n a items h.
    subst (λ (given : List Item). has_seen w (items ++ given)) (append-nil (value_items value))
    (seen (value ∷ []) ((text, n, e, a), tt) items h)

pub seen_one : {R V : Type 0} (limits : Limits) (remaining : R → Option (List ℕ)) (has_seen : V → List Item → Type 0) (old : R)
    (readers : List R) (before : Option (List ℕ)) (joined : Result JoinReport JoinFault) (answer : Result JoinReport ToolFault)
    (v w : V) → readers ≡ old ∷ [] → remaining old ≡ before → answer ≡ of_one joined
    → OnOk joined (SeesInputs limits remaining has_seen readers v w) → OnOk answer (SeesText limits has_seen before v w)
seen_one limits remaining has_seen old readers before (Ok report) answer v w same e is seen =
    subst (λ (r : Result JoinReport ToolFault). OnOk r (SeesText limits has_seen before v w)) (sym is)
    (seen_in limits remaining has_seen old before v w e
    (subst (λ (l : List _). SeesInputs limits remaining has_seen l v w) same seen))
seen_one limits remaining has_seen old readers before (Err stopped) answer v w same e is seen =
    subst (λ (r : Result JoinReport ToolFault). OnOk r (SeesText limits has_seen before v w)) (sym is) tt
