-- One call of a reading after others: what was read so far continues, up to all items or a fault.
use Rattle.std.proofs.Common.{◌≡◌, ◌≤◌, ◌+◌, ℕ, Bool, true, false, List, [], ◌∷◌, ◌++◌, length, drop, append-nil, Option, Some, None}
use Rattle.std.proofs.Common.{refl, sym, ap, subst, ◌∙◌, inl, inr, true≢false}
use Rattle.std.specs.Prelude.{Result, Ok, Err, IfSome, IfOk, IfErr, MatchResult, ◌⊎◌}
use Rattle.std.specs.Result.{IsErrAnd}
use Rattle.std.proofs.Math.Seq.{drop-append_seam}
use Rattle.std.proofs.KnownBytes.{Consumes-nil, Consumes-trans}
use Rattle.std.specs.Io.KnownBytes.{Consumes}
use Rattle.cwr_shape.specs.Format.Ranges.{LimitValues}
use Rattle.cwr_values.specs.declared.items.Item.{Item}
use Rattle.cwr_values.specs.declared.items.Item.TheVariants as items
use Rattle.cwr_values.specs.Format.Values.{TransmissionValue, IsTransmission}
use Rattle.cwr_values.specs.Format.Rows.{canonical_text}
use Rattle.cwr_decode.specs.declared.outcomes.Outcome.{Outcome}
use Rattle.cwr_decode.specs.declared.machine.State.{State}
use Rattle.cwr_decode.specs.declared.machine.State.TheVariants as states
use Rattle.cwr_decode.specs.declared.readings.ReadFault.{ReadFault}
use Rattle.cwr_decode.specs.declared.readings.ReadFault.TheVariants as faults
use Rattle.cwr_judge.specs.Format.Items.{value_items}
use Rattle.cwr_judge.specs.Format.Ends.{IsAccepted}
use Rattle.cwr_decode.specs.Steps.Machines.{Standing, again}
use Rattle.cwr_decode.specs.Steps.Represents.{MayFollow, RepresentsIn, Represents}
use Rattle.cwr_decode.specs.Steps.Calls.{IsLive}
use Rattle.cwr_decode.specs.Steps.Readings.{answer_of, items_read, IsRightOf, LeavesRead, IsSpent, Reads}
use Rattle.cwr_decode.specs.Format.Runs.{AreItems, TakesFront, ReportsAccepted, ReportsCanonical}
use Rattle.cwr_decode.specs.Steps.Runs.{HasRead, EndsWhole, HasReadAll, LacksRoom, IsReadingOn, StopsRun, StopsReading, StopsWhole}
use Rattle.cwr_fields.specs.Format.Growth.{Outgrows}
use Rattle.cwr_judge.proofs.lemmas.Accepted.{accepted_once, canonical_accepted}
use Rattle.cwr_decode.specs.declared.endings.End.TheVariants as ends
use Rattle.cwr_decode.specs.Format.Headline.{EndsSo}
use Rattle.cwr_decode.proofs.lemmas.CountedItems.{bounded}
use Rattle.cwr_decode.proofs.lemmas.WholeLinesAccepted.{spells_whole, accepts_whole}

abbrev Answer : Type 0
Answer = Result (Option Item) ReadFault

-- ---- what was read so far

pub spent_on : (before left after : Option (List ℕ)) (input : List ℕ) (old new : Standing) → Consumes before left input
    → IfSome before (λ _. IsSpent old left)
    → (IsSpent old left → IfSome left (λ _. IsSpent new after)) → IfSome before (λ _. IsSpent new after)
spent_on None left after input old new lost h on = tt
spent_on (Some xs) None after input old new lost h on = absurd lost
spent_on (Some xs) (Some ys) after input old new lost h on = on h

pub run_reads : (limits : LimitValues) (old new : Standing) (before left after : Option (List ℕ)) (given : List Item)
    (answer : Answer)
    → HasRead limits old before left given → Reads old left answer new after
    → HasRead limits new before after (given ++ items_read answer)
run_reads limits old new before left after given answer h r = record {
  input = h.input ++ r.bytes;
  stands = r.stands h.input given h.stands;
  consumed = Consumes-trans before left after h.input r.bytes h.consumed r.consumed;
  spent = spent_on before left after h.input old new h.consumed h.spent r.input_ended;
  limits_are = r.limits ∙ h.limits_are;
}

right_on : (limits old_limits : LimitValues) (before left : Option (List ℕ)) (input used : List ℕ) (given : List Item)
    (answer : Answer) → old_limits ≡ limits → Consumes before left input
    → IfSome left (λ rest. IsRightOf old_limits answer used (input ++ rest) given)
    → IfSome before (λ text. IsRightOf limits answer used text given)
right_on limits old_limits None left input used given answer same lost h = tt
right_on limits old_limits (Some xs) None input used given answer same lost h = absurd lost
right_on limits old_limits (Some xs) (Some ys) input used given answer same lost h =
    subst (λ (l : LimitValues). IsRightOf l answer used xs given) same
    (subst (λ (t : List ℕ). IsRightOf old_limits answer used t given) (sym lost) h)

pub run_right : (limits : LimitValues) (old new : Standing) (before left after : Option (List ℕ)) (given : List Item)
    (answer : Answer)
    → (h : HasRead limits old before left given) → IsLive old.state → (r : Reads old left answer new after)
    → IfSome before (λ text. IsRightOf limits answer (h.input ++ r.bytes) text (given ++ items_read answer))
run_right limits old new before left after given answer h live r = by before h.consumed h.spent
  where
    by : (b : Option (List ℕ)) → Consumes b left h.input → IfSome b (λ _. IsSpent old left)
        → IfSome b (λ text. IsRightOf limits answer (h.input ++ r.bytes) text (given ++ items_read answer))
    by None lost spent = tt
    by (Some xs) lost spent =
        right_on limits old.tally.limits (Some xs) left h.input (h.input ++ r.bytes) (given ++ items_read answer) answer
        h.limits_are lost
        (r.right live spent h.input given h.stands)

-- nothing was read
pub nothing_read_yet : (limits : LimitValues) (d : Standing) (before now : Option (List ℕ)) → Represents d [] []
    → d.tally.limits ≡ limits → IsLive d.state → d.finished ≡ false → now ≡ before → IsReadingOn limits d before now []
nothing_read_yet limits d before now stands limits_are live fresh same = record {
  read =
      record {
        input = [];
        stands = stands;
        consumed = subst (λ (n : Option (List ℕ)). Consumes before n []) (sym same) (Consumes-nil before);
        spent = by before;
        limits_are = limits_are;
      };
  here = inl live;
}
  where
    by : (b : Option (List ℕ)) → IfSome b (λ _. IsSpent d now)
    by None = tt
    by (Some text) = λ is. absurd (true≢false (sym is ∙ fresh))

-- ---- one call more

-- an ended decoder answers that nothing is left
ended_answer : (state : State) (answer : Answer) (B C : Type 0) → state ≡ states.Ended
    → IfSome (again state) (λ o. (Some answer ≡ answer_of o) × B × C) → answer ≡ Ok None
ended_answer state answer B C e h
    = let reported : Some answer ≡ Some (Ok None) =
    (subst (λ (s : State). IfSome (again s) (λ o. (Some answer ≡ answer_of o) × B × C)) e h).0 in cc reported

here_on : (limits : LimitValues) (state : State) (before : Option (List ℕ)) (used : List ℕ) (given : List Item) (item : Item)
    → LeavesRead (Ok (Some item)) state
    → IfSome before (λ text. IsRightOf limits (Ok (Some item)) used text given)
    → IsLive state ⊎ EndsWhole limits state before (length used) given
here_on limits state before used given items.Ended leaves right = inr (leaves, ended before right)
  where
    ended : (b : Option (List ℕ)) → IfSome b (λ text. IsRightOf limits (Ok (Some items.Ended)) used text given)
        → IfSome b (λ text. EndsSo limits text given (ends.Accepted (length used)))
    ended None h = tt
    ended (Some text) h = h.ends
here_on limits state before used given (items.Opened r) leaves right = inl (ap again leaves)
here_on limits state before used given (items.GroupOpened r) leaves right = inl (ap again leaves)
here_on limits state before used given (items.Transaction t) leaves right = inl (ap again leaves)
here_on limits state before used given (items.GroupClosed r) leaves right = inl (ap again leaves)

pub item_read : (limits : LimitValues) (old new : Standing) (before left after : Option (List ℕ)) (given : List Item)
    (item : Item) (B C : Type 0)
    → IsReadingOn limits old before left given → Reads old left (Ok (Some item)) new after
    → IfSome (again old.state) (λ o. (Some (Ok (Some item)) ≡ answer_of o) × B × C)
    → IsReadingOn limits new before after (given ++ item ∷ [])
unfolding run_reads
item_read limits old new before left after given item B C h r same = record {
  read = run_reads limits old new before left after given (Ok (Some item)) h.read r;
  here = by h.here;
} where
  none_left : (e : old.state ≡ states.Ended) → ⊥
  none_left e =
      let reported : Ok (Some item) ≡ Ok None = ended_answer old.state (Ok (Some item)) B C e same in absurd (cc reported)

  by : IsLive old.state ⊎ EndsWhole limits old.state before (length h.read.input) given
      → IsLive new.state ⊎ EndsWhole limits new.state before (length (h.read.input ++ r.bytes)) (given ++ item ∷ [])
  by (inl live) =
      here_on limits new.state before (h.read.input ++ r.bytes) (given ++ item ∷ []) item r.leaves
      (run_right limits old new before left after given (Ok (Some item)) h.read live r)
  by (inr ended) = absurd (none_left ended.0)

live_not_ended : (state : State) → IsLive state → state ≡ states.Ended → ⊥
live_not_ended state live e = let is : Some outcomes_done ≡ None = sym (ap again e) ∙ live in absurd (cc is)
  where
    outcomes_done : Outcome
    outcomes_done = Rattle.cwr_decode.specs.declared.outcomes.Outcome.TheVariants.Done

pub all_read : (limits : LimitValues) (old : Standing) (before left : Option (List ℕ)) (given : List Item)
    → IsReadingOn limits old before left given → old.state ≡ states.Ended → HasReadAll limits before left given
all_read limits old before left given h e = record { decoder = old; read = h.read; ends = by h.here }
  where
    by : IsLive old.state ⊎ EndsWhole limits old.state before (length h.read.input) given
        → EndsWhole limits old.state before (length h.read.input) given
    by (inl live) = absurd (live_not_ended old.state live e)
    by (inr ended) = ended

pub fault_read : (limits : LimitValues) (old new : Standing) (before left after : Option (List ℕ)) (given : List Item)
    (fault : ReadFault) (B C : Type 0)
    → IsReadingOn limits old before left given → Reads old left (Err fault) new after
    → IfSome (again old.state) (λ o. (Some (Err fault) ≡ answer_of o) × B × C)
    → StopsRun limits fault before after
unfolding run_reads
fault_read limits old new before left after given fault B C h r same = record {
  decoder = new;
  given = given ++ [];
  read = run_reads limits old new before left after given (Err fault) h.read r;
  leaves = r.leaves;
  fresh = λ is. r.fresh (ap (λ (f : ReadFault). Err f) is);
  right = by h.here;
} where
  none_left : (e : old.state ≡ states.Ended) → ⊥
  none_left e = let reported : Err fault ≡ Ok None = ended_answer old.state (Err fault) B C e same in absurd (cc reported)

  by : IsLive old.state ⊎ EndsWhole limits old.state before (length h.read.input) given
      → IfSome before (λ text. IsRightOf limits (Err fault) (h.read.input ++ r.bytes) text (given ++ []))
  by (inl live) = run_right limits old new before left after given (Err fault) h.read live r
  by (inr ended) = absurd (none_left ended.0)

-- ---- all items

pub all_items : (limits : LimitValues) (before now : Option (List ℕ)) (given : List Item) → HasReadAll limits before now given
    → AreItems given
all_items limits before now given h =
    let e = subst (λ (s : State). RepresentsIn s h.decoder h.read.input given) h.ends.0 h.read.stands.here in
    let w = spells_whole h.decoder.tally e.through.lines e.through.records h.read.stands.in_range e.through.read e.whole in
    record { value = w.value; whole = w.whole; given_are = e.through.given_are ∙ w.given }

pub all_taken : (limits : LimitValues) (before now : Option (List ℕ)) (given : List Item) (t : TransmissionValue)
    → HasReadAll limits before now given
    → ((v : TransmissionValue) → IsTransmission v → given ≡ value_items v → t ≡ v) → TakesFront limits before t now
all_taken limits before now given t h same =
    let d : Standing = h.decoder in
    let input : List ℕ = h.read.input in
    let e = subst (λ (s : State). RepresentsIn s d input given) h.ends.0 h.read.stands.here in
    let a =
    accepts_whole d.tally e.through.lines e.through.records d.finished input input [] given h.read.stands.in_range
    e.through.read e.whole e.through.split (sym (append-nil input)) (λ z. refl) e.through.given_are in
    let end = a [] (nothing d.finished) in
    let accepted : IsAccepted d.tally.limits (input ++ []) end.0 (length input) = end.1 in
    let value : t ≡ end.0 = same end.0 accepted.whole end.2 in
    record {
      input = input;
      consumed = h.read.consumed;
      accepted = subst (λ (v : TransmissionValue). IsAccepted limits input v (length input)) (sym value)
          (subst (λ (x : List ℕ). IsAccepted limits x end.0 (length input)) (append-nil input)
          (subst (λ (l : LimitValues). IsAccepted l (input ++ []) end.0 (length input)) h.read.limits_are accepted));
      front = by before now input h.read.consumed h.ends.1;
    }
  where
    nothing : (input_ended : Bool) → MayFollow input_ended []
    nothing false = tt
    nothing true = refl

    by : (b n : Option (List ℕ)) (input : List ℕ) → Consumes b n input
        → IfSome b (λ text. EndsSo limits text given (ends.Accepted (length input)))
        → IfSome b (λ text. IsAccepted limits text t (length input) × (n ≡ Some (drop (length input) text)))
    by None n input lost whole = tt
    by (Some xs) None input lost whole = absurd lost
    by (Some xs) (Some ys) input lost whole = (
      subst (λ (v : TransmissionValue). IsAccepted limits xs v (length input)) (sym (same whole.0 whole.1.whole whole.2)) whole.1,
      ap Some (sym (ap (drop (length input)) lost ∙ drop-append_seam input ys)),
    )

-- where memory for the items was refused
pub memory_stops : (limits : LimitValues) (d : Standing) (before now : Option (List ℕ)) (given : List Item) (item : Item)
    → IsReadingOn limits d before now (given ++ item ∷ []) → StopsReading limits faults.Memory before now
memory_stops limits d before now given item h = inr (refl, by given h.read)
  where
    by : (earlier : List Item) → HasRead limits d before now (earlier ++ item ∷ []) → LacksRoom limits before now
    by [] read = record { decoder = d; first = item; others = []; read = read }
    by (first ∷ others) read = record { decoder = d; first = first; others = others ++ item ∷ []; read = read }

-- where memory for the transmission was refused, which has an item at least
pub whole_lacks_room : (limits : LimitValues) (before now : Option (List ℕ)) (given : List Item)
    → HasReadAll limits before now given → StopsWhole limits faults.Memory before now
whole_lacks_room limits before now given h = inr (refl, inr (record { given = given; all = h }))

-- where memory for the list of all items was refused
pub items_outgrow : (limits : LimitValues) (d : Standing) (before now : Option (List ℕ)) (given : List Item) (item : Item)
    → IsReadingOn limits d before now (given ++ item ∷ []) → Outgrows 16 (length given) (length given + 1)
    → StopsWhole limits faults.Memory before now
items_outgrow limits d before now given item h more =
    inr (refl, inl (record { decoder = d; given = given; item = item; read = h.read; outgrows = more }))

pub of_fault : {X : Type 0} (result : Result X ReadFault) (fault : ReadFault) (P : ReadFault → Type 0)
    → IsErrAnd result (λ e. e ≡ fault) → P fault → IfErr result P
of_fault (Ok x) fault P e h = tt
of_fault (Err f) fault P e h = subst P (sym e) h

-- ---- the same of what a call answered

pub some_read : (limits : LimitValues) (old new : Standing) (before left after : Option (List ℕ)) (given : List Item)
    (reported : Option Item) (item : Item) (B C : Type 0) → reported ≡ Some item
    → IsReadingOn limits old before left given → Reads old left (Ok reported) new after
    → IfSome (again old.state) (λ o. (Some (Ok reported) ≡ answer_of o) × B × C)
    → IsReadingOn limits new before after (given ++ item ∷ [])
some_read limits old new before left after given reported item B C e h r same =
    item_read limits old new before left after given item B C h (subst (λ (t : Option Item). Reads old left (Ok t) new after) e r)
    (subst (λ (t : Option Item). IfSome (again old.state) (λ o. (Some (Ok t) ≡ answer_of o) × B × C)) e same)

-- with that many items more come
pub fewer_left : (limits : LimitValues) (d : Standing) (before now : Option (List ℕ)) (given : List Item)
    → IsReadingOn limits d before now given → length given ≤ 199999998
fewer_left limits d before now given h = (bounded d h.read.input given h.read.stands).0

same_by : (state : State) (B C : Type 0) → state ≡ states.Ended
    → IfSome (again state) (λ o. (Some (Ok None) ≡ answer_of o) × B × C) → B × C
same_by state B C e h =
    let three = subst (λ (s : State). IfSome (again s) (λ o. (Some (Ok None) ≡ answer_of o) × B × C)) e h in (three.1, three.2)

pub none_read : (limits : LimitValues) (old new : Standing) (before left after : Option (List ℕ)) (given : List Item)
    (reported : Option Item) (C : Type 0) → reported ≡ None
    → IsReadingOn limits old before left given → Reads old left (Ok reported) new after
    → IfSome (again old.state) (λ o. (Some (Ok reported) ≡ answer_of o) × (new ≡ old) × C) → (C → after ≡ left)
    → HasReadAll limits before after given
none_read limits old new before left after given reported C e h r same at =
    let ended : old.state ≡ states.Ended = r.none (ap (λ (t : Option Item). Ok t) e) in
    let stays =
    same_by old.state (new ≡ old) C ended
    (subst (λ (t : Option Item). IfSome (again old.state) (λ o. (Some (Ok t) ≡ answer_of o) × (new ≡ old) × C)) e same) in
    subst (λ (a : Option (List ℕ)). HasReadAll limits before a given) (sym (at stays.1))
    (all_read limits old before left given h ended)

-- ---- what follows from how a run ends

take_err : (limits : LimitValues) (used text : List ℕ) (given : List Item) (fault : ReadFault) (v : TransmissionValue) (n : ℕ)
    → IsRightOf limits (Err fault) used text given → IsAccepted limits text v n
    → (fault ≡ faults.Reader) ⊎ (fault ≡ faults.Memory)
take_err limits used text given faults.Reader v n h a = inl refl
take_err limits used text given (faults.Refused refusal) v n h a = absurd (h.ends.unaccepted v n a)
take_err limits used text given (faults.Truncated records) v n h a = absurd (h.ends.unaccepted v n a)
take_err limits used text given faults.Memory v n h a = inr refl

pub reports_accepted : (limits : LimitValues) (before after : Option (List ℕ)) (result : Result TransmissionValue ReadFault)
    → IfOk result (λ t. TakesFront limits before t after) → IfErr result (λ fault. StopsWhole limits fault before after)
    → ReportsAccepted limits before result after
reports_accepted limits None after result h k = tt
reports_accepted limits (Some text) after (Ok t) h k = λ v n a.
    let same = accepted_once limits text t v (length h.input) n h.front.0 a in
    (same.0, h.front.1 ∙ ap (λ (m : ℕ). Some (drop m text)) same.1)
reports_accepted limits (Some text) after (Err fault) h (inl k) =
    λ v n a. take_err limits k.read.input text k.given fault v n k.right a
reports_accepted limits (Some text) after (Err fault) h (inr lacks) = λ v n a. inr lacks.0

pub reports_canonical : (limits : LimitValues) (before after : Option (List ℕ)) (result : Result TransmissionValue ReadFault)
    → ReportsAccepted limits before result after → ReportsCanonical limits before result after
reports_canonical limits before after result h v more whole within e =
    reported result ((subst (λ (o : Option (List ℕ)). ReportsAccepted limits o result after) e h) v (length (canonical_text v))
    (canonical_accepted limits v more whole within))
  where
    reported : (r : Result TransmissionValue ReadFault) → MatchResult r
        (λ t. (t ≡ v) × (after ≡ Some (drop (length (canonical_text v)) (canonical_text v ++ more))))
        (λ fault. (fault ≡ faults.Reader) ⊎ (fault ≡ faults.Memory))
        → MatchResult r (λ t. (t ≡ v) × (after ≡ Some more)) (λ fault. (fault ≡ faults.Reader) ⊎ (fault ≡ faults.Memory))
    reported (Ok t) g = (g.0, g.1 ∙ ap Some (drop-append_seam (canonical_text v) more))
    reported (Err fault) g = g

no_ok : (result : Result TransmissionValue ReadFault) (P : ReadFault → Type 0) (Q : TransmissionValue → Type 0)
    → IsErrAnd result P → IfOk result Q
no_ok (Ok t) P Q h = absurd h
no_ok (Err fault) P Q h = tt

pub reports_stopped : (limits : LimitValues) (before after : Option (List ℕ)) (result : Result TransmissionValue ReadFault)
    (fault : ReadFault)
    → IsErrAnd result (λ e. e ≡ fault) → StopsWhole limits fault before after → ReportsAccepted limits before result after
reports_stopped limits before after result fault e h =
    reports_accepted limits before after result (no_ok result (λ f. f ≡ fault) (λ t. TakesFront limits before t after) e)
    (of_fault result fault (λ f. StopsWhole limits f before after) e h)
