-- Where all inputs are accepted, and joined to a transmission within the limits, a join stops only where a device or memory failed.
use Rattle.std.proofs.Common.{◌≡◌, ℕ, Bool, List, [], ◌∷◌, ◌++◌, length, drop, map, Option, Some, None, refl, sym, ap, subst, ◌∙◌}
use Rattle.std.proofs.Common.{append_assoc}
use Rattle.std.specs.Prelude.{Result, Ok, Err, IfSome, filter}
use Rattle.std.specs.List.{AllByRecursion, AllZip, flat_map}
use Rattle.std.specs.Io.KnownBytes.{Appends, Consumes}
use Rattle.std.proofs.lemmas.Grind.{flat_map-append}
use Rattle.std.proofs.lemmas.List.Elements.{filter-append}
use Rattle.cwr_shape.specs.declared.limits.Limits.{Limits}
use Rattle.cwr_shape.specs.declared.limits.LimitKind.{LimitKind}
use Rattle.cwr_shape.specs.Format.Outlines.{Continues, IsWithin}
use Rattle.cwr_shape.specs.Format.Ranges.{LimitValues}
use Rattle.cwr_values.specs.declared.items.Item.{Item}
use Rattle.cwr_values.specs.declared.items.Item.TheVariants.{Opened, Ended}
use Rattle.cwr_values.specs.Format.Values.{GroupValue, TransmissionValue, FitsIn, IsTransmission, symbol_of}
use Rattle.cwr_values.specs.Format.Rows.{canonical_text}
use Rattle.cwr_judge.specs.Format.Ends.{IsAccepted}
use Rattle.cwr_judge.specs.Format.Items.{group_items, records_in, value_items}
use Rattle.cwr_judge.proofs.lemmas.Accepted.{accepted_once}
use Rattle.cwr_decode.specs.declared.readings.ReadFault.TheVariants as read_faults
use Rattle.cwr_decode.specs.Steps.Machines.{Standing}
use Rattle.cwr_decode.specs.Steps.Readings.{IsRightOf, IsSpent}
use Rattle.cwr_decode.specs.Format.Runs.{TakesFront}
use Rattle.cwr_decode.specs.Steps.Runs.{HasRead}
use Rattle.cwr_decode.proofs.lemmas.ItemsOfAccepted.{items_of_accepted}
use Rattle.cwr_tools.specs.declared.verdicts.JoinFault.{JoinFault}
use Rattle.cwr_tools.specs.declared.verdicts.JoinReport.{JoinReport}
use Rattle.cwr_tools.specs.declared.verdicts.ToolFault.{ToolFault}
use Rattle.cwr_tools.specs.declared.verdicts.ToolFault.TheVariants.{Reader, Writer, Memory, Refused, Truncated, Limit, Output}
use Rattle.cwr_parts.specs.Format.Joins.{AreJoined, HasInput, IsOfDevice, JoinsAccepted, TakeInputs, is_first, is_joined}
use Rattle.cwr_parts.specs.Format.Joins.{join_report, joined_inputs, joined_items, joined_records}
use Rattle.cwr_parts.specs.Steps.Joins.{Joins, PassesLimit, StopsBy}
use Rattle.cwr_parts.proofs.lemmas.BegunTransmissions.{begins_within, never_barred}
use Rattle.cwr_parts.proofs.lemmas.ItemsAdded.{records_in-append, records_in_value}
use Rattle.cwr_parts.proofs.lemmas.JoinedItems.{joined_all, joined_whole, next_joined}

-- ---- the same inputs

pub same_input : {R : Type 0} (limits : Limits) (remaining : R → Option (List ℕ)) (hand left : R) (v w : TransmissionValue)
    → TakesFront limits (remaining hand) v (remaining left) → HasInput limits remaining hand w → v ≡ w
same_input limits remaining hand left v w t h = by (remaining hand) t.front h.2
  where
    by : (before : Option (List ℕ))
        → IfSome before (λ text. IsAccepted limits text v (length t.input) × (remaining left ≡ Some (drop (length t.input) text)))
        → before ≡ Some h.0 → v ≡ w
    by None front e = absurd (cc e)
    by (Some text) front e =
        let same : text ≡ h.0 = cc e in
        (accepted_once limits text v w (length t.input) h.1 front.0
        (subst (λ (l : List ℕ). IsAccepted limits l w h.1) (sym same) h.3)).0

same_inputs : {R : Type 0} (limits : Limits) (remaining : R → Option (List ℕ)) (failures : R → ℕ) (olds : List R)
    (vs ws : List TransmissionValue) (news : List R) → TakeInputs limits remaining failures olds vs news
    → AllZip (HasInput limits remaining) olds ws → vs ≡ ws
same_inputs limits remaining failures [] [] [] [] h k = refl
same_inputs limits remaining failures (o ∷ olds) (v ∷ vs) (w ∷ ws) (n ∷ news) h k =
    let first = same_input limits remaining o n v w h.0.takes k.0 in
    let others = same_inputs limits remaining failures olds vs ws news h.1 k.1 in
    λ i. first i ∷ others i
same_inputs limits remaining failures [] [] (w ∷ ws) [] h k = absurd k
same_inputs limits remaining failures (o ∷ olds) (v ∷ vs) [] (n ∷ news) h k = absurd k
same_inputs limits remaining failures olds vs ws news h k = absurd h

same_join : (ws : List TransmissionValue) (u w : TransmissionValue) → AreJoined ws u → AreJoined ws w → u ≡ w
same_join [] u w h k = absurd h
same_join (v ∷ others) u w h k = h ∙ sym k

have_whole : {R : Type 0} (limits : Limits) (remaining : R → Option (List ℕ)) (readers : List R) (ws : List TransmissionValue)
    → AllZip (HasInput limits remaining) readers ws → AllByRecursion IsTransmission ws
have_whole limits remaining [] [] h = tt
have_whole limits remaining (r ∷ readers) (w ∷ ws) h = (h.0.3.whole, have_whole limits remaining readers ws h.1)
have_whole limits remaining [] (w ∷ ws) h = absurd h
have_whole limits remaining (r ∷ readers) [] h = absurd h

-- the inputs before the one in hand, its own, and those after it
record AreParted {R : Type 0} (limits : Limits) (remaining : R → Option (List ℕ)) (earlier : List R) (hand : R)
    (ws : List TransmissionValue) : Type 0 where
  before : List TransmissionValue
  own : TransmissionValue
  after : List TransmissionValue
  split : ws ≡ before ++ own ∷ after
  have_before : AllZip (HasInput limits remaining) earlier before
  has_own : HasInput limits remaining hand own

parted : {R : Type 0} (limits : Limits) (remaining : R → Option (List ℕ)) (earlier : List R) (hand : R) (later : List R)
    (ws : List TransmissionValue) → AllZip (HasInput limits remaining) (earlier ++ hand ∷ later) ws
    → AreParted limits remaining earlier hand ws
parted limits remaining [] hand later (w ∷ ws) h =
    record { before = []; own = w; after = ws; split = refl; have_before = tt; has_own = h.0 }
parted limits remaining (o ∷ earlier) hand later (w ∷ ws) h =
    let p = parted limits remaining earlier hand later ws h.1 in
    record {
      before = w ∷ p.before;
      own = p.own;
      after = p.after;
      split = ap (λ (l : List TransmissionValue). w ∷ l) p.split;
      have_before = (h.0, p.have_before);
      has_own = p.has_own;
    }
parted limits remaining [] hand later [] h = absurd h
parted limits remaining (o ∷ earlier) hand later [] h = absurd h

-- ---- no refusal

not_refused : {P : Type 0} (limits : Limits) (before : Option (List ℕ)) (v : TransmissionValue) (text : List ℕ) (n : ℕ)
    (Q : List ℕ → Type 0) → before ≡ Some text → IsAccepted limits text v n
    → ((text : List ℕ) → Q text → IsAccepted limits text v n → ⊥)
    → IfSome before Q → P
not_refused limits None v text n Q e a never h = absurd (cc e)
not_refused limits (Some other) v text n Q e a never h =
    let same : other ≡ text = cc e in
    absurd (never other h (subst (λ (l : List ℕ). IsAccepted limits l v n) (sym same) a))

-- ---- no limit

-- items that were handed out of an accepted text begin its transmission's
own_begins : (limits : Limits) (d : Standing) (before now : Option (List ℕ)) (given : List Item) (own : TransmissionValue)
    (text : List ℕ) (n : ℕ) → HasRead limits d before now given → before ≡ Some text → IsAccepted limits text own n
    → (rest : List Item) × (value_items own ≡ given ++ rest)
own_begins limits d before now given own text n h e a = by before now h.consumed h.spent e
  where
    by : (b m : Option (List ℕ)) → Consumes b m h.input → IfSome b (λ _. IsSpent d m) → b ≡ Some text
        → (rest : List Item) × (value_items own ≡ given ++ rest)
    by None m lost spent e = absurd (cc e)
    by (Some xs) None lost spent e = absurd lost
    by (Some xs) (Some ys) lost spent e =
        let same : xs ≡ text = cc e in
        items_of_accepted d h.input ys given own n h.stands spent
        (subst (λ (l : LimitValues). IsAccepted l (h.input ++ ys) own n) (sym h.limits_are)
        (subst (λ (l : List ℕ). IsAccepted limits l own n) (sym same ∙ lost) a))

more_joined : (v : TransmissionValue) (others more : List TransmissionValue)
    → (rest : List Item) × (joined_inputs (v ∷ others ++ more) ≡ joined_inputs (v ∷ others) ++ rest)
more_joined v others more =
    let groups : TransmissionValue → List GroupValue = λ w. w.groups in
    let first : List GroupValue = flat_map groups (v ∷ others) in
    let second : List GroupValue = flat_map groups more in (
      flat_map group_items second,
      ap (λ (l : List Item). Opened v.opening ∷ l)
          (ap (flat_map group_items) (flat_map-append groups (v ∷ others) more) ∙ flat_map-append group_items first second),
    )

-- the items of the inputs up to one begin those of all
first_joined : (before : List TransmissionValue) (own : TransmissionValue) (after : List TransmissionValue)
    → (rest : List Item) × (joined_inputs (before ++ own ∷ after) ≡ joined_items before (value_items own) ++ rest)
first_joined [] own after = let m = more_joined own [] after in (m.0, m.1 ∙ ap (λ (l : List Item). l ++ m.0) (next_joined [] own))
first_joined (v ∷ others) own after =
    let m = more_joined v (others ++ own ∷ []) after in
    let parts : (others ++ own ∷ []) ++ after ≡ others ++ own ∷ after = append_assoc others (own ∷ []) after in (
      m.0,
      ap (λ (l : List TransmissionValue). joined_inputs (v ∷ l)) (sym parts) ∙ m.1
          ∙ ap (λ (l : List Item). l ++ m.0) (next_joined (v ∷ others) own),
    )

-- so their records continue within the limits
within_joined : (limits : Limits) (before : List TransmissionValue) (own : TransmissionValue) (after : List TransmissionValue)
    (joined : TransmissionValue) (given rest : List Item) → IsTransmission joined → FitsIn limits joined
    → AreJoined (before ++ own ∷ after) joined → value_items own ≡ given ++ rest
    → Continues (IsWithin limits) (map symbol_of (joined_records before given))
within_joined limits before own after joined given rest whole fits e own_is =
    let f = first_joined before own after in
    let test : Item → Bool = is_joined (is_first before) in
    let more : List Item = (filter test rest ++ f.0) ++ Ended ∷ [] in
    let parts : joined_items before (value_items own) ≡ joined_items before given ++ filter test rest
    = ap (joined_items before) own_is ∙ ap (λ (l : List Item). joined_inputs before ++ l) (filter-append test given rest)
    ∙ sym (append_assoc (joined_inputs before) (filter test given) (filter test rest)) in
    let split : value_items joined ≡ joined_items before given ++ more
    = joined_all (before ++ own ∷ after) joined e
    ∙ ap (λ (l : List Item). l ++ Ended ∷ [])
    (f.1 ∙ ap (λ (l : List Item). l ++ f.0) parts ∙ append_assoc (joined_items before given) (filter test rest) f.0)
    ∙ append_assoc (joined_items before given) (filter test rest ++ f.0) (Ended ∷ []) in
    begins_within limits joined (joined_records before given) (records_in more) whole fits
    (sym (records_in_value joined) ∙ ap records_in split ∙ records_in-append (joined_items before given) more)

not_limited : {P R W : Type 0} (limits : Limits) (limit : LimitKind) (contents : W → Option (List ℕ))
    (remaining : R → Option (List ℕ)) (earlier : List R) (hand : R) (after : Option (List ℕ)) (old new : W)
    (ws : List TransmissionValue)
    (joined : TransmissionValue) (p : AreParted limits remaining earlier hand ws) → IsTransmission joined → AreJoined ws joined
    → FitsIn limits joined → PassesLimit limits limit contents p.before (remaining hand) after old new → P
not_limited limits limit contents remaining earlier hand after old new ws joined p whole e fits h =
    let given : List Item = h.given ++ h.item ∷ [] in
    let own =
    own_begins limits h.handed_out.0 (remaining hand) after given p.own p.has_own.0 p.has_own.1 h.handed_out.1.read p.has_own.2
    p.has_own.3 in
    let all : AreJoined (p.before ++ p.own ∷ p.after) joined =
    subst (λ (l : List TransmissionValue). AreJoined l joined) p.split e in
    absurd (never_barred limits (map symbol_of (joined_records p.before given)) limit
    (within_joined limits p.before p.own p.after joined given own.0 whole fits all own.1) h.barred)

-- ---- the answers

stops_of_device : {R W : Type 0} (limits : Limits) (contents : W → Option (List ℕ)) (remaining : R → Option (List ℕ))
    (earlier : List R) (hand : R) (after : Option (List ℕ)) (later : List R) (old new : W) (ws : List TransmissionValue)
    (joined : TransmissionValue) (fault : ToolFault) (p : AreParted limits remaining earlier hand ws) → IsTransmission joined
    → AreJoined ws joined → FitsIn limits joined
    → StopsBy limits fault contents p.before (remaining hand) after later old new → IsOfDevice fault
stops_of_device limits contents remaining earlier hand after later old new ws joined Reader p whole e fits h = tt
stops_of_device limits contents remaining earlier hand after later old new ws joined Memory p whole e fits h = tt
stops_of_device limits contents remaining earlier hand after later old new ws joined (Writer n) p whole e fits h = tt
stops_of_device limits contents remaining earlier hand after later old new ws joined (Refused refusal) p whole e fits h =
    let s = h.stops.0 in
    not_refused limits (remaining hand) p.own p.has_own.0 p.has_own.1
    (λ text. IsRightOf limits (Err (read_faults.Refused refusal)) s.read.input text s.given) p.has_own.2 p.has_own.3
    (λ text r a. r.ends.unaccepted p.own p.has_own.1 a) s.right
stops_of_device limits contents remaining earlier hand after later old new ws joined (Truncated records) p whole e fits h =
    let s = h.stops.0 in
    not_refused limits (remaining hand) p.own p.has_own.0 p.has_own.1
    (λ text. IsRightOf limits (Err (read_faults.Truncated records)) s.read.input text s.given) p.has_own.2 p.has_own.3
    (λ text r a. r.ends.unaccepted p.own p.has_own.1 a) s.right
stops_of_device limits contents remaining earlier hand after later old new ws joined (Limit limit) p whole e fits h =
    not_limited limits limit contents remaining earlier hand after old new ws joined p whole e fits h
stops_of_device limits contents remaining earlier hand after later old new ws joined Output p whole e fits h = absurd h

pub joins_accepted : {R W : Type 0} (limits : Limits) (remaining : R → Option (List ℕ)) (failures : R → ℕ)
    (contents : W → Option (List ℕ)) (before after : List R) (old new : W) (result : Result JoinReport JoinFault)
    → Joins limits remaining failures contents before after old new result
    → JoinsAccepted limits remaining contents before old new result
joins_accepted limits remaining failures contents before after old new (Ok report) h ws joined k e fits =
    let same = same_inputs limits remaining failures before h.inputs ws after h.taken k in
    let one = same_join ws h.joined joined (subst (λ (l : List TransmissionValue). AreJoined l h.joined) same h.joined_of) e in (
      h.reported ∙ ap (join_report (length before)) one,
      subst (λ (v : TransmissionValue). Appends (contents old) (contents new) (canonical_text v)) one h.written,
    )
joins_accepted {W = W} limits remaining failures contents before after old new (Err stopped) h ws joined k e fits =
    let p =
    parted limits remaining h.earlier h.hand h.later ws
    (subst (λ (l : List _). AllZip (HasInput limits remaining) l ws) h.before_are k) in
    let same = same_inputs limits remaining failures h.earlier h.inputs p.before h.finished h.taken p.have_before in
    stops_of_device limits contents remaining h.earlier h.hand (remaining h.left) h.later old new ws joined stopped.fault p
    (joined_whole ws joined (have_whole limits remaining before ws k) e) e fits
    (subst (λ (l : List TransmissionValue). StopsBy {W = W} limits stopped.fault contents l (remaining h.hand) (remaining h.left)
    h.later old new) same h.stops)
