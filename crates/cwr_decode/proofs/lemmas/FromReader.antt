-- The bytes of a reader that are fed to a decoder, and what it answers.
use Rattle.std.proofs.Common.{◌≡◌, ℕ, ◌+◌, ◌≤◌, Bool, true, false, List, [], ◌∷◌, ◌++◌, length, take, drop, Option, Some, None}
use Rattle.std.proofs.Common.{refl, sym, ap, subst, ◌∙◌, arith, append_assoc, append-nil, take-append-drop, true≢false, inl, inr}
use Rattle.std.specs.Prelude.{◌⊎◌, Result, Ok, Err, IfSome}
use Rattle.std.proofs.lemmas.List.{length-append, take-append-le}
use Rattle.std.proofs.KnownBytes.{starts_with_rest, Consumes-nil, Consumes-trans}
use Rattle.std.specs.Io.{StartsWith}
use Rattle.std.specs.Io.KnownBytes.{Consumes, Keeps}
use Rattle.cwr_shape.specs.Format.Ranges.{LimitValues}
use Rattle.cwr_values.specs.declared.items.Item.{Item}
use Rattle.cwr_values.specs.declared.items.Item.TheVariants as items
use Rattle.cwr_decode.specs.declared.outcomes.Outcome.{Outcome}
use Rattle.cwr_decode.specs.declared.outcomes.Outcome.TheVariants as outcomes
use Rattle.cwr_decode.specs.declared.machine.State.{State}
use Rattle.cwr_decode.specs.declared.machine.State.TheVariants as states
use Rattle.cwr_decode.specs.declared.readings.ReadFault.{ReadFault}
use Rattle.cwr_decode.specs.declared.readings.ReadFault.TheVariants as faults
use Rattle.cwr_decode.specs.Steps.Machines.{Standing, IsReady, Settles, Leaves, Empties, again}
use Rattle.cwr_decode.specs.Steps.Represents.{Represents, RepresentsSome, IsRight, ComesAt, MayFollow, EndsLine, items_out}
use Rattle.cwr_decode.specs.Format.Headline.{IsEndOf, outcome_end}
use Rattle.cwr_decode.specs.Steps.Calls.{IsLive, RunsOutOfMemory}
use Rattle.cwr_decode.specs.Steps.Readings.{answer_of, items_read, EmptiesRead, EndsLineOf, IsRightOf, LeavesRead, IsSpent}
use Rattle.cwr_decode.specs.Steps.Readings.{FeedsOn, Reads}
use Rattle.cwr_decode.proofs.lemmas.StepsWithoutBytes.{settled}
use Rattle.cwr_decode.proofs.lemmas.AnsweredAtOnce.{settles_live}

abbrev Answer : Type 0
Answer = Result (Option Item) ReadFault

-- ---- bytes that a reader showed and lost

front_taken : (xs piece : List ℕ) (used : ℕ) → StartsWith xs piece → used ≤ length piece → xs ≡ take used piece ++ drop used xs
front_taken xs piece used h within
    = sym (take-append-drop used xs) ∙ ap (λ (l : List ℕ). l ++ drop used xs)
    (ap (take used) (starts_with_rest xs piece h) ∙ take-append-le used piece (drop (length piece) xs) within)

pub consumes_taken : (left mid after : Option (List ℕ)) (piece : List ℕ) (used : ℕ) → Keeps left mid
    → IfSome left (λ xs. StartsWith xs piece) → used ≤ length piece
    → IfSome mid (λ xs. after ≡ Some (drop used xs)) → Consumes left after (take used piece)
consumes_taken None mid after piece used k h within lost = tt
consumes_taken (Some xs) None after piece used k h within lost = absurd k
consumes_taken (Some xs) (Some ys) after piece used k h within lost
    = subst (λ (o : Option (List ℕ)). Consumes (Some xs) o (take used piece)) (sym lost)
    (front_taken xs piece used h within ∙ ap (λ (l : List ℕ). take used piece ++ drop used l) (sym k))

-- ---- what an answer is reported as

items_same : (outcome : Outcome) → IfSome (answer_of outcome) (λ answer. items_read answer ≡ items_out outcome)
items_same outcomes.More = tt
items_same (outcomes.Item item) = refl
items_same (outcomes.Refused refusal) = refl
items_same (outcomes.Truncated records) = refl
items_same outcomes.Memory = refl
items_same outcomes.Done = refl

leaves_same : (outcome : Outcome) (state : State) → Leaves outcome state
    → IfSome (answer_of outcome) (λ answer. LeavesRead answer state)
leaves_same outcomes.More state h = tt
leaves_same (outcomes.Item item) state h = h
leaves_same (outcomes.Refused refusal) state h = h
leaves_same (outcomes.Truncated records) state h = h
leaves_same outcomes.Memory state h = h
leaves_same outcomes.Done state h = h

empties_same : (outcome : Outcome) (d : Standing) → Empties outcome d
    → IfSome (answer_of outcome) (λ answer. EmptiesRead answer d)
empties_same outcomes.More d h = tt
empties_same (outcomes.Item item) d h = h
empties_same (outcomes.Refused refusal) d h = tt
empties_same (outcomes.Truncated records) d h = tt
empties_same outcomes.Memory d h = tt
empties_same outcomes.Done d h = tt

-- nothing is reported only where more is needed
pub needs_more : (outcome : Outcome) → answer_of outcome ≡ None → outcome ≡ outcomes.More
needs_more outcomes.More e = refl
needs_more (outcomes.Item item) e = absurd (cc e)
needs_more (outcomes.Refused refusal) e = absurd (cc e)
needs_more (outcomes.Truncated records) e = absurd (cc e)
needs_more outcomes.Memory e = absurd (cc e)
needs_more outcomes.Done e = absurd (cc e)

-- `Ok(None)` is reported for `Done`
done_only : (outcome : Outcome) → answer_of outcome ≡ Some (Ok None) → outcome ≡ outcomes.Done
done_only outcomes.More e = absurd (cc e)
done_only (outcomes.Item item) e = absurd (cc e)
done_only (outcomes.Refused refusal) e = absurd (cc e)
done_only (outcomes.Truncated records) e = absurd (cc e)
done_only outcomes.Memory e = absurd (cc e)
done_only outcomes.Done e = refl

-- out of memory is reported as it is
memory_only : (outcome : Outcome) → answer_of outcome ≡ Some (Err faults.Memory) → outcome ≡ outcomes.Memory
memory_only outcomes.More e = absurd (cc e)
memory_only (outcomes.Item item) e = absurd (cc e)
memory_only (outcomes.Refused refusal) e = absurd (cc e)
memory_only (outcomes.Truncated records) e = absurd (cc e)
memory_only outcomes.Memory e = refl
memory_only outcomes.Done e = absurd (cc e)

-- no answer of a decoder is reported as a fault of the reader
never_reader : (outcome : Outcome) → answer_of outcome ≡ Some (Err faults.Reader) → ⊥
never_reader outcomes.More e = cc e
never_reader (outcomes.Item item) e = cc e
never_reader (outcomes.Refused refusal) e = cc e
never_reader (outcomes.Truncated records) e = cc e
never_reader outcomes.Memory e = cc e
never_reader outcomes.Done e = cc e

-- where a refused line ends, reported of all of the input
ends_line : (input_ended : Bool) (used seen more text : List ℕ) → text ≡ seen ++ more → MayFollow input_ended more
    → (input_ended ≡ true → used ≡ seen) → EndsLine input_ended used seen → EndsLineOf used text
ends_line false used seen more text split may whole (inl feed) = inl (inl feed)
ends_line false used seen more text split may whole (inr far) = inl (inr (record {
  front = far.front;
  line = far.line;
  next = far.next;
  rest = far.rest ++ more;
  split = far.split;
  longest = far.longest;
  no_lf = far.no_lf;
  more = split ∙ ap (λ (l : List ℕ). l ++ more) far.more ∙ append_assoc used (far.next ∷ far.rest) more;
  other = far.other;
}))
ends_line true used seen more text split may whole h =
    inr (whole refl ∙ sym (append-nil seen) ∙ ap (λ (l : List ℕ). seen ++ l) (sym may) ∙ sym split)

right_same : (limits : LimitValues) (outcome : Outcome) (input_ended : Bool) (used seen more text : List ℕ) (given : List Item)
    → text ≡ seen ++ more → MayFollow input_ended more → (input_ended ≡ true → used ≡ seen)
    → IsRight limits outcome input_ended used seen given
    → IfSome (answer_of outcome) (λ answer. IsRightOf limits answer used text given)
right_same limits outcome input_ended used seen more text given split may whole h = by outcome h.comes ended
  where
    ended : IsEndOf limits text given (outcome_end (length used) outcome)
    ended = subst (λ (t : List ℕ). IsEndOf limits t given (outcome_end (length used) outcome)) (sym split) (h.ends more may)

    by : (o : Outcome) → ComesAt o input_ended used seen → IsEndOf limits text given (outcome_end (length used) o)
        → IfSome (answer_of o) (λ answer. IsRightOf limits answer used text given)
    by outcomes.More c e = tt
    by (outcomes.Item items.Ended) c e = record { ends = e; comes = tt }
    by (outcomes.Item (items.Opened r)) c e = record { ends = tt; comes = tt }
    by (outcomes.Item (items.GroupOpened r)) c e = record { ends = tt; comes = tt }
    by (outcomes.Item (items.Transaction r)) c e = record { ends = tt; comes = tt }
    by (outcomes.Item (items.GroupClosed r)) c e = record { ends = tt; comes = tt }
    by (outcomes.Refused refusal) c e = record { ends = e; comes = ends_line input_ended used seen more text split may whole c }
    by (outcomes.Truncated records) c e = record { ends = e; comes = tt }
    by outcomes.Memory c e = record { ends = tt; comes = tt }
    by outcomes.Done c e = absurd c

-- what answers `Done` had ended
was_ended : (state : State) → IfSome (again state) (λ outcome. outcomes.Done ≡ outcome) → (IsLive state → ⊥)
    → state ≡ states.Ended
was_ended states.Reading h live = absurd (live refl)
was_ended states.Pending h live = absurd (live refl)
was_ended states.Ended h live = refl
was_ended (states.Refused refusal) h live = absurd (cc h)
was_ended (states.Truncated records) h live = absurd (cc h)
was_ended states.Memory h live = absurd (cc h)

-- ---- a call of the decoder

-- bytes were fed, of which the decoder also saw those after them; `input_ended` where the input had ended
pub record Calls (old : Standing) (left : Option (List ℕ)) (outcome : Outcome) (new : Standing) (after : Option (List ℕ)) : Type 0
  where
    pub bytes : List ℕ
    pub ahead : List ℕ
    pub input_ended : Bool
    pub consumed : Consumes left after bytes
    pub stands : (input : List ℕ) (given : List Item) → Represents old input given
        → Represents new (input ++ bytes) (given ++ items_out outcome)
    pub right : IsLive old.state → (input : List ℕ) (given : List Item) → Represents old input given
        → IsRight old.tally.limits outcome input_ended (input ++ bytes) (input ++ ahead) (given ++ items_out outcome)
    pub whole : input_ended ≡ true → bytes ≡ ahead
    pub remains : IsSpent old left → IfSome left (λ rest. (more : List ℕ) × MayFollow input_ended more × (rest ≡ ahead ++ more))
    pub leaves : Leaves outcome new.state
    pub empties : Empties outcome new
    pub again : IfSome (again old.state) (λ o. outcome ≡ o)
    pub memory : outcome ≡ outcomes.Memory → IsLive old.state → RunsOutOfMemory old (length bytes) new
    pub at_end : IsSpent old left → IfSome left (λ _. IsSpent new after)
    pub kept : old.tally.counts.records ≤ new.tally.counts.records
    pub limits : new.tally.limits ≡ old.tally.limits

reported_items : (outcome : Outcome) (answer : Answer) → answer_of outcome ≡ Some answer → items_read answer ≡ items_out outcome
reported_items outcome answer e =
    subst (λ (o : Option Answer). IfSome o (λ a. items_read a ≡ items_out outcome)) e (items_same outcome)

reported_right : (limits : LimitValues) (outcome : Outcome) (answer : Answer) (input_ended : Bool) (used seen : List ℕ)
    (text : Option (List ℕ)) (before : List Item) → answer_of outcome ≡ Some answer
    → IfSome text (λ t. (more : List ℕ) × MayFollow input_ended more × (t ≡ seen ++ more)) → (input_ended ≡ true → used ≡ seen)
    → IsRight limits outcome input_ended used seen (before ++ items_out outcome)
    → IfSome text (λ t. IsRightOf limits answer used t (before ++ items_read answer))
reported_right limits outcome answer input_ended used seen None before e split whole h = tt
reported_right limits outcome answer input_ended used seen (Some text) before e split whole h
    = subst (λ (l : List Item). IsRightOf limits answer used text (before ++ l)) (sym (reported_items outcome answer e))
    (subst (λ (o : Option Answer). IfSome o (λ a. IsRightOf limits a used text (before ++ items_out outcome))) e
    (right_same limits outcome input_ended used seen split.0 text (before ++ items_out outcome) split.2 split.1 whole h))

reported_none : (old : Standing) (outcome : Outcome) (input_ended : Bool) (used seen : List ℕ) (given : List Item)
    → outcome ≡ outcomes.Done → IfSome (again old.state) (λ o. outcome ≡ o)
    → (IsLive old.state → IsRight old.tally.limits outcome input_ended used seen given) → old.state ≡ states.Ended
reported_none old outcome input_ended used seen given e same right
    = was_ended old.state (subst (λ (x : Outcome). IfSome (again old.state) (λ o. x ≡ o)) e same)
    (λ live. (subst (λ (x : Outcome). IsRight old.tally.limits x input_ended used seen given) e (right live)).comes)

pub reads_called : (old : Standing) (left : Option (List ℕ)) (outcome : Outcome) (answer : Answer) (new : Standing)
    (after : Option (List ℕ)) → answer_of outcome ≡ Some answer
    → RepresentsSome old → Calls old left outcome new after → Reads old left answer new after
reads_called old left outcome answer new after e way c = record {
  bytes = c.bytes;
  consumed = c.consumed;
  stands =
      λ input given h. subst (λ (l : List Item). Represents new (input ++ c.bytes) (given ++ l))
      (sym (reported_items outcome answer e)) (c.stands input given h);
  right = λ live spent input given h. rights left input given (c.right live input given h) (c.remains spent);
  leaves = subst (λ (o : Option Answer). IfSome o (λ a. LeavesRead a new.state)) e (leaves_same outcome new.state c.leaves);
  empties = subst (λ (o : Option Answer). IfSome o (λ a. EmptiesRead a new)) e (empties_same outcome new c.empties);
  none =
      λ is. reported_none old outcome c.input_ended (way.input ++ c.bytes) (way.input ++ c.ahead) (way.given ++ items_out outcome)
      (done_only outcome (e ∙ ap (λ (a : Answer). Some a) is)) c.again
      (λ live. c.right live way.input way.given way.stands);
  memory = λ is live. c.memory (memory_only outcome (e ∙ ap (λ (a : Answer). Some a) is)) live;
  input_ended = c.at_end;
  kept = c.kept;
  fresh = λ is. absurd (never_reader outcome (e ∙ ap (λ (a : Answer). Some a) is));
  limits = c.limits;
} where
  rights : (l : Option (List ℕ)) (input : List ℕ) (given : List Item)
      → IsRight old.tally.limits outcome c.input_ended (input ++ c.bytes) (input ++ c.ahead) (given ++ items_out outcome)
      → IfSome l (λ rest. (more : List ℕ) × MayFollow c.input_ended more × (rest ≡ c.ahead ++ more))
      → IfSome l (λ rest. IsRightOf old.tally.limits answer (input ++ c.bytes) (input ++ rest) (given ++ items_read answer))
  rights None input given h remains = tt
  rights (Some rest) input given h remains =
      reported_right old.tally.limits outcome answer c.input_ended (input ++ c.bytes) (input ++ c.ahead) (Some (input ++ rest))
      given e
      (remains.0, remains.1, ap (λ (l : List ℕ). input ++ l) remains.2 ∙ sym (append_assoc input c.ahead remains.0))
      (λ is. ap (λ (l : List ℕ). input ++ l) (c.whole is)) h

-- ---- one call after another

-- after a first call, or before it
pub was_under_way : (d first : Standing) → (d ≡ first) ⊎ RepresentsSome first → RepresentsSome d → RepresentsSome first
was_under_way d first (inl e) way = subst RepresentsSome e way
was_under_way d first (inr was) way = was

not_ended : (d : Standing) (left : Option (List ℕ)) → d.finished ≡ false → IsSpent d left
not_ended d left fresh is = absurd (true≢false (sym is ∙ fresh))

spent_after : (p q r : Option (List ℕ)) (bytes : List ℕ) (d : Standing) → Consumes p q bytes → IfSome q (λ _. IsSpent d r)
    → IfSome p (λ _. IsSpent d r)
spent_after None q r bytes d lost h = tt
spent_after (Some xs) None r bytes d lost h = absurd lost
spent_after (Some xs) (Some ys) r bytes d lost h = h

pub feeds_none : (d : Standing) (left : Option (List ℕ)) → d.state ≡ states.Reading → d.finished ≡ false → FeedsOn 0 d left d left
feeds_none d left reading fresh = record {
  bytes = [];
  count = omega arith;
  consumed = Consumes-nil left;
  stands = λ input given h. subst (λ (l : List ℕ). Represents d l given) (sym (append-nil input)) h;
  live = ap again reading;
  reading = reading;
  fresh = fresh;
  kept = omega arith;
  limits = refl;
}

-- a record that waits is entered, or none does
pub feeds_settled : (d new : Standing) (left : Option (List ℕ)) → IsReady d.state d.finished d.line → d.finished ≡ false
    → Settles d.state d None new → FeedsOn 0 d left new left
feeds_settled d new left ready fresh e =
    let m = settled d.state d new None refl ready e in
    let live = settles_live d.state d new e in
    record {
      bytes = [];
      count = omega arith;
      consumed = Consumes-nil left;
      stands =
          λ input given h. subst (λ (l : List ℕ). Represents new l given) (sym (append-nil input))
          (m.carries.stands input given h);
      live = live;
      reading = m.none live;
      fresh = m.carries.finished ∙ fresh;
      kept = omega (arith, m.counts);
      limits = m.carries.limits;
    }

pub feeds_both : (m n : ℕ) (a : Standing) (p : Option (List ℕ)) (b : Standing) (q : Option (List ℕ)) (c : Standing)
    (r : Option (List ℕ)) → FeedsOn m a p b q → FeedsOn n b q c r → FeedsOn (m + n) a p c r
feeds_both m n a p b q c r f g = record {
  bytes = f.bytes ++ g.bytes;
  count = omega (arith, f.count, g.count, length-append f.bytes g.bytes);
  consumed = Consumes-trans p q r f.bytes g.bytes f.consumed g.consumed;
  stands =
      λ input given h. subst (λ (l : List ℕ). Represents c l given) (append_assoc input f.bytes g.bytes)
      (g.stands (input ++ f.bytes) given (f.stands input given h));
  live = f.live;
  reading = g.reading;
  fresh = g.fresh;
  kept = omega (arith, f.kept, g.kept);
  limits = g.limits ∙ f.limits;
}

-- a decoder that reads is out of memory only with one more record
pub wants_more : (d new : Standing) (used : ℕ) → d.state ≡ states.Reading → RunsOutOfMemory d used new
    → new.tally.counts.records ≤ d.tally.counts.records → ⊥
wants_more d new used reading h few = not_both (sym reading ∙ (h few).0)
  where
    not_both : states.Reading ≡ states.Pending → ⊥
    not_both e = cc e

right_after : (limits after_limits : LimitValues) (answer : Answer) (p q : Option (List ℕ)) (bytes more input : List ℕ)
    (given : List Item) → after_limits ≡ limits → Consumes p q bytes
    → IfSome q (λ rest. IsRightOf after_limits answer ((input ++ bytes) ++ more) ((input ++ bytes) ++ rest) given)
    → IfSome p (λ rest. IsRightOf limits answer (input ++ (bytes ++ more)) (input ++ rest) given)
right_after limits after_limits answer None q bytes more input given same lost h = tt
right_after limits after_limits answer (Some xs) None bytes more input given same lost h = absurd lost
right_after limits after_limits answer (Some xs) (Some ys) bytes more input given same lost h =
    let texts : (input ++ bytes) ++ ys ≡ input ++ xs = append_assoc input bytes ys ∙ ap (λ (l : List ℕ). input ++ l) (sym lost) in
    subst (λ (l : LimitValues). IsRightOf l answer (input ++ (bytes ++ more)) (input ++ xs) given) same
    (subst (λ (l : List ℕ). IsRightOf after_limits answer l (input ++ xs) given) (append_assoc input bytes more)
    (subst (λ (l : List ℕ). IsRightOf after_limits answer ((input ++ bytes) ++ more) l given) texts h))

pub reads_after : (n : ℕ) (answer : Answer) (a : Standing) (p : Option (List ℕ)) (b : Standing) (q : Option (List ℕ))
    (c : Standing) (r : Option (List ℕ)) → FeedsOn n a p b q → Reads b q answer c r → Reads a p answer c r
reads_after n answer a p b q c r f g = record {
  bytes = f.bytes ++ g.bytes;
  consumed = Consumes-trans p q r f.bytes g.bytes f.consumed g.consumed;
  stands =
      λ input given h. subst (λ (l : List ℕ). Represents c l (given ++ items_read answer)) (append_assoc input f.bytes g.bytes)
      (g.stands (input ++ f.bytes) given (f.stands input given h));
  right =
      λ live spent input given h. right_after a.tally.limits b.tally.limits answer p q f.bytes g.bytes input
      (given ++ items_read answer) f.limits f.consumed
      (g.right (ap again f.reading) (not_ended b q f.fresh) (input ++ f.bytes) given (f.stands input given h));
  leaves = g.leaves;
  empties = g.empties;
  none = λ is. absurd (reading_ends (sym f.reading ∙ g.none is));
  memory =
      λ is live few. absurd
      (wants_more b c (length g.bytes) f.reading (g.memory is (ap again f.reading)) (omega (arith, f.kept, few)));
  input_ended = λ spent. spent_after p q r f.bytes c f.consumed (g.input_ended (not_ended b q f.fresh));
  kept = omega (arith, f.kept, g.kept);
  fresh = g.fresh;
  limits = g.limits ∙ f.limits;
} where
  reading_ends : states.Reading ≡ states.Ended → ⊥
  reading_ends e = cc e

-- ---- what is read first
