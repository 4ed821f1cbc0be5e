-- What a decoder answers to bytes of a reader, as what is read.
use Rattle.std.proofs.Common.{◌≡◌, ℕ, zero, suc, ◌≤◌, Bool, true, false, List, [], ◌++◌, length, take, drop, Option, Some, None}
use Rattle.std.proofs.Common.{refl, sym, ap, subst, ◌∙◌, append-nil, arith, true≢false}
use Rattle.std.specs.Prelude.{Result, Err, IfSome, IfNone}
use Rattle.std.proofs.KnownBytes.{starts_with_rest, Consumes-nil, Consumes-kept}
use Rattle.std.proofs.lemmas.List.{length-take-le}
use Rattle.std.specs.Io.{StartsWith}
use Rattle.std.specs.Io.KnownBytes.{Consumes, IsAtEnd, Keeps}
use Rattle.cwr_values.specs.declared.items.Item.{Item}
use Rattle.cwr_decode.specs.declared.outcomes.Outcome.{Outcome}
use Rattle.cwr_decode.specs.declared.outcomes.Outcome.TheVariants as outcomes
use Rattle.cwr_decode.specs.declared.machine.State.{State}
use Rattle.cwr_decode.specs.declared.machine.State.TheVariants as states
use Rattle.cwr_decode.specs.declared.readings.ReadFault.{ReadFault}
use Rattle.cwr_decode.specs.declared.readings.ReadFault.TheVariants as faults
use Rattle.cwr_decode.specs.Steps.Machines.{Standing, Leaves, Empties, again}
use Rattle.cwr_shape.specs.Format.Ranges.{LimitValues}
use Rattle.cwr_decode.specs.Steps.Represents.{Represents, RepresentsSome, IsRight, MayFollow, items_out}
use Rattle.cwr_decode.specs.Steps.Calls.{IsLive, RunsOutOfMemory, seen_input}
use Rattle.cwr_decode.specs.Steps.Readings.{answer_of, IsSpent, FeedsOn, Reads, IsRightOf}
use Rattle.cwr_decode.proofs.lemmas.FromReader.{needs_more, reads_called}

abbrev Answer : Type 0
Answer = Result (Option Item) ReadFault

-- ---- where more is needed

live_by : (state : State) → IfSome (again state) (λ o. outcomes.More ≡ o) → IsLive state
live_by states.Reading h = refl
live_by states.Pending h = refl
live_by states.Ended h = absurd (cc h)
live_by (states.Refused refusal) h = absurd (cc h)
live_by (states.Truncated records) h = absurd (cc h)
live_by states.Memory h = absurd (cc h)

pub feeds_called : (n : ℕ) (old : Standing) (left : Option (List ℕ)) (outcome : Outcome) (new : Standing)
    (after : Option (List ℕ)) (bytes : List ℕ) → answer_of outcome ≡ None
    → n ≤ length bytes → Consumes left after bytes
    → ((input : List ℕ) (given : List Item) → Represents old input given
    → Represents new (input ++ bytes) (given ++ items_out outcome))
    → Leaves outcome new.state → IfSome (again old.state) (λ o. outcome ≡ o) → new.finished ≡ false
    → old.tally.counts.records ≤ new.tally.counts.records → new.tally.limits ≡ old.tally.limits
    → FeedsOn n old left new after
feeds_called n old left outcome new after bytes e count consumed stands leaves same fresh kept limits =
    let more : outcome ≡ outcomes.More = needs_more outcome e in
    record {
      bytes = bytes;
      count = count;
      consumed = consumed;
      stands =
          λ input given h. subst (λ (l : List Item). Represents new (input ++ bytes) l)
          (ap (λ (o : Outcome). given ++ items_out o) more ∙ append-nil given) (stands input given h);
      live = live_by old.state (subst (λ (x : Outcome). IfSome (again old.state) (λ o. x ≡ o)) more same);
      reading = subst (λ (x : Outcome). Leaves x new.state) more leaves;
      fresh = fresh;
      kept = kept;
      limits = limits;
    }

-- ---- an empty piece

take_none : (n : ℕ) → let none : List ℕ = [] in take n none ≡ none
take_none zero = refl
take_none (suc n) = refl

pub keeps_none : (n : ℕ) (left : Option (List ℕ)) → Consumes left left (take n [])
keeps_none n left = subst (Consumes left left) (sym (take_none n)) (Consumes-nil left)

seen_none : (input_ended : Bool) (input : List ℕ) → seen_input input_ended input [] ≡ input ++ []
seen_none false input = refl
seen_none true input = sym (append-nil input)

after_none : (input_ended : Bool) (left : Option (List ℕ)) → (input_ended ≡ true → IsAtEnd left)
    → IfSome left (λ rest. (more : List ℕ) × MayFollow input_ended more × (rest ≡ [] ++ more))
after_none input_ended None h = tt
after_none false (Some rest) h = (rest, tt, refl)
after_none true (Some rest) h = (rest, h refl, refl)

-- out of memory, with the bytes that were used
wants_of : (old new : Standing) (used : ℕ) (piece : List ℕ) → used ≤ length piece → RunsOutOfMemory old used new
    → RunsOutOfMemory old (length (take used piece)) new
wants_of old new used piece within h = subst (λ (n : ℕ). RunsOutOfMemory old n new) (sym (length-take-le used piece within)) h

pub reads_settled : (old new : Standing) (used : ℕ) (outcome : Outcome) (answer : Answer) → answer_of outcome ≡ Some answer
    → used ≤ length {A = ℕ} []
    → ((input : List ℕ) (given : List Item) → Represents old input given
    → Represents new (input ++ take used []) (given ++ items_out outcome))
    → (IsLive old.state → (input : List ℕ) (given : List Item) → Represents old input given → IsRight old.tally.limits outcome
    old.finished (input ++ take used []) (seen_input old.finished input []) (given ++ items_out outcome))
    → Leaves outcome new.state → Empties outcome new → IfSome (again old.state) (λ o. outcome ≡ o)
    → (outcome ≡ outcomes.Memory → IsLive old.state → RunsOutOfMemory old used new)
    → new.finished ≡ old.finished → old.tally.counts.records ≤ new.tally.counts.records → new.tally.limits ≡ old.tally.limits
    → RepresentsSome old → (left : Option (List ℕ))
    → Reads old left answer new left
reads_settled old new used outcome answer e within stands right leaves empties same memory finished kept limits way left =
    reads_called old left outcome answer new left e way (record {
      bytes = take used [];
      ahead = [];
      input_ended = old.finished;
      consumed = keeps_none used left;
      stands = stands;
      right =
          λ live input given h. subst
          (λ (l : List ℕ). IsRight old.tally.limits outcome old.finished (input ++ take used []) l (given ++ items_out outcome))
          (seen_none old.finished input) (right live input given h);
      whole = λ is. take_none used;
      remains = after_none old.finished left;
      leaves = leaves;
      empties = empties;
      again = same;
      memory = λ is live. wants_of old new used [] within (memory is live);
      at_end = λ spent. still_spent left spent;
      kept = kept;
      limits = limits;
    }) where
      still_spent : (l : Option (List ℕ)) → IsSpent old l → IfSome l (λ _. IsSpent new l)
      still_spent None spent = tt
      still_spent (Some xs) spent = λ is. spent (sym finished ∙ is)

-- ---- a piece that the reader showed

after_piece : (left : Option (List ℕ)) (piece : List ℕ) → IfSome left (λ xs. StartsWith xs piece)
    → IfSome left (λ rest. (more : List ℕ) × MayFollow false more × (rest ≡ piece ++ more))
after_piece None piece h = tt
after_piece (Some rest) piece h = (drop (length piece) rest, tt, starts_with_rest rest piece h)

pub reads_fed : (old new : Standing) (left after : Option (List ℕ)) (piece : List ℕ) (used : ℕ) (outcome : Outcome)
    (answer : Answer) → answer_of outcome ≡ Some answer
    → RepresentsSome old → old.finished ≡ false → IfSome left (λ xs. StartsWith xs piece) → used ≤ length piece
    → Consumes left after (take used piece)
    → ((input : List ℕ) (given : List Item) → Represents old input given
    → Represents new (input ++ take used piece) (given ++ items_out outcome))
    → (IsLive old.state → (input : List ℕ) (given : List Item) → Represents old input given → IsRight old.tally.limits outcome
    old.finished (input ++ take used piece) (seen_input old.finished input piece) (given ++ items_out outcome))
    → Leaves outcome new.state → Empties outcome new → IfSome (again old.state) (λ o. outcome ≡ o)
    → (outcome ≡ outcomes.Memory → IsLive old.state → RunsOutOfMemory old used new)
    → new.finished ≡ old.finished → old.tally.counts.records ≤ new.tally.counts.records → new.tally.limits ≡ old.tally.limits
    → Reads old left answer new after
reads_fed old new left after piece used outcome answer e way fresh shown within consumed stands right leaves empties same memory
    finished kept limits =
    reads_called old left outcome answer new after e way (record {
      bytes = take used piece;
      ahead = piece;
      input_ended = false;
      consumed = consumed;
      stands = stands;
      right =
          λ live input given h. subst (λ (b : Bool). IsRight old.tally.limits outcome b (input ++ take used piece)
          (seen_input b input piece) (given ++ items_out outcome)) fresh (right live input given h);
      whole = λ is. absurd (true≢false (sym is));
      remains = λ spent. after_piece left piece shown;
      leaves = leaves;
      empties = empties;
      again = same;
      memory = λ is live. wants_of old new used piece within (memory is live);
      at_end = λ spent. not_ended left;
      kept = kept;
      limits = limits;
    }) where
      not_ended : (l : Option (List ℕ)) → IfSome l (λ _. IsSpent new after)
      not_ended None = tt
      not_ended (Some xs) = λ is. absurd (true≢false (sym is ∙ finished ∙ fresh))

-- ---- the end of the input

after_end : (left : Option (List ℕ)) → IsAtEnd left
    → IfSome left (λ rest. (more : List ℕ) × MayFollow true more × (rest ≡ [] ++ more))
after_end None h = tt
after_end (Some rest) h = (rest, h, refl)

kept_end : (d : Standing) (left after : Option (List ℕ)) → Keeps left after → IsAtEnd left → IfSome left (λ _. IsSpent d after)
kept_end d None after k h = tt
kept_end d (Some xs) None k h = absurd k
kept_end d (Some xs) (Some ys) k h = λ is. k ∙ h

pub at_end : (left : Option (List ℕ)) (piece : List ℕ) → IfSome left (λ xs. length piece ≡ 0 → xs ≡ []) → length piece ≡ 0
    → IsAtEnd left
at_end None piece h e = tt
at_end (Some xs) piece h e = h e

pub reads_finished : (old new : Standing) (left after : Option (List ℕ)) (outcome : Outcome) (answer : Answer)
    → answer_of outcome ≡ Some answer
    → RepresentsSome old → IsAtEnd left → Keeps left after
    → ((input : List ℕ) (given : List Item) → Represents old input given → Represents new input (given ++ items_out outcome))
    → (IsLive old.state → (input : List ℕ) (given : List Item) → Represents old input given
    → IsRight old.tally.limits outcome true input input (given ++ items_out outcome))
    → Leaves outcome new.state → Empties outcome new → IfSome (again old.state) (λ o. outcome ≡ o)
    → (outcome ≡ outcomes.Memory → IsLive old.state → RunsOutOfMemory old 0 new)
    → old.tally.counts.records ≤ new.tally.counts.records → new.tally.limits ≡ old.tally.limits → Reads old left answer new after
reads_finished old new left after outcome answer e way end keeps stands right leaves empties same memory kept limits =
    reads_called old left outcome answer new after e way (record {
      bytes = [];
      ahead = [];
      input_ended = true;
      consumed = Consumes-kept left left after [] (Consumes-nil left) keeps;
      stands =
          λ input given h. subst (λ (l : List ℕ). Represents new l (given ++ items_out outcome)) (sym (append-nil input))
          (stands input given h);
      right =
          λ live input given h. subst (λ (l : List ℕ). IsRight old.tally.limits outcome true l l (given ++ items_out outcome))
          (sym (append-nil input)) (right live input given h);
      whole = λ is. refl;
      remains = λ spent. after_end left end;
      leaves = leaves;
      empties = empties;
      again = same;
      memory = memory;
      at_end = λ spent. kept_end new left after keeps end;
      kept = kept;
      limits = limits;
    })

-- ---- a reader that failed

kept_spent : (d : Standing) (left after : Option (List ℕ)) → Keeps left after → IsSpent d left
    → IfSome left (λ _. IsSpent d after)
kept_spent d None after k h = tt
kept_spent d (Some xs) None k h = absurd k
kept_spent d (Some xs) (Some ys) k h = λ is. k ∙ h is

reader_right : (limits : LimitValues) (left : Option (List ℕ)) (used input : List ℕ) (given : List Item)
    → IfSome left (λ rest. IsRightOf limits (Err faults.Reader) used (input ++ rest) given)
reader_right limits None used input given = tt
reader_right limits (Some rest) used input given = record { ends = tt; comes = tt }

pub reads_failed : (d : Standing) (left after : Option (List ℕ)) → d.state ≡ states.Reading → d.finished ≡ false
    → Keeps left after → Reads d left (Err faults.Reader) d after
reads_failed d left after reading fresh kept = record {
  bytes = [];
  consumed = Consumes-kept left left after [] (Consumes-nil left) kept;
  stands =
      λ input given h. subst (λ (l : List ℕ). Represents d l (given ++ [])) (sym (append-nil input))
      (subst (Represents d input) (sym (append-nil given)) h);
  right = λ live spent input given h. reader_right d.tally.limits left (input ++ []) input (given ++ []);
  leaves = reading;
  empties = tt;
  none = λ is. absurd (cc is);
  memory = λ is. absurd (cc is);
  input_ended = kept_spent d left after kept;
  kept = omega arith;
  fresh = λ is. fresh;
  limits = refl;
}

-- ---- what is reported, if anything is

pub reported_none : (reported : Option Answer) (P : Type 0) → (reported ≡ None → P) → IfNone reported P
reported_none None P h = h refl
reported_none (Some answer) P h = tt

pub reported_some : (reported : Option Answer) (P : Answer → Type 0) → ((answer : Answer) → reported ≡ Some answer → P answer)
    → IfSome reported P
reported_some None P h = tt
reported_some (Some answer) P h = h answer refl

pub same_fed : (o : Option Outcome) (outcome : Outcome) (B C : Type 0) → IfSome o (λ x. (outcome ≡ x) × B × C)
    → IfSome o (λ x. outcome ≡ x)
same_fed None outcome B C h = tt
same_fed (Some x) outcome B C h = h.0

pub same_finished : (o : Option Outcome) (outcome : Outcome) (B : Type 0) → IfSome o (λ x. (outcome ≡ x) × B)
    → IfSome o (λ x. outcome ≡ x)
same_finished None outcome B h = tt
same_finished (Some x) outcome B h = h.0
