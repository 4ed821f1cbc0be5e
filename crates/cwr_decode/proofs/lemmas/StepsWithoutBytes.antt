-- The steps of a decoder: what is left after each, and what its answer says.
use Rattle.std.proofs.Common.{◌≡◌, ℕ, Bool, true, false, List, [], ◌∷◌, ◌++◌, Option, Some, None, refl, sym, ap, subst, ◌∙◌}
use Rattle.std.proofs.Common.{append-nil}
use Rattle.std.specs.Prelude.{◌≢◌, IfSome, IfNone, IsSomeAnd}
use Rattle.cwr_fields.specs.declared.kinds.Kind.{Kind}
use Rattle.cwr_fields.specs.declared.kinds.Kind.TheVariants.{Hdr, Grh, Grt, Trl}
use Rattle.cwr_lines.specs.declared.lines.LineEnd.TheVariants.{Open}
use Rattle.cwr_lines.specs.Format.Records.{RecordValue, IsRecord}
use Rattle.cwr_lines.specs.Steps.Held.{held_record}
use Rattle.cwr_shape.specs.Steps.Tallies.{TallyValue}
use Rattle.cwr_values.specs.declared.items.Item.{Item}
use Rattle.cwr_values.specs.declared.items.Item.TheVariants as items
use Rattle.cwr_decode.specs.declared.outcomes.Outcome.{Outcome}
use Rattle.cwr_decode.specs.declared.outcomes.Outcome.TheVariants as outcomes
use Rattle.cwr_decode.specs.declared.machine.State.{State}
use Rattle.cwr_decode.specs.declared.machine.State.TheVariants as states
use Rattle.cwr_decode.specs.Steps.Machines.{Standing, IsReady, Leaves, Empties, state_after, Enters, EntersHeld}
use Rattle.cwr_decode.specs.Steps.Machines.{EntersTransaction, Follows, Settles, pending, reading, stopped, held_list}
use Rattle.cwr_decode.specs.Steps.Represents.{Represents, items_in}
use Rattle.cwr_decode.specs.Steps.Calls.{CarriesOver, IsLive, Moves, items_with}
use Rattle.cwr_decode.proofs.lemmas.AfterLine.{waiting_stands, waiting_empties}

-- the items with that of an answer
pub with_answer : (given : List Item) (out : Option Outcome) → given ++ items_in out ≡ items_with given out
with_answer given None = append-nil given
with_answer given (Some outcome) = refl

-- ---- what else is left after a step

-- an answer that is an item or out of memory
abbrev pub IsPlain : Outcome → Type 0
IsPlain outcomes.More = ⊥
IsPlain (outcomes.Item item) = Unit {0}
IsPlain (outcomes.Refused refusal) = ⊥
IsPlain (outcomes.Truncated records) = ⊥
IsPlain outcomes.Memory = Unit {0}
IsPlain outcomes.Done = ⊥

pub record Rest (d : Standing) (out : Option Outcome) (new : Standing) : Type 0 where
  pub ready : IsReady new.state new.finished new.line
  pub leaves : IfSome out (λ o. Leaves o new.state)
  pub none : IfNone out (new.state ≡ states.Reading)
  pub finished : new.finished ≡ d.finished
  pub limits : new.tally.limits ≡ d.tally.limits

rest_by : (d new is : Standing) (out o : Option Outcome) → out ≡ o → new ≡ is → Rest d o is → Rest d out new
rest_by d new is out o e f h =
    subst (λ (q : Option Outcome). Rest d q new) (sym e) (subst (λ (q : Standing). Rest d o q) (sym f) h)

reading_rest : (d : Standing) (held : Option (List RecordValue)) (out : Option Outcome)
    → IfSome out (λ o. Leaves o states.Reading) → Rest d out (reading d held)
reading_rest d held None h = record { ready = (refl, λ e. refl); leaves = tt; none = refl; finished = refl; limits = refl }
reading_rest d held (Some o) h = record { ready = (refl, λ e. refl); leaves = h; none = tt; finished = refl; limits = refl }

-- what an accepted record leaves
pub record Entered (d : Standing) (out : Option Outcome) (new : Standing) : Type 0 where
  pub rest : Rest d out new
  pub plain : IfSome out IsPlain
  pub tally : new.tally ≡ d.tally

entered_by : (d new is : Standing) (out o : Option Outcome) → out ≡ o → new ≡ is → Rest d o is → IfSome o IsPlain
    → is.tally ≡ d.tally → Entered d out new
entered_by d new is out o e f h p t =
    record {
      rest = rest_by d new is out o e f h;
      plain = subst (λ (q : Option Outcome). IfSome q IsPlain) (sym e) p;
      tally = ap (λ (q : Standing). q.tally) f ∙ t;
    }

inside_rest : (r : RecordValue) (d : Standing) (out : Option Outcome) (new : Standing) → EntersTransaction r d out new
    → Entered d out new
inside_rest r d None new e =
    entered_by d new (reading d (Some (held_list d.held ++ r ∷ []))) None None refl e
    (reading_rest d (Some (held_list d.held ++ r ∷ [])) None tt) tt refl
inside_rest r d (Some o) new e =
    entered_by d new (stopped d states.Memory) (Some o) (Some outcomes.Memory) (ap (λ (x : Outcome). Some x) e.0) e.1
    (record { ready = tt; leaves = refl; none = tt; finished = refl; limits = refl }) tt refl

item_rest : (item : Item) (d : Standing) (out : Option Outcome) (new : Standing) → states.Reading ≡ state_after item
    → (out ≡ Some (outcomes.Item item)) × (new ≡ reading d d.held) → Entered d out new
item_rest item d out new n e =
    entered_by d new (reading d d.held) out (Some (outcomes.Item item)) e.0 e.1
    (reading_rest d d.held (Some (outcomes.Item item)) n) tt refl

pub enters_rest : (kind : Kind) (r : RecordValue) (d : Standing) (out : Option Outcome) (new : Standing) → Enters kind r d out new
    → Entered d out new
enters_rest Hdr r d out new e = item_rest (items.Opened r) d out new refl e
enters_rest Grh r d out new e = item_rest (items.GroupOpened r) d out new refl e
enters_rest Grt r d out new e = item_rest (items.GroupClosed r) d out new refl e
enters_rest Trl r d out new e =
    entered_by d new (stopped d states.Ended) out (Some (outcomes.Item items.Ended)) e.0 e.1
    (record { ready = tt; leaves = refl; none = tt; finished = refl; limits = refl }) tt refl
enters_rest kind r d out new e = inside_rest r d out new e

pub follows_rest : (continues : Bool) (held : Option (List RecordValue)) (r : RecordValue) (d : Standing) (out : Option Outcome)
    (new : Standing) → d.line.ended ≢ Open → held_record d.line ≡ Some r → IsRecord r
    → Follows continues held r d out new → Entered d out new
follows_rest true held r d out new o l i e = enters_rest r.kind r d out new e
follows_rest false None r d out new o l i e = enters_rest r.kind r d out new e
follows_rest false (Some whole) r d out new o l i e =
    entered_by d new (pending d) out (Some (outcomes.Item (items.Transaction whole))) e.0 e.1
    (record {
      ready = record { ended = o; carries = subst (λ (q : Option RecordValue). IsSomeAnd q IsRecord) (sym l) i };
      leaves = refl;
      none = tt;
      finished = refl;
      limits = refl;
    }) tt refl

-- ---- what is carried over

-- one part of a call goes after another that answered nothing
pub carried_both : (old mid new : Standing) (f g : List ℕ → List ℕ) (was is : Bool) (out : Option Outcome)
    → CarriesOver old f None was mid → CarriesOver mid g out is new → CarriesOver old (λ input. g (f input)) out is new
carried_both old mid new f g was is out one two = record {
  stands = λ input given st. two.stands (f input) given (one.stands input given st);
  ready = two.ready;
  leaves = two.leaves;
  empties = λ input given st. two.empties (f input) given (one.stands input given st);
  finished = two.finished;
  limits = two.limits ∙ one.limits;
}

-- the same, where the input is put otherwise
pub carried_same : (old new : Standing) (f g : List ℕ → List ℕ) (was is : Bool) (out : Option Outcome)
    → ((input : List ℕ) → f input ≡ g input) → was ≡ is → CarriesOver old f out was new → CarriesOver old g out is new
carried_same old new f g was is out same end one = record {
  stands = λ input given st. subst (λ (x : List ℕ). Represents new x (items_with given out)) (same input) (one.stands input given st);
  ready = one.ready;
  leaves = one.leaves;
  empties = one.empties;
  finished = one.finished ∙ end;
  limits = one.limits;
}

-- ---- what is answered without a further byte

kept : (d new : Standing) (out o : Option Outcome) → IsReady d.state d.finished d.line → IfSome o (λ x. Leaves x d.state)
    → IfNone o (IsLive d.state → d.state ≡ states.Reading) → IfSome o (λ x. Empties x d) → items_in o ≡ [] → out ≡ o → new ≡ d
    → Moves d out new
kept d new out o ready leaves none empties nothing e f =
    subst (λ (q : Option Outcome). Moves d q new) (sym e) (subst (λ (q : Standing). Moves d o q) (sym f) (record {
      carries = record {
        stands =
            λ input given s. subst (Represents d input)
            (sym (append-nil given) ∙ ap (λ (is : List Item). given ++ is) (sym nothing) ∙ with_answer given o) s;
        ready = ready;
        leaves = leaves;
        empties = λ input given s. empties;
        finished = refl;
        limits = refl;
      };
      none = none;
      counts = refl;
    }))

pub if_none : (o : Option Outcome) (A B : Type 0) → (A → B) → IfNone o A → IfNone o B
if_none None A B f h = f h
if_none (Some x) A B f h = tt

waited : (d new : Standing) (out : Option Outcome) (held : Option RecordValue) → held ≡ held_record d.line
    → d.state ≡ states.Pending → EntersHeld held d out new → Moves d out new
waited d new out None l st e = absurd e
waited d new out (Some r) l st e =
    let entered = enters_rest r.kind r d out new e in
    let rest = entered.rest in
    record {
      carries = record {
        stands =
            λ input given s. subst (Represents new input) (with_answer given out)
            (waiting_stands d input given out new st s (subst (λ (q : Option RecordValue). EntersHeld q d out new) l e));
        ready = rest.ready;
        leaves = rest.leaves;
        empties =
            λ input given s. waiting_empties d input given out new st s
            (subst (λ (q : Option RecordValue). EntersHeld q d out new) l e);
        finished = rest.finished;
        limits = rest.limits;
      };
      none = if_none out (new.state ≡ states.Reading) (IsLive d.state → new.state ≡ states.Reading) (λ h x. h) rest.none;
      counts = ap (λ (t : TallyValue). t.counts.records) entered.tally;
    }

pub settled : (st : State) (d new : Standing) (out : Option Outcome) → d.state ≡ st → IsReady d.state d.finished d.line
    → Settles st d out new → Moves d out new
settled states.Reading d new out s ready e = kept d new out None ready tt (λ x. s) tt refl e.0 e.1
settled states.Pending d new out s ready e = waited d new out (held_record d.line) refl s e
settled states.Ended d new out s ready e = kept d new out (Some outcomes.Done) ready s tt tt refl e.0 e.1
settled (states.Refused refusal) d new out s ready e = kept d new out (Some (outcomes.Refused refusal)) ready s tt tt refl e.0 e.1
settled (states.Truncated records) d new out s ready e =
    kept d new out (Some (outcomes.Truncated records)) ready s tt tt refl e.0 e.1
settled states.Memory d new out s ready e = kept d new out (Some outcomes.Memory) ready s tt tt refl e.0 e.1
