-- What a decoder represents after a line that is judged: one that is refused too, and a record that waits.
use Rattle.std.proofs.Common.{◌≡◌, ℕ, ◌≤◌, cond, List, [], ◌∷◌, ◌++◌, length, map, Option, Some, None, refl, sym, ap, ap₂, subst}
use Rattle.std.proofs.Common.{◌∙◌, append-nil, arith, inl, inr}
use Rattle.std.specs.Prelude.{IfSome}
use Rattle.std.proofs.lemmas.List.{length-append, length-map}
use Rattle.cwr_lines.specs.declared.lines.LineEnd.TheVariants.{Line}
use Rattle.cwr_lines.specs.Format.Records.{RecordValue}
use Rattle.cwr_lines.specs.Steps.Held.{held_kind, held_record}
use Rattle.cwr_shape.specs.declared.symbols.Symbol.{Symbol}
use Rattle.cwr_shape.specs.declared.reasons.Reason.{Reason}
use Rattle.cwr_shape.specs.declared.tallies.Counts.{Counts}
use Rattle.cwr_shape.specs.Format.Levels.{level_of}
use Rattle.cwr_shape.specs.Format.Ranges.{AreInRange}
use Rattle.cwr_shape.specs.Steps.Tallies as tallies
use Rattle.cwr_shape.specs.Format.NextSymbols.{counts_of, scope_after}
use Rattle.cwr_values.specs.declared.items.Item.{Item}
use Rattle.cwr_values.specs.Format.Values.{symbol_of}
use Rattle.cwr_decode.specs.declared.outcomes.Outcome.{Outcome}
use Rattle.cwr_judge.specs.declared.judging.LineFault.{LineFault}
use Rattle.cwr_decode.specs.declared.machine.State.{State}
use Rattle.cwr_decode.specs.declared.machine.State.TheVariants as states
use Rattle.cwr_fields.specs.Format.Kinds.{is_in_transaction}
use Rattle.cwr_judge.specs.Steps.Judged.{IsOfNone, IsFirstFault}
use Rattle.cwr_decode.specs.Steps.Machines.{Standing, Empties, Refuses, ReportsFault, Judges, EntersHeld, with_refusal, held_list}
use Rattle.cwr_judge.specs.Steps.Open.{item_of}
use Rattle.cwr_decode.specs.Steps.Calls.{RefusesLast}
use Rattle.cwr_decode.specs.Steps.Represents.{IsPending, IsStopped, Represents, RepresentsIn, items_in, items_out}
use Rattle.cwr_judge.proofs.lemmas.EndingRecord.{ends_closes}
use Rattle.cwr_decode.proofs.lemmas.AfterRecord.{MayEnter, enters_stands, enters_empties, few_records}
use Rattle.cwr_decode.proofs.lemmas.AfterAcceptedLine.{HasLine, accept_stands, accept_empties}

-- ---- a refused line

reported_stopped : (d : Standing) (input : List ℕ) (given : List Item) (fault : LineFault) (o : Outcome) (new : Standing)
    → HasLine d input given
    → ((xs : List Symbol) → tallies.IsTallyOf d.tally xs → IsOfNone d.tally.limits xs d.line)
    → ((xs : List Symbol) → tallies.IsTallyOf d.tally xs → IsFirstFault d.tally.limits xs d.line fault.field fault.reason)
    → (t : ReportsFault d (held_kind d.line) fault o new)
    → IsStopped (with_refusal d t.refusal) input (given ++ []) t.refusal
reported_stopped d input given fault o new h none first t =
    let xs : List Symbol = map symbol_of h.records in
    let counts : d.tally.counts ≡ counts_of xs = h.read.counted.counted in
    let count : d.tally.counts.records ≡ length xs = ap (λ (c : Counts). c.records) counts in
    record {
      lines = h.lines;
      records = h.records;
      read = h.read;
      left = h.left;
      line = d.line;
      ended = h.ended;
      is_held = h.line;
      input_ended = d.finished;
      late = λ e. e;
      split = h.split;
      none = none xs h.read.counted;
      first = subst (λ (r : Reason). IsFirstFault d.tally.limits xs d.line t.refusal.field r) (sym t.reason)
          (subst (λ (f : ℕ). IsFirstFault d.tally.limits xs d.line f fault.reason) (sym t.field) (first xs h.read.counted));
      number = omega (arith, t.number, count, length-map h.records symbol_of);
      level =
          t.level xs h.read.counted
          ∙ ap₂ (λ (f : ℕ) (r : Reason). level_of (held_kind d.line) f r (scope_after xs)) (sym t.field) (sym t.reason);
      empty = refl;
      held = h.held;
      given_are = append-nil given ∙ h.given_are;
    }

reported_stands : (d : Standing) (input : List ℕ) (given : List Item) (fault : LineFault) (o : Outcome) (new : Standing)
    → HasLine d input given
    → ((xs : List Symbol) → tallies.IsTallyOf d.tally xs → IsOfNone d.tally.limits xs d.line)
    → ((xs : List Symbol) → tallies.IsTallyOf d.tally xs → IsFirstFault d.tally.limits xs d.line fault.field fault.reason)
    → ReportsFault d (held_kind d.line) fault o new → Represents new input (given ++ items_out o)
reported_stands d input given fault o new h none first t =
    subst (λ (q : Standing). Represents q input (given ++ items_out o)) (sym t.stops)
    (subst (λ (q : Outcome). Represents (with_refusal d t.refusal) input (given ++ items_out q)) (sym t.reported)
    (record { in_range = h.in_range; here = reported_stopped d input given fault o new h none first t }))

-- the refused line is the one that was judged
pub reported_as : (d : Standing) (input : List ℕ) (given : List Item) (fault : LineFault) (o : Outcome) (new : Standing)
    → HasLine d input given
    → ((xs : List Symbol) → tallies.IsTallyOf d.tally xs → IsOfNone d.tally.limits xs d.line)
    → ((xs : List Symbol) → tallies.IsTallyOf d.tally xs → IsFirstFault d.tally.limits xs d.line fault.field fault.reason)
    → (t : ReportsFault d (held_kind d.line) fault o new)
    → (s : IsStopped (with_refusal d t.refusal) input (given ++ []) t.refusal) × (s.line ≡ d.line)
    × (s.input_ended ≡ d.finished)
unfolding reported_stopped
reported_as d input given fault o new h none first t = (reported_stopped d input given fault o new h none first t, refl, refl)

pub reported_last : (d : Standing) (input : List ℕ) (given : List Item) (fault : LineFault) (o : Outcome) (new : Standing)
    → HasLine d input given
    → ((xs : List Symbol) → tallies.IsTallyOf d.tally xs → IsOfNone d.tally.limits xs d.line)
    → ((xs : List Symbol) → tallies.IsTallyOf d.tally xs → IsFirstFault d.tally.limits xs d.line fault.field fault.reason)
    → ReportsFault d (held_kind d.line) fault o new → d.line.ended ≡ Line
    → RefusesLast o new input (given ++ items_out o)
unfolding reported_stopped
reported_last d input given fault o new h none first t whole =
    subst (λ (q : Standing). RefusesLast o q input (given ++ items_out o)) (sym t.stops)
    (subst (λ (q : Outcome). RefusesLast q (with_refusal d t.refusal) input (given ++ items_out q)) (sym t.reported)
    (reported_stopped d input given fault o new h none first t, whole))

refuse_stands : (d : Standing) (input : List ℕ) (given : List Item) (out : Option Outcome) (new : Standing)
    → HasLine d input given → Refuses d out new → Represents new input (given ++ items_in out)
refuse_stands d input given None new h r = absurd r.reports
refuse_stands d input given (Some o) new h r = reported_stands d input given r.fault o new h r.none r.first r.reports

-- what stands after a line that is judged
pub judged_stands : (d : Standing) (input : List ℕ) (given : List Item) (out : Option Outcome) (new : Standing)
    → HasLine d input given → Judges d out new → Represents new input (given ++ items_in out)
judged_stands d input given out new h (inl a) = accept_stands d input given out new h a
judged_stands d input given out new h (inr r) = refuse_stands d input given out new h r

-- what isn't held after a line that is judged
pub judged_empties : (d : Standing) (input : List ℕ) (given : List Item) (out : Option Outcome) (new : Standing)
    → HasLine d input given → Judges d out new → IfSome out (λ o. Empties o new)
judged_empties d input given None new h j = tt
judged_empties d input given (Some o) new h (inl a) = accept_empties d input given (Some o) new h a
judged_empties d input given (Some o) new h (inr r) = subst (λ (q : Outcome). Empties q new) (sym r.reports.reported) tt

-- ---- a record that waits

-- it is entered after the others
waits_in : (d : Standing) (input : List ℕ) (given : List Item) (p : IsPending d input given) → AreInRange d.tally.limits
    → MayEnter d input given p.last.kind p.last
waits_in d input given p in_range =
    let few : length (map symbol_of (p.records ++ p.last ∷ [])) ≤ 99999999 =
    few_records d.tally p.lines (p.records ++ p.last ∷ []) in_range p.read in
    let closes =
    ends_closes p.records p.last p.read.in_order p.read.counted.stands.begins
    (omega (arith, few, length-map (p.records ++ p.last ∷ []) symbol_of, length-append p.records (p.last ∷ []))) p.ends in
    record {
      of_kind = refl;
      in_range = in_range;
      lines = p.lines;
      records = p.records;
      read = p.read;
      split = p.split;
      given_are = ap (λ (is : List Item). is ++ item_of p.last.kind p.last) p.given_are ∙ sym closes.given;
      open_now =
          closes.open_now ∙ ap
          (λ (o : Option (List RecordValue)). cond (is_in_transaction p.last.kind) (held_list o ++ p.last ∷ []) []) (sym p.held);
      none = λ f. p.held;
    }

pub waiting_stands : (d : Standing) (input : List ℕ) (given : List Item) (out : Option Outcome) (new : Standing)
    → d.state ≡ states.Pending → Represents d input given → EntersHeld (held_record d.line) d out new
    → Represents new input (given ++ items_in out)
waiting_stands d input given out new state s e =
    let p = subst (λ (q : State). RepresentsIn q d input given) state s.here in
    enters_stands d input given p.last.kind p.last out new (waits_in d input given p s.in_range)
    (subst (λ (o : Option RecordValue). EntersHeld o d out new) p.line e)

pub waiting_empties : (d : Standing) (input : List ℕ) (given : List Item) (out : Option Outcome) (new : Standing)
    → d.state ≡ states.Pending → Represents d input given → EntersHeld (held_record d.line) d out new
    → IfSome out (λ o. Empties o new)
waiting_empties d input given out new state s e =
    let p = subst (λ (q : State). RepresentsIn q d input given) state s.here in
    enters_empties d input given p.last.kind p.last out new (waits_in d input given p s.in_range)
    (subst (λ (o : Option RecordValue). EntersHeld o d out new) p.line e)
