-- What a decoder represents after the end of the input, and with it a last line.
use Rattle.std.proofs.Common.{◌≡◌, ℕ, zero, suc, ◌<◌, Bool, true, false, List, [], ◌∷◌, ◌++◌, length, map, Option, Some, None}
use Rattle.std.proofs.Common.{refl, sym, ap, subst, ◌∙◌, append-nil, arith}
use Rattle.std.specs.Prelude.{◌≢◌, IfSome}
use Rattle.cwr_lines.specs.declared.lines.LineEnd.{LineEnd}
use Rattle.cwr_lines.specs.declared.lines.LineEnd.TheVariants.{Open, Line, Over}
use Rattle.cwr_lines.specs.Format.Lines.{closed}
use Rattle.cwr_shape.specs.Format.Ranges.{LimitValues}
use Rattle.cwr_values.specs.declared.items.Item.{Item}
use Rattle.cwr_values.specs.Format.Values.{symbol_of}
use Rattle.cwr_decode.specs.declared.outcomes.Outcome.{Outcome}
use Rattle.cwr_decode.specs.declared.machine.State.{State}
use Rattle.cwr_decode.specs.declared.machine.State.TheVariants as states
use Rattle.cwr_decode.specs.Steps.Machines.{Standing, IsReady, Judges, ClosesLine, again, end_input}
use Rattle.cwr_decode.specs.Steps.Represents.{Represents, RepresentsIn, IsInput, IsRight, items_out, text_of}
use Rattle.cwr_decode.specs.Steps.Calls.{IsLive, Grows, TakesEnd}
use Rattle.cwr_decode.proofs.lemmas.ClosedTexts.{closed_text, closed_open}
use Rattle.cwr_decode.proofs.lemmas.AfterAcceptedLine.{HasLine}
use Rattle.cwr_decode.proofs.lemmas.AfterLine.{judged_stands, judged_empties}
use Rattle.cwr_decode.proofs.lemmas.StepsWithoutBytes.{if_none, with_answer}
use Rattle.cwr_decode.proofs.lemmas.RightAnswers.{StandsAfterEnd, judged_right}
use Rattle.cwr_decode.proofs.lemmas.AfterBytes.{judged_rest, judged_grows, never_more, judged_last}

-- ---- the end of the input

abbrev pub no_answer : Option Outcome
no_answer = None

-- the bytes of an empty line
pub no_bytes : (xs : List ℕ) → length xs ≡ 0 → xs ≡ []
no_bytes [] q = refl
no_bytes (x ∷ xs) q = absurd (omega (arith, q))

-- what it represents once the input has ended
ended_stands : (d : Standing) (input : List ℕ) (given : List Item) → IsReady d.state d.finished d.line
    → (d.state ≡ states.Reading → length d.line.bytes ≡ 0) → Represents d input given → Represents (end_input d) input given
ended_stands d input given ready empty st = record { in_range = st.in_range; here = by d.state refl st.here }
  where
    -- whole lines stay as they are
    whole_lines : (b : Bool) (lines : List (List ℕ)) → IsInput b input (text_of lines) → closed input ≡ text_of lines
    whole_lines true lines s = s
    whole_lines false lines s = ap closed s ∙ closed_text lines

    by : (s : State) → d.state ≡ s → RepresentsIn s d input given → RepresentsIn s (end_input d) input given
    by states.Reading e h =
        let none : d.line.bytes ≡ [] = no_bytes d.line.bytes (empty e) in
        record {
          lines = h.lines;
          records = h.records;
          read = h.read;
          left = h.left;
          split =
              whole_lines d.finished h.lines (subst (IsInput d.finished input)
              (ap (λ (x : List ℕ). text_of h.lines ++ x) none ∙ append-nil (text_of h.lines)) h.split) ∙ sym (append-nil
              (text_of h.lines)) ∙ ap (λ (x : List ℕ). text_of h.lines ++ x) (sym none);
          open_line = h.open_line;
          line = h.line;
          held = h.held;
          given_are = h.given_are;
        }
    by states.Pending e h =
        record {
          lines = h.lines;
          earlier = h.earlier;
          waits = h.waits;
          records = h.records;
          last = h.last;
          read = h.read;
          split = whole_lines d.finished h.lines h.split;
          ends = h.ends;
          line = h.line;
          held = h.held;
          given_are = h.given_are;
        }
    by states.Ended e h =
        record {
          through = record {
            lines = h.through.lines;
            records = h.through.records;
            read = h.through.read;
            split = whole_lines d.finished h.through.lines h.through.split;
            empty = h.through.empty;
            nothing = h.through.nothing;
            given_are = h.through.given_are;
          };
          whole = h.whole;
        }
    by (states.Refused r) e h = record {
      lines = h.lines;
      records = h.records;
      read = h.read;
      left = h.left;
      line = h.line;
      ended = h.ended;
      is_held = h.is_held;
      input_ended = h.input_ended;
      late = λ q. refl;
      split = h.split;
      none = h.none;
      first = h.first;
      number = h.number;
      level = h.level;
      empty = h.empty;
      held = h.held;
      given_are = h.given_are;
    }
    by (states.Truncated n) e h = record {
      through =
          record {
            lines = h.through.lines;
            records = h.through.records;
            read = h.through.read;
            split = whole_lines d.finished h.through.lines h.through.split;
            empty = h.through.empty;
            nothing = h.through.nothing;
            given_are = h.through.given_are;
          };
      input_ended = refl;
      left = h.left;
      counted = h.counted;
    }
    by states.Memory e h = record {
      through =
          record {
            lines = h.through.lines;
            records = h.through.records;
            read = h.through.read;
            split = whole_lines d.finished h.through.lines h.through.split;
            empty = h.through.empty;
            nothing = h.through.nothing;
            given_are = h.through.given_are;
          };
      inside = h.inside;
      earlier = h.earlier;
      last = h.last;
      opened = h.opened;
      asked = h.asked;
    }

-- no last line is there
pub ends_without : (old new : Standing) → IsReady old.state old.finished old.line → ClosesLine false old new
    → TakesEnd old None new
ends_without old new ready c = subst (TakesEnd old None) (sym c.0) (record {
  carries = record {
    stands = λ input given st. ended_stands old input given ready c.1 st;
    ready = ready_at_input_end old.state ready c.1;
    leaves = tt;
    empties = λ input given st. tt;
    finished = refl;
    limits = refl;
  };
  right = λ input given st. tt;
  last = λ input given st. tt;
  more = λ e. absurd (cc e);
  none = λ l. l;
  waits = λ e. e;
  grows = λ input given st. record { kept = omega arith; memory = λ e. absurd (cc e); item = λ it e. absurd (cc e) };
  stays = all_so (again old.state) (refl, refl);
})
  where
    all_so : {A : Type 0} (q : Option Outcome) → A → IfSome q (λ o. A)
    all_so None a = tt
    all_so (Some p) a = a

    ready_at_input_end : (s : State) → IsReady s old.finished old.line → (s ≡ states.Reading → length old.line.bytes ≡ 0)
        → IsReady s true old.line
    ready_at_input_end states.Reading r e = (r.0, λ q. e refl)
    ready_at_input_end states.Pending r e = r
    ready_at_input_end states.Ended r e = tt
    ready_at_input_end (states.Refused x) r e = tt
    ready_at_input_end (states.Truncated n) r e = tt
    ready_at_input_end states.Memory r e = tt

-- a last line without its line feed is there
last_line : (old new : Standing) (input : List ℕ) (given : List Item) → IsReady old.state old.finished old.line
    → ClosesLine true old new → Represents old input given → HasLine new input given
last_line old new input given ready c st =
    let r = subst (λ (s : State). RepresentsIn s old input given) c.0 st.here in
    let is_open = subst (λ (s : State). IsReady s old.finished old.line) c.0 ready in
    let fresh : old.finished ≡ false = still old.finished (λ f. c.1 (sym (is_open.1 f))) in
    let some : 0 < length old.line.bytes = positive (length old.line.bytes) c.1 in
    let input_is : input ≡ text_of r.lines ++ old.line.bytes =
    subst (λ (b : Bool). IsInput b input (text_of r.lines ++ old.line.bytes)) fresh r.split in
    subst (λ (q : Standing). HasLine q input given) (sym c.2) (record {
      in_range = st.in_range;
      lines = r.lines;
      records = r.records;
      read = r.read;
      left = r.left;
      split = ap closed input_is ∙ closed_open r.lines old.line.bytes r.line.no_lf some;
      ended = λ e. absurd (cc e);
      line = record { no_lf = r.line.no_lf; short = r.line.short; full = tt };
      held = r.held;
      given_are = r.given_are;
    })
  where
    still : (b : Bool) → (b ≡ true → ⊥) → b ≡ false
    still true h = absurd (h refl)
    still false h = refl

    positive : (n : ℕ) → 0 ≢ n → 0 < n
    positive zero h = absurd (h refl)
    positive (suc n) h = omega arith

line_there : (old new : Standing) → ClosesLine true old new → new.line.ended ≡ Line
line_there old new c = ap (λ (q : Standing). q.line.ended) c.2

-- that line is judged
pub ends_with : (old mid new : Standing) (out : Option Outcome) → IsReady old.state old.finished old.line
    → ClosesLine true old mid → Judges mid out new → TakesEnd old out new
ends_with old mid new out ready c j =
    let ended : mid.line.ended ≢ Open = λ e. absurd (not_open (sym (line_there old mid c) ∙ e)) in
    let rest = judged_rest mid new out ended j in
    let finished : mid.finished ≡ true = ap (λ (q : Standing). q.finished) c.2 in
    let limits : mid.tally.limits ≡ old.tally.limits = ap (λ (q : Standing). q.tally.limits) c.2 in
    record {
      carries = record {
        stands =
            λ input given st. subst (Represents new input) (with_answer given out)
            (judged_stands mid input given out new (last_line old mid input given ready c st) j);
        ready = rest.ready;
        leaves = rest.leaves;
        empties = λ input given st. judged_empties mid input given out new (last_line old mid input given ready c st) j;
        finished = rest.finished ∙ finished;
        limits = rest.limits ∙ limits;
      };
      right = λ input given st.
          subst (λ (l : LimitValues). IfSome out (λ o. IsRight l o true input input (given ++ items_out o))) limits
          (subst (λ (x : List ℕ). IfSome out (λ o. IsRight mid.tally.limits o true input x (given ++ items_out o)))
          (append-nil input)
          (judged_right mid true input [] given out new (last_line old mid input given ready c st) finished (λ z. refl)
          (λ z o. absurd (not_ended (sym (line_there old mid c) ∙ o))) (stands_after mid.line.ended (line_there old mid c))
          j));
      last =
          λ input given st. judged_last mid input given out new (last_line old mid input given ready c st) (line_there old mid c)
          ended j;
      more = never_more mid new out ended j;
      none = if_none out (new.state ≡ states.Reading) (IsLive old.state → IsLive new.state) (λ e l. ap again e) rest.none;
      waits =
          if_none out (new.state ≡ states.Reading) (new.state ≡ states.Pending → old.state ≡ states.Pending)
          (λ e p. absurd (reading_waits (sym e ∙ p))) rest.none;
      grows = λ input given st.
          let h = last_line old mid input given ready c st in
          subst (λ (n : ℕ). Grows n out new.tally.counts.records) (ap (λ (q : Standing). q.tally.counts.records) c.2)
          (judged_grows mid new out (map symbol_of h.records) ended h.read.counted j);
      stays = subst (λ (s : State). IfSome (again s) (λ o. (out ≡ None) × (new ≡ end_input old))) (sym c.0) tt;
    }
  where
    not_open : Line ≡ Open → ⊥
    not_open e = cc e

    reading_waits : states.Reading ≡ states.Pending → ⊥
    reading_waits e = cc e

    not_ended : Line ≡ Over → ⊥
    not_ended e = cc e

    stands_after : (e : LineEnd) → e ≡ Line → StandsAfterEnd e []
    stands_after Open e = tt
    stands_after Line e = tt
    stands_after Over e = absurd (cc e)
