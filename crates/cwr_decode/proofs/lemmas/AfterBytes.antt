-- What a decoder represents after bytes of a piece, up to the end of a line.
use Rattle.std.proofs.Common.{◌≡◌, ℕ, zero, suc, ◌<◌, Bool, false, List, [], ◌∷◌, ◌++◌, length, take, drop, map, Option, Some}
use Rattle.std.proofs.Common.{None, refl, sym, ap, subst, ◌∙◌, append_assoc, append-nil, arith, inl, inr, true≢false}
use Rattle.std.specs.Prelude.{◌≢◌, IfSome, IfNone, slice_index}
use Rattle.std.proofs.Math.Seq.{take-length}
use Rattle.std.proofs.lemmas.List.{length-append, take-append-drop}
use Rattle.cwr_lines.specs.declared.lines.LineEnd.{LineEnd}
use Rattle.cwr_lines.specs.declared.lines.LineEnd.TheVariants.{Open, Line, Over}
use Rattle.cwr_lines.specs.Steps.Held.{HeldLine, IsHeld, Takes, Stops, held_text, text_by}
use Rattle.cwr_shape.specs.declared.symbols.Symbol.{Symbol}
use Rattle.cwr_shape.specs.declared.tallies.Counts.{Counts}
use Rattle.cwr_shape.specs.Format.Ranges.{LimitValues}
use Rattle.cwr_shape.specs.Steps.Tallies as tallies
use Rattle.cwr_shape.specs.Steps.Tallies.{TallyValue}
use Rattle.cwr_lines.specs.Format.Records.{RecordValue}
use Rattle.cwr_values.specs.declared.items.Item.{Item}
use Rattle.cwr_values.specs.declared.items.Item.TheVariants as items
use Rattle.cwr_values.specs.Format.Values.{symbol_of}
use Rattle.cwr_decode.specs.declared.outcomes.Outcome.{Outcome}
use Rattle.cwr_decode.specs.declared.outcomes.Outcome.TheVariants as outcomes
use Rattle.cwr_decode.specs.declared.machine.State.{State}
use Rattle.cwr_decode.specs.declared.machine.State.TheVariants as states
use Rattle.cwr_decode.specs.Steps.Machines.{Accepts, Standing, IsReady, Judges, JudgesFront, with_line, with_refusal, with_tally}
use Rattle.cwr_decode.specs.Steps.Represents.{Represents, RepresentsIn, IsReading, IsInput, IsRight, items_out, text_of}
use Rattle.cwr_decode.specs.Steps.Calls.{RefusesLast, Advances, Grows}
use Rattle.cwr_decode.proofs.lemmas.AfterAcceptedLine.{HasLine, never_too_long}
use Rattle.cwr_decode.proofs.lemmas.AfterLine.{reported_last, judged_stands, judged_empties}
use Rattle.cwr_decode.proofs.lemmas.StepsWithoutBytes.{IsPlain, Rest, follows_rest, with_answer}
use Rattle.cwr_decode.proofs.lemmas.RightAnswers.{StandsAfterEnd, judged_right}

-- ---- bytes that are taken

-- the bytes so far, and those that were used
taken_text : (d : Standing) (input : List ℕ) (given : List Item) (piece : List ℕ) (used : ℕ) (line : HeldLine)
    (r : IsReading d input given) → d.finished ≡ false → Takes d.line piece used line
    → input ++ take used piece ≡ text_of r.lines ++ held_text line
taken_text d input given piece used line r fresh t =
    ap (λ (x : List ℕ). x ++ take used piece)
    (subst (λ (b : Bool). IsInput b input (text_of r.lines ++ d.line.bytes)) fresh r.split)
    ∙ append_assoc (text_of r.lines) d.line.bytes (take used piece) ∙ ap (λ (x : List ℕ). text_of r.lines ++ x) (sym t.text)

reading_of : (d : Standing) (input : List ℕ) (given : List Item) → d.state ≡ states.Reading → Represents d input given
    → IsReading d input given
reading_of d input given s st = subst (λ (q : State). RepresentsIn q d input given) s st.here

-- the line ended
line_ended : (d : Standing) (input : List ℕ) (given : List Item) (piece : List ℕ) (used : ℕ) (line : HeldLine)
    → d.state ≡ states.Reading → d.finished ≡ false → Takes d.line piece used line → IsHeld line → line.ended ≢ Open
    → Represents d input given → HasLine (with_line d line) (input ++ take used piece) given
line_ended d input given piece used line s fresh t held ended st =
    let r = reading_of d input given s st in
    record {
      in_range = st.in_range;
      lines = r.lines;
      records = r.records;
      read = r.read;
      left = r.left;
      split =
          subst (λ (b : Bool). IsInput b (input ++ take used piece) (text_of r.lines ++ held_text line)) (sym fresh)
          (taken_text d input given piece used line r fresh t);
      ended = ended;
      line = held;
      held = r.held;
      given_are = r.given_are;
    }

-- the line continues
line_continues : (d : Standing) (input : List ℕ) (given : List Item) (piece : List ℕ) (used : ℕ) (line : HeldLine)
    → d.state ≡ states.Reading → d.finished ≡ false → Takes d.line piece used line → IsHeld line → line.ended ≡ Open
    → Represents d input given → Represents (with_line d line) (input ++ take used piece) given
line_continues d input given piece used line s fresh t held ended st =
    let r = reading_of d input given s st in
    let text : held_text line ≡ line.bytes = ap (λ (x : LineEnd). text_by x line.bytes) ended in
    record {
      in_range = st.in_range;
      here = subst (λ (q : State). RepresentsIn q (with_line d line) (input ++ take used piece) given) (sym s) (record {
        lines = r.lines;
        records = r.records;
        read = r.read;
        left = r.left;
        split =
            subst (λ (b : Bool). IsInput b (input ++ take used piece) (text_of r.lines ++ line.bytes)) (sym fresh)
            (taken_text d input given piece used line r fresh t ∙ ap (λ (x : List ℕ). text_of r.lines ++ x) text);
        open_line = ended;
        line = held;
        held = r.held;
        given_are = r.given_are;
      });
    }

-- what stands after the used bytes
after_used : (old : HeldLine) (piece : List ℕ) (used : ℕ) (line : HeldLine) → Takes old piece used line
    → StandsAfterEnd line.ended (drop used piece)
after_used old piece used line t = by line.ended t.stops
  where
    first_of : (used : ℕ) (piece : List ℕ) → used < length piece
        → (rest : List ℕ) × (drop used piece ≡ slice_index piece used ∷ rest)
    first_of used [] h = absurd (omega arith)
    first_of zero (b ∷ piece) h = (piece, refl)
    first_of (suc used) (b ∷ piece) h = first_of used piece (omega arith)

    by : (e : LineEnd) → Stops e piece used → StandsAfterEnd e (drop used piece)
    by Open s = tt
    by Line s = tt
    by Over s = let f = first_of used piece s.0 in (slice_index piece used, f.0, f.1, s.1)

halves : (input piece : List ℕ) (used : ℕ) → (input ++ take used piece) ++ drop used piece ≡ input ++ piece
halves input piece used =
    append_assoc input (take used piece) (drop used piece) ∙ ap (λ (x : List ℕ). input ++ x) (take-append-drop used piece)

-- a line that is accepted has at least its line feed
accepted_used : (t new : Standing) (old : HeldLine) (piece : List ℕ) (used : ℕ) (out : Option Outcome)
    → Takes old piece used t.line → t.line.ended ≢ Open → Accepts t out new → 0 < used
accepted_used t new old piece used out takes ended a =
    by t.line.ended ended (never_too_long t.line a.accepted a.carried a.excess) takes.stops
  where
    by : (e : LineEnd) → e ≢ Open → (e ≡ Over → ⊥) → Stops e piece used → 0 < used
    by Open p q s = absurd (p refl)
    by Line p q s = s
    by Over p q s = absurd (q refl)

some_used : (t new : Standing) (old : HeldLine) (piece : List ℕ) (used : ℕ) (out : Option Outcome) → Takes old piece used t.line
    → t.line.ended ≢ Open → Judges t out new → IfNone out (0 < used)
some_used t new old piece used (Some o) takes ended j = tt
some_used t new old piece used None takes ended (inr r) = absurd r.reports
some_used t new old piece used None takes ended (inl a) = accepted_used t new old piece used None takes ended a

-- so has one that ends a transaction
pub ends_used : (d new : Standing) (piece : List ℕ) (used : ℕ) (whole : List RecordValue)
    → JudgesFront d piece used (Some (outcomes.Item (items.Transaction whole))) new → 0 < used
ends_used d new piece used whole a = by a.judges
  where
    by : Judges (with_line d a.line) (Some (outcomes.Item (items.Transaction whole))) new → 0 < used
    by (inl accepts) =
        accepted_used (with_line d a.line) new d.line piece used (Some (outcomes.Item (items.Transaction whole))) a.takes a.ended
        accepts
    by (inr refuses) =
        let no : outcomes.Item (items.Transaction whole) ≡ outcomes.Refused refuses.reports.refusal =
        refuses.reports.reported in absurd (cc no)

-- what is left after a line that is judged
pub judged_rest : (t new : Standing) (out : Option Outcome) → t.line.ended ≢ Open → Judges t out new → Rest t out new
judged_rest t new out ended (inl a) =
    let e = follows_rest a.continues t.held a.accepted (with_tally t a.tally) out new ended a.carried a.in_order a.follows in
    record {
      ready = e.rest.ready;
      leaves = e.rest.leaves;
      none = e.rest.none;
      finished = e.rest.finished;
      limits = e.rest.limits ∙ a.limits;
    }
judged_rest t new None ended (inr r) = absurd r.reports
judged_rest t new (Some o) ended (inr r) =
    let k = r.reports in
    subst (λ (q : Standing). Rest t (Some o) q) (sym k.stops) (subst
    (λ (x : Outcome). Rest t (Some x) (with_refusal t k.refusal)) (sym k.reported)
    (record { ready = tt; leaves = refl; none = tt; finished = refl; limits = refl }))

-- no record is forgotten by that, and out of memory comes with one more
pub judged_grows : (t new : Standing) (out : Option Outcome) (xs : List Symbol) → t.line.ended ≢ Open
    → tallies.IsTallyOf t.tally xs → Judges t out new → Grows t.tally.counts.records out new.tally.counts.records
judged_grows t new out xs ended st (inl a) =
    let e = follows_rest a.continues t.held a.accepted (with_tally t a.tally) out new ended a.carried a.in_order a.follows in
    let before : t.tally.counts.records ≡ length xs = ap (λ (c : Counts). c.records) st.counted in
    let next : a.tally.counts.records ≡ length (xs ++ a.symbol ∷ []) = ap (λ (c : Counts). c.records) (a.stands xs st).counted in
    let kept : new.tally.counts.records ≡ a.tally.counts.records = ap (λ (q : TallyValue). q.counts.records) e.tally in
    let more : t.tally.counts.records < new.tally.counts.records =
    omega (arith, before, next, kept, length-append xs (a.symbol ∷ [])) in
    record { kept = omega (arith, more); memory = λ z. more; item = λ it z. more }
judged_grows t new None xs ended st (inr r) = absurd r.reports
judged_grows t new (Some o) xs ended st (inr r) =
    let kept : new.tally.counts.records ≡ t.tally.counts.records =
    ap (λ (q : Standing). q.tally.counts.records) r.reports.stops in
    record { kept = omega (arith, kept); memory = λ z. absurd (refused z); item = λ it z. absurd (no_item it z) }
  where
    refused : Some o ≡ Some outcomes.Memory → ⊥
    refused z =
        let same : o ≡ outcomes.Memory = cc z in
        let other : outcomes.Refused r.reports.refusal ≡ outcomes.Memory = sym r.reports.reported ∙ same in
        cc other

    no_item : (it : Item) → Some o ≡ Some (outcomes.Item it) → ⊥
    no_item it z =
        let same : o ≡ outcomes.Item it = cc z in
        let other : outcomes.Refused r.reports.refusal ≡ outcomes.Item it = sym r.reports.reported ∙ same in
        cc other

pub never_more : (t new : Standing) (out : Option Outcome) → t.line.ended ≢ Open → Judges t out new → out ≡ Some outcomes.More → ⊥
never_more t new None ended j e = absurd (cc e)
never_more t new (Some o) ended (inl a) e =
    let k = follows_rest a.continues t.held a.accepted (with_tally t a.tally) (Some o) new ended a.carried a.in_order a.follows in
    let same : o ≡ outcomes.More = cc e in
    subst IsPlain same k.plain
never_more t new (Some o) ended (inr r) e =
    let same : o ≡ outcomes.More = cc e in
    let not_so : outcomes.Refused r.reports.refusal ≡ outcomes.More = sym r.reports.reported ∙ same in
    absurd (cc not_so)

-- an item and out of memory refuse nothing
pub plain_last : (o : Outcome) (new : Standing) (input : List ℕ) (given : List Item) → IsPlain o → RefusesLast o new input given
plain_last outcomes.More new input given p = absurd p
plain_last (outcomes.Item item) new input given p = tt
plain_last (outcomes.Refused refusal) new input given p = absurd p
plain_last (outcomes.Truncated records) new input given p = absurd p
plain_last outcomes.Memory new input given p = tt
plain_last outcomes.Done new input given p = absurd p

-- what refuses a line that isn't too long
pub judged_last : (d : Standing) (input : List ℕ) (given : List Item) (out : Option Outcome) (new : Standing)
    → HasLine d input given → d.line.ended ≡ Line → d.line.ended ≢ Open → Judges d out new
    → IfSome out (λ o. RefusesLast o new input (given ++ items_out o))
judged_last d input given None new h whole ended j = tt
judged_last d input given (Some o) new h whole ended (inl a) =
    plain_last o new input (given ++ items_out o) (follows_rest a.continues d.held a.accepted (with_tally d a.tally) (Some o) new
    ended a.carried a.in_order a.follows).plain
judged_last d input given (Some o) new h whole ended (inr r) =
    reported_last d input given r.fault o new h r.none r.first r.reports whole

-- a line that ended is judged
pub advanced_line : (d t new : Standing) (piece : List ℕ) (used : ℕ) (out : Option Outcome) → d.state ≡ states.Reading
    → d.finished ≡ false → Takes d.line piece used t.line → IsHeld t.line → t ≡ with_line d t.line → t.line.ended ≢ Open
    → Judges t out new → Advances d piece used out new
advanced_line d t new piece used out s fresh takes held is ended j =
    let rest = judged_rest t new out ended j in
    let finished : t.finished ≡ d.finished = ap (λ (q : Standing). q.finished) is in
    let limits : t.tally.limits ≡ d.tally.limits = ap (λ (q : Standing). q.tally.limits) is in
    record {
      carries = record {
        stands =
            λ input given st. subst (Represents new (input ++ take used piece)) (with_answer given out)
            (judged_stands t (input ++ take used piece) given out new (at input given st) j);
        ready = rest.ready;
        leaves = rest.leaves;
        empties = λ input given st. judged_empties t (input ++ take used piece) given out new (at input given st) j;
        finished = rest.finished ∙ finished;
        limits = rest.limits ∙ limits;
      };
      within = takes.within;
      some = some_used t new d.line piece used out takes ended j;
      right = λ input given st.
          subst (λ (l : LimitValues). IfSome out
          (λ o. IsRight l o false (input ++ take used piece) (input ++ piece) (given ++ items_out o))) limits
          (subst (λ (x : List ℕ). IfSome out
          (λ o. IsRight t.tally.limits o false (input ++ take used piece) x (given ++ items_out o))) (halves input piece used)
          (judged_right t false (input ++ take used piece) (drop used piece) given out new (at input given st) (finished ∙ fresh)
          (λ z. absurd (true≢false (sym z))) (λ z o. absurd (true≢false (sym z))) (after_used d.line piece used t.line takes)
          j));
      more = λ e. absurd (never_more t new out ended j e);
      none = rest.none;
      grows = λ input given st.
          let h = at input given st in
          subst (λ (n : ℕ). Grows n out new.tally.counts.records) (ap (λ (q : Standing). q.tally.counts.records) is)
          (judged_grows t new out (map symbol_of h.records) ended h.read.counted j);
    }
  where
    at : (input : List ℕ) (given : List Item) → Represents d input given → HasLine t (input ++ take used piece) given
    at input given st =
        subst (λ (q : Standing). HasLine q (input ++ take used piece) given) (sym is)
        (line_ended d input given piece used t.line s fresh takes held ended st)

-- a line is judged that ends in the piece
pub advanced_front : (d new : Standing) (piece : List ℕ) (used : ℕ) (out : Option Outcome) → d.state ≡ states.Reading
    → d.finished ≡ false → JudgesFront d piece used out new → Advances d piece used out new
advanced_front d new piece used out s fresh a =
    advanced_line d (with_line d a.line) new piece used out s fresh a.takes a.held refl a.ended a.judges

-- the piece ended before the line
pub advanced_open : (d t : Standing) (piece : List ℕ) (used : ℕ) → d.state ≡ states.Reading → d.finished ≡ false
    → Takes d.line piece used t.line → IsHeld t.line → t ≡ with_line d t.line → t.line.ended ≡ Open
    → Advances d piece used (Some outcomes.More) t
advanced_open d t piece used s fresh takes held is ended =
    let all : used ≡ length piece = subst (λ (e : LineEnd). Stops e piece used) ended takes.stops in
    subst (λ (q : Standing). Advances d piece used (Some outcomes.More) q) (sym is) (record {
      carries = record {
        stands =
            λ input given st. subst (Represents (with_line d t.line) (input ++ take used piece)) (sym (append-nil given))
            (line_continues d input given piece used t.line s fresh takes held ended st);
        ready = subst (λ (q : State). IsReady q d.finished t.line) (sym s) (ended, λ f. absurd (true≢false (sym f ∙ fresh)));
        leaves = s;
        empties = λ input given st. tt;
        finished = refl;
        limits = refl;
      };
      within = takes.within;
      some = tt;
      right =
          λ input given st. record {
            ends = λ more may. tt;
            comes = (refl, ap (λ (x : List ℕ). input ++ x) (ap (λ (n : ℕ). take n piece) all ∙ take-length piece));
          };
      more = λ e. all;
      none = tt;
      grows = λ input given st. record { kept = omega arith; memory = λ e. absurd (cc e); item = λ it e. absurd (cc e) };
    })
