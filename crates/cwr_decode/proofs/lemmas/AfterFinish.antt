-- What the call that takes the end of the input answers.
use Rattle.std.proofs.Common.{◌≡◌, ℕ, Bool, true, List, [], ◌++◌, length, map, Option, Some, None, refl, sym, ap, subst, ◌∙◌}
use Rattle.std.proofs.Common.{append-nil, arith}
use Rattle.std.specs.Prelude.{IfSome}
use Rattle.std.proofs.lemmas.List.{length-map}
use Rattle.cwr_lines.specs.Format.Lines.{closed}
use Rattle.cwr_shape.specs.Format.Ranges.{LimitValues}
use Rattle.cwr_shape.specs.declared.tallies.Counts.{Counts}
use Rattle.cwr_values.specs.declared.items.Item.{Item}
use Rattle.cwr_values.specs.Format.Values.{symbol_of}
use Rattle.cwr_decode.specs.declared.outcomes.Outcome.{Outcome}
use Rattle.cwr_decode.specs.declared.outcomes.Outcome.TheVariants as outcomes
use Rattle.cwr_decode.specs.declared.machine.State.{State}
use Rattle.cwr_decode.specs.declared.machine.State.TheVariants as states
use Rattle.cwr_judge.specs.Format.Ends.{IsTruncated}
use Rattle.cwr_decode.specs.Steps.Machines.{Standing, IsReady, Settles, again, end_input, stopped}
use Rattle.cwr_decode.specs.Steps.Represents.{Represents, RepresentsIn, IsReading, IsInput, IsRight, items_out, text_of}
use Rattle.cwr_decode.specs.Steps.Calls.{CarriesAlone, IsLive, TakesEnd, Finishes}
use Rattle.cwr_decode.proofs.lemmas.CutTruncated.{cut_truncated}
use Rattle.cwr_decode.proofs.lemmas.StepsWithoutBytes.{carried_both, carried_same, settled}
use Rattle.cwr_decode.proofs.lemmas.RightAnswers.{plain_right}
use Rattle.cwr_decode.proofs.lemmas.AfterBytes.{plain_last}
use Rattle.cwr_decode.proofs.lemmas.AnsweredAtOnce.{settles_live, settles_plain, settles_pending, settles_again, settles_more, if_some}
use Rattle.cwr_decode.proofs.lemmas.AfterInputEnd.{no_answer, no_bytes}

-- it is answered to a last line
pub ends_finish : (old new : Standing) (o : Outcome) → TakesEnd old (Some o) new → Finishes old o new
ends_finish old new o e = record {
  carries = e.carries;
  right = λ l input given st. e.right input given st;
  last = λ l input given st. e.last input given st;
  again =
      if_some (again old.state) (λ p. (Some o ≡ None) × (new ≡ end_input old)) (λ p. (o ≡ p) × (new ≡ end_input old))
      (λ p h. absurd (nothing h.0)) e.stays;
  more = λ q. e.more (ap (λ (x : Outcome). Some x) q);
  memory = λ q l input given st few. absurd (omega (arith, few, (e.grows input given st).memory (ap (λ (x : Outcome). Some x) q)));
  kept = λ input given st. (e.grows input given st).kept;
}
  where
    nothing : Some o ≡ None → ⊥
    nothing q = cc q

-- it is answered without a last line
pub settles_finish : (old mid new : Standing) (o : Outcome) → TakesEnd old None mid → Settles mid.state mid (Some o) new
    → Finishes old o new
settles_finish old mid new o e s =
    let m = settled mid.state mid new (Some o) refl e.carries.ready s in
    let both : CarriesAlone old (Some o) true new =
    carried_same old new (λ input. input) (λ input. input) mid.finished true (Some o) (λ input. refl) e.carries.finished
    (carried_both old mid new (λ input. input) (λ input. input) true mid.finished (Some o) e.carries m.carries) in
    record {
      carries = both;
      right = λ l input given st.
          subst (λ (k : LimitValues). IsRight k o true input input (given ++ items_out o)) both.limits
          (plain_right new o true input input [] (given ++ items_out o) both.finished (sym (append-nil input))
          (λ z. refl) (both.stands input given st) both.leaves
          (settles_plain mid.state mid new o (e.none l) s));
      last = λ l input given st. plain_last o new input (given ++ items_out o) (settles_plain mid.state mid new o (e.none l) s);
      again = by (again old.state) refl e.stays;
      more = λ q. settles_more mid.state mid new (subst (λ (x : Outcome). Settles mid.state mid (Some x) new) q s);
      memory = λ q l input given st few. (e.waits (settles_pending mid.state mid new o (e.none l) s), refl);
      kept = λ input given st. omega (arith, (e.grows input given st).kept, m.counts);
    }
  where
    by : (q : Option Outcome) → again old.state ≡ q → IfSome q (λ p. (no_answer ≡ None) × (mid ≡ end_input old))
        → IfSome q (λ p. (o ≡ p) × (new ≡ end_input old))
    by None f h = tt
    by (Some p) f h =
        let same =
        subst (λ (x : Option Outcome). IfSome x (λ y. (o ≡ y) × (new ≡ mid))) (ap (λ (d : Standing). again d.state) h.1 ∙ f)
        (settles_again mid.state mid new o s) in
        (same.0, same.1 ∙ h.1)

-- once the input has ended and nothing of a line is left, it is its lines
closed_lines : (d : Standing) (input : List ℕ) (given : List Item) (r : IsReading d input given) → d.state ≡ states.Reading
    → d.finished ≡ true → IsReady d.state d.finished d.line → closed input ≡ text_of r.lines
closed_lines d input given r reading finished ready =
    let empty = (subst (λ (s : State). IsReady s d.finished d.line) reading ready).1 finished in
    subst (λ (b : Bool). IsInput b input (text_of r.lines ++ d.line.bytes)) finished r.split
    ∙ ap (λ (x : List ℕ). text_of r.lines ++ x) (no_bytes d.line.bytes empty) ∙ append-nil (text_of r.lines)

is_cut : (d : Standing) (count : ℕ) (input : List ℕ) (given : List Item) → Represents d input given → d.state ≡ states.Reading
    → d.finished ≡ true → IsReady d.state d.finished d.line → count ≡ d.tally.counts.records
    → Represents (stopped d (states.Truncated count)) input given
is_cut d count input given st reading finished ready n =
    let r = subst (λ (s : State). RepresentsIn s d input given) reading st.here in
    let counts : d.tally.counts.records ≡ length (map symbol_of r.records) =
    ap (λ (c : Counts). c.records) r.read.counted.counted in
    record {
      in_range = st.in_range;
      here = record {
        through = record {
          lines = r.lines;
          records = r.records;
          read = r.read;
          split =
              subst (λ (b : Bool). IsInput b input (text_of r.lines)) (sym finished)
              (closed_lines d input given r reading finished ready);
          empty = refl;
          nothing = refl;
          given_are = r.given_are;
        };
        input_ended = finished;
        left = r.left;
        counted = n ∙ counts ∙ length-map r.records symbol_of;
      };
    }

-- it is answered that the input ended too early
pub cut_finish : (old mid after new : Standing) (count : ℕ) → TakesEnd old None mid → Settles mid.state mid None after
    → new ≡ stopped after (states.Truncated count) → count ≡ after.tally.counts.records
    → Finishes old (outcomes.Truncated count) new
cut_finish old mid after new count e s stop n =
    let live = settles_live mid.state mid after s in
    let m = settled mid.state mid after None refl e.carries.ready s in
    let reading : after.state ≡ states.Reading = m.none live in
    let finished : after.finished ≡ true = m.carries.finished ∙ e.carries.finished in
    subst (Finishes old (outcomes.Truncated count)) (sym stop) (record {
      carries = record {
        stands =
            λ input given st. subst (Represents (stopped after (states.Truncated count)) input) (sym (append-nil given))
            (is_cut after count input given (here input given st) reading finished m.carries.ready n);
        ready = tt;
        leaves = refl;
        empties = λ input given st. tt;
        finished = finished;
        limits = m.carries.limits ∙ e.carries.limits;
      };
      right = λ l input given st.
          let cut : IsTruncated old.tally.limits input count
          = subst (λ (k : LimitValues). IsTruncated k input count) (m.carries.limits ∙ e.carries.limits)
          (cut_truncated (stopped after (states.Truncated count)) input given count
          (is_cut after count input given (here input given st) reading finished m.carries.ready n).here) in
          record {
            ends = λ more nothing. subst (λ (x : List ℕ). IsTruncated old.tally.limits x count)
                (sym (ap (λ (x : List ℕ). input ++ x) nothing ∙ append-nil input)) cut;
            comes = refl;
          };
      last = λ l input given st. tt;
      again = by (again old.state) refl e.stays live;
      more = λ q. absurd (cc q);
      memory = λ q. absurd (cc q);
      kept = λ input given st. omega (arith, (e.grows input given st).kept, m.counts);
    })
  where
    here : (input : List ℕ) (given : List Item) → Represents old input given → Represents after input given
    here input given st =
        (settled mid.state mid after None refl e.carries.ready s).carries.stands input given (e.carries.stands input given st)

    by : (q : Option Outcome) → again old.state ≡ q → IfSome q (λ p. (no_answer ≡ None) × (mid ≡ end_input old))
        → IsLive mid.state
        → IfSome q (λ p. (outcomes.Truncated count ≡ p) × (stopped after (states.Truncated count) ≡ end_input old))
    by None f h l = tt
    by (Some p) f h l = absurd (nothing (sym l ∙ ap (λ (d : Standing). again d.state) h.1 ∙ f))
      where
        nothing : None ≡ Some p → ⊥
        nothing q = cc q
