-- What an answer says of the input is right, by what the decoder represents after it.
use Rattle.std.proofs.Common.{◌≡◌, ℕ, Bool, true, false, List, [], ◌∷◌, ◌++◌, length, Option, Some, None, refl, sym, ap, ap₂}
use Rattle.std.proofs.Common.{subst, ◌∙◌, append_assoc, inl, inr}
use Rattle.std.specs.Prelude.{◌⊎◌, IfSome}
use Rattle.cwr_lines.specs.declared.lines.LineEnd.{LineEnd}
use Rattle.cwr_lines.specs.declared.lines.LineEnd.TheVariants.{Open, Line, Over}
use Rattle.cwr_lines.specs.Steps.Held.{HeldLine, FillsLongest, held_kind, held_text, text_by}
use Rattle.cwr_shape.specs.declared.symbols.Symbol.{Symbol}
use Rattle.cwr_shape.specs.Format.Ranges.{LimitValues}
use Rattle.cwr_shape.specs.Steps.Tallies as tallies
use Rattle.cwr_values.specs.declared.items.Item.{Item}
use Rattle.cwr_values.specs.declared.items.Item.TheVariants as items
use Rattle.cwr_decode.specs.declared.outcomes.Outcome.{Outcome}
use Rattle.cwr_decode.specs.declared.outcomes.Outcome.TheVariants as outcomes
use Rattle.cwr_decode.specs.declared.machine.State.{State}
use Rattle.cwr_decode.specs.declared.machine.State.TheVariants as states
use Rattle.cwr_judge.specs.declared.judging.LineFault.{LineFault}
use Rattle.cwr_judge.specs.Format.Ends.{IsRefused}
use Rattle.cwr_judge.specs.Steps.Judged.{IsOfNone, IsFirstFault}
use Rattle.cwr_decode.specs.Steps.Machines.{Standing, Leaves, Judges, ReportsFault, with_tally, with_refusal}
use Rattle.cwr_decode.specs.declared.endings.End.TheVariants as ends
use Rattle.cwr_decode.specs.Steps.Represents.{Represents, RepresentsIn, IsInput, IsRight, IsStopped, MayFollow, IsEndAlways}
use Rattle.cwr_decode.specs.Steps.Represents.{EndsInLf, GoesTooFar, EndsLine, items_out, text_of}
use Rattle.cwr_decode.proofs.lemmas.WholeLinesAccepted.{accepts_whole}
use Rattle.cwr_decode.proofs.lemmas.StoppedRefused.{refused_line, refused_long}
use Rattle.cwr_decode.proofs.lemmas.AfterAcceptedLine.{HasLine}
use Rattle.cwr_decode.proofs.lemmas.AfterLine.{reported_as, judged_stands}
use Rattle.cwr_decode.proofs.lemmas.StepsWithoutBytes.{IsPlain, follows_rest}
use Rattle.cwr_decode.proofs.lemmas.StepsWithoutBytes.{IsPlain, follows_rest}

-- ---- what an answer says

-- the end of a transmission comes where one is accepted
ended_right : (new : Standing) (input_ended : Bool) (input seen tail : List ℕ) (given : List Item) → new.finished ≡ input_ended
    → seen ≡ input ++ tail → (input_ended ≡ true → tail ≡ []) → Represents new input given → new.state ≡ states.Ended
    → IsRight new.tally.limits (outcomes.Item items.Ended) input_ended input seen given
ended_right new input_ended input seen tail given f e none s state =
    let here = subst (λ (q : State). RepresentsIn q new input given) state s.here in
    let t = here.through in
    record {
      ends = accepts_whole new.tally t.lines t.records input_ended input seen tail given s.in_range t.read here.whole
          (subst (λ (b : Bool). IsInput b input (text_of t.lines)) f t.split) e none t.given_are;
      comes = tt;
    }

-- an item or out of memory is right
pub plain_right : (new : Standing) (o : Outcome) (input_ended : Bool) (input seen tail : List ℕ) (given : List Item)
    → new.finished ≡ input_ended → seen ≡ input ++ tail → (input_ended ≡ true → tail ≡ []) → Represents new input given
    → Leaves o new.state → IsPlain o
    → IsRight new.tally.limits o input_ended input seen given
plain_right new outcomes.More input_ended input seen tail given f e none s l p = absurd p
plain_right new (outcomes.Item (items.Opened r)) input_ended input seen tail given f e none s l p =
    record { ends = λ more may. tt; comes = tt }
plain_right new (outcomes.Item (items.GroupOpened r)) input_ended input seen tail given f e none s l p =
    record { ends = λ more may. tt; comes = tt }
plain_right new (outcomes.Item (items.Transaction t)) input_ended input seen tail given f e none s l p =
    record { ends = λ more may. tt; comes = tt }
plain_right new (outcomes.Item (items.GroupClosed r)) input_ended input seen tail given f e none s l p =
    record { ends = λ more may. tt; comes = tt }
plain_right new (outcomes.Item items.Ended) input_ended input seen tail given f e none s l p =
    ended_right new input_ended input seen tail given f e none s l
plain_right new (outcomes.Refused r) input_ended input seen tail given f e none s l p = absurd p
plain_right new (outcomes.Truncated n) input_ended input seen tail given f e none s l p = absurd p
plain_right new outcomes.Memory input_ended input seen tail given f e none s l p = record { ends = λ more may. tt; comes = tt }
plain_right new outcomes.Done input_ended input seen tail given f e none s l p = absurd p

-- the bytes after a line that is too long begin with one that is no line feed
abbrev pub StandsAfterEnd : LineEnd → List ℕ → Type 0
StandsAfterEnd Open tail = Unit {0}
StandsAfterEnd Line tail = Unit {0}
StandsAfterEnd Over tail = (next : ℕ) × (rest : List ℕ) × (tail ≡ next ∷ rest) × (next ≡ 10 → ⊥)

-- the input is refused as the line is
refused_right : (d : Standing) (input_ended : Bool) (input tail : List ℕ) (given : List Item) (fault : LineFault) (o : Outcome)
    (new : Standing) (h : HasLine d input given) → d.finished ≡ input_ended → (input_ended ≡ true → tail ≡ [])
    → ((xs : List Symbol) → tallies.IsTallyOf d.tally xs → IsOfNone d.tally.limits xs d.line)
    → ((xs : List Symbol) → tallies.IsTallyOf d.tally xs → IsFirstFault d.tally.limits xs d.line fault.field fault.reason)
    → (t : ReportsFault d (held_kind d.line) fault o new)
    → (input_ended ≡ true → d.line.ended ≡ Over → ⊥) → StandsAfterEnd d.line.ended tail
    → IsEndAlways d.tally.limits input_ended (input ++ tail) given (Some (ends.Refused t.refusal))
refused_right d input_ended input tail given fault o new h f none bad first t fresh after =
    by d.line.ended refl input_ended f none fresh after
  where
    reported : (s : IsStopped (with_refusal d t.refusal) input (given ++ []) t.refusal) × (s.line ≡ d.line)
        × (s.input_ended ≡ d.finished)
    reported = reported_as d input given fault o new h bad first t

    ended : (e : LineEnd) → d.line.ended ≡ e → reported.0.line.ended ≡ e
    ended e q = ap (λ (l : HeldLine). l.ended) reported.1 ∙ q

    may : (b : Bool) (more : List ℕ) → (b ≡ true → tail ≡ []) → MayFollow b more → MayFollow b (tail ++ more)
    may false more n m = tt
    may true more n m = ap₂ (λ (x y : List ℕ). x ++ y) (n refl) m

    by : (e : LineEnd) → d.line.ended ≡ e → (b : Bool) → d.finished ≡ b → (b ≡ true → tail ≡ []) → (b ≡ true → e ≡ Over → ⊥)
        → StandsAfterEnd e tail → IsEndAlways d.tally.limits b (input ++ tail) given (Some (ends.Refused t.refusal))
    by Open q b g n z k = absurd (h.ended q)
    by Line q b g n z k = λ more m.
        let follows : MayFollow reported.0.input_ended (tail ++ more) =
        subst (λ (x : Bool). MayFollow x (tail ++ more)) (sym (reported.2 ∙ g)) (may b more n m) in
        subst (λ (x : List ℕ). IsRefused d.tally.limits x t.refusal) (sym (append_assoc input tail more))
        (refused_line (with_refusal d t.refusal) input (given ++ []) t.refusal (tail ++ more) reported.0
        (ended Line q) follows)
    by Over q true g n z k = absurd (z refl refl)
    by Over q false g n z k = λ more m.
        let text : (input ++ tail) ++ more ≡ input ++ k.0 ∷ (k.1 ++ more) =
        append_assoc input tail more ∙ ap (λ (x : List ℕ). input ++ (x ++ more)) k.2 in
        subst (λ (x : List ℕ). IsRefused d.tally.limits x t.refusal) (sym text)
        (refused_long (with_refusal d t.refusal) input (given ++ []) t.refusal k.0 (k.1 ++ more) reported.0
        (ended Over q) (reported.2 ∙ g) k.3)

-- a refused line ends with the used bytes
ends_line : (d : Standing) (input_ended : Bool) (input tail : List ℕ) (given : List Item) → HasLine d input given
    → d.finished ≡ input_ended → StandsAfterEnd d.line.ended tail → EndsLine input_ended input (input ++ tail)
ends_line d true input tail given h f after = tt
ends_line d false input tail given h f after = by d.line.ended refl after
  where
    input_is : (e : LineEnd) → d.line.ended ≡ e → input ≡ text_of h.lines ++ text_by e d.line.bytes
    input_is e q =
        subst (λ (b : Bool). IsInput b input (text_of h.lines ++ held_text d.line)) f h.split
        ∙ ap (λ (x : LineEnd). text_of h.lines ++ text_by x d.line.bytes) q

    by : (e : LineEnd) → d.line.ended ≡ e → StandsAfterEnd e tail → EndsInLf input ⊎ GoesTooFar input (input ++ tail)
    by Open q b = absurd (h.ended q)
    by Line q b =
        inl (text_of h.lines ++ d.line.bytes, input_is Line q ∙ sym (append_assoc (text_of h.lines) d.line.bytes (10 ∷ [])))
    by Over q b = inr (record {
      front = text_of h.lines;
      line = d.line.bytes;
      next = b.0;
      rest = b.1;
      split = input_is Over q;
      longest = subst (λ (x : LineEnd). FillsLongest x (length d.line.bytes)) q h.line.full;
      no_lf = h.line.no_lf;
      more = ap (λ (t : List ℕ). input ++ t) b.2;
      other = b.3;
    })

-- what is answered to a line
pub judged_right : (d : Standing) (input_ended : Bool) (input tail : List ℕ) (given : List Item) (out : Option Outcome)
    (new : Standing) → HasLine d input given → d.finished ≡ input_ended → (input_ended ≡ true → tail ≡ [])
    → (input_ended ≡ true → d.line.ended ≡ Over → ⊥) → StandsAfterEnd d.line.ended tail → Judges d out new
    → IfSome out (λ o. IsRight d.tally.limits o input_ended input (input ++ tail) (given ++ items_out o))
judged_right d input_ended input tail given None new h f none fresh after j = tt
judged_right d input_ended input tail given (Some o) new h f none fresh after (inl a) =
    let e =
    follows_rest a.continues d.held a.accepted (with_tally d a.tally) (Some o) new h.ended a.carried a.in_order a.follows in
    subst (λ (l : LimitValues). IsRight l o input_ended input (input ++ tail) (given ++ items_out o)) (e.rest.limits ∙ a.limits)
    (plain_right new o input_ended input (input ++ tail) tail (given ++ items_out o) (e.rest.finished ∙ f) refl none
    (judged_stands d input given (Some o) new h (inl a)) e.rest.leaves e.plain)
judged_right d input_ended input tail given (Some o) new h f none fresh after (inr r) =
    let n : IsRight d.tally.limits (outcomes.Refused r.reports.refusal) input_ended input (input ++ tail) (given ++ [])
    = record {
      ends = refused_right d input_ended input tail given r.fault o new h f none r.none r.first r.reports fresh after;
      comes = ends_line d input_ended input tail given h f after;
    } in
    subst (λ (q : Outcome). IsRight d.tally.limits q input_ended input (input ++ tail) (given ++ items_out q))
    (sym r.reports.reported) n
