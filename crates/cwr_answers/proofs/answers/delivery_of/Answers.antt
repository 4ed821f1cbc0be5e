use Rattle.std.proofs.Common.{◌≡◌, ◌∙◌, ℕ, ◌<◌, ◌≤◌, false, List, [], ◌∷◌, Bor, Option, Some, length, get_or, map, take, arith, ap, sym, subst}
use Rattle.std.specs.Prelude.{IfOk, Ok, Err, Result}
use Rattle.std.proofs.lemmas.Bool.{eqb-false}
use Rattle.std.proofs.lemmas.List.{length-map, take_all}
use Rattle.std.proofs.lemmas.List.Elements.{All-push}
use Rattle.cwr_sent.specs.declared.tables.Sent.{Sent}
use Rattle.cwr_values.specs.Format.Values.{TransmissionValue}
use Rattle.cwr_sent.specs.Format.SentFacts.{content_of}
use Rattle.cwr_sent.specs.Format.SentRows.{IsFresh, content_in, content_shown, shown_in}
use Rattle.cwr_delivery.specs.Steps.Deliveries.{Held}
use Rattle.cwr_delivery.proofs.lemmas.Ends.{contents_shown}
use Rattle.cwr_files.specs.declared.faults.Fault.{Fault}
use Rattle.cwr_files.specs.Format.Files.{Texts}
use Rattle.cwr_files.proofs.lemmas.Reads.{words_more}
use Rattle.cwr_endings.specs.declared.endings.Status.{Status}
use Rattle.cwr_endings.specs.declared.endings.Status.TheVariants as statuses
use Rattle.cwr_answers.specs.Format.Answered.{IsAcceptedAt}
use Rattle.cwr_answers.specs.Format.Endings.{AreSent, Has}
use Rattle.cwr_answers.specs.Steps.Reading.{EndsSent, KeepsSent}
use Rattle.cwr_answers.proofs.lemmas.AnswersFail.{sent_since, sent_then}
use Rattle.cwr_answers.proofs.lemmas.Kept.{new_more, new_stands}
use Rattle.cwr_answers.proofs.lemmas.Sent.{one_is}
use Rattle.cwr_answers.proofs.lemmas.States.{sent_kept_so, sent_more}
use Rattle.cwr_answers.proofs.answers.delivery_of.Goals as goal

pub returns-in-Ok-Err-clause-first : goal.returns-in-Ok-Err-clause-first
returns-in-Ok-Err-clause-first g c = λ first is. c.sent_of.ensures.first first (c.loop-name.invariant.first first is)

pub returns-in-Err-clause-first : goal.returns-in-Err-clause-first
returns-in-Err-clause-first g c = λ first is. c.sent_of.ensures.first first (c.loop-name.invariant.first first is)

pub returns-in-Err-add-clause-first : goal.returns-in-Err-add-clause-first
returns-in-Err-add-clause-first g c = λ first is. c.sent_of.ensures.first first (c.loop-name.invariant.first first is)

pub returns-in-Ok-Err-clause-ends : goal.returns-in-Ok-Err-clause-ends
returns-in-Ok-Err-clause-ends g c = λ first is.
    let d : Bor (List ℕ) = record { ref_ptr = (0, 0); now = [] } in
    let i : ℕ = c.loop-name.name-index in
    let words : List (Bor (List ℕ)) = c.args.answering.now.sent.now in
    let limits = c.args.answering.now.limits in
    let held = g.S.Store.held c.args.store.now in
    let name : List ℕ = (get_or words i d).now in
    let within : i < length words = omega arith in
    let so : c.sent_of.result ≡ Ok (Err c.in-Ok-Err.status) =
    c.in-Ok-Err.is ∙ ap (λ (r : Result Sent Status). Ok r) c.in-Ok-Err.field-0-is in
    let it : EndsSent {A = Sent} limits held first name (Ok (Err c.in-Ok-Err.status)) =
    subst (λ (r : Result (Result Sent Status) Fault). EndsSent {A = Sent} limits held first name r) so
    (subst (λ (h : Option Texts). EndsSent {A = Sent} limits h first name c.sent_of.result) c.loop-name.invariant.kept
    (c.sent_of.ensures.ends first (c.loop-name.invariant.first first is))) in
    (one_is (λ n. Has limits false held first (Some n) statuses.Refused) words i d within it.0, it.1)

pub returns-in-Err-clause-ends : goal.returns-in-Err-clause-ends
returns-in-Err-clause-ends g c = λ first is.
    let d : Bor (List ℕ) = record { ref_ptr = (0, 0); now = [] } in
    let name : List ℕ = (get_or c.args.answering.now.sent.now c.loop-name.name-index d).now in
    subst (λ (r : Result (Result Sent Status) Fault). EndsSent {A = Sent} c.args.answering.now.limits (g.S.Store.held c.loop-name.store) first name r)
    c.in-Err.is (c.sent_of.ensures.ends first (c.loop-name.invariant.first first is))

pub loop-name-preserved : goal.loop-name-preserved
loop-name-preserved g c =
    let d : Bor (List ℕ) = record { ref_ptr = (0, 0); now = [] } in
    let i : ℕ = c.loop-name.name-index in
    let words : List (Bor (List ℕ)) = c.args.answering.now.sent.now in
    let limits = c.args.answering.now.limits in
    let held = g.S.Store.held c.args.store.now in
    let name : List ℕ = (get_or words i d).now in
    let sent : Sent = c.in-Ok-Ok.sent in
    let so : c.sent_of.result ≡ Ok (Ok sent) = c.in-Ok-Ok.is ∙ ap (λ (r : Result Sent Status). Ok r) c.in-Ok-Ok.field-0-is in
    record {
      kept = c.sent_of.ensures.kept ∙ c.loop-name.invariant.kept;
      first = λ first is. c.sent_of.ensures.first first (c.loop-name.invariant.first first is);
      sent = λ first is.
          let it : EndsSent {A = Sent} limits held first name (Ok (Ok sent)) =
          subst (λ (r : Result (Result Sent Status) Fault). EndsSent {A = Sent} limits held first name r) so
          (subst (λ (h : Option Texts). EndsSent {A = Sent} limits h first name c.sent_of.result) c.loop-name.invariant.kept
          (c.sent_of.ensures.ends first (c.loop-name.invariant.first first is))) in
          subst (λ (ws : List (List ℕ)). AreSent limits held first ws) (sym (words_more words i d (omega arith)))
          (All-push (λ n. Has limits false held first (Some n) statuses.Good)
          (take i (map {A = Bor (List ℕ)} {B = List ℕ} (λ w. w.now) words)) name (c.loop-name.invariant.sent first is) it);
      keeps = λ first is.
          let one = subst (λ (r : Result (Result Sent Status) Fault). IfOk r (λ read. IfOk read (λ it. (v : TransmissionValue)
          × IsAcceptedAt limits held first name v × (content_in it ≡ content_of v)))) so
          (subst (λ (h : Option Texts). IfOk c.sent_of.result (λ read. IfOk read (λ it. (v : TransmissionValue)
          × IsAcceptedAt limits h first name v × (content_in it ≡ content_of v)))) c.loop-name.invariant.kept
          (c.sent_of.ensures.sent first (c.loop-name.invariant.first first is))) in
          let contents : content_in sent ∷ [] ≡ content_shown (shown_in sent) ∷ [] = contents_shown (sent ∷ []) in
          let same : content_in sent ≡ content_shown (shown_in sent) = cc contents in
          subst (λ (ws : List (List ℕ)). KeepsSent limits held first ws c.add.new.self) (sym (words_more words i d (omega arith)))
          (sent_more limits held first (take i (map {A = Bor (List ℕ)} {B = List ℕ} (λ w. w.now) words)) name c.loop-name.delivery
          c.add.new.self (shown_in sent) one.0 (c.loop-name.invariant.keeps first is)
          (ap (λ (h : Held). h.sent) c.in-Ok-add.ensures) one.1 (sym same ∙ one.2));
      failures = sent_then c.sent_of.result (Ok sent) _ _ _ c.loop-name.invariant.failures so c.sent_of.ensures.failed;
      new = new_more c.args.answering.now.by_place c.loop-name.delivery c.add.new.self (shown_in sent) c.loop-name.invariant.new
          c.in-Ok-add.ensures
          (subst (λ (r : Result (Result Sent Status) Fault). IfOk r (λ read. IfOk read IsFresh)) so c.sent_of.ensures.fresh);
    }

pub returns-clause-ends : goal.returns-clause-ends
returns-clause-ends g c = λ first is.
    let i : ℕ = c.loop-name.name-index in
    let words : List (List ℕ) = map {A = Bor (List ℕ)} {B = List ℕ} (λ w. w.now) c.args.answering.now.sent.now in
    let enough : length words ≤ i = rw length-map (omega arith) in
    subst (λ (ws : List (List ℕ)). AreSent c.args.answering.now.limits (g.S.Store.held c.args.store.now) first ws) (take_all i words enough)
    (c.loop-name.invariant.sent first is)

pub returns-clause-stands : goal.returns-clause-stands
returns-clause-stands g c = new_stands c.args.answering.now.by_place c.loop-name.delivery c.loop-name.invariant.new

pub returns-in-Err-clause-failed : goal.returns-in-Err-clause-failed
returns-in-Err-clause-failed g c =
    sent_since c.sent_of.result c.in-Err.fault _ _ _ c.loop-name.invariant.failures c.in-Err.is c.sent_of.ensures.failed

pub returns-in-Ok-Err-clause-failed : goal.returns-in-Ok-Err-clause-failed
returns-in-Ok-Err-clause-failed g c =
    let so : c.sent_of.result ≡ Ok (Err c.in-Ok-Err.status) =
    c.in-Ok-Err.is ∙ ap (λ (r : Result Sent Status). Ok r) c.in-Ok-Err.field-0-is in
    sent_then c.sent_of.result (Err c.in-Ok-Err.status) _ _ _ c.loop-name.invariant.failures so c.sent_of.ensures.failed

pub returns-clause-sent : goal.returns-clause-sent
returns-clause-sent g c = λ first is.
    let i : ℕ = c.loop-name.name-index in
    let words : List (List ℕ) = map {A = Bor (List ℕ)} {B = List ℕ} (λ w. w.now) c.args.answering.now.sent.now in
    let enough : length words ≤ i = rw length-map (omega arith) in
    let some : 1 ≤ length words =
    rw length-map (omega (arith, eqb-false (length c.args.answering.now.sent.now) 0 (sym c.if-is_empty.ensures))) in
    sent_kept_so c.args.answering.now.limits c.args.answering.now.by_place (g.S.Store.held c.args.store.now) first words c.loop-name.delivery some
    c.loop-name.invariant.new
    (subst (λ (ws : List (List ℕ)). KeepsSent c.args.answering.now.limits (g.S.Store.held c.args.store.now) first ws c.loop-name.delivery)
    (take_all i words enough) (c.loop-name.invariant.keeps first is))
