use Rattle.std.proofs.Common.{◌≡◌, ◌∙◌, Bor, List, ℕ, Option, ap, inl, map, refl, subst}
use Rattle.std.specs.Prelude.{Err, IfOk, Ok, Result}
use Rattle.cwr_delivery.specs.declared.deliveries.Delivery.{Delivery}
use Rattle.cwr_files.specs.declared.faults.Fault.{Fault}
use Rattle.cwr_files.specs.Format.Files.{Texts}
use Rattle.cwr_endings.specs.declared.endings.Status.{Status}
use Rattle.cwr_answers.specs.Steps.Reading.{EndsAllSent, EndsByStates, HasSent}
use Rattle.cwr_answers.proofs.lemmas.Ends.{unsent_ends}
use Rattle.cwr_answers.proofs.lemmas.States.{sent_ends}
use Rattle.cwr_answers.proofs.answers.match_answers.Goals as goal

pub returns-in-Ok-Err-clause-ends : goal.returns-in-Ok-Err-clause-ends
returns-in-Ok-Err-clause-ends g c =
    let sent : List (List ℕ) = map {A = Bor (List ℕ)} {B = List ℕ} (λ n. n.now) c.args.answering.now.sent.now in
    let first = g.I.Read.remaining c.args.standard in
    let so : c.delivery_of.result ≡ Ok (Err c.in-Ok-Err.status) =
    c.in-Ok-Err.is ∙ ap (λ (r : Result (Option Delivery) Status). Ok r) c.in-Ok-Err.field-0-is in
    inl (subst (λ (r : Result (Result (Option Delivery) Status) Fault). EndsAllSent {A = Option Delivery} c.args.answering.now.limits
    (g.S.Store.held c.args.store.now) first sent r) so (c.delivery_of.ensures.ends first (λ there. refl)))

pub returns-in-Err-clause-ends : goal.returns-in-Err-clause-ends
returns-in-Err-clause-ends g c =
    let names : List (List ℕ) = map {A = Bor (List ℕ)} {B = List ℕ} (λ n. n.now) c.args.answering.now.files.now in
    let sent : List (List ℕ) = map {A = Bor (List ℕ)} {B = List ℕ} (λ n. n.now) c.args.answering.now.sent.now in
    let first = g.I.Read.remaining c.args.standard in
    unsent_ends c.args.answering.now.limits c.args.answering.now.whole c.args.answering.now.by_place c.args.answering.now.fail_on (g.S.Store.held c.args.store.now) first names
    sent c.in-Err.fault
    (subst (λ (r : Result (Result (Option Delivery) Status) Fault). EndsAllSent {A = Option Delivery} c.args.answering.now.limits
    (g.S.Store.held c.args.store.now) first sent r) c.in-Err.is (c.delivery_of.ensures.ends first (λ there. refl)))

pub returns-then-answering-clause-ends : goal.returns-then-answering-clause-ends
returns-then-answering-clause-ends g c =
    let limits = c.args.answering.now.limits in
    let whole = c.args.answering.now.whole in
    let fail_on = c.args.answering.now.fail_on in
    let held = g.S.Store.held c.args.store.now in
    let names : List (List ℕ) = map {A = Bor (List ℕ)} {B = List ℕ} (λ n. n.now) c.args.answering.now.files.now in
    let sent : List (List ℕ) = map {A = Bor (List ℕ)} {B = List ℕ} (λ n. n.now) c.args.answering.now.sent.now in
    let first = g.I.Read.remaining c.args.standard in
    let so : c.delivery_of.result ≡ Ok (Ok c.in-Ok-Ok.delivery) =
    c.in-Ok-Ok.is ∙ ap (λ (r : Result (Option Delivery) Status). Ok r) c.in-Ok-Ok.field-0-is in
    sent_ends limits whole c.args.answering.now.by_place fail_on held first names sent c.in-Ok-Ok.delivery c.tell_table.result.1
    (subst (λ (r : Result (Result (Option Delivery) Status) Fault). EndsAllSent {A = Option Delivery} limits held first sent r) so
    (c.delivery_of.ensures.ends first (λ there. refl)))
    (subst (λ (r : Result (Result (Option Delivery) Status) Fault). IfOk r (λ read. IfOk read
    (HasSent limits c.args.answering.now.by_place held first sent))) so (c.delivery_of.ensures.sent first (λ there. refl)))
    (λ matched kept. subst (λ (h : Option Texts). EndsByStates limits whole fail_on h first names matched c.tell_table.result.1)
    c.delivery_of.ensures.kept (c.tell_table.ensures.ends first (c.delivery_of.ensures.first first (λ there. refl)) matched kept))

pub returns-clause-ends : goal.returns-clause-ends
returns-clause-ends g c =
    let limits = c.args.answering.now.limits in
    let whole = c.args.answering.now.whole in
    let fail_on = c.args.answering.now.fail_on in
    let held = g.S.Store.held c.args.store.now in
    let names : List (List ℕ) = map {A = Bor (List ℕ)} {B = List ℕ} (λ n. n.now) c.args.answering.now.files.now in
    let sent : List (List ℕ) = map {A = Bor (List ℕ)} {B = List ℕ} (λ n. n.now) c.args.answering.now.sent.now in
    let first = g.I.Read.remaining c.args.standard in
    let so : c.delivery_of.result ≡ Ok (Ok c.in-Ok-Ok.delivery) =
    c.in-Ok-Ok.is ∙ ap (λ (r : Result (Option Delivery) Status). Ok r) c.in-Ok-Ok.field-0-is in
    sent_ends limits whole c.args.answering.now.by_place fail_on held first names sent c.in-Ok-Ok.delivery c.tell_lines.result.1
    (subst (λ (r : Result (Result (Option Delivery) Status) Fault). EndsAllSent {A = Option Delivery} limits held first sent r) so
    (c.delivery_of.ensures.ends first (λ there. refl)))
    (subst (λ (r : Result (Result (Option Delivery) Status) Fault). IfOk r (λ read. IfOk read
    (HasSent limits c.args.answering.now.by_place held first sent))) so (c.delivery_of.ensures.sent first (λ there. refl)))
    (λ matched kept. subst (λ (h : Option Texts). EndsByStates limits whole fail_on h first names matched c.tell_lines.result.1)
    c.delivery_of.ensures.kept (c.tell_lines.ensures.ends first (c.delivery_of.ensures.first first (λ there. refl)) matched kept))
