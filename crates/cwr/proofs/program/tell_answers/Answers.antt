use Rattle.std.proofs.Common.{◌≡◌, ◌∙◌, true, Bor, List, ℕ, Option, None, Some, ap, map, sym}
use Rattle.std.specs.Prelude.{OnOk, option_map}
use Rattle.cwr_endings.specs.Format.Failures.{FailsSo}
use Rattle.cwr.specs.Format.Failures.{one_of}
use Rattle.cwr.specs.Steps.Tells.{TellsAnswers}
use Rattle.cwr.proofs.lemmas.Answering.{answers_told, asked_ends, matched_ends, of_alone, of_matched, so_answers}
use Rattle.cwr.proofs.program.tell_answers.Goals as goal

pub returns-in-Some-clause-ends : goal.returns-in-Some-clause-ends
returns-in-Some-clause-ends g c =
    let names : List (List ℕ) = map {A = Bor (List ℕ)} {B = List ℕ} (λ n. n.now) c.args.answering.now.files.now in
    let sent : List (List ℕ) = map {A = Bor (List ℕ)} {B = List ℕ} (λ n. n.now) c.args.answering.now.sent.now in
    let name : Option (List ℕ) = option_map (λ n. n.now) c.in-Some.name in
    let alone : one_of names sent ≡ Some name =
    sym c.alone.ensures
    ∙ ap (λ (r : Option (Option (Bor (List ℕ)))). option_map {U = Option (List ℕ)} (λ it. option_map (λ n. n.now) it) r) c.in-Some.is in
    asked_ends c.args.answering.now.limits c.args.asked.now.limits c.args.answering.now.whole
    c.args.answering.now.by_place c.args.asked.now.wanted
    c.args.answering.now.fail_on (g.S.Store.held c.args.store.now) (g.I.Read.remaining c.args.standard) names sent name
    c.report_file.result.1 c.requires.limits c.requires.wanted alone c.report_file.ensures.ends

pub returns-in-Some-clause-told : goal.returns-in-Some-clause-told
returns-in-Some-clause-told g c =
    let names : List (List ℕ) = map {A = Bor (List ℕ)} {B = List ℕ} (λ n. n.now) c.args.answering.now.files.now in
    let sent : List (List ℕ) = map {A = Bor (List ℕ)} {B = List ℕ} (λ n. n.now) c.args.answering.now.sent.now in
    let name : Option (List ℕ) = option_map (λ n. n.now) c.in-Some.name in
    let alone : one_of names sent ≡ Some name =
    sym c.alone.ensures
    ∙ ap (λ (r : Option (Option (Bor (List ℕ)))). option_map {U = Option (List ℕ)} (λ it. option_map (λ n. n.now) it) r) c.in-Some.is in
    of_alone names sent (λ (it : Option (List ℕ)). TellsAnswers c.args.answering.now.form c.args.answering.now.statuses.now
    c.args.answering.now.limits (g.S.Store.held c.args.store.now) (g.I.Read.remaining c.args.standard) it g.W.Target.contents c.args.lines
    c.report_file.result.0 c.report_file.result.1)
    name alone
    (answers_told c.args.answering.now.form c.args.answering.now.statuses c.args.answering.now.limits c.args.asked.now.limits
    (g.S.Store.held c.args.store.now) (g.I.Read.remaining c.args.standard) name g.W.Target.contents c.args.lines c.report_file.result.0
    c.report_file.result.1 c.requires.limits (c.report_file.ensures.told c.requires.lines))

pub returns-in-Some-clause-failed : goal.returns-in-Some-clause-failed
returns-in-Some-clause-failed g c =
    let names : List (List ℕ) = map {A = Bor (List ℕ)} {B = List ℕ} (λ n. n.now) c.args.answering.now.files.now in
    let sent : List (List ℕ) = map {A = Bor (List ℕ)} {B = List ℕ} (λ n. n.now) c.args.answering.now.sent.now in
    let name : Option (List ℕ) = option_map (λ n. n.now) c.in-Some.name in
    let alone : one_of names sent ≡ Some name =
    sym c.alone.ensures
    ∙ ap (λ (r : Option (Option (Bor (List ℕ)))). option_map {U = Option (List ℕ)} (λ it. option_map (λ n. n.now) it) r) c.in-Some.is in
    of_alone names sent (λ (it : Option (List ℕ)). FailsSo c.report_file.result.1 (g.S.Store.failures c.args.store.now)
    (g.S.Store.failures c.report_file.new.store)) name alone
    c.report_file.ensures.failed

pub returns-in-Some-clause-stopped : goal.returns-in-Some-clause-stopped
returns-in-Some-clause-stopped g c =
    so_answers c.report_file.result.1 (g.S.Store.failures c.args.store.now) (g.S.Store.failures c.report_file.new.store)
    c.report_file.ensures.failed

pub returns-in-Some-clause-handed_on : goal.returns-in-Some-clause-handed_on
returns-in-Some-clause-handed_on g c =
    let names : List (List ℕ) = map {A = Bor (List ℕ)} {B = List ℕ} (λ n. n.now) c.args.answering.now.files.now in
    let sent : List (List ℕ) = map {A = Bor (List ℕ)} {B = List ℕ} (λ n. n.now) c.args.answering.now.sent.now in
    let name : Option (List ℕ) = option_map (λ n. n.now) c.in-Some.name in
    let alone : one_of names sent ≡ Some name =
    sym c.alone.ensures
    ∙ ap (λ (r : Option (Option (Bor (List ℕ)))). option_map {U = Option (List ℕ)} (λ it. option_map (λ n. n.now) it) r) c.in-Some.is in
    of_alone names sent (λ (it : Option (List ℕ)). OnOk c.report_file.result.1 (g.W.Target.handed_on c.report_file.result.0 ≡ true)) name alone
    c.report_file.ensures.handed_on

pub returns-in-None-clause-ends : goal.returns-in-None-clause-ends
returns-in-None-clause-ends g c =
    let names : List (List ℕ) = map {A = Bor (List ℕ)} {B = List ℕ} (λ n. n.now) c.args.answering.now.files.now in
    let sent : List (List ℕ) = map {A = Bor (List ℕ)} {B = List ℕ} (λ n. n.now) c.args.answering.now.sent.now in
    let matched : one_of names sent ≡ None =
    sym c.alone.ensures
    ∙ ap (λ (r : Option (Option (Bor (List ℕ)))). option_map {U = Option (List ℕ)} (λ it. option_map (λ n. n.now) it) r) c.in-None.is in
    matched_ends c.args.answering.now.limits c.args.asked.now.limits c.args.answering.now.whole
    c.args.answering.now.by_place c.args.asked.now.wanted
    c.args.answering.now.fail_on (g.S.Store.held c.args.store.now) (g.I.Read.remaining c.args.standard) names sent
    c.match_answers.result.1 matched c.match_answers.ensures.ends

pub returns-in-None-clause-told : goal.returns-in-None-clause-told
returns-in-None-clause-told g c =
    let names : List (List ℕ) = map {A = Bor (List ℕ)} {B = List ℕ} (λ n. n.now) c.args.answering.now.files.now in
    let sent : List (List ℕ) = map {A = Bor (List ℕ)} {B = List ℕ} (λ n. n.now) c.args.answering.now.sent.now in
    let matched : one_of names sent ≡ None =
    sym c.alone.ensures
    ∙ ap (λ (r : Option (Option (Bor (List ℕ)))). option_map {U = Option (List ℕ)} (λ it. option_map (λ n. n.now) it) r) c.in-None.is in
    of_matched names sent (λ (it : Option (List ℕ)). TellsAnswers c.args.answering.now.form c.args.answering.now.statuses.now
    c.args.answering.now.limits (g.S.Store.held c.args.store.now) (g.I.Read.remaining c.args.standard) it g.W.Target.contents c.args.lines
    c.match_answers.result.0 c.match_answers.result.1) matched

pub returns-in-None-clause-failed : goal.returns-in-None-clause-failed
returns-in-None-clause-failed g c =
    let names : List (List ℕ) = map {A = Bor (List ℕ)} {B = List ℕ} (λ n. n.now) c.args.answering.now.files.now in
    let sent : List (List ℕ) = map {A = Bor (List ℕ)} {B = List ℕ} (λ n. n.now) c.args.answering.now.sent.now in
    let matched : one_of names sent ≡ None =
    sym c.alone.ensures
    ∙ ap (λ (r : Option (Option (Bor (List ℕ)))). option_map {U = Option (List ℕ)} (λ it. option_map (λ n. n.now) it) r) c.in-None.is in
    of_matched names sent (λ (it : Option (List ℕ)). FailsSo c.match_answers.result.1 (g.S.Store.failures c.args.store.now)
    (g.S.Store.failures c.match_answers.new.store)) matched

pub returns-in-None-clause-handed_on : goal.returns-in-None-clause-handed_on
returns-in-None-clause-handed_on g c =
    let names : List (List ℕ) = map {A = Bor (List ℕ)} {B = List ℕ} (λ n. n.now) c.args.answering.now.files.now in
    let sent : List (List ℕ) = map {A = Bor (List ℕ)} {B = List ℕ} (λ n. n.now) c.args.answering.now.sent.now in
    let matched : one_of names sent ≡ None =
    sym c.alone.ensures
    ∙ ap (λ (r : Option (Option (Bor (List ℕ)))). option_map {U = Option (List ℕ)} (λ it. option_map (λ n. n.now) it) r) c.in-None.is in
    of_matched names sent (λ (it : Option (List ℕ)). OnOk c.match_answers.result.1 (g.W.Target.handed_on c.match_answers.result.0 ≡ true)) matched
