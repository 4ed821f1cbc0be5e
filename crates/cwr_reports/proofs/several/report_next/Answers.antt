use Rattle.std.proofs.Common.{◌≡◌, ◌∙◌, List, ℕ, Bool, Option, Some, ap, inl, subst, rules}
use Rattle.std.specs.Prelude.{IfOk, Result, Ok, Err}
use Rattle.cwr_files.specs.Format.Inputs.{is_standard, shown_name}
use Rattle.cwr_files.specs.Steps.Inputs.{remaining_of}
use Rattle.cwr_files.specs.declared.faults.Told.{Told}
use Rattle.cwr_endings.specs.declared.judgements.Judgement.{Judgement}
use Rattle.cwr_endings.specs.declared.stops.Stop.{Stop}
use Rattle.cwr_endings.specs.Format.Endings.{IsStatusBy}
use Rattle.cwr_reports.specs.declared.tellings.Count.{Count}
use Rattle.cwr_reports.specs.Format.Endings.{Counts, advice_asked, advice_in}
use Rattle.cwr_reports.specs.Steps.Looks.{IsJudged, JudgesRead}
use Rattle.cwr_reports.proofs.lemmas.MarkedLines.{appends_none}
use Rattle.cwr_reports.proofs.lemmas.Pieces.{failed_next, left_first, read_next, unopened_next}
use Rattle.cwr_reports.specs.Steps.Marked.{HasStatus, MarksRead}
use Rattle.cwr_reports.specs.Steps.Tellings.{CountsStop}
use Rattle.cwr_endings.specs.declared.stops.Stop.TheVariants as stops
use Rattle.cwr_endings.specs.Steps.Looks.{CountsLook}
use Rattle.cwr_reports.proofs.lemmas.WorstOf.{next_so}
use Rattle.cwr_reports.proofs.several.report_next.Goals as goal

pub returns-in-Ok-read-clause-counted : goal.returns-in-Ok-read-clause-counted
returns-in-Ok-read-clause-counted g c =
    let asked = c.args.asked.now in
    let left : Option (List ℕ) = remaining_of g.S.Reader.Read.remaining g.I.Read.remaining c.in-Ok.input in
    inl (
      c.in-Ok-read.judgement.status,
      c.count.ensures.status,
      next_so (is_standard (Some c.args.name.now)) (g.S.Store.held c.args.store.now) g.I.Read.remaining c.args.standard.now c.args.name.now left
          (λ text. IsStatusBy (Counts (advice_asked asked)) asked.limits asked.wanted text c.in-Ok-read.judgement.status) c.in-Ok.ensures.left
          c.in-Ok.ensures.there
          (subst (λ (advice : Option (Bool × ℕ)). JudgesRead {A = Told} {B = Count} advice asked.limits asked.wanted left
          (Ok (c.in-Ok-read.judgement, c.in-Ok-read.told, c.in-Ok-read.count))) c.telling_of-telling.ensures.advice
          (subst (λ (r : Result (Judgement × Told × Count) Stop). JudgesRead {A = Told} {B = Count} (advice_in c.telling_of-telling.result)
          asked.limits asked.wanted left r) c.in-Ok-read.is c.marked_lines_on-lines.ensures.judges)),
    )

pub returns-in-Err-clause-told : goal.returns-in-Err-clause-told
returns-in-Err-clause-told g c = λ first is few.
    unopened_next c.args.asked.now c.args.explained (g.S.Store.held c.args.store.now) first c.args.name.now g.W.Target.contents
    c.args.standard.now c.args.lines (g.S.Store.failures c.args.store.now) (g.S.Store.failures c.open_input.new.store)
    c.args.tally.now.sums c.count_failed.new.self c.in-Err.fault c.in-Err.ensures.unopened (appends_none (g.W.Target.contents c.args.lines))
    c.count_failed.ensures.sums c.count_failed.ensures.status

pub returns-in-Ok-read-clause-told : goal.returns-in-Ok-read-clause-told
returns-in-Ok-read-clause-told g c = λ first is few.
    let asked = c.args.asked.now in
    let left : Option (List ℕ) = remaining_of g.S.Reader.Read.remaining g.I.Read.remaining c.in-Ok.input in
    let on = c.marked_lines_on-lines in
    let read = c.in-Ok-read in
    let called : c.as_str.result.now ≡ shown_name c.args.name.now = search (rules, c.as_str.ensures, c.in-Ok-shown_name.ensures) in
    let marked_so : c.as_str-2.result.now ≡ shown_name c.args.name.now =
    search (rules, c.as_str-2.ensures, c.in-Ok-shown_name.ensures) in
    let rated : HasStatus asked left (Ok read.judgement) = (
      subst (λ (r : Result (Judgement × Told × Count) Stop). IfOk r (λ it. IsJudged it.0)) read.is on.ensures.read,
      subst (λ (advice : Option (Bool × ℕ)). JudgesRead {A = Told} {B = Count} advice asked.limits asked.wanted left
          (Ok (read.judgement, read.told, read.count))) c.telling_of-telling.ensures.advice
          (subst (λ (r : Result (Judgement × Told × Count) Stop). JudgesRead {A = Told} {B = Count} (advice_in c.telling_of-telling.result)
          asked.limits asked.wanted left r) read.is on.ensures.judges),
    ) in
    read_next asked c.args.explained (g.S.Store.held c.args.store.now) first c.args.name.now g.W.Target.contents left
    c.as_str.result c.as_str-2.result.now c.telling_of-telling.result c.args.lines on.result.0
    (g.S.Store.failures c.open_input.new.store) (g.S.Store.failures c.args.store.now) (g.S.Store.failures on.new.store)
    c.args.tally.now.sums c.count.new.self read.judgement read.told read.count
    (left_first (g.S.Store.held c.args.store.now) g.I.Read.remaining c.args.standard.now first c.args.name.now left c.in-Ok.ensures.left
    c.in-Ok.ensures.there is) rated called marked_so c.telling_of-telling.ensures.telling c.in-Ok.ensures.opened
    (subst (λ (r : Result (Judgement × Told × Count) Stop). IfOk r (λ it. CountsLook it.0.look (g.S.Store.failures c.open_input.new.store)
    (g.S.Store.failures on.new.store))) read.is on.ensures.looks)
    (subst (λ (r : Result (Judgement × Told × Count) Stop). MarksRead {A = Told} {B = Count} asked c.telling_of-telling.result
    (Some c.as_str-2.result.now) left g.W.Target.contents c.args.lines on.result.0 r) read.is (on.ensures.told few))
    c.count.ensures.sums c.count.ensures.status

pub returns-clause-told : goal.returns-clause-told
returns-clause-told g c = λ first is few.
    let asked = c.args.asked.now in
    let left : Option (List ℕ) = remaining_of g.S.Reader.Read.remaining g.I.Read.remaining c.in-Ok.input in
    let on = c.marked_lines_on-lines in
    let fault = c.in-Err-Fault.fault in
    let held : c.in-Err-Fault.field-0 ≡ stops.Fault fault = rw c.in-Err-Fault.is at c.in-Err-Fault.field-0-is in
    let so : on.result.1 ≡ Err (stops.Fault fault) = c.in-Err-Fault.is ∙ ap (λ (stop : Stop). Err stop) held in
    let called : c.as_str.result.now ≡ shown_name c.args.name.now = search (rules, c.as_str.ensures, c.in-Ok-shown_name.ensures) in
    let marked_so : c.as_str-2.result.now ≡ shown_name c.args.name.now =
    search (rules, c.as_str-2.ensures, c.in-Ok-shown_name.ensures) in
    failed_next asked c.args.explained (g.S.Store.held c.args.store.now) first c.args.name.now g.W.Target.contents Told Count
    (advice_in c.telling_of-telling.result) asked.wanted left
    c.as_str.result c.as_str-2.result.now c.telling_of-telling.result c.args.lines on.result.0
    (g.S.Store.failures c.open_input.new.store) (g.S.Store.failures c.args.store.now) (g.S.Store.failures on.new.store)
    (g.W.Target.failures c.args.lines) (g.W.Target.failures on.result.0)
    c.args.tally.now.sums c.count_failed-in-Err-Fault.new.self fault
    (left_first (g.S.Store.held c.args.store.now) g.I.Read.remaining c.args.standard.now first c.args.name.now left c.in-Ok.ensures.left
    c.in-Ok.ensures.there is) called marked_so c.telling_of-telling.ensures.telling c.in-Ok.ensures.opened
    (subst (λ (r : Result (Judgement × Told × Count) Stop). JudgesRead {A = Told} {B = Count} (advice_in c.telling_of-telling.result)
    asked.limits asked.wanted left r) so on.ensures.judges)
    (subst (λ (r : Result (Judgement × Told × Count) Stop). CountsStop r (g.S.Store.failures c.open_input.new.store)
    (g.S.Store.failures on.new.store) (g.W.Target.failures c.args.lines) (g.W.Target.failures on.result.0)) so on.ensures.failures)
    (subst (λ (r : Result (Judgement × Told × Count) Stop). MarksRead {A = Told} {B = Count} asked c.telling_of-telling.result
    (Some c.as_str-2.result.now) left g.W.Target.contents c.args.lines on.result.0 r) so (on.ensures.told few))
    c.count_failed-in-Err-Fault.ensures.sums c.count_failed-in-Err-Fault.ensures.status
