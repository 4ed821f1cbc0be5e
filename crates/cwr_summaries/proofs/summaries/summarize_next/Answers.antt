use Rattle.std.proofs.Common.{◌∙◌, ◌≢◌, List, None, Option, Some, ℕ, ap, inl, subst}
use Rattle.std.specs.Prelude.{Err, IfOk, IfSome, Result}
use Rattle.cwr_devices.specs.Format.Failures.{one_more_failure}
use Rattle.cwr_tools.specs.declared.verdicts.ToolFault.{ToolFault}
use Rattle.cwr_files.specs.declared.faults.Fault.TheVariants as faults
use Rattle.cwr_files.specs.Format.Inputs.{is_standard}
use Rattle.cwr_files.specs.Steps.Inputs.{remaining_of}
use Rattle.cwr_files.proofs.lemmas.Reads.{if_read}
use Rattle.cwr_endings.specs.declared.endings.Look.TheVariants as looks
use Rattle.cwr_endings.specs.Format.Endings.{IsStatusBy}
use Rattle.cwr_reports.specs.Format.Endings.{Counts}
use Rattle.cwr_reports.specs.Steps.Looks.{IsJudged}
use Rattle.cwr_reports.proofs.lemmas.Pieces.{left_first}
use Rattle.cwr_answers.specs.Format.Endings.{wanted_of}
use Rattle.cwr_digests.specs.Format.Digests.{HasBytes}
use Rattle.cwr_summaries.specs.declared.summaries.Found.{Found}
use Rattle.cwr_summaries.specs.Steps.Pieces.{CountsFault}
use Rattle.cwr_summaries.specs.Steps.Rows.{IsFound}
use Rattle.cwr_summaries.proofs.lemmas.Counted.{counts_told}
use Rattle.cwr_summaries.proofs.lemmas.FoundRows.{failed_next, found_next, unopened_counts}
use Rattle.cwr_summaries.proofs.lemmas.Inputs.{first_after}
use Rattle.cwr_summaries.proofs.lemmas.Judged.{looked_well}
use Rattle.cwr_summaries.proofs.summaries.summarize_next.Goals as goal

pub returns-in-Ok-add-clause-counted : goal.returns-in-Ok-add-clause-counted
returns-in-Ok-add-clause-counted g c = λ first is.
    let left : Option (List ℕ) = remaining_of g.S.Reader.Read.remaining g.I.Read.remaining c.in-Ok.input in
    let limits = c.args.summing.now.limits in
    let whole = c.args.summing.now.whole in
    let held = g.S.Store.held c.args.store.now in
    let status = c.in-Ok-found.found.judgement.status in
    counts_told limits whole held first c.args.name.now c.args.totals.now.sums.status c.add.new.self.sums.status c.tell_found.result.1
    c.tell_found.ensures.untold (inl (
      status,
      c.in-Ok-add.ensures.status,
      if_read held first (Some c.args.name.now) left (λ text. IsStatusBy (Counts None) limits (wanted_of whole) text status)
          (left_first held g.I.Read.remaining c.args.standard.now first c.args.name.now left c.in-Ok.ensures.left c.in-Ok.ensures.there is)
          (subst (λ (r : Result Found ToolFault). IfOk r (λ found. IfSome left (λ text. IsStatusBy (Counts None) limits (wanted_of whole)
          text found.judgement.status))) c.in-Ok-found.is c.read_input-found.ensures.judges),
    ))

pub returns-in-Err-clause-told : goal.returns-in-Err-clause-told
returns-in-Err-clause-told g c = λ first is.
    failed_next c.args.summing.now.form c.args.summing.now.limits c.args.summing.now.digests c.args.summing.now.whole c.args.summing.now.quiet
    (g.S.Store.held c.args.store.now) first c.args.name.now g.W.Target.contents c.args.lines c.tell_failed.result.0
    (g.S.Store.failures c.args.store.now) (g.S.Store.failures c.open_input.new.store) c.args.totals.now c.count_failed.new.self c.in-Err.fault
    c.tell_failed.result.1
    (unopened_counts (Some c.args.name.now) c.args.standard.now (g.S.Store.failures c.args.store.now)
    (g.S.Store.failures c.open_input.new.store) c.in-Err.fault c.in-Err.ensures.unopened) c.count_failed.ensures.totals
    c.count_failed.ensures.status c.tell_failed.ensures.puts

pub returns-in-Ok-add-clause-told : goal.returns-in-Ok-add-clause-told
returns-in-Ok-add-clause-told g c = λ first is.
    let left : Option (List ℕ) = remaining_of g.S.Reader.Read.remaining g.I.Read.remaining c.in-Ok.input in
    let limits = c.args.summing.now.limits in
    let whole = c.args.summing.now.whole in
    let digests = c.args.summing.now.digests in
    let held = g.S.Store.held c.args.store.now in
    let found = c.in-Ok-found.found in
    let read = c.read_input-found in
    found_next c.args.summing.now.form limits digests whole c.args.summing.now.quiet held first c.args.name.now g.W.Target.contents c.args.lines
    c.tell_found.result.0 (g.S.Store.failures c.args.store.now) (g.S.Store.failures read.new.store) c.args.totals.now c.add.new.self found left
    c.tell_found.result.1
    (left_first held g.I.Read.remaining c.args.standard.now first c.args.name.now left c.in-Ok.ensures.left c.in-Ok.ensures.there is)
    (subst (λ (r : Result Found ToolFault). IfOk r (λ f. IsJudged f.judgement)) c.in-Ok-found.is read.ensures.read)
    (subst (λ (r : Result Found ToolFault). IfOk r (λ f. IfSome left (λ text. IsStatusBy (Counts None) limits (wanted_of whole)
    text f.judgement.status))) c.in-Ok-found.is read.ensures.judges)
    (subst (λ (r : Result Found ToolFault). IfOk r (λ f. IfSome left (λ text. IsFound limits text f))) c.in-Ok-found.is read.ensures.found)
    (subst (λ (r : Result Found ToolFault). IfOk r (λ f. HasBytes digests left f.bytes f.digest)) c.in-Ok-found.is read.ensures.bytes)
    (looked_well found.judgement.look (g.S.Store.failures c.args.store.now) (g.S.Store.failures read.new.store)
    (subst (λ (r : Result Found ToolFault). IfOk r (λ f. f.judgement.look ≢ looks.Failed)) c.in-Ok-found.is read.ensures.seen)
    (subst (λ (r : Result Found ToolFault). CountsFault r (g.S.Store.failures c.open_input.new.store) (g.S.Store.failures read.new.store))
    c.in-Ok-found.is read.ensures.failures ∙ c.in-Ok.ensures.opened)) c.in-Ok-add.ensures.totals c.in-Ok-add.ensures.status
    c.tell_found.ensures.puts

pub returns-in-Ok-add-clause-first : goal.returns-in-Ok-add-clause-first
returns-in-Ok-add-clause-first g c = λ first is.
    first_after g.I.Read.remaining (is_standard (Some c.args.name.now)) c.args.standard.now c.open_input.new.standard first
    c.open_input.ensures.standard is

pub returns-in-Reader-clause-told : goal.returns-in-Reader-clause-told
returns-in-Reader-clause-told g c = λ first is.
    let read = c.read_input-found in
    failed_next c.args.summing.now.form c.args.summing.now.limits c.args.summing.now.digests c.args.summing.now.whole c.args.summing.now.quiet
    (g.S.Store.held c.args.store.now) first c.args.name.now g.W.Target.contents c.args.lines c.tell_failed-in-Reader.result.0
    (g.S.Store.failures c.args.store.now) (g.S.Store.failures read.new.store) c.args.totals.now c.count_failed-in-Reader.new.self
    (faults.Read read.result.1) c.tell_failed-in-Reader.result.1
    (subst (λ (r : Result Found ToolFault). CountsFault r (g.S.Store.failures c.open_input.new.store) (g.S.Store.failures read.new.store))
    (c.in-Err-found.is ∙ ap (λ (f : ToolFault). Err f) c.in-Reader.is) read.ensures.failures
    ∙ ap one_more_failure c.in-Ok.ensures.opened) c.count_failed-in-Reader.ensures.totals
    c.count_failed-in-Reader.ensures.status c.tell_failed-in-Reader.ensures.puts
