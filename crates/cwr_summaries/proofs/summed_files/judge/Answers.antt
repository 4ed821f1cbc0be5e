use Rattle.std.proofs.Common.{None, false, sym, subst}
use Rattle.std.specs.Prelude.{IfOk, IfSome, Result}
use Rattle.cwr_tools.specs.declared.verdicts.ToolFault.{ToolFault}
use Rattle.cwr_endings.specs.declared.judgements.Judgement.{Judgement}
use Rattle.cwr_endings.specs.Format.Endings.{IsStatusBy}
use Rattle.cwr_reports.specs.Format.Endings.{Counts}
use Rattle.cwr_reports.specs.Steps.Tellings.{CountsInput}
use Rattle.cwr_reports.proofs.lemmas.EndsOnTexts.{counts_input, counts_reading, looks_told}
use Rattle.cwr_answers.specs.Format.Endings.{wanted_of}
use Rattle.cwr_answers.proofs.lemmas.Ends.{judged_status}
use Rattle.cwr_summaries.specs.Steps.Rows.{Judges}
use Rattle.cwr_summaries.proofs.lemmas.Judged.{judges}
use Rattle.cwr_summaries.proofs.summed_files.judge.Goals as goal

pub returns-clause-judges : goal.returns-clause-judges
returns-clause-judges g c =
    let limits = c.args.summing.now.limits in
    let whole = c.args.summing.now.whole in
    let before = g.R.Source.remaining c.args.reader.now in
    let mid = g.R.Source.remaining c.write_report-nowhere.new.reader in
    let outcome = c.write_report-nowhere.result.1 in
    let look = c.look_after-look.result in
    let runs = c.write_report-nowhere.ensures.runs c.requires.0 c.requires.1 in
    subst (λ (r : Result Judgement ToolFault). IfOk r (λ judgement. IfSome before (λ text. IsStatusBy (Counts None) limits (wanted_of whole) text
    judgement.status))) (sym c.judgement_of.ensures)
    (judged_status limits whole before outcome look runs.judged
    (looks_told c.requires.0 limits before mid (g.R.Source.remaining c.look_after-look.new.reader) g.W.Target.contents c.args.nowhere
    c.write_report-nowhere.result.0 outcome look runs.told c.look_after-look.ensures.looks))

pub returns-clause-stands : goal.returns-clause-stands
returns-clause-stands g c = λ of stands.
    let limits = c.args.summing.now.limits in
    let before = g.R.Source.remaining c.args.reader.now in
    let mid = g.R.Source.remaining c.write_report-nowhere.new.reader in
    let after = g.R.Source.remaining c.look_after-look.new.reader in
    let here = g.L.Report.stands c.write_report-nowhere.new.lines of in
    subst (λ (r : Result Judgement ToolFault). IfOk r (λ judgement. IfSome before (λ text. Judges here limits text after judgement)))
    (sym c.judgement_of.ensures)
    (judges here limits before mid after (wanted_of c.args.summing.now.whole) c.write_report-nowhere.result.1 c.look_after-look.result false
    (c.write_report-nowhere.ensures.stands of stands) c.look_after-look.ensures.looks)

pub returns-clause-failures : goal.returns-clause-failures
returns-clause-failures g c =
    let outcome = c.write_report-nowhere.result.1 in
    let look = c.look_after-look.result in
    let old = g.R.Source.failures c.args.reader.now in
    let mid = g.R.Source.failures c.write_report-nowhere.new.reader in
    let new = g.R.Source.failures c.look_after-look.new.reader in
    subst (λ (r : Result Judgement ToolFault). CountsInput r old new) (sym c.judgement_of.ensures)
    (counts_input (wanted_of c.args.summing.now.whole) outcome look false old new
    (counts_reading outcome look old mid new (c.write_report-nowhere.ensures.runs c.requires.0 c.requires.1).reader_failures
    c.look_after-look.ensures.unasked c.look_after-look.ensures.failures))
