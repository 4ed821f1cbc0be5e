use Rattle.std.proofs.Common.{None, false, ℕ, sym, subst}
use Rattle.std.specs.Prelude.{IfOk, IfSome, Result}
use Rattle.cwr_tools.specs.declared.verdicts.ToolFault.{ToolFault}
use Rattle.cwr_tools.proofs.lemmas.RightReports.{judged_text}
use Rattle.cwr_acks.specs.Format.AckLines.{lines_of_acks}
use Rattle.cwr_endings.specs.declared.judgements.Judgement.{Judgement}
use Rattle.cwr_endings.specs.Format.Endings.{IsStatusBy}
use Rattle.cwr_reports.specs.Format.Endings.{Counts}
use Rattle.cwr_reports.specs.Steps.Looks.{IsJudged}
use Rattle.cwr_reports.specs.Steps.Tellings.{CountsInput, CountsWriting}
use Rattle.cwr_reports.proofs.lemmas.EndsOnTexts.{counts_input, counts_reading, judged_counts, judgement_read, looks_told}
use Rattle.cwr_answers.specs.Format.Endings.{wanted_of}
use Rattle.cwr_answers.specs.Steps.Reading.{StandsAfterRead}
use Rattle.cwr_answers.proofs.lemmas.AnsweredPlaces.{answers_judged}
use Rattle.cwr_answers.proofs.lemmas.Ends.{judged_status}
use Rattle.cwr_answers.proofs.lemmas.Kept.{stands_read}
use Rattle.cwr_answers.proofs.answers.read_source.Goals as goal

pub returns-clause-judges : goal.returns-clause-judges
returns-clause-judges g c =
    let limits = c.args.answering.now.limits in
    let whole = c.args.answering.now.whole in
    let before = g.R.Source.remaining c.args.reader.now in
    let mid = g.R.Source.remaining c.acks-lines.new.reader in
    let outcome = c.acks-lines.result.3 in
    let look = c.look_after-look.result in
    let of = lines_of_acks c.requires.told.0 c.requires.stands.0 in
    let told = c.acks-lines.ensures.told c.requires.told.0 c.requires.stands.0 c.requires.told.1 c.requires.stands.1 in
    subst (λ (r : Result Judgement ToolFault). IfOk r (λ judgement. IfSome before (λ text. IsStatusBy (Counts None) limits (wanted_of whole) text
    judgement.status))) (sym c.judgement_of-judged.ensures)
    (judged_status limits whole before outcome look
    (judged_text of limits before mid g.W.Target.contents c.args.lines c.acks-lines.result.0 outcome told)
    (looks_told of limits before mid (g.R.Source.remaining c.look_after-look.new.reader) g.W.Target.contents c.args.lines
    c.acks-lines.result.0 outcome look told c.look_after-look.ensures.looks))

pub returns-clause-read : goal.returns-clause-read
returns-clause-read g c =
    subst (λ (r : Result Judgement ToolFault). IfOk r IsJudged) (sym c.judgement_of-judged.ensures)
    (judgement_read (wanted_of c.args.answering.now.whole) c.acks-lines.result.3 c.look_after-look.result _)

pub returns-clause-stands : goal.returns-clause-stands
returns-clause-stands g c =
    subst (λ (r : Result Judgement ToolFault). StandsAfterRead r c.acks-lines.result.1) (sym c.judgement_of-judged.ensures)
    (stands_read c.args.delivery c.acks-lines.result.1 c.args.answering.now.limits (g.R.Source.remaining c.args.reader.now)
    (g.R.Source.remaining c.acks-lines.new.reader) c.acks-lines.result.3 c.acks-lines.result.2 (wanted_of c.args.answering.now.whole)
    c.look_after-look.result _ c.requires.stands c.acks-lines.ensures.kept)

pub returns-clause-reader_failures : goal.returns-clause-reader_failures
returns-clause-reader_failures g c =
    let outcome = c.acks-lines.result.3 in
    let look = c.look_after-look.result in
    let old : ℕ = g.R.Source.failures c.args.reader.now in
    let mid : ℕ = g.R.Source.failures c.acks-lines.new.reader in
    let now : ℕ = g.R.Source.failures c.look_after-look.new.reader in
    subst (λ (r : Result Judgement ToolFault). CountsInput r old now) (sym c.judgement_of-judged.ensures)
    (counts_input (wanted_of c.args.answering.now.whole) outcome look false old now
    (counts_reading outcome look old mid now c.acks-lines.ensures.reader_failures c.look_after-look.ensures.unasked
    c.look_after-look.ensures.failures))

pub returns-clause-writer_failures : goal.returns-clause-writer_failures
returns-clause-writer_failures g c =
    let out : ℕ = g.W.Target.failures c.args.lines in
    let out_now : ℕ = g.W.Target.failures c.acks-lines.result.0 in
    subst (λ (r : Result Judgement ToolFault). CountsWriting r out out_now) (sym c.judgement_of-judged.ensures)
    (judged_counts (wanted_of c.args.answering.now.whole) c.acks-lines.result.3 c.look_after-look.result false out out_now
    c.acks-lines.ensures.writer_failures)

pub returns-clause-answers : goal.returns-clause-answers
returns-clause-answers g c = λ matched kept.
    answers_judged c.args.answering.now.limits c.args.answering.now.whole (g.R.Source.remaining c.args.reader.now)
    (g.R.Source.remaining c.acks-lines.new.reader) c.acks-lines.result.3 c.look_after-look.result c.judgement_of-judged.result
    c.args.delivery c.acks-lines.result.1 c.acks-lines.result.2 matched c.judgement_of-judged.ensures c.acks-lines.ensures.kept kept
