use Rattle.std.proofs.Common.{List, ℕ, Option}
use Rattle.std.specs.Prelude.{IfOk, Ok, OnOk}
use Rattle.cwr_files.specs.Steps.Inputs.{remaining_of}
use Rattle.cwr_reports.specs.Steps.Looks.{JudgesOn}
use Rattle.cwr_reports.specs.Format.Endings.{advice_in}
use Rattle.cwr_files.specs.Format.Faults.{IfErr}
use Rattle.cwr_reports.specs.Steps.Tellings.{CountsFindings, StopsTold, TellsText}
use Rattle.cwr_endings.proofs.lemmas.StatusesOnTexts.{from_source}
use Rattle.cwr_reports.proofs.lemmas.EndsOnTexts.{counts_at_store}
use Rattle.cwr_reports.proofs.tellings.judge_input.Goals as goal

pub returns-clause-judges : goal.returns-clause-judges
returns-clause-judges g c =
    from_source (λ (known : Option (List ℕ)). JudgesOn (advice_in c.args.telling) c.args.asked.now.limits c.args.asked.now.wanted known
    c.judge_source-writer.result.1) (remaining_of g.S.Reader.Read.remaining
    g.I.Read.remaining) c.args.input c.new-reader.result.inner _ c.new-reader.ensures.inner c.new-reader.ensures.ahead
    c.judge_source-writer.ensures.judges

pub returns-clause-told : goal.returns-clause-told
returns-clause-told g c =
    from_source (λ (known : Option (List ℕ)). IfOk c.judge_source-writer.result.1 (λ judgement. TellsText c.args.telling
    c.args.asked.now.limits known g.W.Target.contents c.args.writer c.judge_source-writer.result.0 (Ok judgement.verdict)))
    (remaining_of g.S.Reader.Read.remaining g.I.Read.remaining) c.args.input c.new-reader.result.inner _ c.new-reader.ensures.inner
    c.new-reader.ensures.ahead c.judge_source-writer.ensures.told

pub returns-clause-counted : goal.returns-clause-counted
returns-clause-counted g c =
    from_source (λ (known : Option (List ℕ)). OnOk c.judge_source-writer.result.1 (CountsFindings c.args.telling
    c.args.asked.now.limits known c.judge_source-writer.result.2.findings)) (remaining_of g.S.Reader.Read.remaining g.I.Read.remaining)
    c.args.input c.new-reader.result.inner _ c.new-reader.ensures.inner c.new-reader.ensures.ahead
    c.judge_source-writer.ensures.counted

pub returns-clause-reader_failures : goal.returns-clause-reader_failures
returns-clause-reader_failures g c =
    counts_at_store c.judge_source-writer.result.1 _ _ _ _ c.new-reader.ensures.failures c.judge_source-writer.ensures.reader_failures
    c.end_input.ensures.failures

pub returns-clause-stopped : goal.returns-clause-stopped
returns-clause-stopped g c =
    from_source (λ (known : Option (List ℕ)). IfErr c.judge_source-writer.result.1 (StopsTold c.args.telling c.args.asked.now.limits known
    g.W.Target.contents c.args.writer c.judge_source-writer.result.0)) (remaining_of g.S.Reader.Read.remaining g.I.Read.remaining)
    c.args.input c.new-reader.result.inner _ c.new-reader.ensures.inner c.new-reader.ensures.ahead
    c.judge_source-writer.ensures.stopped
