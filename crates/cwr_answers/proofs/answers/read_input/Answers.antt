use Rattle.std.proofs.Common.{List, ℕ, Option, None}
use Rattle.std.specs.Prelude.{IfOk, IfSome}
use Rattle.cwr_files.specs.Steps.Inputs.{remaining_of}
use Rattle.cwr_endings.specs.Format.Endings.{IsStatusBy}
use Rattle.cwr_endings.proofs.lemmas.StatusesOnTexts.{from_source}
use Rattle.cwr_reports.specs.Format.Endings.{Counts}
use Rattle.cwr_reports.proofs.lemmas.EndsOnTexts.{counts_at_store}
use Rattle.cwr_answers.specs.Format.Endings.{wanted_of}
use Rattle.cwr_acks.specs.Steps.AckSteps.{held_if}
use Rattle.cwr_answers.specs.Steps.Seeking.{ReadsIfGood}
use Rattle.cwr_answers.proofs.answers.read_input.Goals as goal

pub returns-clause-judges : goal.returns-clause-judges
returns-clause-judges g c =
    from_source (λ (known : Option (List ℕ)). IfOk c.read_source-lines.result.3 (λ judgement. IfSome known (λ text. IsStatusBy (Counts None)
    c.args.answering.now.limits (wanted_of c.args.answering.now.whole) text judgement.status))) (remaining_of g.S.Reader.Read.remaining
    g.I.Read.remaining) c.args.input c.new-reader.result.inner _ c.new-reader.ensures.inner c.new-reader.ensures.ahead
    c.read_source-lines.ensures.judges

pub returns-clause-reader_failures : goal.returns-clause-reader_failures
returns-clause-reader_failures g c =
    counts_at_store c.read_source-lines.result.3 _ _ _ _ c.new-reader.ensures.failures c.read_source-lines.ensures.reader_failures
    c.end_input.ensures.failures

pub returns-clause-answers : goal.returns-clause-answers
returns-clause-answers g c = λ matched kept.
    from_source (λ (left : Option (List ℕ)). ReadsIfGood c.args.answering.now.limits left matched (held_if c.read_source-lines.result.1)
    c.read_source-lines.result.3) (remaining_of g.S.Reader.Read.remaining g.I.Read.remaining) c.args.input c.new-reader.result.inner _
    c.new-reader.ensures.inner c.new-reader.ensures.ahead (c.read_source-lines.ensures.answers matched kept)
