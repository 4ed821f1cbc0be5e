use Rattle.std.proofs.Common.{List, ℕ, Option}
use Rattle.std.specs.Prelude.{IfOk}
use Rattle.cwr_files.specs.Steps.Inputs.{remaining_of}
use Rattle.cwr_write.specs.Format.Imports.{WritesWhole}
use Rattle.cwr_transform.specs.Format.Imports.{JudgesImport}
use Rattle.cwr_endings.proofs.lemmas.StatusesOnTexts.{from_source}
use Rattle.cwr_transform.proofs.lemmas.ImportsEnd.{reads_at_store}
use Rattle.cwr_transform.proofs.imports.import_from.Goals as goal

pub returns-clause-judges : goal.returns-clause-judges
returns-clause-judges g c =
    from_source (λ (known : Option (List ℕ)). JudgesImport c.args.import.now known c.write-writer.result.1)
    (remaining_of g.S.Reader.Read.remaining g.I.Read.remaining) c.args.input c.new-reader.result.inner _ c.new-reader.ensures.inner
    c.new-reader.ensures.ahead c.write-writer.ensures.ends

pub returns-clause-written : goal.returns-clause-written
returns-clause-written g c =
    from_source (λ (known : Option (List ℕ)). IfOk c.write-writer.result.1 (λ w. WritesWhole c.args.import.now.encoding c.args.import.now.limits
    known g.W.Target.contents c.args.writer c.write-writer.result.0 w.bytes))
    (remaining_of g.S.Reader.Read.remaining g.I.Read.remaining) c.args.input c.new-reader.result.inner _ c.new-reader.ensures.inner
    c.new-reader.ensures.ahead c.write-writer.ensures.written

pub returns-clause-reads : goal.returns-clause-reads
returns-clause-reads g c =
    reads_at_store c.write-writer.result.1 _ _ _ _ c.new-reader.ensures.failures c.write-writer.ensures.reads c.end_input.ensures.failures
