use Rattle.std.proofs.Common.{ℕ, List, Option}
use Rattle.cwr_tools.specs.Format.Watching.{AreFindingsIn}
use Rattle.cwr_renumber.specs.Steps.Renumbered.{renumbered_text}
use Rattle.cwr_files.specs.Steps.Inputs.{remaining_of}
use Rattle.cwr_endings.specs.Format.Endings.{FindsFrom}
use Rattle.cwr_endings.proofs.lemmas.StatusesOnTexts.{from_source}
use Rattle.cwr_transform.specs.Steps.Repairs.{Rewrites}
use Rattle.cwr_transform.proofs.lemmas.RepairsJudged.{found_so, judges_so, repair_reads}
use Rattle.cwr_transform.proofs.renumberings.run.Goals as goal

pub returns-clause-repairs : goal.returns-clause-repairs
returns-clause-repairs g c =
    let left : Option (List ℕ) = remaining_of g.S.Reader.Read.remaining g.I.Read.remaining c.args.input in
    found_so c.args.repair.now.limits c.args.repair.now.wanted left g.W.Target.contents c.args.writer c.rewrite-reader.result.1
    c.rewrite-reader.result.2.count c.rewrite-reader.result.2.outcome _ c.finds_unwanted.ensures
    (from_source (λ (known : Option (List ℕ)). Rewrites renumbered_text c.args.repair.now.limits (AreFindingsIn c.rewrite-reader.result.2.count)
    known g.W.Target.contents c.args.writer c.rewrite-reader.result.1 c.rewrite-reader.result.2.outcome)
    (remaining_of g.S.Reader.Read.remaining g.I.Read.remaining) c.args.input c.new-reader.result.inner _ c.new-reader.ensures.inner
    c.new-reader.ensures.ahead c.rewrite-reader.ensures.rewrites)

pub returns-clause-judged : goal.returns-clause-judged
returns-clause-judged g c = record {
  judged = judges_so c.args.repair.now.limits (λ items. FindsFrom c.args.repair.now.wanted.fail_on items c.finds_unwanted.result)
      (remaining_of g.S.Reader.Read.remaining g.I.Read.remaining c.args.input) g.W.Target.contents c.args.writer c.rewrite-reader.result.1
      c.rewrite-reader.result.2.outcome (returns-clause-repairs g c);
  mixed = c.mixes_unwanted-mixed.ensures;
}

pub returns-clause-reads : goal.returns-clause-reads
returns-clause-reads g c =
    repair_reads c.rewrite-reader.result.2.outcome c.rewrite-reader.result.2.look _ _ _ _ c.new-reader.ensures.failures
    c.rewrite-reader.ensures.reads c.end_input-read.ensures.failures
