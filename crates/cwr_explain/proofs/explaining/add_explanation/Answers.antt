use Rattle.std.proofs.Common.{rules, sym, subst}
use Rattle.std.specs.Prelude.{Err}
use Rattle.cwr_tools.specs.declared.verdicts.ToolFault.{ToolFault}
use Rattle.cwr_explain.specs.Steps.Explained.{AddsExplanation, AddsText}
use Rattle.cwr_explain.proofs.lemmas.WordsAfter.{explains_cut}
use Rattle.cwr_explain.proofs.explaining.add_explanation.Goals as goal

pub returns-clause-says : goal.returns-clause-says
returns-clause-says g c =
    subst (λ (f : ToolFault). AddsExplanation g.W.Target.contents c.args.limits.now c.args.name.now c.args.verdict c.args.last.now
    (g.R.Source.remaining c.args.reader.now) (g.R.Source.remaining c.explained.new.reader) c.args.writer
    c.write_text-writer.result.0 (Err f)) (sym c.after.ensures)
    (explains_cut g.W.Target.contents c.args.limits.now c.args.name.now c.args.verdict c.args.last.now
    (g.R.Source.remaining c.args.reader.now) (g.R.Source.remaining c.explained.new.reader) c.args.before c.as_str.result.now
    c.args.writer c.write_text-writer.result.0 c.in-Err-written.fault
    (c.in-Ok.beyond, search rules, search rules)
    (subst (AddsText g.W.Target.contents c.as_str.result.now c.args.writer c.write_text-writer.result.0) c.in-Err-written.is
    c.write_text-writer.ensures.text)).0
