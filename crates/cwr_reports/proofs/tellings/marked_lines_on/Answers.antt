use Rattle.std.proofs.Common.{Bor, List, ℕ, subst}
use Rattle.std.specs.Prelude.{option_map, Result}
use Rattle.cwr_files.specs.declared.faults.Told.{Told}
use Rattle.cwr_files.specs.Steps.Inputs.{remaining_of}
use Rattle.cwr_endings.specs.declared.judgements.Judgement.{Judgement}
use Rattle.cwr_endings.specs.declared.stops.Stop.{Stop}
use Rattle.cwr_endings.specs.Format.Puts.{PutsQuiet}
use Rattle.cwr_reports.specs.declared.tellings.Count.{Count}
use Rattle.cwr_reports.specs.Steps.Marked.{PassesRead, unwanted_line}
use Rattle.cwr_reports.proofs.lemmas.MarkedLines.{marks_read}
use Rattle.cwr_reports.proofs.tellings.marked_lines_on.Goals as goal

pub returns-in-Ok-put-clause-told : goal.returns-in-Ok-put-clause-told
returns-in-Ok-put-clause-told g c = λ few.
    let asked = c.args.asked.now in
    let left = remaining_of g.S.Reader.Read.remaining g.I.Read.remaining c.args.input in
    let name = option_map {T = Bor (List ℕ)} {U = List ℕ} (λ n. n.now) c.args.name in
    let mid = c.write_marked-lines.result.0 in
    let read = c.in-Ok in
    marks_read {A = Told} {B = Count} asked c.args.telling name c.passing.result left g.W.Target.contents c.args.lines mid
    c.put_quiet-lines.result.0 read.judgement read.told read.count c.passing.ensures
    (subst (λ (r : Result (Judgement × Told × Count) Stop). PassesRead {A = Told} {B = Count} asked.limits c.args.telling name
    c.passing.result left g.W.Target.contents c.args.lines mid r) read.is (c.write_marked-lines.ensures.told few))
    (subst (λ (r : Result (Unit {0}) Stop). PutsQuiet g.W.Target.contents g.W.Target.failures (unwanted_line asked.quiet name read.judgement) r mid
    c.put_quiet-lines.result.0) c.in-Ok-put.is c.put_quiet-lines.ensures.puts).0
