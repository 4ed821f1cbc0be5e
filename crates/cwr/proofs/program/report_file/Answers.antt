use Rattle.std.specs.Prelude.{option_map}
use Rattle.cwr_files.specs.Steps.Inputs.{remaining_of}
use Rattle.cwr_reports.specs.Format.Endings.{advice_in}
use Rattle.cwr_endings.proofs.lemmas.Fails.{unopened_fails}
use Rattle.cwr.proofs.lemmas.Failing.{alone_fails, output_counted}
use Rattle.cwr.proofs.lemmas.Several.{quiet_read}
use Rattle.cwr.proofs.program.report_file.Goals as goal

pub returns-in-Ok-clause-quiet : goal.returns-in-Ok-clause-quiet
returns-in-Ok-clause-quiet g c = λ quiet few.
    quiet_read c.args.asked.now c.args.telling (g.S.Store.held c.args.store.now) (g.I.Read.remaining c.args.standard)
    (option_map (λ n. n.now) c.args.name) g.S.Reader.Read.remaining g.I.Read.remaining c.in-Ok.input g.W.Target.contents c.args.lines
    c.report_input.result.0 c.report_input.result.1 c.in-Ok.ensures.left (c.report_input.ensures.quiet quiet few)

pub returns-in-Ok-clause-failed : goal.returns-in-Ok-clause-failed
returns-in-Ok-clause-failed g c =
    alone_fails (advice_in c.args.telling) c.args.asked.now.limits c.args.asked.now.wanted
    (remaining_of g.S.Reader.Read.remaining g.I.Read.remaining c.in-Ok.input) c.report_input.result.1 (g.S.Store.failures c.args.store.now)
    (g.S.Store.failures c.open_input.new.store) (g.S.Store.failures c.report_input.new.store) (g.W.Target.failures c.args.lines)
    (g.W.Target.failures c.report_input.result.0) c.in-Ok.ensures.opened c.report_input.ensures.read
    c.report_input.ensures.ends c.report_input.ensures.failures

pub returns-in-Ok-clause-output : goal.returns-in-Ok-clause-output
returns-in-Ok-clause-output g c =
    output_counted (advice_in c.args.telling) c.args.asked.now.limits c.args.asked.now.wanted
    (remaining_of g.S.Reader.Read.remaining g.I.Read.remaining c.in-Ok.input) c.report_input.result.1 (g.S.Store.failures c.open_input.new.store)
    (g.S.Store.failures c.report_input.new.store) (g.W.Target.failures c.args.lines) (g.W.Target.failures c.report_input.result.0)
    c.report_input.ensures.ends c.report_input.ensures.failures

pub returns-clause-failed : goal.returns-clause-failed
returns-clause-failed g c =
    unopened_fails (option_map (λ n. n.now) c.args.name) c.args.standard c.in-Err.fault (g.S.Store.failures c.args.store.now)
    (g.S.Store.failures c.open_input.new.store) c.in-Err.ensures.unopened
