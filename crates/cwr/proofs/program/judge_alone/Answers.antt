use Rattle.std.proofs.Common.{◌≡◌, rules}
use Rattle.std.specs.Prelude.{option_map}
use Rattle.cwr.specs.Steps.Tells.{word_of}
use Rattle.cwr_files.specs.Format.Inputs.{shown_name}
use Rattle.cwr.proofs.lemmas.Several.{quiet_judged}
use Rattle.cwr.proofs.program.judge_alone.Goals as goal

pub returns-clause-quiet : goal.returns-clause-quiet
returns-clause-quiet g c = λ quiet few.
    let called : c.as_str.result.now ≡ shown_name (word_of (option_map (λ n. n.now) c.args.name)) = search (rules, c.as_str.ensures, c.in-Ok.ensures) in
    quiet_judged c.args.asked.now c.args.explained c.telling_of-telling.result (g.S.Store.held c.args.store.now) (g.I.Read.remaining c.args.standard)
    (option_map (λ n. n.now) c.args.name) c.as_str.result g.W.Target.contents c.args.lines c.report_file.result.0 c.report_file.result.1 called
    c.telling_of-telling.ensures.telling (c.report_file.ensures.quiet quiet few)
