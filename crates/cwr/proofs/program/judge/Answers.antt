use Rattle.std.proofs.Common.{map}
use Rattle.cwr_reports.specs.Format.Endings.{advice_asked}
use Rattle.cwr.proofs.lemmas.Failing.{each_fails, none_fails, several_failed}
use Rattle.cwr.proofs.lemmas.Several.{none_tells, several_end, several_tell}
use Rattle.cwr.proofs.program.judge.Goals as goal

pub returns-in-empty-clause-told : goal.returns-in-empty-clause-told
returns-in-empty-clause-told g c =
    none_tells c.args.asked.now c.args.explained c.args.asked.now.quiet (g.S.Store.held c.args.store.now) (g.I.Read.remaining c.args.standard)
    c.args.names.now g.W.Target.contents g.W.Target.failures c.args.lines c.judge_alone.result.0 (g.S.Store.failures c.args.store.now)
    (g.S.Store.failures c.judge_alone.new.store) c.judge_alone.result.1 c.in-empty.len_below c.judge_alone.ensures.told
    c.judge_alone.ensures.quiet

pub returns-in-Ok-clause-told : goal.returns-in-Ok-clause-told
returns-in-Ok-clause-told g c =
    several_tell c.args.asked.now c.args.explained c.args.asked.now.quiet (g.S.Store.held c.args.store.now) (g.I.Read.remaining c.args.standard)
    c.args.names.now g.W.Target.contents g.W.Target.failures c.args.lines c.report_several.result.0 (g.S.Store.failures c.args.store.now)
    (g.S.Store.failures c.report_several.new.store) c.report_several.result.1 c.in_default.len_at_least c.report_several.ensures.told

pub returns-in-Ok-clause-ends : goal.returns-in-Ok-clause-ends
returns-in-Ok-clause-ends g c =
    several_end (advice_asked c.args.asked.now) c.args.asked.now.limits c.args.asked.now.wanted (g.S.Store.held c.args.store.now)
    (g.I.Read.remaining c.args.standard) c.args.names.now c.report_several.result.1 c.in_default.len_at_least c.report_several.ensures.ends

pub returns-in-Ok-clause-failed : goal.returns-in-Ok-clause-failed
returns-in-Ok-clause-failed g c =
    each_fails c.args.names.now c.report_several.result.1 (g.S.Store.failures c.args.store.now) (g.S.Store.failures c.report_several.new.store)
    c.in_default.len_at_least
    (several_failed c.args.asked.now c.args.explained (g.S.Store.held c.args.store.now) (g.I.Read.remaining c.args.standard)
    (advice_asked c.args.asked.now) c.args.asked.now.limits c.args.asked.now.wanted (map (λ n. n.now) c.args.names.now) g.W.Target.contents
    c.args.lines c.report_several.result.0 (g.S.Store.failures c.args.store.now) (g.S.Store.failures c.report_several.new.store)
    c.report_several.result.1 c.report_several.ensures.ends c.report_several.ensures.told)

pub returns-in-empty-clause-failed : goal.returns-in-empty-clause-failed
returns-in-empty-clause-failed g c =
    none_fails c.args.names.now c.judge_alone.result.1 (g.S.Store.failures c.args.store.now) (g.S.Store.failures c.judge_alone.new.store)
    c.in-empty.len_below c.judge_alone.ensures.failed
