use Rattle.std.proofs.Common.{ap, sym, ◌∙◌}
use Rattle.std.proofs.lemmas.Result.{IfOk-weaker}
use Rattle.clap.specs.Words.{App, app_of}
use Rattle.cwr_grammar.specs.declared.grammar.Common.{Common}
use Rattle.cwr_grammar.specs.Format.CommandLine.{ends, shows}
use Rattle.cwr_grammar.specs.Steps.Tables.{common_rules, with_rules}
use Rattle.cwr_grammar.proofs.grammar.with_common.Goals as goal

pub returns-in_ok-command-in-Limits-clause-app : goal.returns-in_ok-command-in-Limits-clause-app
returns-in_ok-command-in-Limits-clause-app c = λ p. IfOk-weaker c.with_shows.result _ _ (λ made h.
    h ∙ ap (λ (a : App). with_rules a shows) (c.in_ok-command-in-Limits.ensures.app p)
    ∙ ap (λ (k : Common). with_rules (app_of c.args.command) (common_rules k)) (sym c.in-Limits.is)) (c.with_shows.ensures.app p)

pub returns-in_ok-command-in-Reading-2-clause-app :
    goal.returns-in_ok-command-in-Reading-2-clause-app
returns-in_ok-command-in-Reading-2-clause-app c = λ p. IfOk-weaker c.with_shows-in-Reading.result _ _ (λ made h.
    h ∙ ap (λ (a : App). with_rules a shows) (c.in_ok-command-in-Reading-2.ensures.app p)
    ∙ ap (λ (a : App). with_rules (with_rules a ends) shows) (c.in_ok-command-in-Reading.ensures.app p)
    ∙ ap (λ (k : Common). with_rules (app_of c.args.command) (common_rules k)) (sym c.in-Reading.is)) (c.with_shows-in-Reading.ensures.app p)
