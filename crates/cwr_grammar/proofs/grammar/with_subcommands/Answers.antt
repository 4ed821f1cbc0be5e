use Rattle.std.proofs.Common.{ap, ap₂, sym, ◌∙◌}
use Rattle.std.proofs.lemmas.List.Sums.{fold_more}
use Rattle.clap.specs.Words.{App, app_of, with_subcommand}
use Rattle.cwr_grammar.specs.declared.grammar.Subcommand.{Subcommand}
use Rattle.cwr_grammar.specs.Steps.Tables.{app_of_subcommand}
use Rattle.cwr_grammar.proofs.grammar.with_subcommands.Goals as goal

pub loop-it-preserved : goal.loop-it-preserved
loop-it-preserved c = λ p. c.in_ok-command.ensures.shape c.in_ok-next.ensures.local
    ∙ ap₂ with_subcommand (c.loop-it.invariant p) (ap (λ (a : App). a.top) (c.in_ok-next.ensures.app p))
    ∙ sym (fold_more (λ (made : App) (it : Subcommand). with_subcommand made (app_of_subcommand it).top) (app_of c.args.command) c.args.subcommands.now c.loop-it.it-index _ c.loop-it-test.true)
