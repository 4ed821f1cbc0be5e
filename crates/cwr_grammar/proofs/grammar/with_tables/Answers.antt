use Rattle.std.proofs.Common.{ap, sym, ◌∙◌}
use Rattle.std.proofs.lemmas.Grind.{fold-append}
use Rattle.std.proofs.lemmas.Result.{IfOk-weaker}
use Rattle.clap.specs.Words.{App, app_of, with_subcommand}
use Rattle.cwr_grammar.specs.Format.CommandLine.{readings, subcommands, writings}
use Rattle.cwr_grammar.specs.Steps.Tables.{with_shapes}
use Rattle.cwr_grammar.proofs.grammar.with_tables.Goals as goal

pub returns : goal.returns
unfolding subcommands
returns c = λ p. IfOk-weaker c.with_writings.result _ _
    (λ made h. h ∙ ap (λ (a : App). with_shapes a writings) (c.in_ok-command.ensures p)
    ∙ sym (fold-append with_subcommand (app_of c.args.command) readings writings)) (c.with_writings.ensures p)
