use Rattle.std.proofs.Common.{ap, ◌∙◌}
use Rattle.std.proofs.lemmas.Result.{IfOk-weaker}
use Rattle.clap.specs.Words.{App}
use Rattle.cwr_grammar.specs.Format.CommandLine.{grammar, readings, subcommands, writings}
use Rattle.cwr_grammar.specs.Steps.Tables.{with_shapes}
use Rattle.cwr_grammar.proofs.grammar.made_for.Goals as goal

pub returns : goal.returns
unfolding grammar subcommands readings writings
returns c = λ p. IfOk-weaker c.with_tables.result _ _ (λ made h. h ∙ ap (λ (a : App). with_shapes a subcommands) c.program.ensures.app) (c.with_tables.ensures p)
