use Rattle.cwr_grammar.specs.Format.CommandLine.{writings}
use Rattle.cwr_grammar.proofs.grammar.with_writings.Goals as goal

pub returns : goal.returns
unfolding writings
returns c = c.with_subcommands.ensures
