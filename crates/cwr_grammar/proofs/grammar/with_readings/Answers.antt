use Rattle.cwr_grammar.specs.Format.CommandLine.{readings}
use Rattle.cwr_grammar.proofs.grammar.with_readings.Goals as goal

pub returns : goal.returns
unfolding readings
returns c = c.with_subcommands.ensures
