use Rattle.std.proofs.Common.{◌≡◌, take}
use Rattle.clap.specs.Words.{app_of}
use Rattle.cwr_grammar.specs.declared.grammar.Purpose.TheVariants as purposes
use Rattle.cwr_grammar.specs.Steps.Tables.{with_subcommands}
use Rattle.cwr_grammar.proofs.grammar.with_subcommands.Given as goal

abbrev pub invariant-loop-it : goal.invariant-loop-it
invariant-loop-it l = l.purpose ≡ purposes.Reading → app_of l.command ≡ with_subcommands (app_of l.initial.command) (take l.it-index l.subcommands)
