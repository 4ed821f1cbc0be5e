-- A parse reads the grammar as its rules say.
use Rattle.std.proofs.Common.{◌≡◌, true, refl}
use Rattle.clap.specs.Words.{is_simple, is_simple_and_free}
use Rattle.clap.proofs.OnLiterals.{clap_on_literals}
use Rattle.cwr_grammar.specs.Format.CommandLine.{grammar, readings, subcommands, writings}

-- which word goes where is known
pub simple : is_simple grammar ≡ true
unfolding grammar subcommands readings writings clap_on_literals
simple = refl

-- and no word has a rule on another
pub free : is_simple_and_free grammar ≡ true
unfolding grammar subcommands readings writings clap_on_literals
free = refl
