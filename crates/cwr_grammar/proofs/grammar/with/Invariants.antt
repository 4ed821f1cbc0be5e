use Rattle.std.proofs.Common.{◌≡◌, false, take}
use Rattle.clap.specs.Words.{app_of}
use Rattle.clap.specs.declared.builder.Command.TheViews.{out-Command as fields_of}
use Rattle.cwr_grammar.specs.declared.grammar.Purpose.TheVariants as purposes
use Rattle.cwr_grammar.specs.Steps.Tables.{with_words}
use Rattle.cwr_grammar.proofs.grammar.with.Given as goal

abbrev pub invariant-loop-word : goal.invariant-loop-word
invariant-loop-word l = record {
  app : l.purpose ≡ purposes.Reading → app_of l.command ≡ with_words (app_of l.initial.command) (take l.word-index l.words);
  local : (fields_of l.command).has_globals ≡ false;
}
