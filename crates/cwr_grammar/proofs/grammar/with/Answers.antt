use Rattle.std.proofs.Common.{ap₂, sym, ◌∙◌, ◌||◌}
use Rattle.std.proofs.lemmas.List.Sums.{fold_more}
use Rattle.clap.specs.Words.{App, app_of, with_rule}
use Rattle.cwr_grammar.specs.declared.grammar.Word.{Word}
use Rattle.cwr_grammar.specs.Steps.Tables.{rule_of_word}
use Rattle.cwr_grammar.proofs.grammar.with.Goals as goal

pub loop-word-preserved : goal.loop-word-preserved
loop-word-preserved c = record {
  app = λ p. c.in_ok-command.ensures.shape c.in_ok-next.ensures.local
      ∙ ap₂ with_rule (c.loop-word.invariant.app p) (c.in_ok-next.ensures.rule p)
      ∙ sym (fold_more (λ (made : App) (word : Word). with_rule made (rule_of_word word)) (app_of c.args.command) c.args.words.now c.loop-word.word-index _ c.loop-word-test.true);
  local = c.in_ok-command.ensures.globals ∙ ap₂ ◌||◌ c.loop-word.invariant.local c.in_ok-next.ensures.local;
}
