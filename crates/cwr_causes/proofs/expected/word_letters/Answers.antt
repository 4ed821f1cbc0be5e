use Rattle.std.proofs.Common.{◌∙◌, subst, sym}
use Rattle.std.specs.Str.{IsUtf8}
use Rattle.cwr_causes.proofs.lemmas.PlainLetters.{word_utf8}
use Rattle.cwr_causes.proofs.expected.word_letters.Goals as goal

pub returns : goal.returns
returns c = c.str_of.ensures (subst IsUtf8 (sym c.text.ensures) (word_utf8 c.args.word)) ∙ c.text.ensures
