use Rattle.std.proofs.Common.{◌∙◌, subst, sym}
use Rattle.std.specs.Str.{IsUtf8}
use Rattle.cwr_causes.proofs.lemmas.PlainLetters.{letters_utf8}
use Rattle.cwr_causes.proofs.expected.letters_of.Goals as goal

pub returns : goal.returns
returns c =
    c.str_of.ensures (subst IsUtf8 (sym c.letters.ensures) (letters_utf8 c.args.kind)) ∙ c.letters.ensures
