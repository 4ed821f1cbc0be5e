use Rattle.std.proofs.Common.{◌≡◌, ◌++◌, false, string_bytes, drop}
use Rattle.cwr_causes.specs.Format.MisplacedTexts.{alternatives_after}
use Rattle.cwr_causes.proofs.misplaced_words.add_alternatives.Given as goal

abbrev pub invariant-loop-symbol : goal.invariant-loop-symbol
invariant-loop-symbol l =
    string_bytes l.text ++ alternatives_after l.follows (drop l.symbol-index l.symbols)
    ≡ string_bytes l.initial.text ++ alternatives_after false l.symbols
