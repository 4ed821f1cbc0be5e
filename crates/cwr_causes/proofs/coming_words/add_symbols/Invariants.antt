use Rattle.std.proofs.Common.{◌≡◌, ◌++◌, false, string_bytes, drop}
use Rattle.cwr_causes.specs.Format.ComingTexts.{listed_symbols}
use Rattle.cwr_causes.proofs.coming_words.add_symbols.Given as goal

abbrev pub invariant-loop-symbol : goal.invariant-loop-symbol
invariant-loop-symbol l =
    string_bytes l.text ++ listed_symbols l.carried l.follows (drop l.symbol-index l.symbols)
    ≡ string_bytes l.initial.text ++ listed_symbols l.carried false l.symbols
