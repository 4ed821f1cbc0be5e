use Rattle.std.proofs.Common.{List, ◌++◌, sym, ap, ◌∙◌}
use Rattle.cwr_shape.specs.declared.symbols.Symbol.{Symbol}
use Rattle.cwr_shape.proofs.lemmas.PrefixFree.{prefix_free}
use Rattle.cwr_shape.proofs.laws.no_transmission_continues.Goals as goal

pub returns : goal.returns
returns c = λ xs rest h k. prefix_free h.0 k.0 rest h.1 k.1 (ap (λ (ys : List Symbol). ys ++ rest) (sym h.2) ∙ k.2)
