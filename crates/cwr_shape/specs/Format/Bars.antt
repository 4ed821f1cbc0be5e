-- What bars records, each of which has one of its candidates' symbols.
use Rattle.std.specs.Prelude.{List}
use Rattle.cwr_shape.specs.declared.symbols.Symbol.{Symbol}
use Rattle.cwr_shape.specs.declared.limits.Limits.{Limits}
use Rattle.cwr_shape.specs.declared.tallies.Bar.{Bar}
use Rattle.cwr_shape.specs.declared.tallies.Bar.TheVariants.{Misplaced, Limit}
use Rattle.cwr_shape.specs.Format.Outlines.{KeepsTo}
use Rattle.cwr_shape.specs.Format.Candidates.{ContinuesAmong}

-- no transmission begins so, or none that keeps to the limit
abbrev pub Bars : Limits → List (List Symbol) → Bar → Type 0
Bars limits sets Misplaced = ¬ ContinuesAmong (λ groups. Unit {0}) sets
Bars limits sets (Limit limit) = ¬ ContinuesAmong (KeepsTo limit limits) sets
