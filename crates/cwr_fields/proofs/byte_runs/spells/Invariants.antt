use Rattle.std.proofs.Common.{length}
use Rattle.std.specs.Prelude.{◌↔◌}
use Rattle.cwr_fields.proofs.lemmas.DigitsFromTheEnd.{SpellsDigits}
use Rattle.cwr_fields.proofs.byte_runs.spells.Given as goal

abbrev pub invariant-loop-text : goal.invariant-loop-text
invariant-loop-text l = SpellsDigits l.text l.rest ↔ SpellsDigits l.fn.cell l.fn.number

abbrev pub decreases-loop-text : goal.decreases-loop-text
decreases-loop-text l = length l.text
