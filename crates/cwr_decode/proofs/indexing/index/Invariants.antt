use Rattle.std.proofs.Common.{◌≡◌, ◌-◌, length}
use Rattle.cwr_lines.specs.Steps.Held.{empty_line}
use Rattle.cwr_decode.proofs.lemmas.IndexedText.{IndexedTo}
use Rattle.cwr_decode.proofs.indexing.index.Given as goal

abbrev pub invariant-lines : goal.invariant-lines
invariant-lines l = IndexedTo l.fn.limits l.text l.used l.tally l.fn.entries l.entries × (l.line ≡ empty_line)

abbrev pub decreases-lines : goal.decreases-lines
decreases-lines l = length l.text - l.used
