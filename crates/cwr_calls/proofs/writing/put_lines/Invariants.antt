use Rattle.std.proofs.Common.{◌≡◌, ◌-◌, length}
use Rattle.cwr_lines.specs.Steps.Held.{empty_line}
use Rattle.cwr_calls.specs.Steps.Writings.{held_records}
use Rattle.cwr_calls.proofs.lemmas.WrittenLines.{WrittenTo}
use Rattle.cwr_calls.proofs.writing.put_lines.Given as goal

abbrev pub invariant-lines : goal.invariant-lines
invariant-lines g l = record {
  written : WrittenTo g.W.Target.contents l.text l.used (held_records l.held) l.fn.encoder l.encoder;
  empty : l.line ≡ empty_line;
}

abbrev pub decreases-lines : goal.decreases-lines
decreases-lines g l = length l.text - l.used
