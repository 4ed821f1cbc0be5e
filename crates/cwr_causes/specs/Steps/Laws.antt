-- What the laws say.
use Rattle.std.specs.Prelude.{ℕ, List}
use Rattle.cwr_values.specs.declared.items.Item.{Item}
use Rattle.cwr_judge.specs.declared.refusals.Refusal.{Refusal}
use Rattle.cwr_decode.specs.Steps.Machines.{Standing}
use Rattle.cwr_decode.specs.Steps.Represents.{IsStopped, text_of}
use Rattle.cwr_causes.specs.Steps.LinesAtEnd.{EndsWithLine}

-- where a decoder refused a line, its input ends with that line, after the lines before it
abbrev pub RefusedLineIsLast : Type 0
RefusedLineIsLast =
    (d : Standing) (input : List ℕ) (given : List Item) (refusal : Refusal) → (s : IsStopped d input given refusal)
    → EndsWithLine input (text_of s.lines) s.line.bytes
