use Rattle.std.proofs.Common.{ℕ, List}
use Rattle.cwr_lines.specs.Format.Records.{RecordValue}
use Rattle.cwr_shape.specs.Format.Ranges.{LimitValues}
use Rattle.cwr_decode.specs.declared.endings.End.{End}
use Rattle.cwr_decode.specs.declared.endings.End.TheVariants as ends
use Rattle.cwr_decode.specs.Format.Entries.{EndsWith}
use Rattle.cwr_decode.specs.Format.Headline.{HasEnd}
use Rattle.cwr_decode.proofs.endings.end_of.Goals as goal

has_end : (limits : LimitValues) (text : List ℕ) (records : List RecordValue) (end : End) → EndsWith limits text records end
    → HasEnd limits text end
has_end limits text records (ends.Accepted used) e = (e.0, e.1)
has_end limits text records (ends.Refused refusal) e = e.0
has_end limits text records (ends.Truncated count) e = e.0

pub returns : goal.returns
returns c = has_end c.args.limits c.args.text.now c.index.ensures.records c.index.result.1 c.index.ensures.ends
