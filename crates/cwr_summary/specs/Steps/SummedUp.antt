-- What a summary holds after some items.
use Rattle.std.specs.Prelude.{◌≡◌, List, replicate}
use Rattle.cwr_values.specs.declared.items.Item.{Item}
use Rattle.cwr_summary.specs.declared.summaries.Summary.{Summary}
use Rattle.cwr_summary.specs.Format.Summaries.{parts_of}
use Rattle.cwr_summary.specs.Steps.Counted.{counted}

-- the summary is that of these items
abbrev pub SumsUp : List Item → Summary → Type 0
SumsUp given summary = summary.numbers ≡ counted (replicate 80 0) (parts_of given)
