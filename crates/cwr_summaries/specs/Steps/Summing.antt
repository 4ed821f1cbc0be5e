-- How several inputs come out that are summed up one after another.
use Rattle.std.specs.Prelude.{ℕ, Bool, List, Option, None, Result, Ok, Err}
use Rattle.cwr_shape.specs.declared.limits.Limits.{Limits}
use Rattle.cwr_files.specs.Format.Files.{Texts}
use Rattle.cwr_endings.specs.declared.endings.Status.{Status}
use Rattle.cwr_endings.specs.declared.stops.Stop.{Stop}
use Rattle.cwr_reports.specs.Format.Endings.{IsWorstOf}
use Rattle.cwr_answers.specs.Format.Endings.{wanted_of}
use Rattle.cwr_answers.specs.Steps.Reading.{IsUntold}

-- the status is the worst of theirs, unless standard output or memory failed
abbrev pub EndsOnSummed : Limits → Bool → Option Texts → Option (List ℕ) → List (List ℕ) → Status → Result (Unit {0}) Stop → Type 0
EndsOnSummed limits whole held standard names status (Ok u) = IsWorstOf None limits (wanted_of whole) held standard names status
EndsOnSummed limits whole held standard names status (Err stop) = IsUntold stop
