-- What failed where a run over acknowledgements, and what they answer, stops.
use Rattle.std.specs.Prelude.{ℕ, Result, Ok, Err}
use Rattle.cwr_files.specs.declared.faults.Fault.{Fault}
use Rattle.cwr_files.specs.declared.faults.Fault.TheVariants as faults
use Rattle.cwr_files.specs.declared.faults.Name.TheVariants.{StandardInput}
use Rattle.cwr_endings.specs.declared.endings.Status.{Status}
use Rattle.cwr_endings.specs.declared.stops.Stop.{Stop}
use Rattle.cwr_endings.specs.declared.stops.Stop.TheVariants as stops
use Rattle.cwr_endings.specs.Format.Failures.{IsFaultOfRead}

-- an input couldn't be opened, or it failed, or there was no memory; or it is standard input, which is there once, and was read already
abbrev pub IsFaultOfOne : Fault → ℕ → ℕ → Type 0
IsFaultOfOne (faults.Open StandardInput reason) old now = Unit {0}
IsFaultOfOne fault old now = IsFaultOfRead fault old now

-- So it is of what a run stops by, where so many failures of files were counted before it and after it, or standard input was named twice. Of
-- standard output nothing is said here.
abbrev pub FailsOnAnswers : Result Status Stop → ℕ → ℕ → Type 0
FailsOnAnswers (Ok status) old now = Unit {0}
FailsOnAnswers (Err stops.Output) old now = Unit {0}
FailsOnAnswers (Err (stops.Fault (faults.IsTwice of))) old now = Unit {0}
FailsOnAnswers (Err (stops.Fault fault)) old now = IsFaultOfOne fault old now
