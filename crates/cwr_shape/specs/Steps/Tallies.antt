-- What a tally keeps: limits, stage and counts, and of which symbols these are.
use Rattle.std.specs.Prelude.{◌≡◌, ℕ, ◌≤◌, List, ◌++◌, length}
use Rattle.cwr_fields.specs.declared.codes.TransactionType.{TransactionType}
use Rattle.cwr_shape.specs.declared.symbols.Symbol.{Symbol}
use Rattle.cwr_shape.specs.declared.stages.Stage.{Stage}
use Rattle.cwr_shape.specs.declared.stages.TransactionStep.{TransactionStep}
use Rattle.cwr_shape.specs.declared.tallies.Counts.{Counts}
use Rattle.cwr_shape.specs.Format.Ranges.{LimitValues, AreInRange}
use Rattle.cwr_shape.specs.Format.Outlines.{IsWithin, Continues}
use Rattle.cwr_shape.specs.Format.Shapes.{IsShape}
use Rattle.cwr_shape.specs.Steps.Left.{StandsAt, StandsAtStep}
use Rattle.cwr_shape.specs.Steps.Stages.{stage_after}
use Rattle.cwr_shape.specs.Format.NextSymbols.{counts_of, open_type, MayCome}

-- the limits, how far the records have come, and what was counted of them
pub record TallyValue : Type 0 where
  pub limits : LimitValues
  pub stage : Stage
  pub counts : Counts

-- the tally is that of some symbols, with which a transmission within its limits begins
pub record IsTallyOf (t : TallyValue) (xs : List Symbol) : Type 0 where
  pub stands : StandsAt xs t.stage
  pub counted : t.counts ≡ counts_of xs
  pub within : Continues (IsWithin t.limits) xs

-- the tally is that of some symbols after which that one may come
abbrev pub IsAdmitted : TallyValue → Symbol → Type 0
IsAdmitted t s = (xs : List Symbol) × IsTallyOf t xs × MayCome t.limits xs s

-- a tally's counts keep to its limits, which are in range
pub record KeepsCounts (limits : LimitValues) (counts : Counts) : Type 0 where
  pub in_range : AreInRange limits
  pub records : counts.records ≤ limits.records
  pub groups : counts.groups ≤ limits.groups
  pub transactions : counts.transactions ≤ counts.records
  pub in_group : counts.in_group ≤ counts.records
  pub after_grh : counts.after_grh ≤ counts.records
  pub after_header : counts.after_header ≤ counts.records

-- a tally is that of some symbols
pub record KeepsTally (t : TallyValue) : Type 0 where
  pub counts : KeepsCounts t.limits t.counts
  pub stands : (xs : List Symbol) × IsTallyOf t xs

-- that is the stage after any records that are tallied so
abbrev pub IsStageOf : TallyValue → Stage → Type 0
IsStageOf t stage = (xs : List Symbol) → IsTallyOf t xs → stage ≡ stage_after xs

-- after the symbols a whole transaction of the open group's type may come, of so many records, the last of which comes to the step
pub record MayComeWhole (t : TallyValue) (ty : TransactionType) (records : ℕ) (step : TransactionStep) (xs whole : List Symbol) :
    Type 0 where
  pub same_type : open_type xs ≡ ty
  pub shape : IsShape ty whole
  pub long : length whole ≡ records
  pub ends : (of : TransactionType) × StandsAtStep of whole step
  pub within : Continues (IsWithin t.limits) (xs ++ whole)
