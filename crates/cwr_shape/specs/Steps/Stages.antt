-- The stage that some symbols have come to.
use Rattle.std.specs.Prelude.{Bool, true, false, not, List, Option, Some, None, if◌then◌else◌}
use Rattle.std.specs.List.{after_last, last_or, list_any}
use Rattle.cwr_fields.specs.declared.codes.Role.{Role}
use Rattle.cwr_fields.specs.declared.codes.Role.TheVariants.{Assignor, Acquirer}
use Rattle.cwr_fields.specs.declared.kinds.Kind.TheVariants as kinds
use Rattle.cwr_shape.specs.declared.symbols.Symbol.{Symbol}
use Rattle.cwr_shape.specs.declared.symbols.Symbol.TheVariants.{Plain, Ipa, Grh}
use Rattle.cwr_shape.specs.declared.stages.Stage.{Stage}
use Rattle.cwr_shape.specs.declared.stages.Stage.TheVariants as stages
use Rattle.cwr_shape.specs.declared.stages.TransactionStep.{TransactionStep}
use Rattle.cwr_shape.specs.declared.stages.TransactionStep.TheVariants as steps
use Rattle.cwr_shape.specs.Format.Shapes.{without_carried}
use Rattle.cwr_shape.specs.Format.LastSymbols.{is_grh, latest, group_of}

-- the symbol is an IPA
abbrev pub is_ipa : Symbol → Bool
is_ipa (Ipa role) = true
is_ipa s = false

-- the symbol is an IPA of the role
abbrev pub is_ipa_of : Role → Symbol → Bool
is_ipa_of Assignor (Ipa Assignor) = true
is_ipa_of Acquirer (Ipa Acquirer) = true
is_ipa_of role s = false

-- a writer's own record
abbrev pub is_writer : Symbol → Bool
is_writer (Plain kinds.Swr) = true
is_writer (Plain kinds.Owr) = true
is_writer s = false

-- the other side
abbrev pub other_role : Role → Role
other_role Assignor = Acquirer
other_role Acquirer = Assignor

-- a PWR belongs to the writer before it
abbrev pub pwr_step : Option Symbol → TransactionStep
pwr_step (Some (Plain kinds.Owr)) = steps.OtherWriter
pwr_step s = steps.Writer

-- how far the transaction has come, by its last record
abbrev pub step_after : Symbol → List Symbol → TransactionStep
step_after (Ipa role) xs =
    if list_any (is_ipa_of (other_role role)) (after_last (λ s. not (is_ipa s)) xs) then steps.Both else steps.OneSide role
step_after (Plain kinds.Ack) xs = steps.Acked
step_after (Plain kinds.Msg) xs = steps.Acked
step_after (Plain kinds.Agr) xs = steps.Agreed
step_after (Plain kinds.Ter) xs = steps.Territories
step_after (Plain kinds.Nwr) xs = steps.Work
step_after (Plain kinds.Rev) xs = steps.Work
step_after (Plain kinds.Spu) xs = steps.Controlled
step_after (Plain kinds.Spt) xs = steps.Controlled
step_after (Plain kinds.Opu) xs = steps.Other
step_after (Plain kinds.Swr) xs = steps.Writer
step_after (Plain kinds.Swt) xs = steps.Writer
step_after (Plain kinds.Owr) xs = steps.OtherWriter
step_after (Plain kinds.Pwr) xs = pwr_step (latest is_writer xs)
step_after s xs = steps.Tail

-- how far symbols have come whose last is this
abbrev pub stage_by : Option Symbol → List Symbol → Stage
stage_by None xs = stages.Start
stage_by (Some (Plain kinds.Hdr)) xs = stages.Opened
stage_by (Some (Grh ty)) xs = stages.Within ty steps.InGroup
stage_by (Some (Plain kinds.Grt)) xs = stages.Closed
stage_by (Some (Plain kinds.Trl)) xs = stages.Ended
stage_by (Some s) xs = stages.Within (group_of (latest is_grh xs)) (step_after s xs)

-- how far symbols have come, by the last of them
abbrev pub stage_of : List Symbol → Stage
stage_of xs = stage_by (last_or None xs) xs

-- how far the symbols have come: carried records leave the stage as it is
abbrev pub stage_after : List Symbol → Stage
stage_after xs = stage_of (without_carried xs)
