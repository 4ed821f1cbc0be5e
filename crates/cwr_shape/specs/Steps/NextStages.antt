-- Which stage follows which: the code's way through the orders of records. The laws say that it continues exactly where
-- a whole transmission does.
use Rattle.std.specs.Prelude.{Bool, true, false, Option, Some, None, if◌then◌else◌}
use Rattle.cwr_fields.specs.declared.codes.Role.{Role}
use Rattle.cwr_fields.specs.declared.codes.Role.TheVariants.{Assignor, Acquirer}
use Rattle.cwr_fields.specs.declared.codes.TransactionType.{TransactionType}
use Rattle.cwr_fields.specs.declared.codes.TransactionType.TheVariants.{Agreement, NewWork, RevisedWork, Acknowledgement}
use Rattle.cwr_fields.specs.declared.kinds.Kind.TheVariants as kinds
use Rattle.cwr_shape.specs.declared.symbols.Symbol.{Symbol}
use Rattle.cwr_shape.specs.declared.symbols.Symbol.TheVariants.{Plain, Ipa, Grh}
use Rattle.cwr_shape.specs.declared.stages.Stage.{Stage}
use Rattle.cwr_shape.specs.declared.stages.Stage.TheVariants as stages
use Rattle.cwr_shape.specs.declared.stages.TransactionStep.{TransactionStep}
use Rattle.cwr_shape.specs.declared.stages.TransactionStep.TheVariants as steps
use Rattle.cwr_shape.specs.Format.Shapes.{is_carried_symbol}

-- after the header of the type
abbrev pub header_step : TransactionType → Symbol → Option TransactionStep
header_step Agreement (Plain kinds.Agr) = Some steps.Agreed
header_step NewWork (Plain kinds.Nwr) = Some steps.Work
header_step RevisedWork (Plain kinds.Rev) = Some steps.Work
header_step Acknowledgement (Plain kinds.Ack) = Some steps.Acked
header_step ty s = None

-- after one more party of a block with parties of one role
abbrev pub party_step : Role → Role → TransactionStep
party_step Assignor Assignor = steps.OneSide Assignor
party_step Acquirer Acquirer = steps.OneSide Acquirer
party_step side role = steps.Both

-- after a record that may stand after the writers
abbrev pub tail_step : Symbol → Option TransactionStep
tail_step (Plain kinds.Alt) = Some steps.Tail
tail_step (Plain kinds.Ewt) = Some steps.Tail
tail_step (Plain kinds.Ver) = Some steps.Tail
tail_step (Plain kinds.Per) = Some steps.Tail
tail_step (Plain kinds.Rec) = Some steps.Tail
tail_step (Plain kinds.Orn) = Some steps.Tail
tail_step (Plain kinds.Com) = Some steps.Tail
tail_step s = None

-- after a publisher or a writer
abbrev pub party_of_work : Symbol → Option TransactionStep
party_of_work (Plain kinds.Spu) = Some steps.Controlled
party_of_work (Plain kinds.Opu) = Some steps.Other
party_of_work (Plain kinds.Swr) = Some steps.Writer
party_of_work (Plain kinds.Owr) = Some steps.OtherWriter
party_of_work s = None

-- after a further writer, or a record after the writers
abbrev pub after_writer : Symbol → Option TransactionStep
after_writer (Plain kinds.Swr) = Some steps.Writer
after_writer (Plain kinds.Owr) = Some steps.OtherWriter
after_writer s = tail_step s

-- after one more record of the transaction that isn't carried as text
abbrev pub ordered_step : TransactionStep → Symbol → Option TransactionStep
ordered_step steps.InGroup s = None
ordered_step steps.Acked (Plain kinds.Msg) = Some steps.Acked
ordered_step steps.Acked (Plain kinds.Agr) = Some steps.Agreed
ordered_step steps.Acked (Plain kinds.Nwr) = Some steps.Work
ordered_step steps.Acked (Plain kinds.Rev) = Some steps.Work
ordered_step steps.Acked s = None
ordered_step steps.Agreed (Plain kinds.Ter) = Some steps.Territories
ordered_step steps.Agreed s = None
ordered_step steps.Territories (Plain kinds.Ter) = Some steps.Territories
ordered_step steps.Territories (Ipa role) = Some (steps.OneSide role)
ordered_step steps.Territories s = None
ordered_step (steps.OneSide side) (Ipa role) = Some (party_step side role)
ordered_step (steps.OneSide side) s = None
ordered_step steps.Both (Ipa role) = Some steps.Both
ordered_step steps.Both (Plain kinds.Ter) = Some steps.Territories
ordered_step steps.Both s = None
ordered_step steps.Work s = party_of_work s
ordered_step steps.Controlled (Plain kinds.Spt) = Some steps.Controlled
ordered_step steps.Controlled s = party_of_work s
ordered_step steps.Other s = party_of_work s
ordered_step steps.Writer (Plain kinds.Swt) = Some steps.Writer
ordered_step steps.Writer (Plain kinds.Pwr) = Some steps.Writer
ordered_step steps.Writer s = after_writer s
ordered_step steps.OtherWriter (Plain kinds.Pwr) = Some steps.OtherWriter
ordered_step steps.OtherWriter s = after_writer s
ordered_step steps.Tail s = tail_step s

-- after a carried record: after the header of an agreement or a work it leaves the step as it is
abbrev pub carried_step : TransactionStep → Option TransactionStep
carried_step steps.InGroup = None
carried_step steps.Acked = None
carried_step step = Some step

-- after one more record of the transaction
abbrev pub step_on : TransactionStep → Symbol → Option TransactionStep
step_on step s = if is_carried_symbol s then carried_step step else ordered_step step s

-- the transaction may end here
abbrev pub may_end : TransactionStep → Bool
may_end steps.Acked = true
may_end steps.Both = true
may_end steps.Writer = true
may_end steps.OtherWriter = true
may_end steps.Tail = true
may_end step = false

-- in the group, after a step
abbrev pub within : TransactionType → Option TransactionStep → Option Stage
within ty None = None
within ty (Some step) = Some (stages.Within ty step)

-- after the group's foot, or after the header of its next transaction
abbrev pub next_or_foot : TransactionType → Symbol → Option Stage
next_or_foot ty (Plain kinds.Grt) = Some stages.Closed
next_or_foot ty s = within ty (header_step ty s)

-- a transaction that may end continues, or another begins, or the group ends
abbrev pub on_or_next : TransactionType → Option TransactionStep → Symbol → Option Stage
on_or_next ty (Some step) s = Some (stages.Within ty step)
on_or_next ty None s = next_or_foot ty s

-- the stage after one more record
abbrev pub next_stage : Stage → Symbol → Option Stage
next_stage stages.Start (Plain kinds.Hdr) = Some stages.Opened
next_stage stages.Start s = None
next_stage stages.Opened (Grh ty) = Some (stages.Within ty steps.InGroup)
next_stage stages.Opened s = None
next_stage (stages.Within ty steps.InGroup) s = within ty (header_step ty s)
next_stage (stages.Within ty step) s = if may_end step then on_or_next ty (step_on step s) s else within ty (step_on step s)
next_stage stages.Closed (Grh ty) = Some (stages.Within ty steps.InGroup)
next_stage stages.Closed (Plain kinds.Trl) = Some stages.Ended
next_stage stages.Closed s = None
next_stage stages.Ended s = None
