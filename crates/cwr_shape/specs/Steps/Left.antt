-- What is left of a transmission at each stage: the pattern of what may still come.
use Rattle.std.specs.Prelude.{◌≡◌, ◌↔◌, Bool, true, false, IsTrue, List, [], ◌∷◌, ◌++◌}
use Rattle.cwr_fields.specs.declared.codes.Role.TheVariants.{Assignor, Acquirer}
use Rattle.cwr_fields.specs.declared.codes.TransactionType.{TransactionType}
use Rattle.cwr_fields.specs.declared.codes.TransactionType.TheVariants.{Agreement, NewWork, RevisedWork, Acknowledgement}
use Rattle.cwr_fields.specs.declared.kinds.Kind.TheVariants as kinds
use Rattle.cwr_shape.specs.declared.symbols.Symbol.{Symbol}
use Rattle.cwr_shape.specs.declared.symbols.Symbol.TheVariants.{Plain, Grh}
use Rattle.cwr_shape.specs.declared.stages.Stage.{Stage}
use Rattle.cwr_shape.specs.declared.stages.Stage.TheVariants as stages
use Rattle.cwr_shape.specs.declared.stages.TransactionStep.{TransactionStep}
use Rattle.cwr_shape.specs.declared.stages.TransactionStep.TheVariants as steps
use Rattle.cwr_shape.specs.Format.Shapes.{Pattern, one_of, ◌then◌, ◌or◌, ◌and◌, many, carrying, Matches, a, some, copy, party}
use Rattle.cwr_shape.specs.Format.Shapes.{among_parties, block, publisher, writer, tail_record, pattern_of, IsShape}
use Rattle.cwr_shape.specs.Format.Outlines.{IsWhole, Continues}
use Rattle.cwr_shape.specs.Steps.Stages.{stage_after}
use Rattle.cwr_shape.specs.Format.AnyTransmission.{Any}

-- a group of the type
abbrev pub group_pattern : TransactionType → Pattern
group_pattern ty = one_of (Grh ty ∷ []) then (some (pattern_of ty) then a kinds.Grt)

-- a group
abbrev pub any_group : Pattern
any_group = group_pattern Agreement or group_pattern NewWork or group_pattern RevisedWork or group_pattern Acknowledgement

-- after a group
abbrev pub closing : Pattern
closing = many any_group then a kinds.Trl

-- after a transaction of a group
abbrev pub rest_of : TransactionType → Pattern
rest_of ty = many (pattern_of ty) then (a kinds.Grt then closing)

-- what is left of a transaction
abbrev pub left_of : TransactionStep → Pattern
left_of steps.InGroup = one_of []
left_of steps.Acked = many (a kinds.Msg) then copy
left_of steps.Agreed = carrying (some block)
left_of steps.Territories =
    carrying (many (a kinds.Ter) then ((among_parties Assignor and among_parties Acquirer) then many block))
left_of (steps.OneSide Assignor) = carrying (((among_parties Assignor or many party) and among_parties Acquirer) then many block)
left_of (steps.OneSide Acquirer) = carrying ((among_parties Assignor and (among_parties Acquirer or many party)) then many block)
left_of steps.Both =
    carrying (((among_parties Assignor or many party) and (among_parties Acquirer or many party)) then many block)
left_of steps.Work = carrying (many publisher then (some writer then many tail_record))
left_of steps.Controlled = carrying (many (a kinds.Spt) then (many publisher then (some writer then many tail_record)))
left_of steps.Other = carrying (many publisher then (some writer then many tail_record))
left_of steps.Writer = carrying (many (a kinds.Swt or a kinds.Pwr) then (many writer then many tail_record))
left_of steps.OtherWriter = carrying (many (a kinds.Pwr) then (many writer then many tail_record))
left_of steps.Tail = carrying (many tail_record)

-- what is left of a transmission
abbrev pub left : Stage → Pattern
left stages.Start = a kinds.Hdr then (some any_group then a kinds.Trl)
left stages.Opened = some any_group then a kinds.Trl
left (stages.Within ty steps.InGroup) = pattern_of ty then rest_of ty
left (stages.Within ty step) = left_of step then rest_of ty
left stages.Closed = closing
left stages.Ended = many (one_of [])

-- the step is one of a transaction of the type
abbrev pub is_step_of : TransactionType → TransactionStep → Bool
is_step_of ty steps.InGroup = true
is_step_of Acknowledgement step = true
is_step_of Agreement steps.Agreed = true
is_step_of Agreement steps.Territories = true
is_step_of Agreement (steps.OneSide role) = true
is_step_of Agreement steps.Both = true
is_step_of NewWork steps.Work = true
is_step_of NewWork steps.Controlled = true
is_step_of NewWork steps.Other = true
is_step_of NewWork steps.Writer = true
is_step_of NewWork steps.OtherWriter = true
is_step_of NewWork steps.Tail = true
is_step_of RevisedWork steps.Work = true
is_step_of RevisedWork steps.Controlled = true
is_step_of RevisedWork steps.Other = true
is_step_of RevisedWork steps.Writer = true
is_step_of RevisedWork steps.OtherWriter = true
is_step_of RevisedWork steps.Tail = true
is_step_of ty step = false

-- the stage is one that some records come to
abbrev pub is_stage : Stage → Bool
is_stage (stages.Within ty step) = is_step_of ty step
is_stage stage = true

-- the symbols begin a transmission, and this is the stage after them
pub record StandsAt (xs : List Symbol) (stage : Stage) : Type 0 where
  pub begins : Continues Any xs
  pub named : stage ≡ stage_after xs

-- what makes the symbols a whole transmission is what is left at the stage
pub record LeavesAt (xs : List Symbol) (stage : Stage) : Type 0 where
  pub real : IsTrue (is_stage stage)
  pub leaves : (rest : List Symbol) → IsWhole (xs ++ rest) ↔ Matches (left stage) rest

-- a step inside a transaction
abbrev pub is_inside : TransactionStep → Bool
is_inside steps.InGroup = false
is_inside step = true

-- some transaction of the type begins with the symbols
abbrev pub ContinuesIn : TransactionType → List Symbol → Type 0
ContinuesIn ty xs = (rest : List Symbol) × IsShape ty (xs ++ rest)

-- the symbols after the headers of a transmission and of its first group
abbrev pub in_group : TransactionType → List Symbol → List Symbol
in_group ty xs = Plain kinds.Hdr ∷ Grh ty ∷ xs

-- the symbols begin a transaction of the type, this is the step after them, and what makes them a whole transaction is what is left there
pub record StandsAtStep (ty : TransactionType) (xs : List Symbol) (step : TransactionStep) : Type 0 where
  pub inside : IsTrue (is_inside step)
  pub named : stages.Within ty step ≡ stage_after (in_group ty xs)
  pub leaves : (rest : List Symbol) → IsShape ty (xs ++ rest) ↔ Matches (left_of step) rest

-- the symbols begin a transaction of the stage's type, and the stage has come to the step after them
abbrev pub StandsInside : Stage → List Symbol → Type 0
StandsInside (stages.Within ty step) xs = StandsAtStep ty xs step
StandsInside stage xs = ⊥
