-- Which symbols may come.
use Rattle.std.specs.Prelude.{◌↔◌, ℕ, Bool, false, not, List, [], ◌∷◌, ◌++◌, Contains, Option, None, Some, is_some, map}
use Rattle.std.specs.List.{filter, flat_map, list_any}
use Rattle.cwr_fields.specs.declared.codes.Role.TheVariants as roles
use Rattle.cwr_fields.specs.declared.codes.TransactionType.{TransactionType}
use Rattle.cwr_fields.specs.declared.codes.TransactionType.TheVariants as types
use Rattle.cwr_fields.specs.declared.kinds.Kind.{Kind}
use Rattle.cwr_fields.specs.declared.kinds.Kind.TheVariants as kinds
use Rattle.cwr_fields.specs.Format.Kinds.{all_kinds}
use Rattle.cwr_shape.specs.declared.symbols.Symbol.{Symbol}
use Rattle.cwr_shape.specs.declared.symbols.Symbol.TheVariants.{Plain, Ipa, Grh}
use Rattle.cwr_shape.specs.declared.stages.Stage.{Stage}
use Rattle.cwr_shape.specs.declared.stages.Stage.TheVariants.{Within}
use Rattle.cwr_shape.specs.declared.stages.TransactionStep.{TransactionStep}
use Rattle.cwr_shape.specs.declared.stages.TransactionStep.TheVariants as steps
use Rattle.cwr_shape.specs.Format.Outlines.{Continues}
use Rattle.cwr_shape.specs.Format.AnyTransmission.{Any}
use Rattle.cwr_shape.specs.Steps.Left.{StandsAt}
use Rattle.cwr_shape.specs.Steps.NextStages.{next_stage}
use Rattle.cwr_causes.specs.Format.ComingTexts.{coming_words, is_carried_symbol}

-- after records that stand at the stage the symbol may come
abbrev pub ComesAt : Stage → Symbol → Type 0
ComesAt stage symbol = (xs : List Symbol) → StandsAt xs stage → Continues Any (xs ++ symbol ∷ [])

-- after records that stand at the stage the symbols that may come are just these: some transmission continues so
abbrev pub AreComing : Stage → List Symbol → Type 0
AreComing stage symbols =
    (xs : List Symbol) → StandsAt xs stage → (s : Symbol) → Contains symbols s ↔ Continues Any (xs ++ s ∷ [])

-- the symbols that a record of the kind may have, unless it ends a group or the transmission
abbrev pub inner_symbols : Kind → List Symbol
inner_symbols kinds.Grt = []
inner_symbols kinds.Trl = []
inner_symbols kinds.Grh =
    Plain kinds.Grh ∷ Grh types.Agreement ∷ Grh types.NewWork ∷ Grh types.RevisedWork ∷ Grh types.Acknowledgement ∷ []
inner_symbols kinds.Ipa = Plain kinds.Ipa ∷ Ipa roles.Assignor ∷ Ipa roles.Acquirer ∷ []
inner_symbols this_kind = Plain this_kind ∷ []

-- each symbol, in the order in which a transmission has them
abbrev pub all_symbols : List Symbol
all_symbols = flat_map inner_symbols all_kinds ++ Plain kinds.Grt ∷ Plain kinds.Trl ∷ []

-- the order of records goes on so from the stage
abbrev pub comes : Stage → Symbol → Bool
comes stage symbol = is_some (next_stage stage symbol)

-- those that may come at the stage, in that order
unfoldable pub coming_at : Stage → List Symbol
coming_at stage = filter (comes stage) all_symbols

-- which records may come at the stage, in words, if it is known
abbrev pub words_at : Option Stage → List ℕ
words_at None = []
words_at (Some stage) = coming_words (coming_at stage)

-- ---- after which records a kind may stand

-- the symbols that a record of the kind has once its cells are read
abbrev pub symbols_of : Kind → List Symbol
symbols_of kinds.Grh = Grh types.Agreement ∷ Grh types.NewWork ∷ Grh types.RevisedWork ∷ Grh types.Acknowledgement ∷ []
symbols_of kinds.Ipa = Ipa roles.Assignor ∷ Ipa roles.Acquirer ∷ []
symbols_of this_kind = Plain this_kind ∷ []

-- a record of the kind may come at the stage
abbrev pub kind_comes : Kind → Stage → Bool
kind_comes this_kind stage = list_any (comes stage) (symbols_of this_kind)

abbrev pub kind_comes_if : Kind → Option Stage → Bool
kind_comes_if this_kind None = false
kind_comes_if this_kind (Some stage) = kind_comes this_kind stage

-- the symbol may come at the stage, and a record of the kind right after it
abbrev pub lets : Kind → Symbol → Stage → Bool
lets this_kind symbol stage = kind_comes_if this_kind (next_stage stage symbol)

-- the symbols that aren't those of records carried as text, in the order of kinds
unfoldable pub ordered_symbols : List Symbol
ordered_symbols = flat_map symbols_of (filter (λ k. not (is_carried_symbol (Plain k))) all_kinds)

-- the symbol may come at one of the stages, and a record of the kind right after it
abbrev pub lets_one : List Stage → Kind → Symbol → Bool
lets_one stages this_kind symbol = list_any (lets this_kind symbol) stages

-- those of them that may
unfoldable pub letting : List Stage → Kind → List Symbol
letting stages this_kind = filter (lets_one stages this_kind) ordered_symbols

-- each step of an agreement, after its header
abbrev pub agreement_steps : List TransactionStep
agreement_steps =
    steps.Agreed ∷ steps.Territories ∷ steps.OneSide roles.Assignor ∷ steps.OneSide roles.Acquirer ∷ steps.Both ∷ []

-- each step of a work, after its header
abbrev pub work_steps : List TransactionStep
work_steps = steps.Work ∷ steps.Controlled ∷ steps.Other ∷ steps.Writer ∷ steps.OtherWriter ∷ steps.Tail ∷ []

-- each step to which the transactions of a group of the type come; an acknowledgement's copy may be an agreement or a work
abbrev pub steps_in : TransactionType → List TransactionStep
steps_in types.Agreement = steps.InGroup ∷ agreement_steps
steps_in types.NewWork = steps.InGroup ∷ work_steps
steps_in types.RevisedWork = steps.InGroup ∷ work_steps
steps_in types.Acknowledgement = steps.InGroup ∷ steps.Acked ∷ (agreement_steps ++ work_steps)

-- each stage in a group of the type
abbrev pub stages_in : TransactionType → List Stage
stages_in ty = map (Within ty) (steps_in ty)

-- the symbols after which a line of the kind may stand at the stage, if that is known
abbrev pub letting_at : Option Stage → Kind → List Symbol
letting_at None this_kind = []
letting_at (Some stage) this_kind = letting (stage ∷ []) this_kind

-- the symbols after which it may stand in a group like the open one
abbrev pub preceding_at : Option Stage → Kind → List Symbol
preceding_at (Some (Within ty step)) this_kind = letting (stages_in ty) this_kind
preceding_at stage this_kind = []

-- GRT may come at the stage
abbrev pub closes_at : Option Stage → Bool
closes_at None = false
closes_at (Some stage) = comes stage (Plain kinds.Grt)
