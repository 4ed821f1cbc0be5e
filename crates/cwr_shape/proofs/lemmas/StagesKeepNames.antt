-- At each stage the table comes, by each symbol, to the stage that the symbols then name: the check computes it.
use Rattle.std.proofs.Common.{◌≡◌, Bool, true, false, cond, not, ◌&&◌, ◌||◌, [], ◌∷◌, Option, Some, None, refl, sym, true≢false}
use Rattle.std.specs.List.{list_all}
use Rattle.cwr_fields.specs.declared.codes.Role.{Role}
use Rattle.cwr_fields.specs.declared.codes.Role.TheVariants.{Assignor, Acquirer}
use Rattle.cwr_fields.specs.declared.codes.TransactionType.{TransactionType}
use Rattle.cwr_fields.specs.declared.codes.TransactionType.TheVariants.{Agreement, NewWork, RevisedWork, Acknowledgement}
use Rattle.cwr_shape.specs.declared.symbols.Symbol.{Symbol}
use Rattle.cwr_shape.specs.declared.stages.Stage.{Stage}
use Rattle.cwr_shape.specs.declared.stages.Stage.TheVariants as stages
use Rattle.cwr_shape.specs.declared.stages.TransactionStep.{TransactionStep}
use Rattle.cwr_shape.specs.declared.stages.TransactionStep.TheVariants as steps
use Rattle.cwr_shape.specs.Steps.NextStages.{next_stage}
use Rattle.cwr_shape.specs.Steps.Left.{is_stage}
use Rattle.cwr_shape.specs.Format.Shapes.{is_carried_symbol}
use Rattle.cwr_shape.proofs.lemmas.AllSymbols.{all_symbols}
use Rattle.cwr_shape.proofs.lemmas.SymbolsNameStages.{same_type, same_step, same_stage, same_bool, name_of, type_next, writer_next}
use Rattle.cwr_shape.proofs.lemmas.SymbolsNameStages.{side_next}

-- ---- what a stage says of the symbols that stand there, without the carried ones

abbrev pub side_of : Role → Stage → Bool
side_of role (stages.Within ty steps.Both) = true
side_of Assignor (stages.Within ty (steps.OneSide Assignor)) = true
side_of Acquirer (stages.Within ty (steps.OneSide Acquirer)) = true
side_of role stage = false

abbrev pub writer_fits : TransactionStep → Bool → Bool
writer_fits steps.Writer o = not o
writer_fits steps.OtherWriter o = o
writer_fits step o = true

abbrev pub fits : Stage → TransactionType → Bool → Bool
fits (stages.Within t step) ty o = same_type t ty && writer_fits step o
fits stage ty o = true

-- the stage that the table comes to, and what it says
unfoldable pub agrees : Option Stage → Symbol → TransactionType → Bool → Bool → Bool → Bool
agrees None s ty o a b = true
agrees (Some to) s ty o a b =
    same_stage to (name_of s ty o a b) && fits to ty o && same_bool a (side_of Assignor to) && same_bool b (side_of Acquirer to)

-- the table stays at the stage, or has no stage
unfoldable pub stays : Stage → Option Stage → Bool
stays stage None = true
stays stage (Some to) = same_stage to stage

unfoldable pub keeps : Stage → TransactionType → Bool → Symbol → Bool
keeps stage ty o s =
    cond (is_carried_symbol s) (stays stage (next_stage stage s)) (
    not (fits stage ty o)
    || agrees (next_stage stage s) s (type_next s ty) (writer_next s o) (side_next Assignor s (side_of Assignor stage))
    (side_next Acquirer s (side_of Acquirer stage))
    )

-- for both last writers
abbrev pub both_keep : Stage → TransactionType → Bool
both_keep stage ty = list_all (λ o. list_all (keeps stage ty o) all_symbols) (true ∷ false ∷ [])

-- for each type of the group
unfoldable pub all_keep : Stage → Bool
all_keep stage = list_all (both_keep stage) (Agreement ∷ NewWork ∷ RevisedWork ∷ Acknowledgement ∷ [])

start_keeps : all_keep stages.Start ≡ true
unfolding all_keep keeps stays agrees same_stage same_step same_type same_bool name_of
start_keeps = refl

opened_keeps : all_keep stages.Opened ≡ true
unfolding all_keep keeps stays agrees same_stage same_step same_type same_bool name_of
opened_keeps = refl

closed_keeps : all_keep stages.Closed ≡ true
unfolding all_keep keeps stays agrees same_stage same_step same_type same_bool name_of
closed_keeps = refl

ended_keeps : all_keep stages.Ended ≡ true
unfolding all_keep keeps stays agrees same_stage same_step same_type same_bool name_of
ended_keeps = refl

agreement_ingroup_keeps : all_keep (stages.Within Agreement steps.InGroup) ≡ true
unfolding all_keep keeps stays agrees same_stage same_step same_type same_bool name_of
agreement_ingroup_keeps = refl

agreement_agreed_keeps : all_keep (stages.Within Agreement steps.Agreed) ≡ true
unfolding all_keep keeps stays agrees same_stage same_step same_type same_bool name_of
agreement_agreed_keeps = refl

agreement_territories_keeps : all_keep (stages.Within Agreement steps.Territories) ≡ true
unfolding all_keep keeps stays agrees same_stage same_step same_type same_bool name_of
agreement_territories_keeps = refl

agreement_side_assignor_keeps : all_keep (stages.Within Agreement (steps.OneSide Assignor)) ≡ true
unfolding all_keep keeps stays agrees same_stage same_step same_type same_bool name_of
agreement_side_assignor_keeps = refl

agreement_side_acquirer_keeps : all_keep (stages.Within Agreement (steps.OneSide Acquirer)) ≡ true
unfolding all_keep keeps stays agrees same_stage same_step same_type same_bool name_of
agreement_side_acquirer_keeps = refl

agreement_both_keeps : all_keep (stages.Within Agreement steps.Both) ≡ true
unfolding all_keep keeps stays agrees same_stage same_step same_type same_bool name_of
agreement_both_keeps = refl

newwork_ingroup_keeps : all_keep (stages.Within NewWork steps.InGroup) ≡ true
unfolding all_keep keeps stays agrees same_stage same_step same_type same_bool name_of
newwork_ingroup_keeps = refl

newwork_work_keeps : all_keep (stages.Within NewWork steps.Work) ≡ true
unfolding all_keep keeps stays agrees same_stage same_step same_type same_bool name_of
newwork_work_keeps = refl

newwork_controlled_keeps : all_keep (stages.Within NewWork steps.Controlled) ≡ true
unfolding all_keep keeps stays agrees same_stage same_step same_type same_bool name_of
newwork_controlled_keeps = refl

newwork_other_keeps : all_keep (stages.Within NewWork steps.Other) ≡ true
unfolding all_keep keeps stays agrees same_stage same_step same_type same_bool name_of
newwork_other_keeps = refl

newwork_writer_keeps : all_keep (stages.Within NewWork steps.Writer) ≡ true
unfolding all_keep keeps stays agrees same_stage same_step same_type same_bool name_of
newwork_writer_keeps = refl

newwork_otherwriter_keeps : all_keep (stages.Within NewWork steps.OtherWriter) ≡ true
unfolding all_keep keeps stays agrees same_stage same_step same_type same_bool name_of
newwork_otherwriter_keeps = refl

newwork_tail_keeps : all_keep (stages.Within NewWork steps.Tail) ≡ true
unfolding all_keep keeps stays agrees same_stage same_step same_type same_bool name_of
newwork_tail_keeps = refl

revisedwork_ingroup_keeps : all_keep (stages.Within RevisedWork steps.InGroup) ≡ true
unfolding all_keep keeps stays agrees same_stage same_step same_type same_bool name_of
revisedwork_ingroup_keeps = refl

revisedwork_work_keeps : all_keep (stages.Within RevisedWork steps.Work) ≡ true
unfolding all_keep keeps stays agrees same_stage same_step same_type same_bool name_of
revisedwork_work_keeps = refl

revisedwork_controlled_keeps : all_keep (stages.Within RevisedWork steps.Controlled) ≡ true
unfolding all_keep keeps stays agrees same_stage same_step same_type same_bool name_of
revisedwork_controlled_keeps = refl

revisedwork_other_keeps : all_keep (stages.Within RevisedWork steps.Other) ≡ true
unfolding all_keep keeps stays agrees same_stage same_step same_type same_bool name_of
revisedwork_other_keeps = refl

revisedwork_writer_keeps : all_keep (stages.Within RevisedWork steps.Writer) ≡ true
unfolding all_keep keeps stays agrees same_stage same_step same_type same_bool name_of
revisedwork_writer_keeps = refl

revisedwork_otherwriter_keeps : all_keep (stages.Within RevisedWork steps.OtherWriter) ≡ true
unfolding all_keep keeps stays agrees same_stage same_step same_type same_bool name_of
revisedwork_otherwriter_keeps = refl

revisedwork_tail_keeps : all_keep (stages.Within RevisedWork steps.Tail) ≡ true
unfolding all_keep keeps stays agrees same_stage same_step same_type same_bool name_of
revisedwork_tail_keeps = refl

acknowledgement_ingroup_keeps : all_keep (stages.Within Acknowledgement steps.InGroup) ≡ true
unfolding all_keep keeps stays agrees same_stage same_step same_type same_bool name_of
acknowledgement_ingroup_keeps = refl

acknowledgement_acked_keeps : all_keep (stages.Within Acknowledgement steps.Acked) ≡ true
unfolding all_keep keeps stays agrees same_stage same_step same_type same_bool name_of
acknowledgement_acked_keeps = refl

acknowledgement_agreed_keeps : all_keep (stages.Within Acknowledgement steps.Agreed) ≡ true
unfolding all_keep keeps stays agrees same_stage same_step same_type same_bool name_of
acknowledgement_agreed_keeps = refl

acknowledgement_territories_keeps : all_keep (stages.Within Acknowledgement steps.Territories) ≡ true
unfolding all_keep keeps stays agrees same_stage same_step same_type same_bool name_of
acknowledgement_territories_keeps = refl

acknowledgement_side_assignor_keeps : all_keep (stages.Within Acknowledgement (steps.OneSide Assignor)) ≡ true
unfolding all_keep keeps stays agrees same_stage same_step same_type same_bool name_of
acknowledgement_side_assignor_keeps = refl

acknowledgement_side_acquirer_keeps : all_keep (stages.Within Acknowledgement (steps.OneSide Acquirer)) ≡ true
unfolding all_keep keeps stays agrees same_stage same_step same_type same_bool name_of
acknowledgement_side_acquirer_keeps = refl

acknowledgement_both_keeps : all_keep (stages.Within Acknowledgement steps.Both) ≡ true
unfolding all_keep keeps stays agrees same_stage same_step same_type same_bool name_of
acknowledgement_both_keeps = refl

acknowledgement_work_keeps : all_keep (stages.Within Acknowledgement steps.Work) ≡ true
unfolding all_keep keeps stays agrees same_stage same_step same_type same_bool name_of
acknowledgement_work_keeps = refl

acknowledgement_controlled_keeps : all_keep (stages.Within Acknowledgement steps.Controlled) ≡ true
unfolding all_keep keeps stays agrees same_stage same_step same_type same_bool name_of
acknowledgement_controlled_keeps = refl

acknowledgement_other_keeps : all_keep (stages.Within Acknowledgement steps.Other) ≡ true
unfolding all_keep keeps stays agrees same_stage same_step same_type same_bool name_of
acknowledgement_other_keeps = refl

acknowledgement_writer_keeps : all_keep (stages.Within Acknowledgement steps.Writer) ≡ true
unfolding all_keep keeps stays agrees same_stage same_step same_type same_bool name_of
acknowledgement_writer_keeps = refl

acknowledgement_otherwriter_keeps : all_keep (stages.Within Acknowledgement steps.OtherWriter) ≡ true
unfolding all_keep keeps stays agrees same_stage same_step same_type same_bool name_of
acknowledgement_otherwriter_keeps = refl

acknowledgement_tail_keeps : all_keep (stages.Within Acknowledgement steps.Tail) ≡ true
unfolding all_keep keeps stays agrees same_stage same_step same_type same_bool name_of
acknowledgement_tail_keeps = refl

-- at every stage
pub all_stages_keep : (stage : Stage) → is_stage stage ≡ true → all_keep stage ≡ true
all_stages_keep stages.Start h = start_keeps
all_stages_keep stages.Opened h = opened_keeps
all_stages_keep stages.Closed h = closed_keeps
all_stages_keep stages.Ended h = ended_keeps
all_stages_keep (stages.Within Agreement steps.InGroup) h = agreement_ingroup_keeps
all_stages_keep (stages.Within Agreement steps.Agreed) h = agreement_agreed_keeps
all_stages_keep (stages.Within Agreement steps.Territories) h = agreement_territories_keeps
all_stages_keep (stages.Within Agreement (steps.OneSide Assignor)) h = agreement_side_assignor_keeps
all_stages_keep (stages.Within Agreement (steps.OneSide Acquirer)) h = agreement_side_acquirer_keeps
all_stages_keep (stages.Within Agreement steps.Both) h = agreement_both_keeps
all_stages_keep (stages.Within NewWork steps.InGroup) h = newwork_ingroup_keeps
all_stages_keep (stages.Within NewWork steps.Work) h = newwork_work_keeps
all_stages_keep (stages.Within NewWork steps.Controlled) h = newwork_controlled_keeps
all_stages_keep (stages.Within NewWork steps.Other) h = newwork_other_keeps
all_stages_keep (stages.Within NewWork steps.Writer) h = newwork_writer_keeps
all_stages_keep (stages.Within NewWork steps.OtherWriter) h = newwork_otherwriter_keeps
all_stages_keep (stages.Within NewWork steps.Tail) h = newwork_tail_keeps
all_stages_keep (stages.Within RevisedWork steps.InGroup) h = revisedwork_ingroup_keeps
all_stages_keep (stages.Within RevisedWork steps.Work) h = revisedwork_work_keeps
all_stages_keep (stages.Within RevisedWork steps.Controlled) h = revisedwork_controlled_keeps
all_stages_keep (stages.Within RevisedWork steps.Other) h = revisedwork_other_keeps
all_stages_keep (stages.Within RevisedWork steps.Writer) h = revisedwork_writer_keeps
all_stages_keep (stages.Within RevisedWork steps.OtherWriter) h = revisedwork_otherwriter_keeps
all_stages_keep (stages.Within RevisedWork steps.Tail) h = revisedwork_tail_keeps
all_stages_keep (stages.Within Acknowledgement steps.InGroup) h = acknowledgement_ingroup_keeps
all_stages_keep (stages.Within Acknowledgement steps.Acked) h = acknowledgement_acked_keeps
all_stages_keep (stages.Within Acknowledgement steps.Agreed) h = acknowledgement_agreed_keeps
all_stages_keep (stages.Within Acknowledgement steps.Territories) h = acknowledgement_territories_keeps
all_stages_keep (stages.Within Acknowledgement (steps.OneSide Assignor)) h = acknowledgement_side_assignor_keeps
all_stages_keep (stages.Within Acknowledgement (steps.OneSide Acquirer)) h = acknowledgement_side_acquirer_keeps
all_stages_keep (stages.Within Acknowledgement steps.Both) h = acknowledgement_both_keeps
all_stages_keep (stages.Within Acknowledgement steps.Work) h = acknowledgement_work_keeps
all_stages_keep (stages.Within Acknowledgement steps.Controlled) h = acknowledgement_controlled_keeps
all_stages_keep (stages.Within Acknowledgement steps.Other) h = acknowledgement_other_keeps
all_stages_keep (stages.Within Acknowledgement steps.Writer) h = acknowledgement_writer_keeps
all_stages_keep (stages.Within Acknowledgement steps.OtherWriter) h = acknowledgement_otherwriter_keeps
all_stages_keep (stages.Within Acknowledgement steps.Tail) h = acknowledgement_tail_keeps
all_stages_keep stage h = absurd (true≢false (sym h))
