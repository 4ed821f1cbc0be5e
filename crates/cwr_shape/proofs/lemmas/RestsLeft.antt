-- At each stage something is left with which a transmission ends: the check computes it.
use Rattle.std.proofs.Common.{◌≡◌, true, List, [], ◌∷◌, refl, sym, true≢false}
use Rattle.cwr_fields.specs.declared.codes.Role.TheVariants.{Assignor, Acquirer}
use Rattle.cwr_fields.specs.declared.codes.TransactionType.TheVariants.{Agreement, NewWork, RevisedWork, Acknowledgement}
use Rattle.cwr_fields.specs.declared.kinds.Kind.{Kind}
use Rattle.cwr_fields.specs.declared.kinds.Kind.TheVariants as kinds
use Rattle.cwr_shape.specs.declared.symbols.Symbol.{Symbol}
use Rattle.cwr_shape.specs.declared.symbols.Symbol.TheVariants.{Plain, Ipa, Grh}
use Rattle.cwr_shape.specs.declared.stages.Stage.{Stage}
use Rattle.cwr_shape.specs.declared.stages.Stage.TheVariants as stages
use Rattle.cwr_shape.specs.declared.stages.TransactionStep.TheVariants as steps
use Rattle.cwr_shape.specs.Format.Shapes.{Matches}
use Rattle.cwr_shape.proofs.lemmas.Matcher.{nullable, after, after_all, accepts_sound}
use Rattle.cwr_shape.specs.Steps.Left.{left, is_stage}

abbrev p : Kind → Symbol
p = Plain

-- symbols that end a group and the transmission
abbrev ending : List Symbol
ending = p kinds.Grt ∷ p kinds.Trl ∷ []

-- what is left at a stage, in one case
abbrev pub Left : Stage → Type 0
Left stage = (rest : List Symbol) × Matches (left stage) rest

left_start : Left stages.Start
unfolding nullable after after_all
left_start = (p kinds.Hdr ∷ Grh Acknowledgement ∷ p kinds.Ack ∷ ending, accepts_sound _ (left stages.Start) refl)

left_opened : Left stages.Opened
unfolding nullable after after_all
left_opened = (Grh Acknowledgement ∷ p kinds.Ack ∷ ending, accepts_sound _ (left stages.Opened) refl)

left_closed : Left stages.Closed
unfolding nullable after after_all
left_closed = (p kinds.Trl ∷ [], accepts_sound _ (left stages.Closed) refl)

left_ended : Left stages.Ended
unfolding nullable after after_all
left_ended = ([], accepts_sound _ (left stages.Ended) refl)

left_within_newwork_ingroup : Left (stages.Within NewWork steps.InGroup)
unfolding nullable after after_all
left_within_newwork_ingroup =
    (p kinds.Nwr ∷ p kinds.Swr ∷ ending, accepts_sound _ (left (stages.Within NewWork steps.InGroup)) refl)

left_within_newwork_work : Left (stages.Within NewWork steps.Work)
unfolding nullable after after_all
left_within_newwork_work = (p kinds.Swr ∷ ending, accepts_sound _ (left (stages.Within NewWork steps.Work)) refl)

left_within_newwork_controlled : Left (stages.Within NewWork steps.Controlled)
unfolding nullable after after_all
left_within_newwork_controlled = (p kinds.Swr ∷ ending, accepts_sound _ (left (stages.Within NewWork steps.Controlled)) refl)

left_within_newwork_other : Left (stages.Within NewWork steps.Other)
unfolding nullable after after_all
left_within_newwork_other = (p kinds.Swr ∷ ending, accepts_sound _ (left (stages.Within NewWork steps.Other)) refl)

left_within_newwork_writer : Left (stages.Within NewWork steps.Writer)
unfolding nullable after after_all
left_within_newwork_writer = (ending, accepts_sound _ (left (stages.Within NewWork steps.Writer)) refl)

left_within_newwork_otherwriter : Left (stages.Within NewWork steps.OtherWriter)
unfolding nullable after after_all
left_within_newwork_otherwriter = (ending, accepts_sound _ (left (stages.Within NewWork steps.OtherWriter)) refl)

left_within_newwork_tail : Left (stages.Within NewWork steps.Tail)
unfolding nullable after after_all
left_within_newwork_tail = (ending, accepts_sound _ (left (stages.Within NewWork steps.Tail)) refl)

left_within_revisedwork_ingroup : Left (stages.Within RevisedWork steps.InGroup)
unfolding nullable after after_all
left_within_revisedwork_ingroup =
    (p kinds.Rev ∷ p kinds.Swr ∷ ending, accepts_sound _ (left (stages.Within RevisedWork steps.InGroup)) refl)

left_within_revisedwork_work : Left (stages.Within RevisedWork steps.Work)
unfolding nullable after after_all
left_within_revisedwork_work = (p kinds.Swr ∷ ending, accepts_sound _ (left (stages.Within RevisedWork steps.Work)) refl)

left_within_revisedwork_controlled : Left (stages.Within RevisedWork steps.Controlled)
unfolding nullable after after_all
left_within_revisedwork_controlled =
    (p kinds.Swr ∷ ending, accepts_sound _ (left (stages.Within RevisedWork steps.Controlled)) refl)

left_within_revisedwork_other : Left (stages.Within RevisedWork steps.Other)
unfolding nullable after after_all
left_within_revisedwork_other = (p kinds.Swr ∷ ending, accepts_sound _ (left (stages.Within RevisedWork steps.Other)) refl)

left_within_revisedwork_writer : Left (stages.Within RevisedWork steps.Writer)
unfolding nullable after after_all
left_within_revisedwork_writer = (ending, accepts_sound _ (left (stages.Within RevisedWork steps.Writer)) refl)

left_within_revisedwork_otherwriter : Left (stages.Within RevisedWork steps.OtherWriter)
unfolding nullable after after_all
left_within_revisedwork_otherwriter = (ending, accepts_sound _ (left (stages.Within RevisedWork steps.OtherWriter)) refl)

left_within_revisedwork_tail : Left (stages.Within RevisedWork steps.Tail)
unfolding nullable after after_all
left_within_revisedwork_tail = (ending, accepts_sound _ (left (stages.Within RevisedWork steps.Tail)) refl)

left_within_agreement_ingroup : Left (stages.Within Agreement steps.InGroup)
unfolding nullable after after_all
left_within_agreement_ingroup = (
  p kinds.Agr ∷ p kinds.Ter ∷ Ipa Assignor ∷ Ipa Acquirer ∷ ending,
  accepts_sound _ (left (stages.Within Agreement steps.InGroup)) refl,
)

left_within_agreement_agreed : Left (stages.Within Agreement steps.Agreed)
unfolding nullable after after_all
left_within_agreement_agreed =
    (p kinds.Ter ∷ Ipa Assignor ∷ Ipa Acquirer ∷ ending, accepts_sound _ (left (stages.Within Agreement steps.Agreed)) refl)

left_within_agreement_territories : Left (stages.Within Agreement steps.Territories)
unfolding nullable after after_all
left_within_agreement_territories =
    (Ipa Assignor ∷ Ipa Acquirer ∷ ending, accepts_sound _ (left (stages.Within Agreement steps.Territories)) refl)

left_within_agreement_oneside_assignor : Left (stages.Within Agreement (steps.OneSide Assignor))
unfolding nullable after after_all
left_within_agreement_oneside_assignor =
    (Ipa Acquirer ∷ ending, accepts_sound _ (left (stages.Within Agreement (steps.OneSide Assignor))) refl)

left_within_agreement_oneside_acquirer : Left (stages.Within Agreement (steps.OneSide Acquirer))
unfolding nullable after after_all
left_within_agreement_oneside_acquirer =
    (Ipa Assignor ∷ ending, accepts_sound _ (left (stages.Within Agreement (steps.OneSide Acquirer))) refl)

left_within_agreement_both : Left (stages.Within Agreement steps.Both)
unfolding nullable after after_all
left_within_agreement_both = (ending, accepts_sound _ (left (stages.Within Agreement steps.Both)) refl)

left_within_acknowledgement_ingroup : Left (stages.Within Acknowledgement steps.InGroup)
unfolding nullable after after_all
left_within_acknowledgement_ingroup =
    (p kinds.Ack ∷ ending, accepts_sound _ (left (stages.Within Acknowledgement steps.InGroup)) refl)

left_within_acknowledgement_acked : Left (stages.Within Acknowledgement steps.Acked)
unfolding nullable after after_all
left_within_acknowledgement_acked = (ending, accepts_sound _ (left (stages.Within Acknowledgement steps.Acked)) refl)

left_within_acknowledgement_work : Left (stages.Within Acknowledgement steps.Work)
unfolding nullable after after_all
left_within_acknowledgement_work = (p kinds.Swr ∷ ending, accepts_sound _ (left (stages.Within Acknowledgement steps.Work)) refl)

left_within_acknowledgement_controlled : Left (stages.Within Acknowledgement steps.Controlled)
unfolding nullable after after_all
left_within_acknowledgement_controlled =
    (p kinds.Swr ∷ ending, accepts_sound _ (left (stages.Within Acknowledgement steps.Controlled)) refl)

left_within_acknowledgement_other : Left (stages.Within Acknowledgement steps.Other)
unfolding nullable after after_all
left_within_acknowledgement_other =
    (p kinds.Swr ∷ ending, accepts_sound _ (left (stages.Within Acknowledgement steps.Other)) refl)

left_within_acknowledgement_writer : Left (stages.Within Acknowledgement steps.Writer)
unfolding nullable after after_all
left_within_acknowledgement_writer = (ending, accepts_sound _ (left (stages.Within Acknowledgement steps.Writer)) refl)

left_within_acknowledgement_otherwriter : Left (stages.Within Acknowledgement steps.OtherWriter)
unfolding nullable after after_all
left_within_acknowledgement_otherwriter = (ending, accepts_sound _ (left (stages.Within Acknowledgement steps.OtherWriter)) refl)

left_within_acknowledgement_tail : Left (stages.Within Acknowledgement steps.Tail)
unfolding nullable after after_all
left_within_acknowledgement_tail = (ending, accepts_sound _ (left (stages.Within Acknowledgement steps.Tail)) refl)

left_within_acknowledgement_agreed : Left (stages.Within Acknowledgement steps.Agreed)
unfolding nullable after after_all
left_within_acknowledgement_agreed =
    (p kinds.Ter ∷ Ipa Assignor ∷ Ipa Acquirer ∷ ending, accepts_sound _ (left (stages.Within Acknowledgement steps.Agreed)) refl)

left_within_acknowledgement_territories : Left (stages.Within Acknowledgement steps.Territories)
unfolding nullable after after_all
left_within_acknowledgement_territories =
    (Ipa Assignor ∷ Ipa Acquirer ∷ ending, accepts_sound _ (left (stages.Within Acknowledgement steps.Territories)) refl)

left_within_acknowledgement_oneside_assignor : Left (stages.Within Acknowledgement (steps.OneSide Assignor))
unfolding nullable after after_all
left_within_acknowledgement_oneside_assignor =
    (Ipa Acquirer ∷ ending, accepts_sound _ (left (stages.Within Acknowledgement (steps.OneSide Assignor))) refl)

left_within_acknowledgement_oneside_acquirer : Left (stages.Within Acknowledgement (steps.OneSide Acquirer))
unfolding nullable after after_all
left_within_acknowledgement_oneside_acquirer =
    (Ipa Assignor ∷ ending, accepts_sound _ (left (stages.Within Acknowledgement (steps.OneSide Acquirer))) refl)

left_within_acknowledgement_both : Left (stages.Within Acknowledgement steps.Both)
unfolding nullable after after_all
left_within_acknowledgement_both = (ending, accepts_sound _ (left (stages.Within Acknowledgement steps.Both)) refl)

-- at each stage something is left
pub left_at : (stage : Stage) → is_stage stage ≡ true → Left stage
left_at stages.Start h = left_start
left_at stages.Opened h = left_opened
left_at stages.Closed h = left_closed
left_at stages.Ended h = left_ended
left_at (stages.Within NewWork steps.InGroup) h = left_within_newwork_ingroup
left_at (stages.Within NewWork steps.Work) h = left_within_newwork_work
left_at (stages.Within NewWork steps.Controlled) h = left_within_newwork_controlled
left_at (stages.Within NewWork steps.Other) h = left_within_newwork_other
left_at (stages.Within NewWork steps.Writer) h = left_within_newwork_writer
left_at (stages.Within NewWork steps.OtherWriter) h = left_within_newwork_otherwriter
left_at (stages.Within NewWork steps.Tail) h = left_within_newwork_tail
left_at (stages.Within RevisedWork steps.InGroup) h = left_within_revisedwork_ingroup
left_at (stages.Within RevisedWork steps.Work) h = left_within_revisedwork_work
left_at (stages.Within RevisedWork steps.Controlled) h = left_within_revisedwork_controlled
left_at (stages.Within RevisedWork steps.Other) h = left_within_revisedwork_other
left_at (stages.Within RevisedWork steps.Writer) h = left_within_revisedwork_writer
left_at (stages.Within RevisedWork steps.OtherWriter) h = left_within_revisedwork_otherwriter
left_at (stages.Within RevisedWork steps.Tail) h = left_within_revisedwork_tail
left_at (stages.Within Agreement steps.InGroup) h = left_within_agreement_ingroup
left_at (stages.Within Agreement steps.Agreed) h = left_within_agreement_agreed
left_at (stages.Within Agreement steps.Territories) h = left_within_agreement_territories
left_at (stages.Within Agreement (steps.OneSide Assignor)) h = left_within_agreement_oneside_assignor
left_at (stages.Within Agreement (steps.OneSide Acquirer)) h = left_within_agreement_oneside_acquirer
left_at (stages.Within Agreement steps.Both) h = left_within_agreement_both
left_at (stages.Within Acknowledgement steps.InGroup) h = left_within_acknowledgement_ingroup
left_at (stages.Within Acknowledgement steps.Acked) h = left_within_acknowledgement_acked
left_at (stages.Within Acknowledgement steps.Work) h = left_within_acknowledgement_work
left_at (stages.Within Acknowledgement steps.Controlled) h = left_within_acknowledgement_controlled
left_at (stages.Within Acknowledgement steps.Other) h = left_within_acknowledgement_other
left_at (stages.Within Acknowledgement steps.Writer) h = left_within_acknowledgement_writer
left_at (stages.Within Acknowledgement steps.OtherWriter) h = left_within_acknowledgement_otherwriter
left_at (stages.Within Acknowledgement steps.Tail) h = left_within_acknowledgement_tail
left_at (stages.Within Acknowledgement steps.Agreed) h = left_within_acknowledgement_agreed
left_at (stages.Within Acknowledgement steps.Territories) h = left_within_acknowledgement_territories
left_at (stages.Within Acknowledgement (steps.OneSide Assignor)) h = left_within_acknowledgement_oneside_assignor
left_at (stages.Within Acknowledgement (steps.OneSide Acquirer)) h = left_within_acknowledgement_oneside_acquirer
left_at (stages.Within Acknowledgement steps.Both) h = left_within_acknowledgement_both
left_at stage h = absurd (true≢false (sym h))
