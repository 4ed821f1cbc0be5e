use Rattle.std.proofs.Common.{sym, take, ◌∙◌}
use Rattle.std.specs.List.{list_any}
use Rattle.cwr_fields.specs.declared.kinds.Kind.TheVariants as kinds
use Rattle.cwr_findings.specs.Format.Findings.{is_a}
use Rattle.cwr_advice.specs.Format.Rules.{has_no_composite_type}
use Rattle.cwr_advice.proofs.lemmas.AdvisedFields.{and_true}
use Rattle.cwr_advice.proofs.lemmas.BegunChains.{first_alone}
use Rattle.cwr_advice.proofs.advice_questions.is_stray_component.Goals as goal

pub returns-in-Some : goal.returns-in-Some
returns-in-Some c =
    c.has_no_composite_type.ensures
    ∙ first_alone has_no_composite_type c.args.transaction.now c.in-Some.header c.in-Some.ensures.value
    ∙ and_true (is_a kinds.Com c.args.shown.now) (list_any has_no_composite_type (take 1 c.args.transaction.now))
    (sym c.is_of.ensures ∙ c.if-not-is_of.false)
