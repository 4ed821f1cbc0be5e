use Rattle.std.proofs.Common.{[], ◌++◌, Bool, cond, sym, ap, ◌∙◌}
use Rattle.cwr_devices.proofs.lemmas.Adding.{adds_as, adds_both, adds_nothing}
use Rattle.cwr_tables.specs.Format.WorkTables.{name_of_owner}
use Rattle.cwr_tables.specs.Steps.WorkTexts.{between, within}
use Rattle.cwr_tables.proofs.work_texts.owner_text.Goals as goal

pub returns-then-not-is_on : goal.returns-then-not-is_on
returns-then-not-is_on g c =
    adds_as (sym (ap (λ (b : Bool). cond b (between c.args.later ++ within c.args.quoted
    (name_of_owner c.args.encoding c.args.side c.args.shown.now)) []) (sym c.is_on.ensures ∙ c.if-not-is_on.true))) adds_nothing

pub name_of_owner-requires : goal.name_of_owner-requires
name_of_owner-requires g c = sym c.is_on.ensures ∙ c.if-not-is_on.false

pub returns : goal.returns
returns g c =
    adds_as (sym (ap (λ (b : Bool). cond b (between c.args.later ++ within c.args.quoted
    (name_of_owner c.args.encoding c.args.side c.args.shown.now)) []) (sym c.is_on.ensures ∙ c.if-not-is_on.false)))
    (adds_both c.between.ensures c.name_of_owner.ensures)
