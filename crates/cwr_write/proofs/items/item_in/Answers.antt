use Rattle.std.proofs.Common.{sym, ap, subst, map, ◌∙◌}
use Rattle.json.proofs.Trees.{view-Object}
use Rattle.json.specs.Json.{Json}
use Rattle.json.specs.Value.{value_view}
use Rattle.cwr_write.specs.Format.Faults.{IsItemReason}
use Rattle.cwr_write.proofs.lemmas.ItemReasons.{line_err, listed_reason, unlisted_reason}
use Rattle.cwr_write.proofs.lemmas.ToldMembers.{member_in}
use Rattle.cwr_write.proofs.items.item_in.Goals as goal

pub returns-in_default-values_in-clause-reason : goal.returns-in_default-values_in-clause-reason
returns-in_default-values_in-clause-reason c =
    let p =
    member_in _ _ c.in-Ok.at c.in-Some.member.now c.deref.ensures.value c.in-Some.ensures.lookup.3.0
    c.in-Some.ensures.lookup.1 in
    subst (λ (j : Json). IsItemReason c.args.encoding j c.of_key-in_default-values_in.result)
    (sym (ap value_view c.in-Object.is ∙ view-Object c.in-Object.members))
    (unlisted_reason c.args.encoding c.in-Object.members.items c.in-Ok.at c.in-Some.member.now
    c.of_key-in_default-values_in.result c.in-Ok.ensures.ok p.1 c.in_default-values_in.ensures
    c.of_key-in_default-values_in.ensures.record c.of_key-in_default-values_in.ensures.kind
    c.of_key-in_default-values_in.ensures.key c.of_key-in_default-values_in.ensures.why)

pub returns-clause-reason : goal.returns-clause-reason
returns-clause-reason c =
    let p =
    member_in _ _ c.in-Ok.at c.in-Some.member.now c.deref.ensures.value c.in-Some.ensures.lookup.3.0
    c.in-Some.ensures.lookup.1 in
    line_err c.item_of.result _ _
    (λ f h. subst (λ (j : Json). IsItemReason c.args.encoding j f)
    (sym (ap value_view c.in-Object.is ∙ view-Object c.in-Object.members))
    (listed_reason c.args.encoding c.in-Object.members.items c.in-Ok.at c.in-Some.member.now
    (map value_view c.in-Some-values_in.values.now) f c.in-Ok.ensures.ok p.1 c.in-Some-values_in.ensures h))
    c.item_of.ensures.reason
