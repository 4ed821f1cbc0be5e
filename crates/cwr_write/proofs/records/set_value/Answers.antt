use Rattle.std.proofs.Common.{Some, sym, ap, subst, ◌∙◌}
use Rattle.std.proofs.lemmas.Result.{IfErr-weaker}
use Rattle.json.specs.Json.{Json, string}
use Rattle.json.specs.Value.{value_view}
use Rattle.cwr_fields.specs.declared.kinds.Kind.{Kind}
use Rattle.cwr_fields.specs.Format.Layouts.{field_at}
use Rattle.cwr_write.specs.Format.Faults.{IsValueReason}
use Rattle.cwr_write.proofs.lemmas.CharactersRead.{string_of}
use Rattle.cwr_write.proofs.records.set_value.Goals as goal

pub returns-in-Some-clause-reason : goal.returns-in-Some-clause-reason
returns-in-Some-clause-reason c =
    IfErr-weaker c.set_characters.result _ _
    (λ why h same f at. subst (λ (j : Json). IsValueReason c.args.encoding f (Some j) why)
    (sym (string_of (value_view c.args.value.now) c.in-Some.text.now (sym c.in-Some.ensures)))
    (subst (λ (j : Json). IsValueReason c.args.encoding f (Some j) why) (ap string c.as_bytes.ensures.value) (h f
    (ap (λ (k : Kind). field_at k c.args.j) same ∙ at)
    (c.is_computed.ensures.derived f at ∙ c.if-is_computed.false)))) c.set_characters.ensures.reason
