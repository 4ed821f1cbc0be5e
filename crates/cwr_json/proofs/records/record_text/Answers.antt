use Rattle.std.proofs.Common.{ap}
use Rattle.cwr_fields.specs.declared.kinds.Kind.{Kind}
use Rattle.cwr_devices.proofs.lemmas.Adding.{adds_as, adds_both}
use Rattle.cwr_json.specs.Steps.FormTexts.{head_text}
use Rattle.cwr_json.proofs.records.record_text.Goals as goal

pub returns : goal.returns
returns g c =
    adds_both (adds_both (adds_as (ap (λ (kind : Kind). head_text kind) c.kind.ensures.value) c.head_text.ensures)
    c.member_texts.ensures) c.text.ensures
