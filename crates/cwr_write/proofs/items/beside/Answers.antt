use Rattle.std.proofs.Common.{[], ◌∷◌, Some, ap, inr, refl, ◌∙◌}
use Rattle.cwr_fields.specs.declared.kinds.Kind.{Kind}
use Rattle.cwr_lines.specs.Format.Records.{RecordValue}
use Rattle.cwr_write.specs.declared.refusals.Why.TheVariants as whys
use Rattle.cwr_write.proofs.lemmas.ItemsRead.{data_first}
use Rattle.cwr_write.proofs.lemmas.ItemReasons.{own_among, placed_among}
use Rattle.cwr_write.proofs.items.beside.Goals as goal

pub returns-in-Ok-clause-reason : goal.returns-in-Ok-clause-reason
returns-in-Ok-clause-reason c =
    placed_among c.args.encoding c.args.values.now 1 c.index-values-1.result c.of_record.result (c.args.first.now ∷ []) whys.Alone
    c.requires.more c.index-values-1.is c.of_record.ensures.record
    (data_first c.args.encoding c.args.values.now c.args.first.now c.requires.data) (inr (
      c.requires.alone,
      refl,
    )) c.of_record.ensures.why (
      _,
      c.in-Ok.ensures.ok,
      (
        c.requires.alone,
        c.of_record.ensures.kind ∙ ap
            (λ (k : Kind). Some k)
            (c.kind.ensures.value ∙ ap (λ (r : RecordValue). r.kind) c.view.ensures.value),
      ),
      c.of_record.ensures.key,
    )

pub returns-in-Err-clause-reason : goal.returns-in-Err-clause-reason
returns-in-Err-clause-reason c =
    own_among c.args.encoding c.args.values.now 1 c.index-values-1.result c.in-Err.fault (c.args.first.now ∷ []) c.requires.more
    c.index-values-1.is c.in-Err.ensures.reason.0
    (data_first c.args.encoding c.args.values.now c.args.first.now c.requires.data) (inr (c.requires.alone, refl))
    c.in-Err.ensures.reason.1
