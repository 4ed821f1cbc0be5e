use Rattle.std.proofs.Common.{sym, ap, subst, ◌∙◌}
use Rattle.cwr_lines.specs.Format.Records.{IsRecord, RecordValue}
use Rattle.cwr_select.proofs.lemmas.CreatedHeaders.{right_header}
use Rattle.cwr_select.proofs.headers.created_header.Goals as goal

pub unreachable-requires : goal.unreachable-requires
unreachable-requires c =
    let right =
    right_header c.args.moment c.view.result (ap (λ (r : RecordValue). r.kind) c.view.ensures.value ∙ c.requires)
    (subst IsRecord (sym c.view.ensures.value) c.view.ensures.fits) in
    let never = c.in-Err.ensures.variant.1 (subst IsRecord (sym c.created_draft.ensures) right) in
    absurd (cc never)
