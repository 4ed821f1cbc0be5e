use Rattle.std.proofs.Common.{◌≡◌, ◌≤◌, false, lit≤, ap, ◌∙◌, arith}
use Rattle.cwr_fields.specs.declared.kinds.Kind.{Kind}
use Rattle.cwr_fields.specs.declared.kinds.Kind.TheVariants.{Hdr, Grh, Grt, Trl}
use Rattle.cwr_fields.specs.Format.Kinds.{is_in_transaction}
use Rattle.cwr_fields.specs.Format.Layouts.{line_width}
use Rattle.cwr_lines.specs.Format.Records.{RecordValue}
use Rattle.cwr_lines.proofs.records.RecordRef.to_control.Goals as goal

-- no control record's line is wider than that of HDR
narrow : (kind : Kind) → is_in_transaction kind ≡ false → line_width kind ≤ 101
narrow Hdr outside = lit≤ tt
narrow Grh outside = lit≤ tt
narrow Grt outside = lit≤ tt
narrow Trl outside = lit≤ tt
narrow this_kind outside = absurd (cc outside)

pub copy_bytes-text-requires : goal.copy_bytes-text-requires
copy_bytes-text-requires c = omega (
  arith,
  c.self.invariant.whole,
  narrow c.self.inside.kind
      (ap (λ (r : RecordValue). is_in_transaction r.kind) c.self.view_is ∙ c.requires),
)
