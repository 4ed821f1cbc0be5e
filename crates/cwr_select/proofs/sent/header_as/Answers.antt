use Rattle.std.proofs.Common.{◌≡◌, sym, subst, ◌∙◌}
use Rattle.cwr_lines.specs.Format.Records.{IsRecord}
use Rattle.cwr_select.specs.Format.Sent.{kind_of}
use Rattle.cwr_select.proofs.lemmas.SentWorks.{right_cells}
use Rattle.cwr_select.proofs.sent.header_as.Goals as goal

pub unreachable-requires : goal.unreachable-requires
unreachable-requires c =
    let same : c.copied.result ≡ record { kind = kind_of c.args.works; cells = c.args.head.now.cells } =
    c.copied.ensures.copy ∙ (λ i. record { kind = c.kind_of.ensures i; cells = c.args.head.now.cells }) in
    let never = c.in-Err.ensures.variant.1
    (subst IsRecord (sym same) (right_cells c.args.works c.args.head.now c.requires c.copied.ensures.fits)) in
    absurd (cc never)
