use Rattle.std.proofs.Common.{sym, ap, ◌∙◌}
use Rattle.std.specs.Str.{bytes_eq}
use Rattle.cwr_findings.proofs.lemmas.RuleTests.{publisher_of_number}
use Rattle.cwr_findings.proofs.publishers.is_publisher.Goals as goal

pub returns-in-Spu : goal.returns-in-Spu
returns-in-Spu c =
    c.eq.ensures ∙ ap (bytes_eq c.args.number.now) c.cell.ensures.value
    ∙ publisher_of_number c.args.shown.now c.args.number.now (sym c.kind.ensures.value ∙ c.in-Spu.is) c.cell.ensures.fits
