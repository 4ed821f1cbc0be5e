use Rattle.std.proofs.Common.{Bool, sym, ap, ◌∙◌}
use Rattle.cwr_devices.proofs.lemmas.Adding.{adds_as, adds_nothing}
use Rattle.cwr_findings.specs.Format.ReportLines.{truncated_line}
use Rattle.cwr_lint.specs.Format.Told.{truncated_unless}
use Rattle.cwr_lint.proofs.puts.truncated_unless.Goals as goal

pub returns-in-true : goal.returns-in-true
returns-in-true g c = adds_as (ap (λ (b : Bool). truncated_unless b c.args.lines) (sym c.in-true.is)) adds_nothing

pub returns-in-false : goal.returns-in-false
returns-in-false g c =
    adds_as (ap truncated_line c.report_number.ensures ∙ ap (λ (b : Bool). truncated_unless b c.args.lines) (sym c.in-false.is))
    c.truncated_line.ensures
