use Rattle.std.proofs.Common.{◌++◌, refl}
use Rattle.cwr_devices.proofs.lemmas.Adding.{adds_both}
use Rattle.cwr_findings.specs.Format.ReportLines.{fault_line}
use Rattle.cwr_lint.proofs.puts.Asked.fault_lines.Goals as goal

pub returns : goal.returns
returns g c =
    let words = c.explanation.ensures in
    (fault_line c.args.fault.now ++ words.0, adds_both c.fault_line.ensures words.1, (words.0, words.2, refl))
