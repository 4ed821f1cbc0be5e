use Rattle.std.proofs.Common.{ap, sym}
use Rattle.cwr_devices.proofs.lemmas.Adding.{adds_as, adds_nothing}
use Rattle.cwr_tools.specs.Format.Reports.{unrefused_line}
use Rattle.cwr_tools.proofs.reporting.unrefused_line.Goals as goal

pub returns-in-Refused : goal.returns-in-Refused
returns-in-Refused g c = adds_as (ap unrefused_line (sym c.in-Refused.is)) adds_nothing
