use Rattle.std.proofs.Common.{rules}
use Rattle.cwr_devices.proofs.lemmas.Adding.{puts_added}
use Rattle.cwr_transform.proofs.selections.put_fault.Goals as goal

pub returns : goal.returns
returns g c = search (rules, puts_added)
