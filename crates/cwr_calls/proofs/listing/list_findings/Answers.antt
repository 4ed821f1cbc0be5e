use Rattle.std.proofs.Common.{Some, ap}
use Rattle.cwr_calls.proofs.lemmas.ListedFindings.{listed_text}
use Rattle.cwr_calls.proofs.listing.list_findings.Goals as goal

pub returns : goal.returns
returns c =
    listed_text c.args.limits c.args.text.now _ _ c.args.entries.now c.list_items.new.entries c.list_items.result.0
    c.list_items.result.1 (ap Some c.new-reader.ensures.left) c.list_items.ensures
