use Rattle.std.proofs.Common.{◌∙◌, ap, sym}
use Rattle.cwr_summaries.specs.Format.Rows.{is_among}
use Rattle.cwr_summaries.proofs.lemmas.Totals.{among_already}
use Rattle.cwr_summaries.proofs.summaries.Totals.add_sender.Goals as goal

pub returns-then-contains-clause-among : goal.returns-then-contains-clause-among
returns-then-contains-clause-among c =
    among_already c.args.self.now.senders.items c.args.sender
    (ap (is_among c.args.sender) (sym c.deref.ensures.value) ∙ sym c.contains.ensures.value ∙ c.if-contains.true)
