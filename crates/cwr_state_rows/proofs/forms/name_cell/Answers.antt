use Rattle.std.proofs.Common.{sym, ◌∙◌}
use Rattle.cwr_delivery.proofs.lemmas.Ends.{if_ok}
use Rattle.cwr_tables.proofs.lemmas.CellTexts.{cell_plain}
use Rattle.cwr_state_rows.proofs.forms.name_cell.Goals as goal

pub returns-else-needs_quotes : goal.returns-else-needs_quotes
returns-else-needs_quotes c =
    let plain = cell_plain c.args.name.now (sym c.needs_quotes.ensures ∙ c.if-needs_quotes.false) in
    if_ok c.from_slice.result (λ v e. e ∙ sym plain) c.from_slice.ensures.items
