use Rattle.std.proofs.Common.{rules, sym, ◌∙◌}
use Rattle.cwr_devices.proofs.lemmas.Adding.{puts_added}
use Rattle.cwr_summary_rows.proofs.lemmas.Parts.{puts_there}
use Rattle.cwr_summary_rows.proofs.rows.put_row.Goals as goal

pub returns : goal.returns
returns g c =
    puts_added (search rules) (search rules) c.row_text.ensures
    (puts_there (search (rules, sym (c.row_text.ensures.same_sink ∙ c.new-pen.ensures.same_reference))) c.end.ensures)
