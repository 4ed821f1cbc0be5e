use Rattle.std.proofs.Common.{List, ◌++◌, map, take, ap, ◌∙◌}
use Rattle.std.specs.Prelude.{flat_map}
use Rattle.cwr_findings.specs.declared.rules.Finding.{Finding}
use Rattle.cwr_findings.specs.Format.Findings.{findings}
use Rattle.cwr_values.specs.declared.items.Item.TheVariants as items
use Rattle.cwr_summary.specs.Format.Summaries.{finding_part, header_parts, record_part, status_parts, work_parts}
use Rattle.cwr_summary.specs.Steps.Counted.{counted}
use Rattle.cwr_summary.proofs.lemmas.Counting.{counted_both}
use Rattle.cwr_summary.proofs.summaries.Summary.add_transaction.Goals as goal

pub returns : goal.returns
returns c =
    let old = c.args.self.now.numbers in
    let t = c.args.transaction.now in
    let header = flat_map header_parts (take 1 t) in
    let records = map record_part t in
    let answers = status_parts (items.Transaction t) in
    counted_both old c.add_status.new.self.numbers c.add_findings.new.self.numbers (header ++ records ++ work_parts t ++ answers)
    (map finding_part (findings t))
    (counted_both old c.add_work.new.self.numbers c.add_status.new.self.numbers (header ++ records ++ work_parts t) answers
    (counted_both old c.add_records.new.self.numbers c.add_work.new.self.numbers (header ++ records) (work_parts t)
    (counted_both old c.add_header.new.self.numbers c.add_records.new.self.numbers header records c.add_header.ensures
    c.add_records.ensures) c.add_work.ensures) c.add_status.ensures)
    (c.add_findings.ensures
    ∙ ap (λ (fs : List Finding). counted c.add_status.new.self.numbers (map finding_part fs)) c.requires)
