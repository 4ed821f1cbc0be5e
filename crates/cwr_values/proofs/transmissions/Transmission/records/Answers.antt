use Rattle.std.proofs.Common.{◌∙◌, ap, arith}
use Rattle.std.proofs.lemmas.List.Sums.{sum_by_more}
use Rattle.cwr_values.specs.Format.Values.{TransmissionValue}
use Rattle.cwr_values.proofs.lemmas.Grouping.{count_records, transmission_counted}
use Rattle.cwr_values.proofs.transmissions.Transmission.records.Goals as goal

pub loop-group-preserved : goal.loop-group-preserved
loop-group-preserved c =
    let more =
    sum_by_more count_records c.deref-group-items.result.now c.loop-group.group-index c.group-item.result (omega arith) in
    let item = ap count_records c.group-item.is in
    omega (arith, more, item, c.loop-group.invariant, c.saturating_add-records.ensures, c.records.ensures)

pub returns : goal.returns
returns c =
    transmission_counted c.args.self.now c.deref-group-items.result.now c.loop-group.group-index c.loop-group.records
    c.loop-group.invariant c.loop-group-test.false
    (c.deref-group-items.ensures.value ∙ ap (λ (v : TransmissionValue). v.groups) c.self.view_is)
