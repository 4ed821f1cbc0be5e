use Rattle.std.proofs.Common.{ap₂}
use Rattle.cwr_devices.proofs.lemmas.Adding.{adds_as, adds_both}
use Rattle.cwr_tables.specs.declared.works.Sums.{Sums}
use Rattle.cwr_tables.specs.Steps.WorkTexts.{tail_text}
use Rattle.cwr_tables.proofs.lemmas.TextsOfWorks.{row_is}
use Rattle.cwr_tables.proofs.work_tables.work_text.Goals as goal

pub returns : goal.returns
returns g c =
    adds_as (row_is c.args.encoding c.args.place c.args.head.now c.args.transaction.now c.requires.header c.requires.first)
    (adds_both (adds_both (adds_both c.front_text.ensures c.next_names.ensures) c.next_names-2.ensures)
    (adds_as (ap₂ (λ (s t : Sums). tail_text s t) c.add_up-writers.ensures c.add_up-publishers.ensures) c.tail_text.ensures))
