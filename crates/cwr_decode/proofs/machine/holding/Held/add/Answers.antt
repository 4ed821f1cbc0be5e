use Rattle.std.proofs.Common.{List, Option, ap, sym, subst, ◌∙◌}
use Rattle.std.specs.Prelude.{OnErr}
use Rattle.cwr_lines.specs.Format.Growth.{AsksMemory}
use Rattle.cwr_lines.specs.Format.Records.{RecordValue}
use Rattle.cwr_decode.specs.Steps.HeldLists.{open_records}
use Rattle.cwr_decode.specs.Steps.Machines.{held_list}
use Rattle.cwr_decode.proofs.machine.holding.Held.add.Goals as goal

pub returns-in-Open-clause-asks : goal.returns-in-Open-clause-asks
returns-in-Open-clause-asks c =
    subst (λ (held : Option (List RecordValue)). OnErr c.push_at.result (AsksMemory (held_list held) c.args.accepted))
    (sym (ap open_records c.in-Open.is) ∙ c.self.view_is) c.push_at.ensures.memory
