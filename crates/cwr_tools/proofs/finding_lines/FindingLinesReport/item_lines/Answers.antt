use Rattle.std.proofs.Common.{◌+◌, Bool, rules, subst}
use Rattle.cwr_devices.proofs.lemmas.Adding.{adds_nothing}
use Rattle.cwr_tools.specs.Format.Reports.{transaction_lines}
use Rattle.cwr_tools.specs.Steps.Reports.{AddsLines, lines_told}
use Rattle.cwr_tools.proofs.lemmas.LinesOfItems.{no_transaction, told_memory, told_other, told_transaction}
use Rattle.cwr_tools.proofs.lemmas.ReportSteps.{next_added, next_lines}
use Rattle.cwr_tools.proofs.finding_lines.FindingLinesReport.item_lines.Goals as goal

pub returns-in-Transaction-clause-adds : goal.returns-in-Transaction-clause-adds
returns-in-Transaction-clause-adds g c = λ of given counted here.
    let self = c.args.self.now in
    let it = lines_told self.explained self.up_to_fault in
    let t = c.in-Transaction.transaction in
    let text = transaction_lines self.explained self.up_to_fault c.args.counts.now.groups c.args.counts.now.in_group (c.from.result + 1) t in
    next_lines g.W.Target.contents g.W.Target.failures of it given c.args.item.now text c.findings_in.result c.args.pen.now
    c.findings_in.new.pen here.0
    (told_transaction self.explained self.up_to_fault c.args.counts.now given c.args.item.now t c.from.result counted
    c.in-Transaction.is (search rules))
    (subst (λ (b : Bool). AddsLines g.W.Target.contents g.W.Target.failures b text c.findings_in.result c.args.pen.now
    c.findings_in.new.pen) (told_memory self.explained self.up_to_fault c.args.item.now t
    c.in-Transaction.is) c.findings_in.ensures.adds)

pub returns-in-Opened-clause-adds : goal.returns-in-Opened-clause-adds
returns-in-Opened-clause-adds g c = λ of given counted here.
    let self = c.args.self.now in
    next_added of (lines_told self.explained self.up_to_fault) given c.args.item.now here.0
    (told_other self.explained self.up_to_fault c.args.counts.now given c.args.item.now counted
    (no_transaction c.args.item.now c.in-Opened.is)) adds_nothing

pub returns-in-Opened-2-clause-adds : goal.returns-in-Opened-2-clause-adds
returns-in-Opened-2-clause-adds g c = λ of given counted here.
    let self = c.args.self.now in
    next_added of (lines_told self.explained self.up_to_fault) given c.args.item.now here.0
    (told_other self.explained self.up_to_fault c.args.counts.now given c.args.item.now counted
    (no_transaction c.args.item.now c.in-Opened.is)) adds_nothing

pub returns-in-Opened-3-clause-adds : goal.returns-in-Opened-3-clause-adds
returns-in-Opened-3-clause-adds g c = λ of given counted here.
    let self = c.args.self.now in
    next_added of (lines_told self.explained self.up_to_fault) given c.args.item.now here.0
    (told_other self.explained self.up_to_fault c.args.counts.now given c.args.item.now counted
    (no_transaction c.args.item.now c.in-Opened.is)) adds_nothing

pub returns-in-Opened-4-clause-adds : goal.returns-in-Opened-4-clause-adds
returns-in-Opened-4-clause-adds g c = λ of given counted here.
    let self = c.args.self.now in
    next_added of (lines_told self.explained self.up_to_fault) given c.args.item.now here.0
    (told_other self.explained self.up_to_fault c.args.counts.now given c.args.item.now counted
    (no_transaction c.args.item.now c.in-Opened.is)) adds_nothing
