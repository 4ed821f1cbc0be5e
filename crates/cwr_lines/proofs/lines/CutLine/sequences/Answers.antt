use Rattle.std.proofs.Common.{Some, sym, ◌∙◌}
use Rattle.cwr_lines.specs.Steps.Held.{IsFilled}
use Rattle.cwr_lines.proofs.lemmas.CellParts.{filled_now}
use Rattle.cwr_lines.proofs.lemmas.SequenceCells.{transaction_cell, record_cell}
use Rattle.cwr_lines.proofs.lines.CutLine.sequences.Goals as goal

pub returns-clause-transaction : goal.returns-clause-transaction
returns-clause-transaction c =
    let l = c.self.inside in
    let filled : IsFilled l.text.now (Some c.in_ok-kind.kind) c.args.self.now =
    filled_now l.text.now l.count l.has_return l.kind l.ended c.in_ok-kind.kind c.args.self.now c.self.invariant.0 c.self.view_is
    c.in_ok-kind.was in
    transaction_cell l.text.now c.args.self.now c.in_ok-kind.kind filled
    (sym c.is_in_transaction.ensures ∙ c.if-not-is_in_transaction.false)

pub returns-clause-record : goal.returns-clause-record
returns-clause-record c =
    let l = c.self.inside in
    let filled : IsFilled l.text.now (Some c.in_ok-kind.kind) c.args.self.now =
    filled_now l.text.now l.count l.has_return l.kind l.ended c.in_ok-kind.kind c.args.self.now c.self.invariant.0 c.self.view_is
    c.in_ok-kind.was in
    record_cell l.text.now c.args.self.now c.in_ok-kind.kind filled
    (sym c.is_in_transaction.ensures ∙ c.if-not-is_in_transaction.false)
