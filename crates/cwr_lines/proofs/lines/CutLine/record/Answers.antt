use Rattle.std.proofs.Common.{ℕ, take, subst}
use Rattle.std.specs.Prelude.{◌≡◌, ◌↔◌, Some, IsSome, IfSome}
use Rattle.cwr_lines.specs.Steps.Held.{IsFilled}
use Rattle.cwr_lines.specs.Format.Records.{IsRecord}
use Rattle.cwr_lines.specs.Steps.Carried.{record_in}
use Rattle.cwr_lines.proofs.lemmas.CellParts.{filled_now, plain_take}
use Rattle.cwr_lines.proofs.lemmas.HeldRecords.{record_found, record_value}
use Rattle.cwr_lines.proofs.lines.CutLine.record.Goals as goal

pub returns-clause-some : goal.returns-clause-some
returns-clause-some c =
    let l = c.self.inside in
    let filled : IsFilled l.text.now (Some c.in_ok-kind.kind) c.args.self.now =
    filled_now l.text.now l.count l.has_return l.kind l.ended c.in_ok-kind.kind c.args.self.now c.self.invariant.0 c.self.view_is
    c.in_ok-kind.was in
    record_found l.text.now c.in_ok-kind.kind c.args.self.now c.from_line.result filled
    (subst (λ (n : ℕ). IsSome c.from_line.result ↔ IsRecord (record_in c.in_ok-kind.kind (take n l.text.now))) c.width.ensures
    c.from_line.ensures.some)

pub returns-clause-value : goal.returns-clause-value
returns-clause-value c =
    let l = c.self.inside in
    let filled : IsFilled l.text.now (Some c.in_ok-kind.kind) c.args.self.now =
    filled_now l.text.now l.count l.has_return l.kind l.ended c.in_ok-kind.kind c.args.self.now c.self.invariant.0 c.self.view_is
    c.in_ok-kind.was in
    record_value l.text.now c.in_ok-kind.kind c.args.self.now c.from_line.result filled
    (subst (λ (n : ℕ). IfSome c.from_line.result (λ found. found ≡ record_in c.in_ok-kind.kind (take n l.text.now)))
    c.width.ensures c.from_line.ensures.value)

pub from_line-requires-clause-plain : goal.from_line-requires-clause-plain
from_line-requires-clause-plain c = λ yes. plain_take c.width.result c.self.inside.text.now (c.self.invariant.1 yes)
