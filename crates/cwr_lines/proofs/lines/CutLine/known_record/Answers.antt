use Rattle.std.proofs.Common.{◌≤◌, ◌∙◌, ℕ, length, take, sym, ap, subst, Some}
use Rattle.std.proofs.lemmas.List.{length-take-le}
use Rattle.cwr_lines.specs.Steps.Held.{IsFilled}
use Rattle.cwr_lines.specs.Format.Records.{RecordValue, IsRecord}
use Rattle.cwr_lines.specs.Steps.Carried.{record_in}
use Rattle.cwr_lines.proofs.lemmas.CellParts.{filled_now}
use Rattle.cwr_lines.proofs.lemmas.HeldRecords.{known_fits, record_held, filled_wide}
use Rattle.cwr_lines.proofs.lines.CutLine.known_record.Goals as goal

pub slice_bounds-of_line-end : goal.slice_bounds-of_line-end
slice_bounds-of_line-end c =
    let l = c.self.inside in
    let filled : IsFilled l.text.now (Some c.in-Some.kind) c.args.self.now =
    filled_now l.text.now l.count l.has_return l.kind l.ended c.in-Some.kind c.args.self.now c.self.invariant.0 c.self.view_is
    c.in-Some.is in
    let wide : c.width.result ≤ length l.text.now =
    subst (λ (n : ℕ). n ≤ length l.text.now) (sym c.width.ensures)
    (filled_wide l.text.now c.in-Some.kind c.args.self.now filled) in
    sym (length-take-le c.width.result l.text.now wide)

pub of_line-requires-clause-whole : goal.of_line-requires-clause-whole
of_line-requires-clause-whole c = sym (slice_bounds-of_line-end c) ∙ c.width.ensures

pub of_line-requires-clause-fits : goal.of_line-requires-clause-fits
of_line-requires-clause-fits c =
    let l = c.self.inside in
    let filled : IsFilled l.text.now (Some c.in-Some.kind) c.args.self.now =
    filled_now l.text.now l.count l.has_return l.kind l.ended c.in-Some.kind c.args.self.now c.self.invariant.0 c.self.view_is
    c.in-Some.is in
    subst (λ (n : ℕ). IsRecord (record_in c.in-Some.kind (take n l.text.now))) (sym c.width.ensures)
    (known_fits l.text.now c.in-Some.kind c.args.self.now filled c.requires)

pub returns : goal.returns
returns c =
    let l = c.self.inside in
    let filled : IsFilled l.text.now (Some c.in-Some.kind) c.args.self.now =
    filled_now l.text.now l.count l.has_return l.kind l.ended c.in-Some.kind c.args.self.now c.self.invariant.0 c.self.view_is
    c.in-Some.is in
    record_held l.text.now c.in-Some.kind c.args.self.now filled
    ∙ ap (λ (x : RecordValue). Some x)
    (sym (c.of_line.ensures ∙ ap (λ (n : ℕ). record_in c.in-Some.kind (take n l.text.now)) c.width.ensures))
