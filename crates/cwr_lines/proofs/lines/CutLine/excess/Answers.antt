use Rattle.std.proofs.Common.{◌≡◌, ℕ, drop, not, Some, ap, ◌∙◌}
use Rattle.std.proofs.lemmas.List.{take_rest}
use Rattle.cwr_fields.specs.Format.Bytes.{is_spaces}
use Rattle.cwr_lines.specs.Steps.Held.{HeldLine, IsFilled}
use Rattle.cwr_lines.proofs.lemmas.CellParts.{filled_now}
use Rattle.cwr_lines.proofs.lemmas.HeldExcess.{excess_found}
use Rattle.cwr_lines.proofs.lines.CutLine.excess.Goals as goal

pub returns : goal.returns
returns c =
    let l = c.self.inside in
    let filled : IsFilled l.text.now (Some c.in-Some.kind) c.args.self.now =
    filled_now l.text.now l.count l.has_return l.kind l.ended c.in-Some.kind c.args.self.now c.self.invariant.0 c.self.view_is
    c.in-Some.is in
    let spaces : c.is_spaces.result ≡ is_spaces (drop c.width.result l.text.now) = rw take_rest at c.is_spaces.ensures in
    ap not spaces ∙ ap (λ (n : ℕ). not (is_spaces (drop n l.text.now))) c.width.ensures
    ∙ excess_found l.text.now c.in-Some.kind c.args.self.now filled
    (λ e. c.in_default-ended.not-Over (ap (λ (h : HeldLine). h.ended) c.self.view_is ∙ e))
