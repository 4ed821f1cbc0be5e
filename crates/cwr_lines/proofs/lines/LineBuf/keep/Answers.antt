use Rattle.std.proofs.Common.{◌≡◌, ℕ, List, sym, ap, subst, ◌∙◌}
use Rattle.cwr_lines.specs.Steps.Held.{IsKept, line_kept}
use Rattle.cwr_lines.proofs.lemmas.KeptLengths.{kept_short}
use Rattle.cwr_lines.proofs.lines.LineBuf.keep.Goals as goal

pub copy_over-requires : goal.copy_over-requires
copy_over-requires c =
    let l = c.line.inside in
    kept_short l.text.now l.count l.has_return l.kind l.ended c.line.invariant.0

pub invariant_of-self : goal.invariant_of-self
invariant_of-self c =
    let l = c.line.inside in
    subst (λ (x : List ℕ). IsKept x l.count l.has_return l.kind l.ended) (sym c.copy_over.ensures) c.line.invariant.0.0

pub returns : goal.returns
returns c =
    let l = c.line.inside in
    ap (λ (x : List ℕ). line_kept x l.count l.has_return l.ended) c.copy_over.ensures ∙ c.line.view_is
