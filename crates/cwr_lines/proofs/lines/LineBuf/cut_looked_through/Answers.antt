use Rattle.cwr_lines.proofs.lemmas.PlainLines.{ended_plain}
use Rattle.cwr_lines.proofs.lines.LineBuf.cut_looked_through.Goals as goal

pub invariant_of-result : goal.invariant_of-result
invariant_of-result c =
    let cut = c.cut.inside in (
      c.cut.invariant.0,
      λ p. ended_plain cut.text.now cut.count cut.has_return cut.kind cut.ended c.cut.invariant.0.0
          (c.is_known_plain-plain.ensures p),
    )
