use Rattle.std.proofs.Common.{◌++◌, refl, subst, sym, ap, ◌∙◌}
use Rattle.std.specs.Prelude.{IfSome, IsSomeAnd}
use Rattle.std.specs.Io.KnownBytes.{Keeps}
use Rattle.cwr_lines.specs.declared.lines.LineEnd.{LineEnd}
use Rattle.cwr_lines.specs.Steps.Held.{HeldLine}
use Rattle.cwr_renumber.specs.Steps.Renumbered.{line_by, numbering_after}
use Rattle.cwr_renumber.specs.Steps.Sources.{left_of}
use Rattle.cwr_renumber.specs.Steps.Takings.{EndsAs}
use Rattle.cwr_renumber.proofs.lemmas.LinesLoaded.{end_left, left_by, line_left, some_line}
use Rattle.cwr_renumber.proofs.sources.Renumbered.load_line.Goals as goal

pub returns-in-Open-clause-end : goal.returns-in-Open-clause-end
returns-in-Open-clause-end g c = λ e.
    let s = c.args.self.now in
    end_left _ _ s.line.bytes c.take_line.new.line.bytes s.out s.at s.end s.is_over s.numbering e s.long c.requires.more
    (subst (λ (x : LineEnd). IfSome (g.R.Source.remaining s.inner) (λ left. IsSomeAnd
    (g.R.Source.remaining c.take_line.new.inner)
    (λ rest. EndsAs x c.take_line.new.line.bytes (s.line.bytes ++ left) rest))) c.in-Open.is
    c.in_ok-ended.ensures.takes.known)

pub returns : goal.returns
returns g c = record {
  bytes = subst (λ (h : HeldLine). Keeps (left_of c.args.self.now (g.R.Source.remaining c.args.self.now.inner))
      (left_by 0 c.put_line.new.out c.is_too_long-self.result c.put_line.new.numbering h.bytes
      (g.R.Source.remaining c.take_line.new.inner))) (sym c.clear.ensures)
      (line_left _ _ c.args.self.now.line.bytes c.args.self.now.out c.put_line.new.out c.args.self.now.at c.args.self.now.end
      c.args.self.now.is_over c.is_too_long-self.result
      c.args.self.now.numbering c.put_line.new.numbering c.take_line.new.line c.in_ok-ended.ended c.requires.used
      c.args.self.now.long c.requires.more
      c.in_ok-ended.ensures.takes.ended (λ q. c.in_default.not-Open q) c.in_ok-ended.ensures.held
      c.in_ok-ended.ensures.takes.known
      (c.put_line.ensures.line ∙ ap (line_by c.args.self.now.numbering) c.cut.ensures)
      (c.put_line.ensures.counted ∙ ap (numbering_after c.args.self.now.numbering) c.cut.ensures) c.is_too_long-self.ensures);
  end =
      λ none. absurd (some_line c.args.self.now.numbering c.take_line.new.line c.as_slice.result.now
      (c.as_slice.ensures ∙ c.put_line.ensures.line ∙ ap (line_by c.args.self.now.numbering) c.cut.ensures) none);
  shown = refl;
  failures = c.in_ok-ended.ensures.failures;
}
