use Rattle.cwr_lint.proofs.lemmas.RawLines.{full_length, raw_held}
use Rattle.std.proofs.Common.{List, ℕ, length, ap, sym, subst, ◌∙◌}
use Rattle.std.specs.Prelude.{IsFalse}
use Rattle.std.specs.List.{list_any}
use Rattle.cwr_lines.specs.Format.Lines.{is_lf}
use Rattle.cwr_lines.specs.Steps.Held.{HeldLine}
use Rattle.cwr_lint.proofs.raw_lines.RawLine.cut_into.Goals as goal

pub take_whole-requires-clause-no_lf : goal.take_whole-requires-clause-no_lf
take_whole-requires-clause-no_lf c =
    subst (λ (l : List ℕ). IsFalse (list_any is_lf l)) (sym c.as_slice.ensures.value)
    (raw_held c.requires.line c.args.self.now c.requires.holds).no_lf

pub take_one_more-requires-clause-full : goal.take_one_more-requires-clause-full
take_one_more-requires-clause-full c =
    ap (λ (h : HeldLine). length h.bytes) c.take_whole.ensures ∙ ap length c.as_slice.ensures.value
    ∙ full_length c.requires.line c.args.self.now c.requires.holds c.if-self.true
