use Rattle.std.proofs.Common.{ℕ, List, ap, subst, ◌∙◌}
use Rattle.cwr_lines.specs.declared.record_lists.LineStart.{LineStart}
use Rattle.cwr_lines.specs.Steps.KeptLines.{AreNumbered}
use Rattle.cwr_lines.specs.Steps.NumberedTexts.{text_from}
use Rattle.cwr_lines.proofs.lemmas.NumberedKept.{text_is}
use Rattle.cwr_lines.proofs.record_lists.RecordList.numbered_text.Goals as goal

pub returns-then-are_numbered : goal.returns-then-are_numbered
returns-then-are_numbered c =
    let text = c.self.inside.text.items in
    let starts = c.self.inside.starts.items in
    let numbered : AreNumbered c.args.transaction 0 text starts =
    subst (λ (l : List LineStart). AreNumbered c.args.transaction 0 text l) c.as_slice.ensures.value
    (subst (λ (t : List ℕ). AreNumbered c.args.transaction 0 t c.as_slice.result.now) c.as_slice-text.ensures.value
    (c.are_numbered.ensures c.if-are_numbered.true)) in
    c.as_slice-text.ensures.value ∙ text_is c.args.transaction text starts c.self.invariant.0.joined numbered
    ∙ ap (text_from c.args.transaction 0) c.self.view_is
