use Rattle.std.proofs.Common.{ℕ, ap, sym, ◌∙◌, option_map}
use Rattle.cwr_lines.specs.Steps.Held.{HeldLine, held_cell}
use Rattle.cwr_causes.specs.Steps.Refused.{HasCell, refused_line}
use Rattle.cwr_causes.proofs.lemmas.SaidInParts.{on_ok, refusal_said, said_else, said_if}
use Rattle.cwr_causes.proofs.causes.Refused.add.Goals as goal

pub returns-then-repeats : goal.returns-then-repeats
returns-then-repeats c =
    let field : ℕ = c.args.self.now.refusal.now.field in
    let has : HasCell (refused_line c.args.self.now) (option_map (λ x. x.now) c.cell-cell.result) =
    λ short no_lf. c.cell-cell.ensures
    ∙ ap (λ (line : HeldLine). held_cell line field) (c.cut-cut.ensures ∙ c.line_again-again.ensures.whole short no_lf) in
    on_ok c.add_note.result
    (λ said. (_, has, said_if _ _ _ _ _ (sym c.repeats.ensures ∙ c.if-repeats.true) said))
    c.add_note.ensures

pub returns : goal.returns
returns c =
    let field : ℕ = c.args.self.now.refusal.now.field in
    let has : HasCell (refused_line c.args.self.now) (option_map (λ x. x.now) c.cell-cell.result) =
    λ short no_lf. c.cell-cell.ensures
    ∙ ap (λ (line : HeldLine). held_cell line field) (c.cut-cut.ensures ∙ c.line_again-again.ensures.whole short no_lf) in
    on_ok c.add_signs.result
    (λ signs. (
      _,
      has,
      said_else _ _ _ _ _ (sym c.repeats.ensures ∙ c.if-repeats.false)
          (refusal_said c.args.limits.now c.args.stage (refused_line c.args.self.now) _ _ _ _ _ _ _ c.in_ok-add_head.ensures
          c.in_ok-add_wanted.ensures c.in_ok-add_level.ensures c.in_ok-add_handling.ensures signs),
    ))
    c.add_signs.ensures
