use Rattle.std.proofs.Common.{List, ◌++◌, ℕ, ap₂, sym, ◌∙◌}
use Rattle.cwr_terminal.specs.Format.Shown.{shown_line}
use Rattle.cwr_terminal.proofs.lemmas.Taken.{end_is_line, end_is_nothing}
use Rattle.cwr_terminal.proofs.styled.Styled.push_end.Goals as goal

pub returns-then-not-self : goal.returns-then-not-self
returns-then-not-self g c =
    c.push_line.ensures
    ∙ ap₂ (λ (l m : List ℕ). l ++ shown_line c.args.style.now m) c.requires.room c.as_slice.ensures.value
    ∙ sym (end_is_line c.args.self.now.style c.args.self.now.passes c.args.self.now.line.items c.args.style.now c.requires.style
    c.if-not-self.true)

pub returns-else-not-self : goal.returns-else-not-self
returns-else-not-self g c =
    c.requires.room
    ∙ sym (end_is_nothing c.args.self.now.style c.args.self.now.passes c.args.self.now.line.items c.args.style.now c.requires.style
    c.if-not-self.false)
