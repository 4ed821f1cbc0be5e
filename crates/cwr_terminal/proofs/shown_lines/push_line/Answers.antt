use Rattle.std.proofs.Common.{ℕ, List, ◌++◌, drop, take, ap, ap₂, sym, ◌∙◌}
use Rattle.cwr_terminal.specs.Format.Shown.{shown_behind_name}
use Rattle.cwr_terminal.proofs.lemmas.Parts.{short}
use Rattle.cwr_terminal.proofs.shown_lines.push_line.Goals as goal

pub returns : goal.returns
returns c =
    let line = c.args.line.now in
    c.push_behind_name.ensures
    ∙ ap (λ (l : List ℕ). c.args.made.now.items ++ l)
    (ap₂ (shown_behind_name c.args.style.now)
    (c.split_at.ensures.front ∙ ap (λ (n : ℕ). take n line) c.own_from.ensures.value)
    (c.split_at.ensures.back ∙ ap (λ (n : ℕ). drop n line) c.own_from.ensures.value)
    ∙ sym (short c.args.style.now line c.requires.most))
