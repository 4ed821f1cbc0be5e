use Rattle.std.proofs.Common.{◌++◌, List, ℕ, sym, ap, ◌∙◌}
use Rattle.std.specs.Prelude.{codes}
use Rattle.std.specs.List.{flat_map}
use Rattle.cwr_tables.specs.Format.Tables.{doubled}
use Rattle.cwr_tables.proofs.lemmas.CellTexts.{cell_quoted}
use Rattle.cwr_state_rows.proofs.forms.quoted_cell.Goals as goal

pub returns : goal.returns
returns c =
    c.in_ok-extend_from_slice-2.ensures.items
    ∙ ap (λ (l : List ℕ). l ++ codes "\"")
    (c.in_ok-double.ensures
    ∙ ap (λ (l : List ℕ). l ++ flat_map doubled c.args.name.now)
    (c.in_ok-extend_from_slice.ensures.items ∙ ap (λ (l : List ℕ). l ++ codes "\"") c.new-shown.ensures.items))
    ∙ sym (cell_quoted c.args.name.now c.requires)
