use Rattle.std.proofs.Common.{List, ℕ, sym, ap, ◌∙◌}
use Rattle.std.specs.Str.{bytes_eq}
use Rattle.cwr_lines.specs.Format.Records.{cell_named}
use Rattle.cwr_advice.specs.Format.Rules.{is_territory}
use Rattle.cwr_advice.proofs.lemmas.AdvisedFields.{and_true}
use Rattle.cwr_advice.proofs.territory_cells.is_territory_of.Goals as goal

pub returns : goal.returns
returns c =
    c.eq.ensures ∙ ap (λ (x : List ℕ). bytes_eq x c.args.code.now) c.code_of.ensures
    ∙ and_true (is_territory c.args.shown.now) (bytes_eq (cell_named "tis code" c.args.shown.now) c.args.code.now)
    (sym c.is_territory.ensures ∙ c.if-not-is_territory.false)
