use Rattle.std.proofs.Common.{◌≡◌, ◌++◌, ◌∷◌, [], length, ap, sym, subst}
use Rattle.cwr_values.specs.declared.items.Item.TheVariants.{Transaction}
use Rattle.cwr_tools.specs.Format.Reports.{ItemLines}
use Rattle.cwr_tools.proofs.lemmas.FindingsWatched.{findings_none_more, worst_passed}
use Rattle.cwr_tools.proofs.lemmas.LinesOfItems.{told_passed}
use Rattle.cwr_tools.proofs.finding_lines.FindingLinesReport.passes.Goals as goal

pub returns : goal.returns
returns c = λ told of given t clean here. (
  subst (λ (lines : ItemLines). lines.lines (given ++ Transaction t ∷ []) ≡ lines.lines given) (sym here.0)
      (told_passed c.args.self.now.explained c.args.self.now.up_to_fault given t clean),
  (
    here.0,
    worst_passed c.args.self.now.told.worst given t clean here.1,
    findings_none_more c.args.self.now.told.findings given (Transaction t) (ap length clean) here.2,
  ),
)
