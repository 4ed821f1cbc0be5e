use Rattle.std.proofs.Common.{ap, ◌∙◌}
use Rattle.std.specs.Str.{bytes_eq}
use Rattle.cwr_fields.specs.declared.codes.Role.TheVariants.{Assignor, Acquirer}
use Rattle.cwr_findings.specs.Format.Findings.{of_role}
use Rattle.cwr_findings.proofs.lemmas.AddedShares.{role_more}
use Rattle.cwr_findings.proofs.shares.Sides.with.Goals as goal

pub returns : goal.returns
returns c = λ rs h. record {
  assignors =
      role_more Assignor rs c.args.party.now c.plus.result c.cell-role.result.now c.eq.result c.cell-role.ensures.value c.requires
      c.cell-role.ensures.fits (c.eq.ensures ∙ ap (bytes_eq c.cell-role.result.now) c.as_slice.ensures)
      (c.plus.ensures (of_role Assignor rs) c.args.party.now h.assignors c.of_party-shares.ensures);
  acquirers =
      role_more Acquirer rs c.args.party.now c.plus-2.result c.cell-role.result.now c.eq-2.result c.cell-role.ensures.value
      c.requires c.cell-role.ensures.fits (c.eq-2.ensures ∙ ap (bytes_eq c.cell-role.result.now) c.as_slice-2.ensures)
      (c.plus-2.ensures (of_role Acquirer rs) c.args.party.now h.acquirers c.of_party-shares.ensures);
}
