use Rattle.std.proofs.Common.{sym, subst, ◌∙◌, inl, inr}
use Rattle.cwr_fields.specs.declared.kinds.Kind.{Kind}
use Rattle.cwr_findings.specs.Format.Fields.{HasSharesFrom}
use Rattle.cwr_findings.proofs.lemmas.AddedShares.{only_writer}
use Rattle.cwr_findings.proofs.lemmas.RuleFields.{shares_of_opu, shares_of_owr, shares_of_spu, shares_of_swr}
use Rattle.cwr_summary.proofs.shares.share_in.Goals as goal

pub share_from-requires-clause-there : goal.share_from-requires-clause-there
share_from-requires-clause-there c = elim c.in-Spu.is [
  | inl e ↦ subst (λ (k : Kind). HasSharesFrom k 13) (sym (sym c.kind.ensures.value ∙ e)) shares_of_spu
  | inr e ↦ subst (λ (k : Kind). HasSharesFrom k 13) (sym (sym c.kind.ensures.value ∙ e)) shares_of_opu
]

pub share_from-requires-in_default-clause-there : goal.share_from-requires-in_default-clause-there
share_from-requires-in_default-clause-there c =
    elim (only_writer c.args.shown.now.kind c.requires (λ e. c.in_default.not-Spu (c.kind.ensures.value ∙ e))
    (λ e. c.in_default.not-Opu (c.kind.ensures.value ∙ e))) [
      | inl e ↦ subst (λ (k : Kind). HasSharesFrom k 12) (sym e) shares_of_swr
      | inr e ↦ subst (λ (k : Kind). HasSharesFrom k 12) (sym e) shares_of_owr
    ]
