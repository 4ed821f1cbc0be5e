use Rattle.std.proofs.Common.{sym, subst, ◌∙◌, inl, inr}
use Rattle.cwr_fields.specs.declared.kinds.Kind.{Kind}
use Rattle.cwr_findings.specs.Format.Fields.{HasSharesFrom}
use Rattle.cwr_findings.proofs.lemmas.RuleFields.{shares_of_spu, shares_of_opu, shares_of_swr, shares_of_owr}
use Rattle.cwr_notes.proofs.other_records.owned_share.Goals as goal

pub share_from-requires-clause-there : goal.share_from-requires-clause-there
share_from-requires-clause-there c = elim c.in-Spu.is [
  | inl e ↦ subst (λ (k : Kind). HasSharesFrom k 13) (sym (sym c.kind.ensures.value ∙ e)) shares_of_spu
  | inr e ↦ subst (λ (k : Kind). HasSharesFrom k 13) (sym (sym c.kind.ensures.value ∙ e)) shares_of_opu
]

pub share_from-requires-in-Swr-clause-there : goal.share_from-requires-in-Swr-clause-there
share_from-requires-in-Swr-clause-there c = elim c.in-Swr.is [
  | inl e ↦ subst (λ (k : Kind). HasSharesFrom k 12) (sym (sym c.kind.ensures.value ∙ e)) shares_of_swr
  | inr e ↦ subst (λ (k : Kind). HasSharesFrom k 12) (sym (sym c.kind.ensures.value ∙ e)) shares_of_owr
]
