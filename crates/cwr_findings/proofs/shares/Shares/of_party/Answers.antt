use Rattle.std.proofs.Common.{sym, subst}
use Rattle.cwr_fields.specs.declared.kinds.Kind.{Kind}
use Rattle.cwr_fields.specs.declared.kinds.Kind.TheVariants as kinds
use Rattle.cwr_findings.specs.Format.Fields.{HasSharesFrom}
use Rattle.cwr_findings.proofs.lemmas.KindTests.{kind_of}
use Rattle.cwr_findings.proofs.lemmas.RuleFields.{shares_of_ipa}
use Rattle.cwr_findings.proofs.shares.Shares.of_party.Goals as goal

pub from_field-requires-clause-there : goal.from_field-requires-clause-there
from_field-requires-clause-there c =
    subst (λ (k : Kind). HasSharesFrom k 11) (sym (kind_of kinds.Ipa c.args.shown.now c.requires)) shares_of_ipa
