use Rattle.std.proofs.Common.{sym, ap}
use Rattle.cwr_fields.specs.declared.kinds.Kind.TheVariants as kinds
use Rattle.cwr_findings.specs.Format.Findings.{is_a}
use Rattle.cwr_advice.specs.Steps.Kept.{is_among}
use Rattle.cwr_advice.proofs.kept.AdviceSums.new.Goals as goal

pub returns-clause-none : goal.returns-clause-none
returns-clause-none c = record {
  facts = c.none.ensures;
  headers = c.none-2.ensures;
  collected = c.nothing.ensures;
  chain = λ sequence e. absurd (cc e);
  writer = λ number e. absurd (cc e);
  territories = λ number. sym (ap (is_among number) c.new.ensures);
  publishers = c.nobody.ensures (is_a kinds.Swr) (is_a kinds.Pwr);
  collections = c.nobody-2.ensures (is_a kinds.Swr) (is_a kinds.Swt);
  calm = λ k r e. absurd (cc e);
}
