use Rattle.std.proofs.Common.{◌≡◌, true, sym, ap, ◌∙◌}
use Rattle.std.specs.Prelude.{nat_lt}
use Rattle.cwr_findings.specs.Format.Findings.{share_of}
use Rattle.cwr_advice.specs.Format.Rules.{is_publisher}
use Rattle.cwr_advice.proofs.lemmas.AdvisedFields.{and_true, publisher_owns}
use Rattle.cwr_advice.proofs.owners.owns_over_half.Goals as goal

pub shares_of-requires : goal.shares_of-requires
shares_of-requires c = publisher_owns c.args.shown.now (sym c.is_publisher.ensures ∙ c.if-not-is_publisher.false)

pub returns : goal.returns
returns c =
    let publisher : is_publisher c.args.shown.now ≡ true = sym c.is_publisher.ensures ∙ c.if-not-is_publisher.false in
    ap (nat_lt 5006) c.shares_of.ensures.performing
    ∙ and_true (is_publisher c.args.shown.now) (nat_lt 5006 (share_of "pr share" c.args.shown.now)) publisher
