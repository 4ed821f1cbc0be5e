use Rattle.std.proofs.Common.{Bool, cond, ℕ, sym, ap, ◌∙◌}
use Rattle.std.specs.Prelude.{filter}
use Rattle.cwr_findings.specs.Format.Findings.{is_owner}
use Rattle.cwr_findings.proofs.lemmas.AddedShares.{owners_more}
use Rattle.cwr_findings.proofs.lemmas.CountedRecords.{author_more, byte_is, components_more, publishers_same, publishers_more}
use Rattle.cwr_findings.proofs.totals.TransactionTotals.with_counted.Goals as goal

abbrev one_if : Bool → ℕ
one_if b = cond b 1 0

pub returns-then-not-is_of : goal.returns-then-not-is_of
returns-then-not-is_of g c = λ rs many h. record {
  ownership =
      owners_more rs c.args.shown.now c.with.result c.is_owner.result c.is_owner.ensures
      (c.with.ensures (filter is_owner rs) h.ownership);
  author = author_more rs c.args.shown.now c.args.self.has_author c.is_author-author.result h.author c.is_author-author.ensures;
  components =
      components_more rs c.args.shown.now c.args.self.components c.from.result c.saturating_add.result h.components
      (c.from.ensures ∙ byte_is c.is_of-component.result ∙ ap one_if c.is_of-component.ensures) c.saturating_add.ensures;
  publishers =
      publishers_same rs c.args.shown.now c.args.self.publishers_end h.publishers (sym c.is_of.ensures ∙ c.if-not-is_of.true);
}

pub returns : goal.returns
returns g c = λ rs many h. record {
  ownership =
      owners_more rs c.args.shown.now c.with.result c.is_owner.result c.is_owner.ensures
      (c.with.ensures (filter is_owner rs) h.ownership);
  author = author_more rs c.args.shown.now c.args.self.has_author c.is_author-author.result h.author c.is_author-author.ensures;
  components =
      components_more rs c.args.shown.now c.args.self.components c.from.result c.saturating_add.result h.components
      (c.from.ensures ∙ byte_is c.is_of-component.result ∙ ap one_if c.is_of-component.ensures) c.saturating_add.ensures;
  publishers = publishers_more rs c.args.shown.now c.args.sequence many;
}
