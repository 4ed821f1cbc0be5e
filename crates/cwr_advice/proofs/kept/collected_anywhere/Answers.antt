use Rattle.std.proofs.Common.{sym, ◌∙◌}
use Rattle.cwr_findings.specs.Format.Findings.{share_of}
use Rattle.cwr_advice.specs.Format.Rules.{is_territory}
use Rattle.cwr_advice.proofs.lemmas.AdvisedFields.{all_if, none_if}
use Rattle.cwr_advice.proofs.kept.collected_anywhere.Goals as goal

pub collection_of-requires : goal.collection_of-requires
collection_of-requires c = sym c.is_territory.ensures ∙ c.if-not-is_territory.false

pub returns-then-not-is_territory : goal.returns-then-not-is_territory
returns-then-not-is_territory c =
    let r = c.args.shown.now in
    let other = sym c.is_territory.ensures ∙ c.if-not-is_territory.true in
    record {
      performing = none_if (is_territory r) (share_of "pr collection share" r) other;
      mechanical = none_if (is_territory r) (share_of "mr collection share" r) other;
      synchronization = none_if (is_territory r) (share_of "sr collection share" r) other;
    }

pub returns : goal.returns
returns c =
    let r = c.args.shown.now in
    let territory = sym c.is_territory.ensures ∙ c.if-not-is_territory.false in
    let shares = c.collection_of.ensures in
    record {
      performing =
          all_if (is_territory r) c.collection_of.result.performing (share_of "pr collection share" r) territory
          shares.performing;
      mechanical =
          all_if (is_territory r) c.collection_of.result.mechanical (share_of "mr collection share" r) territory
          shares.mechanical;
      synchronization =
          all_if (is_territory r) c.collection_of.result.synchronization (share_of "sr collection share" r) territory
          shares.synchronization;
    }
