use Rattle.std.proofs.Common.{sym, ◌∙◌, arith}
use Rattle.cwr_findings.specs.Format.Findings.{is_owner, share_of}
use Rattle.cwr_advice.proofs.lemmas.AdvisedFields.{all_if, none_if}
use Rattle.cwr_advice.proofs.owners.owned_by.Goals as goal

pub shares_of-requires : goal.shares_of-requires
shares_of-requires c = sym c.is_owner.ensures ∙ c.if-not-is_owner.false

pub returns-then-not-is_owner : goal.returns-then-not-is_owner
returns-then-not-is_owner c =
    let r = c.args.shown.now in
    let other = sym c.is_owner.ensures ∙ c.if-not-is_owner.true in
    record {
      performing = none_if (is_owner r) (share_of "pr share" r) other;
      mechanical = none_if (is_owner r) (share_of "mr share" r) other;
      synchronization = none_if (is_owner r) (share_of "sr share" r) other;
      small = record { performing = omega arith; mechanical = omega arith; synchronization = omega arith };
    }

pub returns : goal.returns
returns c =
    let r = c.args.shown.now in
    let owner = sym c.is_owner.ensures ∙ c.if-not-is_owner.false in
    let shares = c.shares_of.ensures in
    record {
      performing = all_if (is_owner r) c.shares_of.result.performing (share_of "pr share" r) owner shares.performing;
      mechanical = all_if (is_owner r) c.shares_of.result.mechanical (share_of "mr share" r) owner shares.mechanical;
      synchronization =
          all_if (is_owner r) c.shares_of.result.synchronization (share_of "sr share" r) owner shares.synchronization;
      small = shares.small;
    }
