use Rattle.std.proofs.Common.{sym, ap, ◌∙◌}
use Rattle.std.specs.Prelude.{not}
use Rattle.std.proofs.lemmas.Bool.{and_left}
use Rattle.cwr_findings.specs.Format.Findings.{is_blank, is_owner}
use Rattle.cwr_advice.specs.declared.stated.Stated.{Stated}
use Rattle.cwr_advice.proofs.lemmas.AdvisedFields.{and_true}
use Rattle.cwr_advice.proofs.stated.stated_by.Goals as goal

pub returns-then-not-is_owner : goal.returns-then-not-is_owner
returns-then-not-is_owner c =
    let r = c.args.shown.now in
    let other = sym c.is_owner.ensures ∙ c.if-not-is_owner.true in
    record {
      performing =
          ap (λ (s : Stated). s.performing) c.nowhere.ensures.fields
          ∙ sym (and_left (is_owner r) (not (is_blank "pr share" r)) other);
      mechanical =
          ap (λ (s : Stated). s.mechanical) c.nowhere.ensures.fields
          ∙ sym (and_left (is_owner r) (not (is_blank "mr share" r)) other);
      synchronization =
          ap (λ (s : Stated). s.synchronization) c.nowhere.ensures.fields
          ∙ sym (and_left (is_owner r) (not (is_blank "sr share" r)) other);
    }

pub returns : goal.returns
returns c =
    let r = c.args.shown.now in
    let owner = sym c.is_owner.ensures ∙ c.if-not-is_owner.false in
    record {
      performing = c.stated_of.ensures.performing ∙ and_true (is_owner r) (not (is_blank "pr share" r)) owner;
      mechanical = c.stated_of.ensures.mechanical ∙ and_true (is_owner r) (not (is_blank "mr share" r)) owner;
      synchronization = c.stated_of.ensures.synchronization ∙ and_true (is_owner r) (not (is_blank "sr share" r)) owner;
    }
