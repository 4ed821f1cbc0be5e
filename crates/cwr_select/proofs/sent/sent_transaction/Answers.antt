use Rattle.std.proofs.Common.{◌≡◌, Option, Some, inl, inr, sym, ap, ◌∙◌, true}
use Rattle.std.specs.Prelude.{slice_get}
use Rattle.cwr_fields.specs.declared.kinds.Kind.{Kind}
use Rattle.cwr_findings.specs.Format.Findings.{is_a}
use Rattle.cwr_findings.proofs.lemmas.KindTests as tests
use Rattle.cwr_select.specs.declared.changes.WorkKind.{WorkKind}
use Rattle.cwr_select.specs.Format.Sent.{kind_of}
use Rattle.cwr_select.specs.Steps.Sent.{sent_transaction}
use Rattle.cwr_select.proofs.lemmas.SentWorks.{same_sent}
use Rattle.cwr_select.proofs.sent.sent_transaction.Goals.{then-not-is_work-via-then-not-is_work, then-not-is_work-via-else-not-is_work+then-is_of}
use Rattle.cwr_select.proofs.sent.sent_transaction.Goals as goal

pub returns-then-not-is_work-clause-ok : goal.returns-then-not-is_work-clause-ok
returns-then-not-is_work-clause-ok c =
    let first : slice_get c.args.transaction.now 0 ≡ Some c.in-Some-record.head =
    sym c.record.ensures.value ∙ c.in-Some-record.is in
    let works : sent_transaction c.args.works c.args.transaction.now
    ≡ sent_transaction (Some c.in-Some.works) c.args.transaction.now =
    ap (λ (o : Option WorkKind). sent_transaction o c.args.transaction.now) c.in-Some.is in
    elim c.then-not-is_work.branch [
      | then-not-is_work-via-then-not-is_work w ↦ sym (works ∙ same_sent c.in-Some.works c.args.transaction.now c.in-Some-record.head
          first (inl (sym c.is_work.ensures ∙ w.if-not-is_work.true)))
      | then-not-is_work-via-else-not-is_work+then-is_of w ↦
          let of : is_a (kind_of c.in-Some.works) c.in-Some-record.head ≡ true =
          ap (λ (k : Kind). is_a k c.in-Some-record.head) (sym w.kind_of.ensures) ∙ sym w.is_of.ensures ∙ w.if-is_of.true in
          sym (works ∙ same_sent c.in-Some.works c.args.transaction.now c.in-Some-record.head first
          (inr (tests.kind_of (kind_of c.in-Some.works) c.in-Some-record.head of)))
    ]
