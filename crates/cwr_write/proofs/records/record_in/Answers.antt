use Rattle.cwr_json.specs.Format.Forms.{told}
use Rattle.json.specs.Value.{members_view}
use Rattle.cwr_write.proofs.lemmas.FilledDrafts.{data_done, data_undone, kind_named}
use Rattle.cwr_lines.specs.Format.Records.{RecordValue}
use Rattle.cwr_json.specs.Format.Forms.{IsDataOf}
use Rattle.cwr_write.proofs.lemmas.FaultsPassed.{passed_on}
use Rattle.cwr_write.proofs.lemmas.RecordReasons.{draft_reason}
use Rattle.cwr_write.proofs.records.record_in.Goals as goal

pub returns-clause-ok : goal.returns-clause-ok
returns-clause-ok c =
    let draft = c.in_ok-draft.ensures.ok in
    data_done c.args.encoding c.args.kind (told (members_view c.args.members.now.items)) c.in_ok-draft.draft draft.0 c.done.result
    c.requires draft.1 c.done.ensures.ok

pub returns-clause-err : goal.returns-clause-err
returns-clause-err c =
    let draft = c.in_ok-draft.ensures.ok in
    data_undone c.args.encoding c.args.kind (told (members_view c.args.members.now.items)) c.in_ok-draft.draft draft.0
    c.done.result c.requires draft.1 c.done.ensures.err

pub returns-clause-reason : goal.returns-clause-reason
returns-clause-reason c =
    let draft = c.in_ok-draft.ensures.ok in
    draft_reason c.args.encoding c.args.kind (told (members_view c.args.members.now.items)) c.in_ok-draft.draft draft.0
    c.done.result draft.1 c.done.ensures.reason

pub returns-in_err-draft-clause-err : goal.returns-in_err-draft-clause-err
returns-in_err-draft-clause-err c =
    passed_on c.from_residual.result c.in_err-draft.field-0.0
    (λ _. (r : RecordValue) → ¬ IsDataOf c.args.encoding (told (members_view c.args.members.now.items)) r)
    c.from_residual.ensures.1
    (kind_named c.args.encoding (told (members_view c.args.members.now.items)) c.args.kind c.requires c.in_err-draft.ensures.err)
