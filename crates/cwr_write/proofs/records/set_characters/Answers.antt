use Rattle.std.proofs.Common.{arith}
use Rattle.std.proofs.lemmas.Result.{IfErr-weaker}
use Rattle.cwr_json.specs.Format.Encodings.{StandFor}
use Rattle.cwr_write.proofs.lemmas.CharactersRead.{slice_bytes}
use Rattle.cwr_write.proofs.lemmas.RecordReasons.{bytes_reason, set_ok, unset_err}
use Rattle.cwr_write.proofs.records.set_characters.Goals as goal

pub returns-then-are_own_bytes-clause-ok : goal.returns-then-are_own_bytes-clause-ok
returns-then-are_own_bytes-clause-ok c =
    set_ok c.args.encoding c.args.text.now c.args.text.now c.args.j c.args.draft.now c.set_bytes.new.draft c.set_bytes.result
    (c.are_own_bytes.ensures.yes c.if-are_own_bytes.true) c.set_bytes.ensures.ok

pub returns-then-are_own_bytes-clause-err : goal.returns-then-are_own_bytes-clause-err
returns-then-are_own_bytes-clause-err c =
    unset_err c.args.encoding c.args.draft.now.kind c.args.j c.args.text.now c.args.text.now c.set_bytes.result
    (c.are_own_bytes.ensures.yes c.if-are_own_bytes.true) c.set_bytes.ensures.err

pub returns-then-are_own_bytes-clause-reason : goal.returns-then-are_own_bytes-clause-reason
returns-then-are_own_bytes-clause-reason c =
    let stands : StandFor c.args.encoding c.args.text.now c.args.text.now = c.are_own_bytes.ensures.yes c.if-are_own_bytes.true in
    IfErr-weaker c.set_bytes.result _ _
    (λ why h f at d. bytes_reason c.args.encoding c.args.draft.now.kind c.args.j f c.args.text.now c.args.text.now why at d stands
    (slice_bytes c.args.text.now (λ k. omega (arith, c.type_inv.text k))) h) c.set_bytes.ensures.reason
