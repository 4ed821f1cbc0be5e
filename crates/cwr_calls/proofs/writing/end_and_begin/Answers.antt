use Rattle.std.proofs.Common.{◌≡◌, [], ◌∷◌, subst}
use Rattle.std.specs.Prelude.{IfOk}
use Rattle.cwr_lines.specs.Format.Records.{RecordValue}
use Rattle.cwr_calls.proofs.lemmas.WrittenRecords.{begins_after}
use Rattle.cwr_calls.proofs.writing.end_and_begin.Goals as goal

pub returns : goal.returns
returns g c =
    begins_after g.W.Target.contents (c.args.value.now ∷ []) c.args.held.now c.args.encoder.now c.put_whole.new.encoder
    c.begin.result c.in_ok-put_whole.ensures
    (subst (λ (r : RecordValue). IfOk c.begin.result (λ left. left ≡ r ∷ [])) c.view.ensures.value c.begin.ensures)
