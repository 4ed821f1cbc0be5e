use Rattle.std.proofs.Common.{sym, ◌∙◌}
use Rattle.cwr_judge.proofs.lemmas.OneEnd.{refused_once, refused_or_truncated}
use Rattle.cwr_decode.proofs.laws.one_end_at_most.Goals as goal

pub returns : goal.returns
returns c = record {
  accepted_or_refused = λ limits text v n refusal h k. k.unaccepted v n h;
  accepted_or_truncated = λ limits text v n records h k. k.unaccepted v n h;
  refused_or_truncated = refused_or_truncated;
  refused_once = refused_once;
  truncated_once = λ limits text records others h k. h.count ∙ sym k.count;
}
