use Rattle.std.proofs.Common.{Bool, cond, sym, subst, ◌∙◌}
use Rattle.std.proofs.lemmas.Result.{IfErr-weaker}
use Rattle.json.specs.Value.{value_view}
use Rattle.cwr_write.specs.Format.Faults.{IsMemberReason}
use Rattle.cwr_write.specs.Steps.Filling.{joined, with_last}
use Rattle.cwr_write.proofs.records.Filling.meet.Goals as goal

pub returns-then-says-clause-reason : goal.returns-then-says-clause-reason
returns-then-says-clause-reason c =
    IfErr-weaker c.take.result _ _
    (λ f h ms rest filled. subst (λ (b : Bool). IsMemberReason c.args.encoding c.args.self.now.kind
    (joined (cond b (with_last ms c.args.key.now (value_view c.args.value.now)) ms) rest) f.0 f.1) (sym
    (sym c.says.ensures ∙ c.if-says.true)) (h ms rest filled)) c.take.ensures.reason
