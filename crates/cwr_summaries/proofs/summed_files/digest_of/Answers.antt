use Rattle.std.proofs.Common.{ℕ, subst}
use Rattle.std.specs.Prelude.{Result}
use Rattle.cwr_encode.specs.declared.encoders.EncodeFault.{EncodeFault}
use Rattle.cwr_encode.specs.Steps.Finishing.{FinishesWriting}
use Rattle.cwr_summaries.specs.Steps.Digesting.{digested}
use Rattle.cwr_summaries.proofs.lemmas.Digesting.{digested_whole}
use Rattle.cwr_summaries.proofs.summed_files.digest_of.Goals as goal

pub returns-in_default-Ok : goal.returns-in_default-Ok
returns-in_default-Ok c = λ given h.
    digested_whole (λ it. 0) given c.args.encoder c.finish.result.0 c.in_default-Ok.field-0-1 c.digest.result
    (subst (λ (r : Result ℕ EncodeFault). FinishesWriting digested (λ it. 0) c.args.encoder c.finish.result.0 r) c.in_default-Ok.is-1
    (c.finish.ensures.finishes h.1)) h c.digest.ensures
